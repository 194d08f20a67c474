-- The root covers the empty prefix of every schedule.
use Rattle.std.proofs.Common.{◌≡◌, ℕ, ◌<◌, replicate, refl, arith}
use Rattle.std.proofs.lemmas.Bool.{le-leb, le-ltb, false≢true}
use Rattle.std.proofs.lemmas.List.{get_or-replicate}
use Rattle.std.specs.Prelude.{nat_le, nat_lt, slice_index}
use Rattle.run_cover.specs.Laws.{RootCovers}
use Rattle.run_cover.proofs.CoreCounts.{cores_where-all, cores_where-none}

pub root_covers : RootCovers
root_covers table m scenario schedule legal = record {
  set = λ j. refl;
  certain = λ x h. omega (arith, h, cores_where-all m (λ core. nat_le 0 (slice_index (replicate m 0) x)) (λ core. le-leb 0 (slice_index (replicate m 0) x) (omega arith)));
  possible = λ x h.
      let zero_at : slice_index (replicate m 0) x ≡ 0 = get_or-replicate m x 0 0 h in
      omega (arith, cores_where-none m (λ core. nat_lt 0 (slice_index (replicate m 0) x)) (λ core. le-ltb 0 (slice_index (replicate m 0) x) (omega (arith, zero_at))));
  tracked = λ k d h. absurd (nothing_below k h);
  last = λ i there. absurd (false≢true there);
}
  where
    nothing_below : (k : ℕ) → k < 0 → ⊥
    nothing_below k h = omega (arith, h)
