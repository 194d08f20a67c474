-- The ends of tracked jobs, gone over one by one.
use Rattle.std.proofs.Common.{◌≡◌, ℕ, zero, suc, ◌+◌, ◌<◌, ◌≤◌, true, false, cond, List, [], ◌∷◌, drop, filter, Some, slice_get, refl, ap, sym, ◌∙◌, arith}
use Rattle.std.specs.Prelude.{nat_eq, ◌==◌}
use Rattle.std.specs.Map.{keys_of}
use Rattle.std.specs.Cmp.Lexicographic.{pointwise}
use Rattle.std.proofs.lemmas.Bool.{ltb-true, ltb-false, lt-ltb, le-ltb, ne_eqb, or_parts, eqb-false}
use Rattle.std.proofs.lemmas.List.{drop_all}
use Rattle.job_sets.specs.Subset.{is_member, with_number}
use Rattle.job_model.specs.Table.{Table}
use Rattle.sag_time.specs.Interval.{Interval}
use Rattle.sag_step.specs.State.{is_tracked}
use Rattle.sag_step.specs.Tracks.{PassesJob, begins_below, lists_tracked}
use Rattle.lists.proofs.Elements.{drop_next}
use Rattle.sag_step.proofs.ListsOfEnds.{match, no_match}

pub refused : (table : Table) (set : List ℕ) (es : List (ℕ × Interval)) (place j : ℕ) → is_tracked table set j ≡ true → (slice_get (keys_of es) place ≡ Some j → ⊥) → (later : List ℕ) → lists_tracked table set es place (j ∷ later) ≡ false
refused table set es place j tracked missing later =
    let rest = filter (is_tracked table set) later in
    ap (λ b. pointwise nat_eq (keys_of (drop place es)) (cond b (j ∷ rest) rest)) tracked ∙ no_match table set es place j rest missing

pub passed : (table : Table) (set : List ℕ) (es : List (ℕ × Interval)) (place j : ℕ) → is_tracked table set j ≡ true → slice_get (keys_of es) place ≡ Some j → PassesJob table set es place j (place + 1)
passed table set es place j tracked here =
    let next : suc place ≡ place + 1 = omega arith in
    record {
      within = omega (arith, (match table set es place j [] here).0);
      goes_on = λ later.
          let rest = filter (is_tracked table set) later in
          ap (λ b. pointwise nat_eq (keys_of (drop place es)) (cond b (j ∷ rest) rest)) tracked
          ∙ (match table set es place j rest here).1 ∙ ap (λ k. pointwise nat_eq (keys_of (drop k es)) rest) next;
    }

-- ---- the job at its place among the ends

pub with_number-behind : (j k : ℕ) (ks : List ℕ) → k < j → with_number j (k ∷ ks) ≡ k ∷ with_number j ks
with_number-behind j k ks less =
    ap (λ b. cond b (j ∷ k ∷ ks) (cond (j == k) (k ∷ ks) (k ∷ with_number j ks))) (le-ltb j k (omega (arith, less)))
    ∙ ap (λ b. cond b (k ∷ ks) (k ∷ with_number j ks)) (ne_eqb j k (λ e. omega (arith, e, less)))

pub below_next : (j : ℕ) (es : List (ℕ × Interval)) (at : ℕ) (e : ℕ × Interval) → slice_get es at ≡ Some e → begins_below j (drop at es) ≡ true → with_number j (keys_of (drop at es)) ≡ e.0 ∷ with_number j (keys_of (drop (at + 1) es))
below_next j es at e here below =
    let next : drop at es ≡ e ∷ drop (at + 1) es = drop_next es at e here in
    let less : e.0 < j = ltb-true e.0 j (sym (ap (begins_below j) next) ∙ below) in
    ap (λ q. with_number j (keys_of q)) next ∙ with_number-behind j e.0 (keys_of (drop (at + 1) es)) less

-- where nothing below the job is left, the job comes first
pub comes_first : (j : ℕ) (es : List (ℕ × Interval)) → begins_below j es ≡ false → is_member j (keys_of es) ≡ false → with_number j (keys_of es) ≡ j ∷ keys_of es
comes_first j [] none new = refl
comes_first j (e ∷ es) none new =
    let parts = or_parts (e.0 == j) (is_member j (keys_of es)) new in
    let least : j ≤ e.0 = ltb-false e.0 j none in
    let other : e.0 ≡ j → ⊥ = eqb-false e.0 j parts.0 in
    let less : j < e.0 = above least other in
    ap (λ b. cond b (j ∷ e.0 ∷ keys_of es) (cond (j == e.0) (e.0 ∷ keys_of es) (e.0 ∷ with_number j (keys_of es)))) (lt-ltb j e.0 less)
  where
    above : {a b : ℕ} → a ≤ b → (b ≡ a → ⊥) → a < b
    above le ne = omega (arith, le, ne)

pub new-later : (j : ℕ) (es : List (ℕ × Interval)) (at : ℕ) → is_member j (keys_of es) ≡ false → is_member j (keys_of (drop at es)) ≡ false
new-later j [] at new = ap (λ (q : List (ℕ × Interval)). is_member j (keys_of q)) (drop_all at [] (omega arith))
new-later j (e ∷ es) zero new = new
new-later j (e ∷ es) (suc at) new = new-later j es at (or_parts (e.0 == j) (is_member j (keys_of es)) new).1
