use Rattle.std.proofs.Common.{◌≡◌, ◌∙◌, ap, sym, true, arith}
use Rattle.std.specs.Prelude.{nat_eq, nat_le}
use Rattle.std.specs.List.{list_all}
use Rattle.std.specs.Map.{keys_of}
use Rattle.std.specs.Cmp.Lexicographic.{pointwise, as_long, bytes_decides}
use Rattle.std.proofs.lemmas.Bool.{false≢true}
use Rattle.job_sets.specs.Subset.{is_rising, is_within}
use Rattle.sag_step.specs.State.{HeldState, tracked_jobs}
use Rattle.sag_step.proofs.CutEnds.{listed-below}
use Rattle.sag_step.proofs.state.State.is_state.Goals as goal

pub lists_all-requires : goal.lists_all-requires
lists_all-requires c =
    let s = c.self.inside in
    let tracked : keys_of s.ends.items ≡ tracked_jobs c.args.table.now s.set.members =
    (bytes_decides (keys_of s.ends.items) (tracked_jobs c.args.table.now s.set.members)).0 (sym c.tracks.ensures.tracked ∙ c.if-tracks.true) in
    rw c.self.invariant (listed-below c.args.table.now s.set s.ends.items c.tracks.ensures.set tracked)

pub returns-then-tracks : goal.returns-then-tracks
returns-then-tracks c =
    let s = c.args.self.now.state in
    let cores = c.has_cores.ensures.cores.0 c.if-not-has_cores.false in
    let in_order : pointwise nat_le s.low s.high ≡ true =
    (λ k. pointwise nat_le (sym c.self.view_is k).state.low (sym c.self.view_is k).state.high) ∙ sym c.below.ensures.below ∙ c.if-not-below.false in
    let tracked : pointwise nat_eq (keys_of s.ends) (tracked_jobs c.args.table.now s.set.members) ≡ true =
    (λ k. pointwise nat_eq (keys_of (sym c.self.view_is k).state.ends) (tracked_jobs c.args.table.now (sym c.self.view_is k).state.set.members)) ∙ sym c.tracks.ensures.tracked ∙ c.if-tracks.true in
    let answer : c.lists_all.result ≡ is_within s.last.members (keys_of s.ends) =
    c.lists_all.ensures.within ∙ ap (λ (h : HeldState). is_within h.state.last.members (keys_of h.state.ends)) c.self.view_is in (
      λ yes. record {
        some_core = omega (arith, cores.0);
        of_table = c.requires;
        set = rw (ap (λ (h : HeldState). h.state.set) (sym c.self.view_is)) c.tracks.ensures.set;
        last_size = ap (λ (h : HeldState). h.state.last.size) (sym c.self.view_is) ∙ c.self.invariant ∙ ap (λ (h : HeldState). h.state.set.size) c.self.view_is;
        shape = record {
          low_count = cores.1;
          in_order = in_order;
          low_sorted = c.has_cores.ensures.low;
          high_sorted = c.has_cores.ensures.high;
          tracked = (bytes_decides (keys_of s.ends) (tracked_jobs c.args.table.now s.set.members)).0 tracked;
          spans = ap (λ (h : HeldState). list_all (λ e. nat_le e.1.lo e.1.hi) h.state.ends) (sym c.self.view_is) ∙ c.tracks.ensures.ends.spans;
          last_rises = ap (λ (h : HeldState). is_rising h.state.last.members) (sym c.self.view_is) ∙ c.lists_all.ensures.set.rising;
          last_tracked = sym answer ∙ yes;
        };
      },
      λ is. answer ∙ is.shape.last_tracked,
    )

pub returns-else-tracks : goal.returns-else-tracks
returns-else-tracks c =
    let s = c.args.self.now.state in
    let answer : c.tracks.result ≡ pointwise nat_eq (keys_of s.ends) (tracked_jobs c.args.table.now s.set.members) =
    c.tracks.ensures.tracked ∙ (λ k. pointwise nat_eq (keys_of (c.self.view_is k).state.ends) (tracked_jobs c.args.table.now (c.self.view_is k).state.set.members)) in
    (λ yes. absurd (false≢true (sym c.if-tracks.false ∙ yes)), λ is. answer ∙ (bytes_decides (keys_of s.ends) (tracked_jobs c.args.table.now s.set.members)).1 is.shape.tracked)

pub returns-then-not-below : goal.returns-then-not-below
returns-then-not-below c =
    let answer = c.below.ensures.below ∙ (λ k. pointwise nat_le (c.self.view_is k).state.low (c.self.view_is k).state.high) in
    (λ yes. absurd (false≢true yes), λ is. sym c.if-not-below.true ∙ answer ∙ is.shape.in_order)

pub returns-then-not-has_cores : goal.returns-then-not-has_cores
returns-then-not-has_cores c = (
  λ yes. absurd (false≢true yes),
  λ is.
      let high = sym (as_long nat_le c.args.self.now.state.low c.args.self.now.state.high is.shape.in_order) ∙ is.shape.low_count in
      sym c.if-not-has_cores.true ∙ c.has_cores.ensures.cores.1 (omega (arith, is.some_core), is.shape.low_count, high),
)
