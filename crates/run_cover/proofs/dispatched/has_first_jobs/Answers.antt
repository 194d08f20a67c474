use Rattle.std.proofs.Common.{◌≡◌, ◌∙◌, ◌<◌, ◌≤◌, false, arith, length, ⊎_elim, refl, sym}
use Rattle.std.specs.Prelude.{nat_lt}
use Rattle.std.proofs.lemmas.Bool.{cases_lt, false_from_ne_true, ltb-true}
use Rattle.std.proofs.lemmas.List.Elements.{All-contains}
use Rattle.job_sets.specs.Subset.{is_member}
use Rattle.job_sets.proofs.Members.{Contains-from_member, list_all-member}
use Rattle.run_cover.specs.Covers.{prefix}
use Rattle.run_cover.proofs.CoverTest.{prefix-below}
use Rattle.run_cover.proofs.dispatched.has_first_jobs.Goals as goal

pub returns : goal.returns
returns c =
    let set = c.args.set.now in
    let table = c.args.table.now in
    let first = prefix table c.args.schedule.now c.args.count in (
      λ yes j. ⊎_elim
          (λ (seen : j < c.loop-no.no). c.loop-no.invariant j seen)
          (λ (past : c.loop-no.no ≤ j).
          let above : set.size ≤ j = omega (arith, past, c.loop-no-test.false, c.size-no-end.ensures.size) in
          let none : is_member j set.members ≡ false = false_from_ne_true (is_member j set.members) (λ there.
          let below : j < set.size = ltb-true j set.size (list_all-member (λ i. nat_lt i set.size) set.members j c.size-no-end.ensures.subset.in_range there) in
          omega (arith, above, below)) in
          let none_first : is_member j first ≡ false = false_from_ne_true (is_member j first) (λ there.
          let below = All-contains (λ x. x < length table.jobs) first j (prefix-below table c.args.schedule.now c.args.count) (Contains-from_member j first there) in
          omega (arith, above, below, c.requires.size)) in
          none ∙ sym none_first)
          (cases_lt j c.loop-no.no),
      λ all. refl,
    )
