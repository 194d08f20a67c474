use Rattle.std.proofs.Common.{◌<◌, arith, refl}
use Rattle.std.specs.Prelude.{nat_lt}
use Rattle.std.proofs.lemmas.Bool.{ltb-true}
use Rattle.job_sets.proofs.Members.{list_all-member}
use Rattle.run_cover.proofs.first_jobs.end_their_cores.Goals as goal

pub returns : goal.returns
returns c =
    let last = c.args.last.now in (
      λ yes i there.
          let below : i < last.size = ltb-true i last.size (list_all-member (λ j. nat_lt j last.size) last.members i c.size-no-end.ensures.subset.in_range there) in
          c.loop-no.invariant i (omega (arith, below, c.loop-no-test.false, c.size-no-end.ensures.size)) there,
      λ all. refl,
    )
