use Rattle.std.proofs.Common.{◌∙◌, ◌<◌, ℕ, All, subst, sym}
use Rattle.std.proofs.lemmas.Bool.{false≢true}
use Rattle.sag_step.proofs.CutEnds.{listed-below}
use Rattle.run_cover.proofs.CoverTest.{covers-tested, tests-from_covers}
use Rattle.run_cover.proofs.NextJob.{IsRun}
use Rattle.run_cover.proofs.first_jobs.replayed.Goals as goal

pub returns-then-not-has_first_jobs : goal.returns-then-not-has_first_jobs
returns-then-not-has_first_jobs c =
    let first = rw c.set-set.ensures at c.has_first_jobs.ensures in
    (λ no. absurd (false≢true no), λ covers. absurd (false≢true (sym c.if-not-has_first_jobs.true ∙ first.1 covers.set)))

pub returns-then-not-are_certain : goal.returns-then-not-are_certain
returns-then-not-are_certain c =
    let run : IsRun c.args.table.now c.args.cores c.args.scenario.now c.args.schedule.now = record { is_table = c.len.ensures.table; fits = c.requires.fits; legal = c.requires.legal } in
    let certain = rw (c.set-set.ensures, c.high.ensures) at c.are_certain.ensures in (
      λ no. absurd (false≢true no),
      λ covers.
          let tests = tests-from_covers run c.args.state.now.state c.requires.state.shape c.args.count c.requires.count covers in
          absurd (false≢true (sym c.if-not-are_certain.true ∙ certain.1 tests.certain)),
    )

pub returns-then-not-are_possible : goal.returns-then-not-are_possible
returns-then-not-are_possible c =
    let run : IsRun c.args.table.now c.args.cores c.args.scenario.now c.args.schedule.now = record { is_table = c.len.ensures.table; fits = c.requires.fits; legal = c.requires.legal } in
    let possible = rw (c.set-set.ensures, c.low.ensures) at c.are_possible.ensures in (
      λ no. absurd (false≢true no),
      λ covers.
          let tests = tests-from_covers run c.args.state.now.state c.requires.state.shape c.args.count c.requires.count covers in
          absurd (false≢true (sym c.if-not-are_possible.true ∙ possible.1 tests.possible)),
    )

pub finish_within-requires-clause-jobs : goal.finish_within-requires-clause-jobs
finish_within-requires-clause-jobs c =
    let s = c.args.state.now.state in
    let below = subst (λ n. All (λ (e : ℕ × _). e.0 < n) s.ends) c.requires.state.of_table (listed-below c.args.table.now s.set s.ends c.requires.state.set c.requires.state.shape.tracked) in
    rw c.ends.ensures below

pub returns : goal.returns
returns c =
    let run : IsRun c.args.table.now c.args.cores c.args.scenario.now c.args.schedule.now = record { is_table = c.len.ensures.table; fits = c.requires.fits; legal = c.requires.legal } in
    let s = c.args.state.now.state in
    let shape = c.requires.state.shape in
    let first = rw c.set-set.ensures at c.has_first_jobs.ensures in
    let certain = rw (c.set-set.ensures, c.high.ensures) at c.are_certain.ensures in
    let possible = rw (c.set-set.ensures, c.low.ensures) at c.are_possible.ensures in
    let within = rw c.ends.ensures at c.finish_within.ensures in
    let last = rw (c.set-set.ensures, c.last.ensures.last) at c.end_their_cores.ensures in (
      λ yes. covers-tested run s shape c.args.count c.requires.count (record {
        same = first.0 c.if-not-has_first_jobs.false;
        certain = certain.0 c.if-not-are_certain.false;
        possible = possible.0 c.if-not-are_possible.false;
        tracked = within.0 c.if-not-finish_within.false;
        last = last.0 yes;
      }),
      λ covers. last.1 (tests-from_covers run s shape c.args.count c.requires.count covers).last,
    )
