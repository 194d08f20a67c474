use Rattle.std.proofs.Common.{◌+◌, ◌∙◌, List, ap, arith, length, subst, sym}
use Rattle.std.specs.Prelude.{slice_get}
use Rattle.std.proofs.lemmas.List.FromFn.{length-map-range_with_len}
use Rattle.job_model.specs.Scenario.{Fits, cost_of}
use Rattle.run_meaning.specs.Ready.{finish_of}
use Rattle.gap_report.specs.InnerBounds.{InnerBounds, TakesScenario, ends_after, ends_by_run}
use Rattle.gap_report.specs.declared.inner_ends.InnerEnds.{InnerEnds}
use Rattle.gap_report.proofs.gap.Gap.take.Goals as goal

pub invariant_of-self : goal.invariant_of-self
invariant_of-self c =
    let gap = c.self.inside in
    record {
      some_core = c.self.invariant.some_core;
      few_cores = c.self.invariant.few_cores;
      before = λ none. absurd (omega (arith, none));
      after = λ some. ap length c.in_ok-ends.ensures.ends
          ∙ length-map-range_with_len (λ j. ends_after gap.taken (finish_of c.args.scenario.now c.in_ok-schedule.schedule j) (slice_get c.deref.result.now j)) 0 (length gap.table.now.jobs);
    }

pub returns-clause-takes : goal.returns-clause-takes
returns-clause-takes c =
    let gap = c.self.inside in
    let table = gap.table.now in
    let scenario = c.args.scenario.now in
    let run = c.in_ok-schedule.schedule in
    let old : InnerBounds = record { table = table; cores = gap.cores; taken = gap.taken; ends = gap.ends.items } in
    let new : List InnerEnds → InnerBounds = λ ends. record { table = table; cores = gap.cores; taken = gap.taken + 1; ends = ends } in
    let fits : Fits table scenario = subst (λ (b : InnerBounds). Fits b.table scenario) (sym c.self.view_is) c.requires.fits in
    subst (λ (b : InnerBounds). TakesScenario b scenario (new c.in_ok-ends.ends.items)) c.self.view_is (record {
      schedule = run;
      legal = c.in_ok-schedule.ensures.legal;
      in_each = λ other legal j is_job. ap (λ start. start + cost_of scenario j)
          (c.starts_agree.ensures table gap.cores scenario other run c.in_ok-ends.ensures.table fits legal c.in_ok-schedule.ensures.legal j is_job);
      adds = ap new (c.in_ok-ends.ensures.ends ∙ ap (ends_by_run table gap.taken scenario run) c.deref.ensures.value);
    })
