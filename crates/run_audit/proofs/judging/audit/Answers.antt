use Rattle.std.proofs.Common.{◌∙◌, arith}
use Rattle.run_audit.proofs.AuditLemmas.{audits_if, few_entries}
use Rattle.run_audit.proofs.judging.audit.Goals as goal

pub by_start-requires : goal.by_start-requires
by_start-requires c =
    omega (arith, c.entries.ensures.table.few_jobs, few_entries c.args.table.now c.args.scenario.now c.args.schedule.now c.deref.result.now (c.deref.ensures.value ∙ c.in_ok-entries.ensures.entries))

pub first_break-requires-clause-few : goal.first_break-requires-clause-few
first_break-requires-clause-few c =
    omega (arith, c.entries.ensures.table.few_jobs, few_entries c.args.table.now c.args.scenario.now c.args.schedule.now c.deref-2.result.now (c.deref-2.ensures.value ∙ c.in_ok-entries.ensures.entries))

pub returns : goal.returns
returns c =
    audits_if c.args.table.now c.args.cores c.args.scenario.now c.args.schedule.now c.entries.ensures.table c.requires.places c.ranks_order_jobs.ensures
    c.deref-2.result.now (c.deref-2.ensures.value ∙ c.in_ok-entries.ensures.entries) c.first_break.result c.first_break.ensures
