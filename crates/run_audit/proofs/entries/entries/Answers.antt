use Rattle.std.proofs.Common.{sym, zero-add}
use Rattle.std.proofs.lemmas.List.FromFn.{map-range_with_len_more}
use Rattle.run_audit.specs.Entries.{entry_of_job}
use Rattle.run_audit.proofs.entries.entries.Goals as goal

pub loop-no-preserved : goal.loop-no-preserved
loop-no-preserved c =
    rw (c.in_ok-push.ensures.items, c.loop-no.invariant, c.job_entry.ensures)
    (sym (map-range_with_len_more (entry_of_job c.args.table.now c.args.scenario.now c.args.schedule.now) 0 c.loop-no.no c.loop-no.no (zero-add c.loop-no.no)))
