use Rattle.std.proofs.Common.{◌∙◌, ap, rules}
use Rattle.std.specs.Prelude.{unwrap_or}
use Rattle.response_report.specs.ReportRows.{task_rows}
use Rattle.response_report.proofs.TaskLemmas.{task_rows-more}
use Rattle.response_report.proofs.task_report.wcrt_by_task.Goals as goal

pub loop-row-init : goal.loop-row-init
unfolding task_rows
loop-row-init c = c.new-tasks.ensures.empty

pub loop-row-preserved : goal.loop-row-preserved
loop-row-preserved c =
    c.in_ok-insert.ensures.entries
    ∙ task_rows-more c.args.rows.now c.loop-row.row-index _ c.loop-row.tasks.entries c.unwrap_or-known.result c.max.result (search rules) c.loop-row.invariant
    (c.unwrap_or-known.ensures ∙ ap (λ o. unwrap_or o 0) (c.copied.ensures ∙ c.get.ensures.value)) c.max.ensures
