use Rattle.std.proofs.Common.{rules, ◌≡◌, ◌∙◌, ◌++◌, List, ℕ, ap, sym}
use Rattle.std.proofs.lemmas.List.{append-nil}
use Rattle.response_report.specs.ReportRows.{task_rows, wcrt_in}
use Rattle.response_report.proofs.TaskLemmas.{task_rows-greatest}
use Rattle.response_report.proofs.task_report.task_rows.Goals as goal

pub returns-clause-greatest : goal.returns-clause-greatest
returns-clause-greatest c =
    let given : c.into_iter-task-iterator.result ≡ c.in_ok-wcrts.wcrts.entries = search rules in
    let all : c.loop-task.tasks.items ≡ task_rows c.args.rows.now =
    sym (append-nil c.loop-task.tasks.items) ∙ ap (λ rest. c.loop-task.tasks.items ++ rest) (sym c.in-None.ensures.steps.0) ∙ c.loop-task.invariant
    ∙ given ∙ c.in_ok-wcrts.ensures in
    λ task. ap (λ (tasks : List (ℕ × ℕ)). wcrt_in tasks task) all ∙ task_rows-greatest c.args.rows.now task
