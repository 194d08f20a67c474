use Rattle.std.proofs.Common.{◌≡◌, ℕ, ◌&&◌, Some, length, map, ap, sym, ◌∙◌, arith}
use Rattle.std.specs.Prelude.{filter}
use Rattle.std.proofs.lemmas.Bool.{and_from, and_left, and_right}
use Rattle.lists.specs.Numbers.{least, numbers_below}
use Rattle.job_model.specs.Table.{has_urgency_over}
use Rattle.start_windows.specs.Window.{is_candidate, ready_beside}
use Rattle.start_windows.proofs.Passing.{filter-both, least-taken, least-left}
use Rattle.start_windows.proofs.windows.overtaken_from.Goals as goal
use Rattle.start_windows.proofs.windows.overtaken_from.Goals.{then-candidate+then-urgent, else-candidate, else-candidate-via-then-candidate+else-urgent, else-candidate-via-else-candidate}

pub loop-no-preserved : goal.loop-no-preserved
loop-no-preserved c =
    let no = c.loop-no.no in
    let candidate = is_candidate c.args.table.now c.args.set.now.members in
    let urgent = λ (x : ℕ). has_urgency_over c.args.table.now x c.args.job in
    let test = λ (x : ℕ). candidate x && urgent x in
    let ready = ready_beside c.args.table.now c.args.ends.now.items c.args.job in
    elim c.if-candidate.branch [
      | then-candidate+then-urgent w ↦
          w.least-is ∙ ap Some w.lesser.ensures
          ∙ least-taken test no ready c.loop-no.least w.ready_beside.result
          (and_from (candidate no) (urgent no) (sym c.candidate.ensures ∙ w.if-candidate.true) (sym w.urgent.ensures ∙ w.if-urgent.true)) c.loop-no.invariant w.ready_beside.ensures
      | else-candidate w ↦
          w.least-is
          ∙ least-left test no ready c.loop-no.least
          (elim w.else-candidate.branch [
            | else-candidate-via-then-candidate+else-urgent w' ↦ and_right (candidate no) (urgent no) (sym w'.urgent.ensures ∙ w'.if-urgent.false)
            | else-candidate-via-else-candidate w' ↦ and_left (candidate no) (urgent no) (sym c.candidate.ensures ∙ w'.if-candidate.false)
          ]) c.loop-no.invariant
    ]

pub returns : goal.returns
returns c =
    let table = c.args.table.now in
    let candidate = is_candidate table c.args.set.now.members in
    let urgent = λ (x : ℕ). has_urgency_over table x c.args.job in
    let ready = ready_beside table c.args.ends.now.items c.args.job in
    let all : c.loop-no.no ≡ length table.jobs = omega arith in
    c.loop-no.invariant ∙ ap (λ n. least (map ready (filter (λ x. candidate x && urgent x) (numbers_below n)))) all ∙ ap (λ l. least (map ready l)) (filter-both candidate urgent (numbers_below (length table.jobs)))
