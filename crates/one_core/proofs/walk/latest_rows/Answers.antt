use Rattle.std.proofs.Common.{ℕ, List, [], ◌∷◌, ◌++◌, map, arith, ap, sym, ◌∙◌}
use Rattle.std.specs.List.{range_with_len}
use Rattle.std.proofs.lemmas.List.FromFn.{map-range_with_len_more}
use Rattle.job_model.specs.declared.job_row.Job.{Job}
use Rattle.job_model.specs.Table.{job_at}
use Rattle.one_core.proofs.walk.latest_rows.Goals as goal

pub loop-i-preserved : goal.loop-i-preserved
loop-i-preserved c =
    let row : ℕ → ℕ × ℕ = λ i. ((job_at c.args.table.now i).rmax, (job_at c.args.table.now i).cmax) in
    let last : Job → List (ℕ × ℕ) = λ job. map row (range_with_len 0 c.loop-i.i) ++ (job.rmax, job.cmax) ∷ [] in
    let here = c.job-job.result.now in
    c.in_ok-push.ensures.items ∙ ap (λ xs. xs ++ (here.rmax, here.cmax) ∷ []) c.loop-i.invariant ∙ ap last c.job-job.ensures.job
    ∙ sym (map-range_with_len_more row 0 c.loop-i.i c.loop-i.i (omega arith))
