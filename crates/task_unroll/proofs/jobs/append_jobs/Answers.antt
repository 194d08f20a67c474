use Rattle.std.proofs.Common.{◌≡◌, ◌∙◌, ◌+◌, ◌<◌, ◌++◌, ◌∷◌, [], List, map, sym, ap, arith, append_assoc}
use Rattle.std.proofs.lemmas.List.FromFn.{map-range_with_len_more}
use Rattle.lists.specs.Numbers.{numbers_below}
use Rattle.job_model.specs.declared.job_row.Job.{Job}
use Rattle.task_unroll.specs.Unrolled.{released_job}
use Rattle.task_unroll.proofs.Counts.{counted_before}
use Rattle.task_unroll.proofs.jobs.append_jobs.Goals as goal

pub released_job-requires-clause-released : goal.released_job-requires-clause-released
released_job-requires-clause-released c =
    let count = c.count_releases-k-end.result in
    let below : c.loop-k.k < count = omega arith in
    omega (arith, counted_before c.args.task.now c.args.horizon count c.loop-k.k c.count_releases-k-end.ensures.count below, c.requires.horizon)

pub loop-k-preserved : goal.loop-k-preserved
loop-k-preserved c =
    let f = released_job c.args.policy c.args.task.now in
    let k = c.loop-k.k in
    let old = c.args.jobs.now.items in
    let more : map f (numbers_below (k + 1)) ≡ map f (numbers_below k) ++ f k ∷ [] = map-range_with_len_more f 0 k k (omega arith) in
    c.in_ok-push.ensures.items
    ∙ ap (λ (x : Job). c.loop-k.jobs.items ++ x ∷ []) c.released_job.ensures
    ∙ ap (λ (l : List Job). l ++ f k ∷ []) c.loop-k.invariant
    ∙ append_assoc old (map f (numbers_below k)) (f k ∷ [])
    ∙ ap (λ (l : List Job). old ++ l) (sym more)
