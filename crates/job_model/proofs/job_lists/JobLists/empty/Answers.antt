use Rattle.std.proofs.lemmas.List.{map_push, replicate_more}
use Rattle.std.proofs.Common.{[]}
use Rattle.job_model.proofs.job_lists.JobLists.empty.Goals as goal

pub loop-preserved : goal.loop-preserved
loop-preserved c = rw (c.in_ok-push.ensures.items, map_push, c.new.ensures.items, c.loop.invariant) (replicate_more c.loop.counter [])
