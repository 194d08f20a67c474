use Rattle.std.proofs.Common.{◌≡◌, ◌<◌, ap, arith, length, get_or}
use Rattle.std.proofs.lemmas.List.{length-map}
use Rattle.job_model.proofs.NeighbourLemmas.{put-set}
use Rattle.job_model.proofs.job_lists.JobLists.put.Goals as goal

pub returns : goal.returns
returns c =
    let lists = c.self.inside.lists.items in
    let old = c.index_mut.result.now in
    let below : c.args.job < length lists = omega (arith, c.requires, length-map lists (λ v. v.items), ap length c.self.view_is) in
    let from : c.from.result ≡ c.args.job = cc in
    let at : get_or lists c.args.job old ≡ old = cc in
    rw (← c.self.view_is, from) (put-set (λ v. v.items) lists c.args.job c.args.number old c.push.new.self below at c.in_ok-push.ensures.items)
