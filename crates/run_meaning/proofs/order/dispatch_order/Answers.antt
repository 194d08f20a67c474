use Rattle.std.proofs.Common.{◌≡◌, map, ◌∙◌, ap}
use mathlib.Core.List.{map-id}
use Rattle.std.proofs.lemmas.Simd.{map-map}
use Rattle.run_meaning.specs.Dispatches.{dispatch_of}
use Rattle.run_meaning.specs.Order.{dispatch_order}
use Rattle.run_meaning.specs.declared.order.Dispatch.{Dispatch}
use Rattle.run_meaning.proofs.order.dispatch_order.Goals as goal

pub returns : goal.returns
returns c =
    let at = dispatch_of c.args.table.now c.args.schedule.now in
    let order = dispatch_order c.args.table.now c.args.schedule.now in
    let jobs : c.deref.result.now ≡ map at order = c.deref.ensures.value ∙ c.in_ok-jobs.ensures in
    let numbers = ap (map (λ (job : Dispatch). job.no)) jobs ∙ map-map (λ (job : Dispatch). job.no) at order ∙ map-id order in
    rw numbers at c.numbers_of.ensures
