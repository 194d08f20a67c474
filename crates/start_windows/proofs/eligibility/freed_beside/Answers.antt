use Rattle.std.proofs.Common.{◌≡◌, ◌∙◌, ◌-◌, Some, length, ap, sym}
use Rattle.std.specs.Prelude.{slice_get}
use Rattle.std.proofs.lemmas.Option.{get_or_from_slice_get, slice_get_within}
use Rattle.job_model.specs.Table.{predecessors}
use Rattle.start_windows.specs.declared.eligibility.Prospect.{Prospect}
use Rattle.start_windows.proofs.Collecting.{looked_at}
use Rattle.start_windows.proofs.Held.{freed_same, same_numbers}
use Rattle.start_windows.proofs.eligibility.freed_beside.Goals as goal

pub returns-then-eq : goal.returns-then-eq
returns-then-eq c =
    let table = c.args.table.now in
    let ends = c.args.ends.now.items in
    let found = c.args.found.now in
    let other = c.in-Some.other.now in
    let place = length found - 1 in
    let there : slice_get found place ≡ Some other = sym c.in-Some.ensures.value in
    let looked = looked_at table ends found place other c.requires (slice_get_within found place other there) (sym (get_or_from_slice_get found place other other there)) in
    let same : predecessors table other.job ≡ predecessors table c.args.job =
    sym c.preds-in-Some.ensures.preds ∙ same_numbers c.preds-in-Some.result.now c.preds-in-Some-2.result.now (sym c.eq.ensures ∙ c.if-eq.true) ∙ c.preds-in-Some-2.ensures.preds in
    ap (λ (x : Prospect). x.freed) looked.0 ∙ freed_same table ends other.job c.args.job same
