use Rattle.std.proofs.Common.{◌<◌, ap, length, subst, sym}
use Rattle.std.specs.Prelude.{All}
use Rattle.job_model.specs.Table.{Table}
use Rattle.what_if.specs.Bounded.{BoundedTable}
use Rattle.what_if.proofs.tests.edited_by.Goals as goal

pub with_edits-requires-clause-in_range : goal.with_edits-requires-clause-in_range
with_edits-requires-clause-in_range c =
    rw c.deref.ensures.value
    (subst (λ (t : Table). All (λ e. e.job < length t.jobs) c.in-Ok.edits.items) (sym (ap (λ (b : BoundedTable). b.table) c.in-Ok-new.ensures.taken)) c.in-Ok.ensures.in_range)

pub with_edits-requires-clause-costs : goal.with_edits-requires-clause-costs
with_edits-requires-clause-costs c = rw c.deref.ensures.value c.in-Ok.ensures.may_cost
