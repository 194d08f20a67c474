use Rattle.std.proofs.Common.{◌≡◌, ◌∙◌, ap, refl}
use Rattle.job_model.specs.Table.{Table}
use Rattle.job_model.proofs.EdgeLemmas.{IsTable-edges, no-rules}
use Rattle.job_model.proofs.RankLemmas.{AreRanks-edges}
use Rattle.job_model.proofs.ReleaseLemmas.{release_order-same}
use Rattle.job_model.proofs.table.JobTable.with_edges.Goals as goal

pub invariant_of-self : goal.invariant_of-self
invariant_of-self c =
    let jobs : c.self.inside.jobs.items ≡ c.args.self.jobs = ap (λ (t : Table). t.jobs) c.self.view_is in
    let table = IsTable-edges c.args.self c.args.rows.now c.len.ensures.table c.requires.in_range c.in-Ok.ensures.kept in (
      rw (c.in-Ok.ensures.edges, jobs) table,
      c.self.invariant.1,
      c.self.invariant.2 ∙ release_order-same _ _ refl (λ j. refl),
      AreRanks-edges c.self.inside.jobs.items c.self.inside.edges c.in-Ok.edges c.self.inside.ranks.items c.self.invariant.3,
    )

pub returns-in-Ok-clause-table : goal.returns-in-Ok-clause-table
returns-in-Ok-clause-table c =
    let jobs : c.self.inside.jobs.items ≡ c.args.self.jobs = ap (λ (t : Table). t.jobs) c.self.view_is in
    let table = IsTable-edges c.args.self c.args.rows.now c.len.ensures.table c.requires.in_range c.in-Ok.ensures.kept in
    rw (c.in-Ok.ensures.edges, jobs) table

pub returns-in-Err-clause-refused : goal.returns-in-Err-clause-refused
returns-in-Err-clause-refused c = λ other. no-rules c.args.rows.now c.in-Err.fault other c.in-Err.ensures.fault
