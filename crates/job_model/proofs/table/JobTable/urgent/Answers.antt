use Rattle.std.proofs.Common.{sym}
use Rattle.job_model.proofs.RankLaws.{ranks_order}
use Rattle.job_model.proofs.table.JobTable.urgent.Goals as goal

pub returns : goal.returns
returns c =
    rw (c.rank.ensures.rank, c.rank-2.ensures.rank) (sym (ranks_order c.args.self.now c.args.a c.args.b c.rank.ensures.table c.requires.first c.requires.second).0)
