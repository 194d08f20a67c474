use Rattle.std.proofs.Common.{◌≡◌, map, max, take}
use Rattle.lists.specs.Numbers.{greatest}
use Rattle.job_model.specs.Scenario.{release_of}
use Rattle.job_model.specs.Table.{predecessors}
use Rattle.run_meaning.specs.Ready.{finish_of}
use Rattle.run_audit.proofs.entries.ready.Given as goal

-- the greatest so far
abbrev pub invariant-loop-earlier : goal.invariant-loop-earlier
invariant-loop-earlier l = l.latest ≡ max (release_of l.scenario l.fn.no) (greatest (map (finish_of l.scenario l.schedule) (take l.earlier-index (predecessors l.table l.fn.no))))
