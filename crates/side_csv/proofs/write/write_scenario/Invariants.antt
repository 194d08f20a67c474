use Rattle.std.proofs.Common.{◌≡◌, map}
use Rattle.lists.specs.Numbers.{numbers_below}
use Rattle.side_csv.specs.ScenarioRows.{scenario_row}
use Rattle.side_csv.proofs.write.write_scenario.Given as goal

-- the rows of the jobs so far
abbrev pub invariant-loop-no : goal.invariant-loop-no
invariant-loop-no l = l.rows.items ≡ map (scenario_row l.table l.scenario) (numbers_below l.no)
