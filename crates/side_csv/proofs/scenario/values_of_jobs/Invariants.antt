use Rattle.std.proofs.Common.{◌≡◌, length}
use Rattle.side_csv.specs.ScenarioText.{values_in}
use Rattle.side_csv.proofs.ItemLemmas.{Given}
use Rattle.side_csv.proofs.scenario.values_of_jobs.Given as goal

-- the values of the jobs so far
abbrev pub invariant-loop-j : goal.invariant-loop-j
invariant-loop-j l = record { count : length l.values.items ≡ l.j; given : Given values_in (0, 0) l.table l.rows l.values.items l.j }
