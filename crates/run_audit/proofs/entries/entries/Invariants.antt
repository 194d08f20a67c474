use Rattle.std.proofs.Common.{◌≡◌, map}
use Rattle.lists.specs.Numbers.{numbers_below}
use Rattle.run_audit.specs.Entries.{entry_of_job}
use Rattle.run_audit.proofs.entries.entries.Given as goal

abbrev pub invariant-loop-no : goal.invariant-loop-no
invariant-loop-no l = l.entries.items ≡ map (entry_of_job l.table l.scenario l.schedule) (numbers_below l.no)
