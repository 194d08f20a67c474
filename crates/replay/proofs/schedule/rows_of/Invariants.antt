use Rattle.std.proofs.Common.{◌≡◌, map, take}
use Rattle.replay.specs.ScheduleText.{schedule_row}
use Rattle.replay.proofs.schedule.rows_of.Given as goal

abbrev pub invariant-loop-no : goal.invariant-loop-no
invariant-loop-no l = l.rows.items ≡ map (schedule_row l.table l.scenario l.schedule) (take l.no-index l.jobs)
