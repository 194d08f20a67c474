use Rattle.std.proofs.Common.{◌-◌, ◌<◌, ◌≤◌, length, take}
use Rattle.job_model.specs.Cycles.{HoldsCycle}
use Rattle.job_model.proofs.cycles.first_closing.Given as goal

abbrev pub invariant-loop-with : goal.invariant-loop-with
invariant-loop-with l = record {
  apart : l.without < l.with;
  in_rows : l.with ≤ length l.rows;
  none : ¬ HoldsCycle (take l.without l.rows);
  some : HoldsCycle (take l.with l.rows);
}

abbrev pub decreases-loop-with : goal.decreases-loop-with
decreases-loop-with l = l.with - l.without
