use Rattle.std.proofs.Common.{◌≡◌, ◌≤◌, suc, drop, map}
use Rattle.start_windows.specs.Window.{ready_beside}
use Rattle.start_windows.specs.Prospects.{capped, jobs_of, window_of}
use Rattle.start_windows.proofs.Caps.{left}
use Rattle.start_windows.proofs.eligibility.window_beside.Given as goal

-- the jobs that are left leave the window that all of them leave
abbrev pub invariant-loop-other : goal.invariant-loop-other
invariant-loop-other l = record {
  in_order : l.est ≤ l.lst;
  window :
      left (ready_beside l.table l.ends.items l.job) l.est l.lst (drop l.other-index l.urgent)
      ≡ window_of l.est (capped (suc l.last) (map (ready_beside l.table l.ends.items l.job) (jobs_of l.urgent)));
}
