use Rattle.std.proofs.Common.{map, take}
use Rattle.start_windows.specs.Prospects.{AreProspects, Collected, jobs_of}
use Rattle.start_windows.proofs.eligibility.walk.Given as goal

abbrev pub invariant-loop-place : goal.invariant-loop-place
invariant-loop-place l = record {
  prospects : AreProspects l.table l.ends.items l.found.items;
  collected : Collected l.table l.set.members l.ends.items l.first l.sure (map (λ e. e.1) (take l.place l.order)) (jobs_of l.found.items) l.ready;
}
