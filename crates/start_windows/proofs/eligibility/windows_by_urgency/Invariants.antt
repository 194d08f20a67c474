use Rattle.std.proofs.Common.{◌≡◌, take}
use Rattle.std.specs.List.{filter_map}
use Rattle.start_windows.specs.Prospects.{jobs_of, offer_over}
use Rattle.start_windows.proofs.ByUrgency.{IsLast}
use Rattle.start_windows.proofs.Held.{IsHeld, IsPassed}
use Rattle.start_windows.proofs.eligibility.windows_by_urgency.Given as goal

-- the prospects so far, each with its window if it has one; what is kept of the tied ones stands in front
abbrev pub invariant-loop-place : goal.invariant-loop-place
invariant-loop-place l = record {
  passed : IsPassed l.initial.ranked l.ranked l.tied l.place;
  held : IsHeld l.table l.ends.items (take l.place l.initial.ranked) (take l.tied l.ranked);
  last : IsLast l.certain l.last (take l.place l.initial.ranked);
  windows : l.into.items ≡ filter_map (offer_over l.table l.ends.items l.first l.certain (jobs_of l.initial.ranked)) (jobs_of (take l.place l.initial.ranked));
}
