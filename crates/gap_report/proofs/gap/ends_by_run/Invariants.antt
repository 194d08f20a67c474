use Rattle.std.proofs.Common.{◌≡◌, map}
use Rattle.std.specs.Prelude.{slice_get}
use Rattle.std.specs.List.{range_with_len}
use Rattle.run_meaning.specs.Ready.{finish_of}
use Rattle.gap_report.specs.InnerBounds.{ends_after}
use Rattle.gap_report.proofs.gap.ends_by_run.Given as goal

-- the ends of the jobs so far
abbrev pub invariant-loop-j : goal.invariant-loop-j
invariant-loop-j l = l.new.items ≡ map (λ j. ends_after l.place (finish_of l.scenario l.schedule j) (slice_get l.ends j)) (range_with_len 0 l.j)
