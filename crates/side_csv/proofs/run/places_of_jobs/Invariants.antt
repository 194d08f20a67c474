use Rattle.std.proofs.Common.{◌≡◌, length}
use Rattle.run_meaning.specs.Ready.{no_place}
use Rattle.side_csv.specs.RunText.{place_in}
use Rattle.side_csv.proofs.ItemLemmas.{Given}
use Rattle.side_csv.proofs.run.places_of_jobs.Given as goal

-- the places of the jobs so far
abbrev pub invariant-loop-j : goal.invariant-loop-j
invariant-loop-j l = record { count : length l.starts.items ≡ l.j; given : Given place_in no_place l.table l.rows l.starts.items l.j }
