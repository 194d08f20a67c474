-- The trials of a table on some cores, by their numbers.
--     has_extremes table m         there is one core and no precedence, so that both ends of each span are attained
--     is_extreme_trial table m k   trial k is such a scenario
--     job_of_trial k               the job that trial k is made for, from trial 4 on
--     end_of_trial k               whether it is made for an early or for a late finish
--     trial_of table m k           the release and the cost of each job in trial k
use Rattle.std.specs.Prelude.{ℕ, ◌-◌, ◌/◌, ◌%◌, ◌==◌, ◌&&◌, Bool, List, length, nat_le, if◌then◌else◌}
use Rattle.job_model.specs.Table.{Table}
use Rattle.job_model.specs.declared.interval_end.End.{End}
use Rattle.job_model.specs.declared.interval_end.End.TheVariants.{Best, Worst}
use Rattle.sag_graph.specs.Graph.{graph_of}
use Rattle.one_core.specs.Extreme.{extreme}
use Rattle.gap_report.specs.Trials.{plain_trial}

-- there is one core, and no job waits for another
abbrev pub has_extremes : Table → ℕ → Bool
has_extremes table m = (m == 1) && (length table.edges == 0)

-- the trial is made for a job, and such a scenario
abbrev pub is_extreme_trial : Table → ℕ → ℕ → Bool
is_extreme_trial table m k = nat_le 4 k && has_extremes table m

-- trials 4 and 5 are made for job 0, trials 6 and 7 for job 1, and so on
abbrev pub job_of_trial : ℕ → ℕ
job_of_trial k = (k - 4) / 2

-- the first of two is made for an early finish
abbrev pub end_of_trial : ℕ → End
end_of_trial k = if k % 2 == 0 then Best else Worst

-- On one core without precedence a trial that is made for a job is the scenario in which it finishes at that end of its span.
-- All others need no graph.
unfoldable pub trial_of : Table → ℕ → ℕ → List (ℕ × ℕ)
trial_of table m k = if is_extreme_trial table m k then extreme table (graph_of table 1) (job_of_trial k) (end_of_trial k) else plain_trial table k
