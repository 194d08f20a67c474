-- On one core without precedence both ends of each span are attained, so the spans are as narrow as can be.
--     ComeFirst .. schedule set t  the jobs of the set come first, and the last of them finishes at t
--     Reached table set t          a scenario in each of whose legal runs they do
--     IntervalsAreReached          this is so for each moment of the interval of each state
--     IsAttained table j end          the scenario for that end fits, and in each of its legal schedules job j finishes then
--     EndsAreAttained              this is so for each job and either end
--     HoldsEachFinish table j s    in each legal schedule of each scenario job j finishes within the interval
--     SpansAreNarrowest            an interval that holds each finish of a job has the job's span in it
--     LateRun table j moment       a run in which job j finishes after that moment
--     MissesAreReal                where a span ends after the deadline, some run misses it
use Rattle.std.specs.Prelude.{◌≡◌, ℕ, suc, true, false, List, [], ◌<◌, ◌≤◌, length, is_some, IsTrue, Some, None, slice_get, slice_index_or}
use Rattle.job_sets.specs.Subset.{is_member}
use Rattle.job_model.specs.Table.{Table, IsTable, job_at}
use Rattle.job_model.specs.Scenario.{Fits}
use Rattle.sag_time.specs.Interval.{Interval, holds}
use Rattle.run_meaning.specs.declared.places.Place.{Place}
use Rattle.run_meaning.specs.Ready.{start_of, finish_of}
use Rattle.run_meaning.specs.Legal.{Legal}
use Rattle.sag_step.specs.State.{SystemState, first_core}
use Rattle.sag_graph.specs.Levels.{level_at}
use Rattle.sag_graph.specs.Graph.{graph_of}
use Rattle.job_model.specs.declared.interval_end.End.{End}
use Rattle.job_model.specs.declared.interval_end.End.TheVariants.{Best, Worst}
use Rattle.one_core.specs.Extreme.{extreme, end_of_span}

-- The jobs of the set have finished by t, one of them just then, and no other starts before.
pub record ComeFirst (table : Table) (scenario : List (ℕ × ℕ)) (schedule : List Place) (set : List ℕ) (t : ℕ) : Type 0 where
  pub done : (x : ℕ) → x < length table.jobs → is_member x set ≡ true → finish_of scenario schedule x ≤ t
  pub waits : (x : ℕ) → x < length table.jobs → is_member x set ≡ false → t ≤ start_of schedule x
  pub last : ℕ
  pub last_is_job : last < length table.jobs
  pub last_member : is_member last set ≡ true
  pub last_finish : finish_of scenario schedule last ≡ t

-- a scenario that fits, in each of whose legal runs on one core the jobs of the set come first, and are done at t
pub record Reached (table : Table) (set : List ℕ) (t : ℕ) : Type 0 where
  pub scenario : List (ℕ × ℕ)
  pub fits : Fits table scenario
  pub runs : (schedule : List Place) → Legal table 1 scenario schedule → ComeFirst table scenario schedule set t

-- Each moment at which the core may be free in a state above the root is one at which some run has done the state's jobs.
abbrev pub IntervalsAreReached : Type 0
IntervalsAreReached =
    (table : Table) (k i t : ℕ) (s : SystemState) → IsTable table → table.edges ≡ [] → k < length table.jobs →
    slice_get (level_at table 1 (suc k)).states i ≡ Some s → IsTrue (holds (first_core s) t) → Reached table s.set.members t

-- The job has a span. The scenario fits, and in its legal schedules the job finishes at that end of the span.
pub record IsAttained (table : Table) (j : ℕ) (end : End) : Type 0 where
  pub has_span : IsTrue (is_some (slice_index_or (graph_of table 1).spans j None))
  pub fits : Fits table (extreme table (graph_of table 1) j end)
  pub finish : (schedule : List Place) → Legal table 1 (extreme table (graph_of table 1) j end) schedule →
      finish_of (extreme table (graph_of table 1) j end) schedule j ≡ end_of_span (graph_of table 1) j end

abbrev pub EndsAreAttained : Type 0
EndsAreAttained = (table : Table) (j : ℕ) (end : End) → IsTable table → table.edges ≡ [] → j < length table.jobs → IsAttained table j end

-- In each legal schedule of each scenario the job finishes within the interval.
abbrev pub HoldsEachFinish : Table → ℕ → Interval → Type 0
HoldsEachFinish table j span =
    (scenario : List (ℕ × ℕ)) (schedule : List Place) → Fits table scenario → Legal table 1 scenario schedule → IsTrue (holds span (finish_of scenario schedule j))

-- An interval that holds each finish of the job begins no later than its span, and ends no sooner.
abbrev pub SpansAreNarrowest : Type 0
SpansAreNarrowest =
    (table : Table) (j : ℕ) (span : Interval) → IsTable table → table.edges ≡ [] → j < length table.jobs → HoldsEachFinish table j span →
    (span.lo ≤ end_of_span (graph_of table 1) j Best) × (end_of_span (graph_of table 1) j Worst ≤ span.hi)

-- a legal run in which the job finishes after the moment
pub record LateRun (table : Table) (j moment : ℕ) : Type 0 where
  pub scenario : List (ℕ × ℕ)
  pub schedule : List Place
  pub fits : Fits table scenario
  pub legal : Legal table 1 scenario schedule
  pub late : moment < finish_of scenario schedule j

-- Where the span of a job ends after its deadline, some legal run misses the deadline.
abbrev pub MissesAreReal : Type 0
MissesAreReal =
    (table : Table) (j : ℕ) → IsTable table → table.edges ≡ [] → j < length table.jobs → (job_at table j).deadline < end_of_span (graph_of table 1) j Worst →
    LateRun table j (job_at table j).deadline
