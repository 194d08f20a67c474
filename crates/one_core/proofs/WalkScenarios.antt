-- The scenario of a walk: what the walk settles, and for every other job its latest release and its greatest cost.
use Rattle.std.proofs.Common.{◌≡◌, ℕ, suc, ◌<◌, ◌≤◌, true, false, List, length, min, Option, Some, None, refl, sym, ap, ◌∙◌, subst, arith}
use Rattle.std.specs.Prelude.{nat_eq, unwrap_or, slice_index_or}
use Rattle.std.specs.Map.{lookup}
use Rattle.std.proofs.lemmas.Bool.{false≢true}
use Rattle.std.proofs.lemmas.List.FromFn.{get_or-map-range_with_len, length-map-range_with_len}
use Rattle.job_sets.specs.Subset.{is_member}
use Rattle.job_model.specs.declared.job_row.Job.{Job}
use Rattle.job_model.specs.Table.{Table, IsTable, table_of, job_at}
use Rattle.job_model.specs.Scenario.{Fits, CanRunAs, release_of, cost_of}
use Rattle.sag_time.specs.Interval.{holds}
use Rattle.run_meaning.specs.declared.places.Place.{Place}
use Rattle.run_meaning.specs.Legal.{Legal}
use Rattle.sag_graph.specs.declared.edge.Edge.{Edge}
use Rattle.sag_graph.specs.Spans.{edge_finish}
use Rattle.sag_graph.specs.Graph.{AbstractionGraph}
use Rattle.graph_memory.specs.Held.{IsStepBetween, level_in}
use Rattle.one_core.specs.Extreme.{walk_back, scenario_with}
use Rattle.one_core.proofs.Levels.{is_job}
use Rattle.one_core.proofs.Exact.{IsExact}
use Rattle.one_core.proofs.Walks.{walk-settles, Runs, walk-runs}

module _ (table : Table) (told : List (ℕ × (ℕ × ℕ))) where
  scenario_with-at : (i : ℕ) → i < length table.jobs → slice_index_or (scenario_with table told) i (0, 0) ≡ unwrap_or (lookup (nat_eq i) told) ((job_at table i).rmax, (job_at table i).cmax)
  scenario_with-at i below =
      get_or-map-range_with_len (λ i. unwrap_or (lookup (nat_eq i) told) ((job_at table i).rmax, (job_at table i).cmax)) 0 (length table.jobs) i i (0, 0) below (omega arith)

  scenario_with-length : length (scenario_with table told) ≡ length table.jobs
  scenario_with-length = length-map-range_with_len (λ i. unwrap_or (lookup (nat_eq i) told) ((job_at table i).rmax, (job_at table i).cmax)) 0 (length table.jobs)

  -- the value of a job, by whether it is settled
  by_told : (P : ℕ × ℕ → Type 0) (i : ℕ) → i < length table.jobs → ((v : ℕ × ℕ) → lookup (nat_eq i) told ≡ Some v → P v) →
      (lookup (nat_eq i) told ≡ None → P ((job_at table i).rmax, (job_at table i).cmax)) → P (slice_index_or (scenario_with table told) i (0, 0))
  by_told P i below some none = subst P (sym (scenario_with-at i below)) (by (lookup (nat_eq i) told) refl)
    where
      by : (o : Option (ℕ × ℕ)) → lookup (nat_eq i) told ≡ o → P (unwrap_or o ((job_at table i).rmax, (job_at table i).cmax))
      by None is = none is
      by (Some v) is = some v is

module _ (jobs : List Job) (is_table : IsTable (table_of jobs)) (graph : AbstractionGraph) (exact : IsExact jobs graph)
    (k : ℕ) (below : k < length jobs) (e : Edge) (step : IsStepBetween (table_of jobs) (level_in graph k) (level_in graph (suc k)) e)
    (t : ℕ) (in_edge : holds (edge_finish (table_of jobs) e) t ≡ true) where
  pub walk-fits : Fits (table_of jobs) (scenario_with (table_of jobs) (walk_back (table_of jobs) graph k e t))
  walk-fits = record {
    one_each = scenario_with-length (table_of jobs) (walk_back (table_of jobs) graph k e t);
    each = λ i is.
        by_told (table_of jobs) (walk_back (table_of jobs) graph k e t) (λ v. CanRunAs (job_at (table_of jobs) i) v.0 v.1) i is
        (λ v found. (walk-settles jobs is_table graph exact k below e step t in_edge i v found).can)
        (λ none. let job = is_job jobs is_table i is in record { not_before = job.releases; not_after = omega arith; at_least = job.costs; at_most = omega arith });
  }

  own : (x : ℕ) (v : ℕ × ℕ) → lookup (nat_eq x) (walk_back (table_of jobs) graph k e t) ≡ Some v →
      (release_of (scenario_with (table_of jobs) (walk_back (table_of jobs) graph k e t)) x ≡ v.0) × (cost_of (scenario_with (table_of jobs) (walk_back (table_of jobs) graph k e t)) x ≡ v.1)
  own x v found =
      let is = (walk-settles jobs is_table graph exact k below e step t in_edge x v found).is_job in
      let same : slice_index_or (scenario_with (table_of jobs) (walk_back (table_of jobs) graph k e t)) x (0, 0) ≡ v =
      scenario_with-at (table_of jobs) (walk_back (table_of jobs) graph k e t) x is ∙ ap (λ o. unwrap_or o ((job_at (table_of jobs) x).rmax, (job_at (table_of jobs) x).cmax)) found in
      (ap (λ (w : ℕ × ℕ). w.0) same, ap (λ (w : ℕ × ℕ). w.1) same)

  late : (x : ℕ) → x < length jobs → is_member x step.target.set.members ≡ false →
      min t (job_at (table_of jobs) x).rmax ≤ release_of (scenario_with (table_of jobs) (walk_back (table_of jobs) graph k e t)) x
  late x is out =
      by_told (table_of jobs) (walk_back (table_of jobs) graph k e t) (λ v. min t (job_at (table_of jobs) x).rmax ≤ v.0) x is
      (λ v found. absurd (false≢true (sym out ∙ (walk-settles jobs is_table graph exact k below e step t in_edge x v found).member)))
      (λ none. omega arith)

  -- in each legal run of the scenario the jobs of the target come first, and the job of the edge finishes at t
  pub walk-run : (schedule : List Place) (legal : Legal (table_of jobs) 1 (scenario_with (table_of jobs) (walk_back (table_of jobs) graph k e t)) schedule) →
      Runs jobs is_table graph exact (scenario_with (table_of jobs) (walk_back (table_of jobs) graph k e t)) schedule walk-fits legal k e step t
  walk-run schedule legal =
      walk-runs jobs is_table graph exact (scenario_with (table_of jobs) (walk_back (table_of jobs) graph k e t)) schedule walk-fits legal k below e step t in_edge own late
