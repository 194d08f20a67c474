-- The walk back from an edge: what it settles, and that a run with these releases and costs takes exactly its jobs.
use Rattle.std.proofs.Common.{◌≡◌, ◌≢◌, ℕ, zero, suc, ◌+◌, ◌-◌, ◌<◌, ◌≤◌, ◌⊎◌, inl, inr, true, false, List, [], ◌∷◌, length, min, Some, refl, sym, ap, ◌∙◌, subst, arith}
use Rattle.std.specs.Prelude.{nat_eq, nat_le, ◌==◌, ◌&&◌}
use Rattle.std.specs.Map.{lookup}
use Rattle.std.specs.Option.{option_map_or}
use Rattle.std.proofs.lemmas.Bool.{and_parts, and_from, le-leb, leb-true, eqb-true, eq-eqb, ne_eqb, cases_eq, cond-true, cond-false, or_from, or_left, or_right, false≢true}
use Rattle.std.proofs.lemmas.Option.{none-some, same_Some}
use Rattle.job_sets.specs.Subset.{is_member, with_number}
use Rattle.job_sets.proofs.Additions.{is_member-with_number}
use Rattle.job_model.specs.declared.job_row.Job.{Job}
use Rattle.job_model.specs.Table.{Table, IsTable, table_of, job_at, has_urgency_over}
use Rattle.job_model.specs.Scenario.{Fits, CanRunAs, release_of, cost_of}
use Rattle.job_model.proofs.UrgencyLaws.{urgent_itself}
use Rattle.sag_time.specs.Interval.{Interval, holds}
use Rattle.run_meaning.specs.declared.places.Place.{Place}
use Rattle.run_meaning.specs.Ready.{start_of, finish_of}
use Rattle.run_meaning.specs.Legal.{Legal}
use Rattle.sag_step.specs.State.{SystemState, first_core}
use Rattle.sag_graph.specs.declared.edge.Edge.{Edge}
use Rattle.sag_graph.specs.Spans.{edge_finish}
use Rattle.sag_graph.specs.Graph.{AbstractionGraph}
use Rattle.graph_memory.specs.Held.{IsStepBetween, level_in}
use Rattle.one_core.specs.Extreme.{core_free_by, start_for, settled_job, edge_finishing_at, walk_back}
use Rattle.lists.proofs.Elements.{each_at}
use Rattle.one_core.proofs.Lists.{one-at, found_where, IsFound}
use Rattle.one_core.proofs.OneWindows.{OneWindow}
use Rattle.one_core.proofs.Grouping.{IsOneCore, core_in_order}
use Rattle.one_core.proofs.Levels.{is_job, window_facts}
use Rattle.one_core.proofs.Exact.{IsExact}
use Rattle.one_core.proofs.RunSteps.{Reaches, IsTurnAt, starts_then, reaches_next}

pub in_interval : (a : Interval) (t : ℕ) → holds a t ≡ true → (a.lo ≤ t) × (t ≤ a.hi)
in_interval a t h =
    let parts = and_parts (nat_le a.lo t) (nat_le t a.hi) h in
    (leb-true a.lo t parts.0, leb-true t a.hi parts.1)

pub holds-from : (a : Interval) (t : ℕ) → a.lo ≤ t → t ≤ a.hi → holds a t ≡ true
holds-from a t from to = and_from (nat_le a.lo t) (nat_le t a.hi) (le-leb a.lo t from) (le-leb t a.hi to)

module _ (jobs : List Job) (is_table : IsTable (table_of jobs)) (graph : AbstractionGraph) (exact : IsExact jobs graph) where
  abbrev table : Table
  table = table_of jobs

  abbrev pub StepAt : ℕ → Edge → Type 0
  StepAt k e = IsStepBetween (table_of jobs) (level_in graph k) (level_in graph (suc k)) e

  module _ (k : ℕ) (below : k < length jobs) (e : Edge) (step : StepAt k e) where
    source_fine : IsOneCore (length jobs) k step.source
    source_fine = each_at (IsOneCore (length jobs) k) (level_in graph k).states e.from step.source (exact.fine k (omega (arith, below))) step.from_there

    pub facts : OneWindow jobs step.source.set.members (first_core step.source) e.job e.window
    facts = window_facts jobs is_table k step.source source_fine e.job e.window step.window

    first_in_order : (first_core step.source).lo ≤ (first_core step.source).hi
    first_in_order = core_in_order (length jobs) k step.source source_fine

    module _ (t : ℕ) (in_edge : holds (edge_finish table e) t ≡ true) where
      -- the start and the cost are in their intervals
      pub record Times : Type 0 where
        pub not_early : e.window.est ≤ start_for table e t
        pub not_late : start_for table e t ≤ e.window.lst
        pub ends : start_for table e t + (t - start_for table e t) ≡ t
        pub at_least : (job_at table e.job).cmin ≤ t - start_for table e t
        pub at_most : t - start_for table e t ≤ (job_at table e.job).cmax
        pub some_cost : 1 ≤ (job_at table e.job).cmin
        pub free : (first_core step.source).lo ≤ min (start_for table e t) (first_core step.source).hi

      pub times : Times
      times =
          let w = facts in
          let job = is_job jobs is_table e.job w.is_job in
          let within = in_interval (edge_finish table e) t in_edge in
          record {
            not_early = omega (arith, w.in_order, within.0);
            not_late = omega arith;
            ends = omega (arith, w.in_order, within.0);
            at_least = omega (arith, w.in_order, within.0);
            at_most = omega (arith, w.in_order, within.0, within.1, job.costs);
            some_cost = job.costs_something;
            free = omega (arith, w.in_order, within.0, w.core, first_in_order);
          }

      settled_job-fits : CanRunAs (job_at table e.job) (min (start_for table e t) (job_at table e.job).rmax) (t - start_for table e t)
      settled_job-fits =
          let w = facts in
          let x = times in
          let job = is_job jobs is_table e.job w.is_job in
          record {
            not_before = omega (arith, x.not_early, w.released, job.releases);
            not_after = omega arith;
            at_least = x.at_least;
            at_most = x.at_most;
          }

      -- the job is one of the target's
      pub own_member : is_member e.job step.target.set.members ≡ true
      own_member = ap (is_member e.job) step.adds ∙ is_member-with_number e.job e.job step.source.set.members ∙ or_left (e.job == e.job) (is_member e.job step.source.set.members) (eq-eqb e.job e.job refl)

      earlier_member : (x : ℕ) → is_member x step.source.set.members ≡ true → is_member x step.target.set.members ≡ true
      earlier_member x there = ap (is_member x) step.adds ∙ is_member-with_number x e.job step.source.set.members ∙ or_right (e.job == x) (is_member x step.source.set.members) there

      other_outside : (x : ℕ) → x ≢ e.job → is_member x step.source.set.members ≡ false → is_member x step.target.set.members ≡ false
      other_outside x other out =
          ap (is_member x) step.adds ∙ is_member-with_number x e.job step.source.set.members
          ∙ or_from (e.job == x) (is_member x step.source.set.members) (ne_eqb e.job x (λ same. other (sym same))) out

      -- ---- one step of the run

      module _ (scenario : List (ℕ × ℕ)) (schedule : List Place) (fits : Fits table scenario) (legal : Legal table 1 scenario schedule)
          (release : release_of scenario e.job ≡ min (start_for table e t) (job_at table e.job).rmax)
          (cost : cost_of scenario e.job ≡ t - start_for table e t)
          (late : (x : ℕ) → x < length jobs → is_member x step.target.set.members ≡ false → min t (job_at table x).rmax ≤ release_of scenario x)
          (reached : Reaches jobs scenario schedule step.source.set.members (min (start_for table e t) (first_core step.source).hi)) where
        turn : IsTurnAt jobs scenario schedule step.source.set.members (min (start_for table e t) (first_core step.source).hi) e.job (start_for table e t)
        turn = record {
          is_job = facts.is_job;
          outside = facts.outside;
          not_before = omega arith;
          released = omega (arith, release);
          quiet = quiet;
          first = first;
        }
          where
            -- where the core waits for s, no job outside the set is there before
            quiet : (x : ℕ) → x < length jobs → is_member x step.source.set.members ≡ false → min (start_for table e t) (first_core step.source).hi < start_for table e t →
                start_for table e t ≤ release_of scenario x
            quiet x is out waits = by (cases_eq x e.job)
              where
                bound : e.window.lst ≤ (job_at table x).rmax
                bound = facts.quiet x is out (omega (arith, waits, times.not_late))

                by : (x ≡ e.job) ⊎ (x ≢ e.job) → start_for table e t ≤ release_of scenario x
                by (inl same) = rw same (omega (arith, release, times.not_late, rw same at bound))
                by (inr other) = omega (arith, late x is (other_outside x other out), bound, times.not_late, times.ends)

            first : (x : ℕ) → x < length jobs → is_member x step.source.set.members ≡ false → has_urgency_over table x e.job ≡ true → start_for table e t < release_of scenario x
            first x is out urgent = by (cases_eq x e.job)
              where
                by : (x ≡ e.job) ⊎ (x ≢ e.job) → start_for table e t < release_of scenario x
                by (inl same) = absurd (false≢true (sym (urgent_itself (job_at table e.job)) ∙ ap (λ y. has_urgency_over table y e.job) (sym same) ∙ urgent))
                by (inr other) = omega (arith, late x is (other_outside x other out), facts.overtaken x is out urgent, times.not_late, times.ends, times.at_least, times.some_cost)

        step_starts : start_of schedule e.job ≡ start_for table e t
        step_starts = starts_then jobs scenario schedule is_table fits legal step.source.set.members (min (start_for table e t) (first_core step.source).hi) e.job (start_for table e t) reached turn

        step_reaches : Reaches jobs scenario schedule step.target.set.members t
        step_reaches =
            let r = reaches_next jobs scenario schedule is_table fits legal step.source.set.members (min (start_for table e t) (first_core step.source).hi) e.job (start_for table e t) reached turn in
            let ends : start_for table e t + cost_of scenario e.job ≡ t = omega (arith, cost, times.ends) in
            subst (λ set. Reaches jobs scenario schedule set t) (sym step.adds) (subst (λ u. Reaches jobs scenario schedule (with_number e.job step.source.set.members) u) ends r)

  -- ---- the edge before

  -- the walk from an edge out of level k + 1 goes on at this edge, and at this time
  pub record Back (k : ℕ) (e : Edge) (step : StepAt (suc k) e) (t : ℕ) : Type 0 where
    pub edge : Edge
    pub time : ℕ
    pub before : StepAt k edge
    pub in_edge : holds (edge_finish table edge) time ≡ true
    pub target : before.target ≡ step.source
    pub time_at : time ≡ min (start_for table e t) (core_free_by (level_in graph (suc k)) e.from)
    pub found : edge_finishing_at table (level_in graph (suc k)) e.from (min (start_for table e t) (core_free_by (level_in graph (suc k)) e.from)) ≡ Some edge
    pub time_is : time ≡ min (start_for table e t) (first_core step.source).hi
    pub walk : walk_back table graph (suc k) e t ≡ settled_job table e t ∷ walk_back table graph k edge time

  pub back : (k : ℕ) → suc k < length jobs → (e : Edge) (step : StepAt (suc k) e) (t : ℕ) → holds (edge_finish table e) t ≡ true → Back k e step t
  back k below e step t in_edge = record {
    edge = f.value;
    time = min (start_for table e t) (core_free_by (level_in graph (suc k)) e.from);
    before = f.is;
    in_edge = parts.1;
    target = one-at (level_in graph (suc k)).states f.value.to e.from f.is.target step.source f.is.to_there (eqb-true f.value.to e.from parts.0) step.from_there;
    time_at = refl;
    found = f.found;
    time_is = ap (min (start_for table e t)) free;
    walk = ap (λ o. settled_job table e t ∷ option_map_or (λ g. walk_back table graph k g (min (start_for table e t) (core_free_by (level_in graph (suc k)) e.from))) o []) f.found;
  }
    where
      free : core_free_by (level_in graph (suc k)) e.from ≡ (first_core step.source).hi
      free = ap (λ o. option_map_or (λ (s : SystemState). (first_core s).hi) o 0) step.from_there

      held : holds (first_core step.source) (min (start_for table e t) (core_free_by (level_in graph (suc k)) e.from)) ≡ true
      held = holds-from (first_core step.source) (min (start_for table e t) (core_free_by (level_in graph (suc k)) e.from)) (omega (arith, free, (times (suc k) below e step t in_edge).free)) (omega (arith, free))

      f : IsFound (StepAt k) (λ f. (f.to == e.from) && holds (edge_finish table f) (min (start_for table e t) (core_free_by (level_in graph (suc k)) e.from))) (level_in graph (suc k)).edges
      f = found_where (StepAt k) (λ f. (f.to == e.from) && holds (edge_finish table f) (min (start_for table e t) (core_free_by (level_in graph (suc k)) e.from))) (level_in graph (suc k)).edges
          (exact.covers k e.from (min (start_for table e t) (core_free_by (level_in graph (suc k)) e.from)) step.source (omega (arith, below)) step.from_there held)
          (exact.steps k (omega (arith, below)))

      parts : ((f.value.to == e.from) ≡ true) × (holds (edge_finish table f.value) (min (start_for table e t) (core_free_by (level_in graph (suc k)) e.from)) ≡ true)
      parts = and_parts (f.value.to == e.from) (holds (edge_finish table f.value) (min (start_for table e t) (core_free_by (level_in graph (suc k)) e.from))) f.passes

  -- ---- what the walk settles

  -- A job that is settled is one of the target's, and its release and cost are in its intervals
  pub record IsSettled (k : ℕ) (e : Edge) (step : StepAt k e) (x : ℕ) (v : ℕ × ℕ) : Type 0 where
    pub is_job : x < length jobs
    pub member : is_member x step.target.set.members ≡ true
    pub can : CanRunAs (job_at table x) v.0 v.1

  own_settled : (k : ℕ) (below : k < length jobs) (e : Edge) (step : StepAt k e) (t : ℕ) → holds (edge_finish table e) t ≡ true →
      (x : ℕ) (v : ℕ × ℕ) → x ≡ e.job → (settled_job table e t).1 ≡ v → IsSettled k e step x v
  own_settled k below e step t in_edge x v same is = record {
    is_job = omega (arith, same, (facts k below e step).is_job);
    member = ap (λ y. is_member y step.target.set.members) same ∙ own_member k below e step t in_edge;
    can = subst (λ y. CanRunAs (job_at table y) v.0 v.1) (sym same) (subst (λ (w : ℕ × ℕ). CanRunAs (job_at table e.job) w.0 w.1) is (settled_job-fits k below e step t in_edge));
  }

  pub lookup-first : (e : Edge) (t x : ℕ) (rest : List (ℕ × (ℕ × ℕ))) → x ≡ e.job → lookup (nat_eq x) (settled_job table e t ∷ rest) ≡ Some (settled_job table e t).1
  lookup-first e t x rest same = cond-true (nat_eq x e.job) (Some (settled_job table e t).1) (lookup (nat_eq x) rest) (eq-eqb x e.job same)

  lookup-later : (e : Edge) (t x : ℕ) (rest : List (ℕ × (ℕ × ℕ))) → x ≢ e.job → lookup (nat_eq x) (settled_job table e t ∷ rest) ≡ lookup (nat_eq x) rest
  lookup-later e t x rest other = cond-false (nat_eq x e.job) (Some (settled_job table e t).1) (lookup (nat_eq x) rest) (ne_eqb x e.job other)

  pub walk-settles : (k : ℕ) (below : k < length jobs) (e : Edge) (step : StepAt k e) (t : ℕ) → holds (edge_finish table e) t ≡ true →
      (x : ℕ) (v : ℕ × ℕ) → lookup (nat_eq x) (walk_back table graph k e t) ≡ Some v → IsSettled k e step x v
  walk-settles zero below e step t in_edge x v found = by (cases_eq x e.job)
    where
      by : (x ≡ e.job) ⊎ (x ≢ e.job) → IsSettled 0 e step x v
      by (inl same) = own_settled 0 below e step t in_edge x v same (same_Some (settled_job table e t).1 v (sym (lookup-first e t x [] same) ∙ found))
      by (inr other) = absurd (none-some v (sym (lookup-later e t x [] other) ∙ found))
  walk-settles (suc k) below e step t in_edge x v found = by (cases_eq x e.job) (walk-settles k (omega (arith, below)) b.edge b.before b.time b.in_edge x v)
    where
      b : Back k e step t
      b = back k below e step t in_edge

      by : (x ≡ e.job) ⊎ (x ≢ e.job) → (lookup (nat_eq x) (walk_back table graph k b.edge b.time) ≡ Some v → IsSettled k b.edge b.before x v) → IsSettled (suc k) e step x v
      by (inl same) rest = own_settled (suc k) below e step t in_edge x v same (same_Some (settled_job table e t).1 v (sym (lookup-first e t x (walk_back table graph k b.edge b.time) same) ∙ sym (ap (lookup (nat_eq x)) b.walk) ∙ found))
      by (inr other) rest =
          let r = rest (sym (lookup-later e t x (walk_back table graph k b.edge b.time) other) ∙ sym (ap (lookup (nat_eq x)) b.walk) ∙ found) in
          record {
            is_job = r.is_job;
            member = earlier_member (suc k) below e step t in_edge x (ap (λ (s : SystemState). is_member x s.set.members) (sym b.target) ∙ r.member);
            can = r.can;
          }

  -- ---- the run

  module _ (scenario : List (ℕ × ℕ)) (schedule : List Place) (fits : Fits table scenario) (legal : Legal table 1 scenario schedule) where
    -- the scenario has what the walk settles
    abbrev pub Told : ℕ → Edge → ℕ → Type 0
    Told k e t = (x : ℕ) (v : ℕ × ℕ) → lookup (nat_eq x) (walk_back table graph k e t) ≡ Some v → (release_of scenario x ≡ v.0) × (cost_of scenario x ≡ v.1)

    -- no other job is released before t, unless it has to be
    abbrev pub IsLate : List ℕ → ℕ → Type 0
    IsLate set t = (x : ℕ) → x < length jobs → is_member x set ≡ false → min t (job_at table x).rmax ≤ release_of scenario x

    pub record Runs (k : ℕ) (e : Edge) (step : StepAt k e) (t : ℕ) : Type 0 where
      pub starts : start_of schedule e.job ≡ start_for table e t
      pub finishes : finish_of scenario schedule e.job ≡ t
      pub reaches : Reaches jobs scenario schedule step.target.set.members t

    pub walk-runs : (k : ℕ) (below : k < length jobs) (e : Edge) (step : StepAt k e) (t : ℕ) → holds (edge_finish table e) t ≡ true →
        Told k e t → IsLate step.target.set.members t → Runs k e step t
    walk-runs zero below e step t in_edge told late =
        let own = told e.job (settled_job table e t).1 (lookup-first e t e.job [] refl) in
        let first = exact.begins e.from step.source step.from_there in
        let reached : Reaches jobs scenario schedule step.source.set.members (min (start_for table e t) (first_core step.source).hi) =
        record {
          done = λ x is there. absurd (false≢true (sym (ap (is_member x) first.0) ∙ there));
          waits = λ x is out. omega (arith, first.1);
        } in
        record {
          starts = step_starts 0 below e step t in_edge scenario schedule fits legal own.0 own.1 late reached;
          finishes = omega (arith, step_starts 0 below e step t in_edge scenario schedule fits legal own.0 own.1 late reached, own.1, (times 0 below e step t in_edge).ends);
          reaches = step_reaches 0 below e step t in_edge scenario schedule fits legal own.0 own.1 late reached;
        }
    walk-runs (suc k) below e step t in_edge told late =
        let r = walk-runs k (omega (arith, below)) b.edge b.before b.time b.in_edge told_before late_before in
        record {
          starts = step_starts (suc k) below e step t in_edge scenario schedule fits legal own.0 own.1 late (reached r);
          finishes = omega (arith, step_starts (suc k) below e step t in_edge scenario schedule fits legal own.0 own.1 late (reached r), own.1, (times (suc k) below e step t in_edge).ends);
          reaches = step_reaches (suc k) below e step t in_edge scenario schedule fits legal own.0 own.1 late (reached r);
        }
      where
        b : Back k e step t
        b = back k below e step t in_edge

        own : (release_of scenario e.job ≡ (settled_job table e t).1.0) × (cost_of scenario e.job ≡ (settled_job table e t).1.1)
        own = told e.job (settled_job table e t).1 (ap (lookup (nat_eq e.job)) b.walk ∙ lookup-first e t e.job (walk_back table graph k b.edge b.time) refl)

        told_before : Told k b.edge b.time
        told_before x v found = by (cases_eq x e.job)
          where
            by : (x ≡ e.job) ⊎ (x ≢ e.job) → (release_of scenario x ≡ v.0) × (cost_of scenario x ≡ v.1)
            by (inl same) =
                let r = walk-settles k (omega (arith, below)) b.edge b.before b.time b.in_edge x v found in
                absurd (false≢true (sym (facts (suc k) below e step).outside ∙ ap (λ y. is_member y step.source.set.members) (sym same) ∙ ap (λ (s : SystemState). is_member x s.set.members) (sym b.target) ∙ r.member))
            by (inr other) = told x v (ap (lookup (nat_eq x)) b.walk ∙ lookup-later e t x (walk_back table graph k b.edge b.time) other ∙ found)

        late_before : IsLate b.before.target.set.members b.time
        late_before x is out = by (cases_eq x e.job)
          where
            in_source : is_member x step.source.set.members ≡ false
            in_source = ap (λ (s : SystemState). is_member x s.set.members) (sym b.target) ∙ out

            by : (x ≡ e.job) ⊎ (x ≢ e.job) → min b.time (job_at table x).rmax ≤ release_of scenario x
            by (inl same) = rw same (omega (arith, own.0, b.time_is))
            by (inr other) = omega (arith, late x is (other_outside (suc k) below e step t in_edge x other in_source), b.time_is, (times (suc k) below e step t in_edge).ends)

        reached : Runs k b.edge b.before b.time → Reaches jobs scenario schedule step.source.set.members (min (start_for table e t) (first_core step.source).hi)
        reached r =
            subst (λ u. Reaches jobs scenario schedule step.source.set.members u) b.time_is
            (subst (λ (s : SystemState). Reaches jobs scenario schedule s.set.members b.time) b.target r.reaches)
