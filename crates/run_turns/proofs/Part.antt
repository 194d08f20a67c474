-- A run in part, and that one more dispatch keeps it.
--     Adds ..                                          the places with that job's
--     part_none                                        at first it holds
--     part_more                                        a turn keeps the part
--     Legal-from_part, LowestIdle-from_part            where all jobs are done, the part is a legal run
use Rattle.std.proofs.Common.{◌≡◌, ◌≢◌, ℕ, ◌+◌, ◌<◌, ◌≤◌, ◌⊎◌, inl, inr, Bool, true, false, List, [], ◌∷◌, length, map, get_or, set, refl, sym, ap, ◌∙◌, subst, arith}
use Rattle.std.specs.Prelude.{IsTrue}
use Rattle.std.specs.List.{AllByRecursion}
use Rattle.std.specs.declared.cmp.Ordering.TheVariants.{Equal}
use Rattle.std.specs.Ordering.{ordering_then, nat_cmp, is_lt, on}
use Rattle.std.proofs.lemmas.Bool.{cases_lt, cases_eq}
use Rattle.std.proofs.lemmas.List.{length-set, get_or-set_same, get_or-set_other}
use Rattle.std.proofs.lemmas.Cmp.{tied_itself, nat_cmp_total}
use Rattle.lists.specs.Numbers.{greatest}
use Rattle.job_model.specs.Urgency.{urgency_cmp}
use Rattle.job_model.specs.Table.{Table, IsTable, job_at, predecessors, has_urgency_over}
use Rattle.job_model.specs.Scenario.{Fits, cost_of, release_of}
use Rattle.run_meaning.specs.declared.places.Place.{Place}
use Rattle.run_meaning.specs.Ready.{start_of, core_of, finish_of, ready_time, no_place}
use Rattle.run_meaning.specs.Order.{starts_earlier}
use Rattle.run_meaning.specs.Legal.{Legal, IsTaken, LowestIdle}
use Rattle.run_turns.specs.Parts.{IsInUse, CanStart, IsHeld, IsTakenBefore, IsPart, IsTurn}
use Rattle.run_meaning.proofs.StartsAgree.{cost_positive}
use Rattle.run_meaning.proofs.Sorted.{earlier-start, earlier_one_way}
use Rattle.lists.proofs.Elements.{recursion_weaker}
use Rattle.lists.proofs.Orderings.{true≢false}

either : (b : Bool) → (b ≡ true) ⊎ (b ≡ false)
either true = inl refl
either false = inr refl

-- the jobs and the places after job j's dispatch
pub record Adds (done : ℕ → Bool) (schedule : List Place) (j core t : ℕ) (done_more : ℕ → Bool) (more : List Place) : Type 0 where
  pub same_length : length more ≡ length schedule
  pub starts : start_of more j ≡ t
  pub there : core_of more j ≡ core
  pub is_done : done_more j ≡ true
  pub other_done : (i : ℕ) → i ≢ j → done_more i ≡ done i
  pub other_start : (i : ℕ) → i ≢ j → start_of more i ≡ start_of schedule i
  pub other_core : (i : ℕ) → i ≢ j → core_of more i ≡ core_of schedule i

-- where the place of a job is written
pub Adds-set : (done : ℕ → Bool) (schedule : List Place) (b core t : ℕ) → b < length schedule →
    (more : ℕ → Bool) → more b ≡ true → ((i : ℕ) → i ≢ b → more i ≡ done i) → Adds done schedule b core t more (set schedule b (record { start = t; core = core }))
Adds-set done schedule b core t below more is_done other_done = record {
  same_length = length-set schedule b place;
  starts = ap (λ p. p.start) here;
  there = ap (λ p. p.core) here;
  is_done = is_done;
  other_done = other_done;
  other_start = λ i differ. ap (λ p. p.start) (get_or-set_other schedule b i place no_place differ);
  other_core = λ i differ. ap (λ p. p.core) (get_or-set_other schedule b i place no_place differ);
}
  where
    place : Place
    place = record { start = t; core = core }

    here : get_or (set schedule b place) b no_place ≡ place
    here = get_or-set_same schedule b place no_place below

-- at first no job is done
pub part_none : (table : Table) (m : ℕ) (scenario : List (ℕ × ℕ)) (done : ℕ → Bool) (schedule : List Place) → length schedule ≡ length table.jobs →
    ((j : ℕ) → j < length table.jobs → done j ≡ false) → IsPart table m scenario done schedule 0
part_none table m scenario done schedule e none = record {
  one_each = e;
  closed = λ j is_job is_done. absurd (never j is_job is_done);
  by_clock = λ j is_job is_done. absurd (never j is_job is_done);
  on_cores = λ j is_job is_done. absurd (never j is_job is_done);
  after_ready = λ j is_job is_done. absurd (never j is_job is_done);
  apart = λ i j is_one is_job one_done is_done. absurd (never j is_job is_done);
  held_back = λ j t is_job is_done. absurd (never j is_job is_done);
  lowest = λ j c is_job is_done. absurd (never j is_job is_done);
  waiting = λ j t can less. absurd (omega (arith, less));
  at_clock = λ j can i is_job is_done. absurd (never i is_job is_done);
}
  where
    never : (j : ℕ) → j < length table.jobs → done j ≡ true → ⊥
    never j is_job is_done = true≢false (sym is_done ∙ none j is_job)

map_same : (f g : ℕ → ℕ) (xs : List ℕ) → AllByRecursion (λ x. f x ≡ g x) xs → map f xs ≡ map g xs
map_same f g [] all = refl
map_same f g (x ∷ xs) all = cc (map_same f g xs all.1, all.0)

-- of each two places by (start, urgency)
pub earlier-urgent : (table : Table) (schedule : List Place) (i j : ℕ) → start_of schedule i ≡ start_of schedule j → IsTrue (has_urgency_over table i j) → starts_earlier table schedule i j ≡ true
earlier-urgent table schedule i j e urgent =
    let same : nat_cmp (start_of schedule i) (start_of schedule j) ≡ Equal = ap (λ s. nat_cmp s (start_of schedule j)) e ∙ tied_itself nat_cmp_total (start_of schedule j) in
    ap (λ o. is_lt (ordering_then o (on (job_at table) urgency_cmp i j))) same ∙ urgent

pub earlier_same : (table : Table) (one other : List Place) (i j : ℕ) → start_of one i ≡ start_of other i → start_of one j ≡ start_of other j → starts_earlier table one i j ≡ starts_earlier table other i j
earlier_same table one other i j e f =
    ap (λ s. is_lt (ordering_then (nat_cmp s (start_of one j)) (on (job_at table) urgency_cmp i j))) e
    ∙ ap (λ s. is_lt (ordering_then (nat_cmp (start_of other i) s) (on (job_at table) urgency_cmp i j))) f

module _ (table : Table) (m : ℕ) (scenario : List (ℕ × ℕ)) (is_table : IsTable table) (fits : Fits table scenario) where
  module _ (done : ℕ → Bool) (schedule : List Place) (clock : ℕ) (part : IsPart table m scenario done schedule clock) (b core u : ℕ) (turn : IsTurn table m scenario done schedule clock b core u)
      (done_more : ℕ → Bool) (more : List Place) (adds : Adds done schedule b core u done_more more) where
    other : (i : ℕ) → done i ≡ true → i ≢ b
    other i h e = true≢false (sym h ∙ ap done e ∙ turn.can_start.waits)

    still_done : (i : ℕ) → done i ≡ true → done_more i ≡ true
    still_done i h = adds.other_done i (other i h) ∙ h

    start_kept : (i : ℕ) → done i ≡ true → start_of more i ≡ start_of schedule i
    start_kept i h = adds.other_start i (other i h)

    core_kept : (i : ℕ) → done i ≡ true → core_of more i ≡ core_of schedule i
    core_kept i h = adds.other_core i (other i h)

    finish_kept : (i : ℕ) → done i ≡ true → finish_of scenario more i ≡ finish_of scenario schedule i
    finish_kept i h = ap (λ s. s + cost_of scenario i) (start_kept i h)

    ready_kept : (j : ℕ) → AllByRecursion (λ i. done i ≡ true) (predecessors table j) → ready_time table scenario more j ≡ ready_time table scenario schedule j
    ready_kept j after = ap (λ xs. greatest (release_of scenario j ∷ xs))
        (map_same (finish_of scenario more) (finish_of scenario schedule) (predecessors table j)
        (recursion_weaker (λ i. done i ≡ true) (λ i. finish_of scenario more i ≡ finish_of scenario schedule i) finish_kept (predecessors table j) after))

    -- each job that is done now is b, or was done
    by_done : (i : ℕ) → done_more i ≡ true → (i ≡ b) ⊎ (done i ≡ true)
    by_done i h = by (cases_eq i b)
      where
        by : (i ≡ b) ⊎ (i ≢ b) → (i ≡ b) ⊎ (done i ≡ true)
        by (inl e) = inl e
        by (inr differ) = inr (sym (adds.other_done i differ) ∙ h)

    in_use_kept : (c t : ℕ) → IsInUse table m scenario done schedule c t → IsInUse table m scenario done_more more c t
    in_use_kept c t busy = record {
      by = busy.by;
      is_job = busy.is_job;
      is_done = still_done busy.by busy.is_done;
      there = core_kept busy.by busy.is_done ∙ busy.there;
      running = (omega (arith, start_kept busy.by busy.is_done, busy.running.0), omega (arith, start_kept busy.by busy.is_done, busy.running.1));
    }

    b_job : b < length table.jobs
    b_job = turn.can_start.is_job

    b_costs : 1 ≤ cost_of scenario b
    b_costs = cost_positive table scenario is_table fits b b_job

    -- where b is among the jobs, their greatest finish is that of b or later
    without_b : (xs : List ℕ) → AllByRecursion (λ i. done_more i ≡ true) xs → AllByRecursion (λ i. done i ≡ true) xs ⊎ (u < greatest (map (finish_of scenario more) xs))
    without_b [] all = inl tt
    without_b (x ∷ xs) all = first (by_done x all.0) (without_b xs all.1)
      where
        first : (x ≡ b) ⊎ (done x ≡ true) → AllByRecursion (λ i. done i ≡ true) xs ⊎ (u < greatest (map (finish_of scenario more) xs)) →
            AllByRecursion (λ i. done i ≡ true) (x ∷ xs) ⊎ (u < greatest (map (finish_of scenario more) (x ∷ xs)))
        first (inl e) rest = inr (omega (arith, ap (finish_of scenario more) e, b_costs, adds.starts))
        first (inr h) (inl rest) = inl (h, rest)
        first (inr h) (inr late) = inr (omega (arith, late))

    -- what can start by u after the turn could before it
    could_start : (j t : ℕ) → t ≤ u → CanStart table m scenario done_more more j t → CanStart table m scenario done schedule j t
    could_start j t within can = by (without_b (predecessors table j) can.after)
      where
        by : AllByRecursion (λ i. done i ≡ true) (predecessors table j) ⊎ (u < greatest (map (finish_of scenario more) (predecessors table j))) → CanStart table m scenario done schedule j t
        by (inl after) = record {
          is_job = can.is_job;
          waits = sym (adds.other_done j (λ e. true≢false (sym adds.is_done ∙ sym (ap done_more e) ∙ can.waits))) ∙ can.waits;
          after = after;
          ready = omega (arith, can.ready, ready_kept j after);
        }
        by (inr late) = absurd (omega (arith, late, within, can.ready))

    -- before u each job that can start is held back
    held_before : (j t : ℕ) → CanStart table m scenario done schedule j t → t < u → IsHeld table m scenario done schedule j t
    held_before j t can less = by (cases_lt t clock)
      where
        by : (t < clock) ⊎ (clock ≤ t) → IsHeld table m scenario done schedule j t
        by (inl early) = part.waiting j t can early
        by (inr late) = record {
          all_busy = turn.earliest j t late less can;
          urgent_first = λ i is_job is_done starts.
              let now : t ≡ clock = omega (arith, late, starts, part.by_clock i is_job is_done) in
              part.at_clock j (subst (λ s. CanStart table m scenario done schedule j s) now can) i is_job is_done (starts ∙ now);
        }

    held_kept : (j t : ℕ) → IsHeld table m scenario done schedule j t → t < u → IsHeld table m scenario done_more more j t
    held_kept j t held less = record {
      all_busy = λ c below. in_use_kept c t (held.all_busy c below);
      urgent_first = λ i is_job is_done starts. by i is_job starts (by_done i is_done);
    }
      where
        by : (i : ℕ) → i < length table.jobs → start_of more i ≡ t → (i ≡ b) ⊎ (done i ≡ true) → IsTrue (has_urgency_over table i j)
        by i is_job starts (inl e) = absurd (omega (arith, ap (start_of more) e, adds.starts, starts, less))
        by i is_job starts (inr h) = held.urgent_first i is_job h (sym (start_kept i h) ∙ starts)

    -- what is done and starts at u is more urgent than what can start then
    urgent_at : (j : ℕ) → CanStart table m scenario done schedule j u → (i : ℕ) → i < length table.jobs → done i ≡ true → start_of schedule i ≡ u → IsTrue (has_urgency_over table i j)
    urgent_at j can i is_job is_done starts =
        let now : u ≡ clock = omega (arith, turn.not_before, starts, part.by_clock i is_job is_done) in
        part.at_clock j (subst (λ s. CanStart table m scenario done schedule j s) now can) i is_job is_done (starts ∙ now)

    -- what is done is dispatched before b
    all_earlier : (i : ℕ) → i < length table.jobs → done i ≡ true → starts_earlier table more i b ≡ true
    all_earlier i is_job is_done = by (cases_lt (start_of schedule i) u)
      where
        by : (start_of schedule i < u) ⊎ (u ≤ start_of schedule i) → starts_earlier table more i b ≡ true
        by (inl less) = earlier-start table more i b (omega (arith, less, start_kept i is_done, adds.starts))
        by (inr late) =
            let now : start_of schedule i ≡ u = omega (arith, late, turn.not_before, part.by_clock i is_job is_done) in
            earlier-urgent table more i b (start_kept i is_done ∙ now ∙ sym adds.starts) (urgent_at b turn.can_start i is_job is_done now)

    apart_from_b : (i : ℕ) → i < length table.jobs → done i ≡ true → core_of more i ≡ core_of more b → finish_of scenario more i ≤ start_of more b
    apart_from_b i is_job is_done same =
        omega (arith, adds.starts, finish_kept i is_done, turn.idle i is_job is_done (sym (core_kept i is_done) ∙ same ∙ adds.there))

    -- what b's place is like
    b_after_ready : ready_time table scenario more b ≤ start_of more b
    b_after_ready = omega (arith, ready_kept b turn.can_start.after, turn.can_start.ready, adds.starts)

    b_held : (t : ℕ) → ready_time table scenario more b ≤ t → t < start_of more b → IsHeld table m scenario done_more more b t
    b_held t ready less =
        let before : t < u = omega (arith, less, adds.starts) in
        let ready_before : ready_time table scenario schedule b ≤ t = omega (arith, ready, ready_kept b turn.can_start.after) in
        let can : CanStart table m scenario done schedule b t = record { is_job = b_job; waits = turn.can_start.waits; after = turn.can_start.after; ready = ready_before } in
        held_kept b t (held_before b t can before) before

    b_lowest : (c : ℕ) → c < core_of more b → IsTakenBefore table m scenario done_more more b c (start_of more b)
    b_lowest c less =
        let busy = turn.lower_busy c (omega (arith, less, adds.there)) in
        record {
          by = busy.by;
          is_job = busy.is_job;
          is_done = still_done busy.by busy.is_done;
          earlier = all_earlier busy.by busy.is_job busy.is_done;
          there = core_kept busy.by busy.is_done ∙ busy.there;
          running = (omega (arith, adds.starts, start_kept busy.by busy.is_done, busy.running.0), omega (arith, adds.starts, start_kept busy.by busy.is_done, busy.running.1));
        }

    lowest_kept : (j c : ℕ) → j < length table.jobs → done j ≡ true → c < core_of more j → IsTakenBefore table m scenario done_more more j c (start_of more j)
    lowest_kept j c is_job is_done less =
        let taken = part.lowest j c is_job is_done (omega (arith, less, core_kept j is_done)) in
        record {
          by = taken.by;
          is_job = taken.is_job;
          is_done = still_done taken.by taken.is_done;
          earlier = earlier_same table more schedule taken.by j (start_kept taken.by taken.is_done) (start_kept j is_done) ∙ taken.earlier;
          there = core_kept taken.by taken.is_done ∙ taken.there;
          running = (omega (arith, start_kept j is_done, start_kept taken.by taken.is_done, taken.running.0), omega (arith, start_kept j is_done, start_kept taken.by taken.is_done, taken.running.1));
        }

    held_still : (j t : ℕ) → j < length table.jobs → done j ≡ true → ready_time table scenario more j ≤ t → t < start_of more j → IsHeld table m scenario done_more more j t
    held_still j t is_job is_done ready less =
        let before : t < start_of schedule j = omega (arith, less, start_kept j is_done) in
        held_kept j t (part.held_back j t is_job is_done (omega (arith, ready, ready_kept j (part.closed j is_job is_done))) before)
        (omega (arith, before, part.by_clock j is_job is_done, turn.not_before))

    -- each field for b, and for what was done
    by_job : (P : ℕ → Type 0) → P b → ((j : ℕ) → j < length table.jobs → done j ≡ true → P j) → (j : ℕ) → j < length table.jobs → done_more j ≡ true → P j
    by_job P here others j is_job is_done = by (by_done j is_done)
      where
        by : (j ≡ b) ⊎ (done j ≡ true) → P j
        by (inl e) = subst P (sym e) here
        by (inr h) = others j is_job h

    after_kept : (j : ℕ) → AllByRecursion (λ i. done i ≡ true) (predecessors table j) → AllByRecursion (λ i. done_more i ≡ true) (predecessors table j)
    after_kept j after = recursion_weaker (λ i. done i ≡ true) (λ i. done_more i ≡ true) still_done (predecessors table j) after

    abbrev AreApart : ℕ → ℕ → Type 0
    AreApart i j = i ≢ j → core_of more i ≡ core_of more j → (finish_of scenario more i ≤ start_of more j) ⊎ (finish_of scenario more j ≤ start_of more i)

    apart_kept : (i j : ℕ) → i < length table.jobs → done i ≡ true → j < length table.jobs → done j ≡ true → AreApart i j
    apart_kept i j is_one one_done is_job is_done differ same =
        by (part.apart i j is_one is_job one_done is_done differ (sym (core_kept i one_done) ∙ same ∙ core_kept j is_done))
      where
        by : (finish_of scenario schedule i ≤ start_of schedule j) ⊎ (finish_of scenario schedule j ≤ start_of schedule i) → (finish_of scenario more i ≤ start_of more j) ⊎ (finish_of scenario more j ≤ start_of more i)
        by (inl h) = inl (omega (arith, h, start_kept i one_done, start_kept j is_done))
        by (inr h) = inr (omega (arith, h, start_kept i one_done, start_kept j is_done))

    -- a turn keeps the part
    pub part_more : IsPart table m scenario done_more more u
    part_more = record {
      one_each = adds.same_length ∙ part.one_each;
      closed = by_job (λ j. AllByRecursion (λ i. done_more i ≡ true) (predecessors table j)) (after_kept b turn.can_start.after) (λ j is_job is_done. after_kept j (part.closed j is_job is_done));
      by_clock = by_job (λ j. start_of more j ≤ u) (omega (arith, adds.starts)) (λ j is_job is_done. omega (arith, start_kept j is_done, part.by_clock j is_job is_done, turn.not_before));
      on_cores = by_job (λ j. core_of more j < m) (omega (arith, adds.there, turn.in_range)) (λ j is_job is_done. omega (arith, core_kept j is_done, part.on_cores j is_job is_done));
      after_ready = by_job (λ j. ready_time table scenario more j ≤ start_of more j) b_after_ready
          (λ j is_job is_done. omega (arith, start_kept j is_done, part.after_ready j is_job is_done, ready_kept j (part.closed j is_job is_done)));
      apart = λ i j is_one is_job one_done is_done.
          by_job (λ i. AreApart i j)
          (by_job (λ j. AreApart b j) (λ differ same. absurd (differ refl)) (λ j is_job is_done differ same. inr (apart_from_b j is_job is_done (sym same))) j is_job is_done)
          (λ i is_one one_done.
          by_job (λ j. AreApart i j) (λ differ same. inl (apart_from_b i is_one one_done same)) (λ j is_job is_done. apart_kept i j is_one one_done is_job is_done) j is_job is_done)
          i is_one one_done;
      held_back = λ j t is_job is_done. by_job (λ j. ready_time table scenario more j ≤ t → t < start_of more j → IsHeld table m scenario done_more more j t) (b_held t)
          (λ j is_job is_done. held_still j t is_job is_done) j is_job is_done;
      lowest = λ j c is_job is_done. by_job (λ j. c < core_of more j → IsTakenBefore table m scenario done_more more j c (start_of more j)) (b_lowest c)
          (λ j is_job is_done. lowest_kept j c is_job is_done) j is_job is_done;
      waiting = λ j t can less. held_kept j t (held_before j t (could_start j t (omega (arith, less)) can) less) less;
      at_clock = λ j can i is_job is_done. by_job (λ i. start_of more i ≡ u → IsTrue (has_urgency_over table i j))
          (λ starts. turn.most_urgent j (could_start j u (omega arith) can) (λ e. true≢false (sym adds.is_done ∙ sym (ap done_more e) ∙ can.waits)))
          (λ i is_job is_done starts. urgent_at j (could_start j u (omega arith) can) i is_job is_done (sym (start_kept i is_done) ∙ starts)) i is_job is_done;
    }

  module _ (done : ℕ → Bool) (schedule : List Place) (clock : ℕ) (part : IsPart table m scenario done schedule clock) (all_done : (j : ℕ) → j < length table.jobs → done j ≡ true) where
    -- where all jobs are done, the part is a legal run
    pub Legal-from_part : Legal table m scenario schedule
    Legal-from_part = record {
      one_each = part.one_each;
      on_cores = λ j is_job. part.on_cores j is_job (all_done j is_job);
      after_ready = λ j is_job. part.after_ready j is_job (all_done j is_job);
      apart = λ i j is_one is_job. part.apart i j is_one is_job (all_done i is_one) (all_done j is_job);
      held_back = λ j t is_job ready less.
          let held = part.held_back j t is_job (all_done j is_job) ready less in
          record {
            all_busy = λ c below. let busy = held.all_busy c below in record { by = busy.by; is_job = busy.is_job; there = busy.there; running = busy.running };
            urgent_first = λ i is_one starts. held.urgent_first i is_one (all_done i is_one) starts;
          };
    }

    not_itself : (i j : ℕ) → IsTrue (starts_earlier table schedule i j) → i ≢ j
    not_itself i j earlier e =
        true≢false (sym earlier ∙ ap (λ x. starts_earlier table schedule x j) e ∙ ap (λ x. starts_earlier table schedule j x) (sym e) ∙ earlier_one_way table schedule i j earlier)

    pub LowestIdle-from_part : LowestIdle table scenario schedule
    LowestIdle-from_part j is_job = record {
      idle = λ taken. idle taken
          (part.apart taken.by j taken.is_job is_job (all_done taken.by taken.is_job) (all_done j is_job) (not_itself taken.by j taken.earlier) taken.there);
      lowest = λ c less.
          let taken = part.lowest j c is_job (all_done j is_job) less in
          record { by = taken.by; is_job = taken.is_job; earlier = taken.earlier; there = taken.there; running = taken.running };
    }
      where
        idle : (taken : IsTaken table scenario schedule j (core_of schedule j) (start_of schedule j)) →
            (finish_of scenario schedule taken.by ≤ start_of schedule j) ⊎ (finish_of scenario schedule j ≤ start_of schedule taken.by) → ⊥
        idle taken (inl h) = omega (arith, h, taken.running.1)
        idle taken (inr h) = omega (arith, h, taken.running.0, cost_positive table scenario is_table fits j is_job)
