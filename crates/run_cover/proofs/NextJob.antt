-- The next job of a legal run, by (start, urgency): what the other parts of the proof use of it.
--     IsRun table m scenario schedule         a legal run
--     IsNextJob table schedule jobs j         these jobs have started, and j is the next
--     least_cost, most_cost                   what it costs
--     ready-le, predecessor_finished          when jobs are ready
--     core_idle, own_core_idle                the earlier jobs on its core have finished
--     last-le                                 the last of the earlier jobs starts no later
use Rattle.std.proofs.Common.{◌≡◌, ◌≢◌, ℕ, ◌<◌, ◌≤◌, true, false, List, length, map, get_or, ap, arith, ⊎_elim, sym, ◌∙◌}
use Rattle.std.specs.Prelude.{IsTrue}
use Rattle.std.proofs.lemmas.Bool.{false≢true}
use Rattle.job_sets.specs.Subset.{is_member}
use Rattle.job_sets.proofs.Members.{is_member-at}
use Rattle.lists.specs.Numbers.{greatest}
use Rattle.job_model.specs.Table.{Table, IsTable, job_at, predecessors, has_urgency_over}
use Rattle.job_model.specs.Scenario.{Fits, release_of, cost_of}
use Rattle.run_meaning.specs.declared.places.Place.{Place}
use Rattle.run_meaning.specs.Ready.{start_of, core_of, finish_of, ready_time}
use Rattle.run_meaning.specs.Legal.{Legal}
use Rattle.run_meaning.proofs.StartsAgree.{cost_positive, ready_by}
use Rattle.start_windows.proofs.SomeEligible.{greatest-member}
use Rattle.run_cover.specs.Covers.{core_end, last_start}
use Rattle.run_cover.proofs.CoreEnds.{core_end-le, last_start-le}

-- A legal run of the table on m cores.
pub record IsRun (table : Table) (m : ℕ) (scenario : List (ℕ × ℕ)) (schedule : List Place) : Type 0 where
  pub is_table : IsTable table
  pub fits : Fits table scenario
  pub legal : Legal table m scenario schedule

-- These jobs have started, job j is the next, and the others come later.
pub record IsNextJob (table : Table) (schedule : List Place) (jobs : List ℕ) (j : ℕ) : Type 0 where
  pub is_job : j < length table.jobs
  pub outside : is_member j jobs ≡ false
  pub of_table : (i : ℕ) → is_member i jobs ≡ true → i < length table.jobs
  pub no_later : (i : ℕ) → is_member i jobs ≡ true → start_of schedule i ≤ start_of schedule j
  pub others_later : (x : ℕ) → x < length table.jobs → is_member x jobs ≡ false → x ≢ j → start_of schedule j ≤ start_of schedule x
  pub less_urgent : (x : ℕ) → x < length table.jobs → is_member x jobs ≡ false → x ≢ j → start_of schedule x ≡ start_of schedule j → IsTrue (has_urgency_over table j x)
  pub after_predecessors : (i : ℕ) → is_member i (predecessors table j) ≡ true → is_member i jobs ≡ true

module _ {table : Table} {m : ℕ} {scenario : List (ℕ × ℕ)} {schedule : List Place} (run : IsRun table m scenario schedule) where
  pub ready-le : (x t : ℕ) → release_of scenario x ≤ t → ((i : ℕ) → is_member i (predecessors table x) ≡ true → finish_of scenario schedule i ≤ t) → ready_time table scenario schedule x ≤ t
  ready-le x t released finished =
      ready_by table scenario run.is_table run.fits schedule x t released (λ k below. finished (get_or (predecessors table x) k 0) (is_member-at (predecessors table x) k 0 below))

  module _ {jobs : List ℕ} {j : ℕ} (is_next : IsNextJob table schedule jobs j) where
    pub least_cost : (job_at table j).cmin ≤ cost_of scenario j
    least_cost = (run.fits.each j is_next.is_job).at_least

    pub most_cost : cost_of scenario j ≤ (job_at table j).cmax
    most_cost = (run.fits.each j is_next.is_job).at_most

    pub predecessor_finished : (i : ℕ) → is_member i (predecessors table j) ≡ true → finish_of scenario schedule i ≤ start_of schedule j
    predecessor_finished i edge =
        let ready : ready_time table scenario schedule j ≤ start_of schedule j = run.legal.after_ready j is_next.is_job in
        let h : finish_of scenario schedule i ≤ greatest (map (finish_of scenario schedule) (predecessors table j)) = greatest-member (finish_of scenario schedule) i (predecessors table j) edge in
        omega (arith, ready, h)

    -- the earlier jobs on the same core have finished, since no cost is 0
    pub core_idle : (i : ℕ) → is_member i jobs ≡ true → core_of schedule i ≡ core_of schedule j → finish_of scenario schedule i ≤ start_of schedule j
    core_idle i there on_core = ⊎_elim
        (λ (h : finish_of scenario schedule i ≤ start_of schedule j). h)
        (λ (h : finish_of scenario schedule j ≤ start_of schedule i).
        absurd (omega (arith, h, is_next.no_later i there, cost_positive table scenario run.is_table run.fits j is_next.is_job)))
        (run.legal.apart i j (is_next.of_table i there) is_next.is_job (λ e. false≢true (sym is_next.outside ∙ ap (λ k. is_member k jobs) (sym e) ∙ there)) on_core)

    pub own_core_idle : core_end scenario schedule jobs (core_of schedule j) ≤ start_of schedule j
    own_core_idle = core_end-le scenario schedule jobs (core_of schedule j) (start_of schedule j) core_idle

    pub last-le : last_start schedule jobs ≤ start_of schedule j
    last-le = last_start-le scenario schedule jobs (start_of schedule j) is_next.no_later
