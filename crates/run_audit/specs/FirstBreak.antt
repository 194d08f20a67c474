-- The first rule that a schedule breaks.
--     Breaks table m scenario schedule rule j t          the rule is broken at time t, by job j
--     IsFirstBreak table m scenario schedule broken      no earlier rule is broken, and this one nowhere before
--     Audits table m scenario schedule answer            `None` at a legal schedule, and otherwise the first break
use Rattle.std.specs.Prelude.{◌≡◌, ◌≢◌, ℕ, List, ◌≤◌, ◌<◌, ◌⊎◌, length, IsFalse, Option, Some, None}
use Rattle.job_model.specs.Table.{Table, has_urgency_over}
use Rattle.run_meaning.specs.declared.places.Place.{Place}
use Rattle.run_meaning.specs.Ready.{start_of, core_of, ready_time, IsRunning}
use Rattle.run_meaning.specs.Legal.{Legal, IsBusy}
use Rattle.run_audit.specs.declared.broken.Rule.{Rule}
use Rattle.run_audit.specs.declared.broken.Rule.TheVariants.{L0, L1, L2, L3}
use Rattle.run_audit.specs.declared.broken.Break.{Break}

-- the place of a rule in their order
abbrev pub rule_index : Rule → ℕ
rule_index L0 = 0
rule_index L1 = 1
rule_index L2 = 2
rule_index L3 = 3

module _ (table : Table) (m : ℕ) (scenario : List (ℕ × ℕ)) (schedule : List Place) where
  -- another job runs on the core of job j as j starts; of two that start at once it is the one of the smaller number
  pub record IsInterrupted (j : ℕ) : Type 0 where
    pub by : ℕ
    pub is_job : by < length table.jobs
    pub other : by ≢ j
    pub same_core : core_of schedule by ≡ core_of schedule j
    pub running : IsRunning scenario schedule by (start_of schedule j)
    pub first : start_of schedule by ≡ start_of schedule j → by < j

  pub record HasIdleCore (t : ℕ) : Type 0 where
    pub core : ℕ
    pub in_range : core < m
    pub idle : ¬ IsBusy table scenario schedule core t

  -- a job starts at t that is not more urgent than job j
  pub record IsPassedOver (j t : ℕ) : Type 0 where
    pub by : ℕ
    pub is_job : by < length table.jobs
    pub starts : start_of schedule by ≡ t
    pub not_urgent : IsFalse (has_urgency_over table by j)

  abbrev pub Breaks : Rule → ℕ → ℕ → Type 0
  Breaks L0 j t = (t ≡ start_of schedule j) × (m ≤ core_of schedule j)
  Breaks L1 j t = (t ≡ start_of schedule j) × (start_of schedule j < ready_time table scenario schedule j)
  Breaks L2 j t = (t ≡ start_of schedule j) × IsInterrupted j
  Breaks L3 j t = (ready_time table scenario schedule j ≤ t) × (t < start_of schedule j) × (HasIdleCore t ⊎ IsPassedOver j t)

  pub record IsFirstBreak (broken : Break) : Type 0 where
    pub is_job : broken.job < length table.jobs
    pub there : Breaks broken.rule broken.job broken.time
    pub no_earlier_rule : (rule : Rule) (j t : ℕ) → rule_index rule < rule_index broken.rule → j < length table.jobs → ¬ Breaks rule j t
    pub no_earlier_time : (j t : ℕ) → j < length table.jobs → Breaks broken.rule j t → broken.time ≤ t
    pub no_earlier_job : (j : ℕ) → j < length table.jobs → Breaks broken.rule j broken.time → broken.job ≤ j

  abbrev pub Audits : Option Break → Type 0
  Audits None = Legal table m scenario schedule
  Audits (Some broken) = IsFirstBreak broken
