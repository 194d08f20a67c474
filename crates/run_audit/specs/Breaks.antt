-- Breaks, as they are found among the entries.
--     FindsWait entries m found      the first time at which a job waits although it need not, and the first such job there
--     FindsBreak entries m found     the first break, rule by rule
use Rattle.std.specs.Prelude.{◌≡◌, ℕ, List, Option, Some, None}
use Rattle.run_audit.specs.declared.broken.Rule.{Rule}
use Rattle.run_audit.specs.declared.broken.Rule.TheVariants.{L0, L1, L2, L3}
use Rattle.run_audit.specs.declared.broken.Break.{Break}
use Rattle.run_audit.specs.declared.entries.Entry.{Entry}
use Rattle.run_audit.specs.Entries.{start_at}
use Rattle.run_audit.specs.Firsts.{FindsFirst, IsCutOff, IsFirst, IsOffCores, IsTooEarly}
use Rattle.run_audit.specs.Waits.{FindsUnheld, IsFirstJob, IsFirstUnheld}

module _ (entries : List Entry) (m : ℕ) where
  -- job and time of the first wait
  pub record IsFirstWait (broken : Break) : Type 0 where
    pub rule : broken.rule ≡ L3
    pub time : IsFirstUnheld entries m broken.time
    pub job : IsFirstJob entries m broken.time broken.job

  abbrev pub FindsWait : Option Break → Type 0
  FindsWait None = FindsUnheld entries m None
  FindsWait (Some broken) = IsFirstWait broken

  -- each core is there, no job starts before it is ready, and none while another runs on its core
  pub record StartsWell : Type 0 where
    pub on_cores : FindsFirst entries (IsOffCores entries m) None
    pub after_ready : FindsFirst entries (IsTooEarly entries) None
    pub apart : FindsFirst entries (IsCutOff entries) None

  pub record IsFoundOff (job time : ℕ) : Type 0 where
    pub first : IsFirst entries (IsOffCores entries m) job
    pub at : time ≡ start_at entries job

  pub record IsFoundEarly (job time : ℕ) : Type 0 where
    pub on_cores : FindsFirst entries (IsOffCores entries m) None
    pub first : IsFirst entries (IsTooEarly entries) job
    pub at : time ≡ start_at entries job

  pub record IsFoundCut (job time : ℕ) : Type 0 where
    pub on_cores : FindsFirst entries (IsOffCores entries m) None
    pub after_ready : FindsFirst entries (IsTooEarly entries) None
    pub first : IsFirst entries (IsCutOff entries) job
    pub at : time ≡ start_at entries job

  pub record IsFoundWait (job time : ℕ) : Type 0 where
    pub well : StartsWell
    pub none_sooner : IsFirstUnheld entries m time
    pub first : IsFirstJob entries m time job

  pub record FindsNone : Type 0 where
    pub well : StartsWell
    pub none : FindsUnheld entries m None

  abbrev pub IsFound : Rule → ℕ → ℕ → Type 0
  IsFound L0 job time = IsFoundOff job time
  IsFound L1 job time = IsFoundEarly job time
  IsFound L2 job time = IsFoundCut job time
  IsFound L3 job time = IsFoundWait job time

  abbrev pub FindsBreak : Option Break → Type 0
  FindsBreak None = FindsNone
  FindsBreak (Some broken) = IsFound broken.rule broken.job broken.time
