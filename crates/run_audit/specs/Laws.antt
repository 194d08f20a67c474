-- Laws of audits.
--     UnbrokenIsLegal    a schedule breaks no rule exactly where it is legal
--     OneFirstBreak      of a schedule there is one answer
use Rattle.std.specs.Prelude.{◌≡◌, ◌<◌, ◌↔◌, ℕ, List, Option, length}
use Rattle.job_model.specs.Scenario.{Fits}
use Rattle.job_model.specs.Table.{Table, IsTable}
use Rattle.run_meaning.specs.declared.places.Place.{Place}
use Rattle.run_meaning.specs.Legal.{Legal}
use Rattle.run_audit.specs.declared.broken.Break.{Break}
use Rattle.run_audit.specs.declared.broken.Rule.{Rule}
use Rattle.run_audit.specs.FirstBreak.{Audits, Breaks}

-- A schedule with a place for each job breaks no rule, by any job and at any time, exactly where it is legal.
abbrev pub UnbrokenIsLegal : Type 0
UnbrokenIsLegal =
    (table : Table) (m : ℕ) (scenario : List (ℕ × ℕ)) (schedule : List Place) → IsTable table → Fits table scenario → length schedule ≡ length table.jobs →
    Legal table m scenario schedule ↔ ((rule : Rule) (j t : ℕ) → j < length table.jobs → ¬ Breaks table m scenario schedule rule j t)

-- Two answers that are right of one schedule are one.
abbrev pub OneFirstBreak : Type 0
OneFirstBreak =
    (table : Table) (m : ℕ) (scenario : List (ℕ × ℕ)) (schedule : List Place) (one other : Option Break) → IsTable table → Fits table scenario →
    Audits table m scenario schedule one → Audits table m scenario schedule other → one ≡ other
