-- Laws of the files beside the job file.
--     OnePrecedence          the bytes of a precedence file fix its edges
--     OnePrecedenceFault     it has one first broken rule at most
--     PrecedenceKeepsRules   a file that names edges breaks none
--     OneScenario            the bytes of a scenario file fix the scenario
--     OneScenarioFault       it has one first broken rule at most
--     ScenariosKeepRules     a file that gives a scenario breaks none
--     OneRecordedRun         the bytes of a file of a run fix the run
--     OneRunFault            it has one first broken rule at most
--     RunsKeepRules          a file that gives a run breaks none
--     OneListOfEdits         the bytes of a file of edits fix them
--     OneEditFault           it has one first broken rule at most
--     EditsKeepRules         a file that gives edits breaks none
use Rattle.std.specs.Prelude.{◌≡◌, ◌≢◌, ℕ, List}
use Rattle.job_model.specs.Table.{IsTable, Table}
use Rattle.run_meaning.specs.declared.places.Place.{Place}
use Rattle.side_csv.specs.EditFaults.{FirstEditFault}
use Rattle.side_csv.specs.EditsText.{EditsText}
use Rattle.side_csv.specs.PrecedenceFaults.{FirstPrecedenceFault}
use Rattle.side_csv.specs.PrecedenceText.{PrecedenceText}
use Rattle.side_csv.specs.RunFaults.{FirstRunFault}
use Rattle.side_csv.specs.RunText.{RunText}
use Rattle.side_csv.specs.ScenarioFaults.{FirstScenarioFault}
use Rattle.side_csv.specs.ScenarioText.{ScenarioText}
use Rattle.side_csv.specs.declared.edits.JobEdit.{JobEdit}
use Rattle.side_csv.specs.declared.fault.SideFault.{SideFault}
use Rattle.side_csv.specs.declared.fault.SideFault.TheVariants as fault

-- The bytes of a precedence file fix its edges.
abbrev pub OnePrecedence : Type 0
OnePrecedence =
    (table : Table) (bytes : List ℕ) (one other : List (ℕ × ℕ)) → IsTable table → PrecedenceText table bytes one → PrecedenceText table bytes other → one ≡ other

-- A precedence file has at most one first broken rule, beside want of memory.
abbrev pub OnePrecedenceFault : Type 0
OnePrecedenceFault =
    (table : Table) (bytes : List ℕ) (one other : SideFault) → one ≢ fault.Memory → other ≢ fault.Memory →
    FirstPrecedenceFault table bytes one → FirstPrecedenceFault table bytes other → one ≡ other

-- A precedence file whose rows name edges breaks no rule.
abbrev pub PrecedenceKeepsRules : Type 0
PrecedenceKeepsRules =
    (table : Table) (bytes : List ℕ) (edges : List (ℕ × ℕ)) → PrecedenceText table bytes edges →
    (e : SideFault) → e ≢ fault.Memory → ¬ FirstPrecedenceFault table bytes e

-- The bytes of a scenario file fix the scenario.
abbrev pub OneScenario : Type 0
OneScenario = (table : Table) (bytes : List ℕ) (one other : List (ℕ × ℕ)) → ScenarioText table bytes one → ScenarioText table bytes other → one ≡ other

-- A scenario file has at most one first broken rule, beside want of memory.
abbrev pub OneScenarioFault : Type 0
OneScenarioFault =
    (table : Table) (bytes : List ℕ) (one other : SideFault) → IsTable table → one ≢ fault.Memory → other ≢ fault.Memory →
    FirstScenarioFault table bytes one → FirstScenarioFault table bytes other → one ≡ other

-- A scenario file that gives a scenario breaks no rule.
abbrev pub ScenariosKeepRules : Type 0
ScenariosKeepRules =
    (table : Table) (bytes : List ℕ) (scenario : List (ℕ × ℕ)) → IsTable table → ScenarioText table bytes scenario →
    (e : SideFault) → e ≢ fault.Memory → ¬ FirstScenarioFault table bytes e

-- The bytes of a file of a run fix the run.
abbrev pub OneRecordedRun : Type 0
OneRecordedRun =
    (table : Table) (scenario : List (ℕ × ℕ)) (bytes : List ℕ) (one other : List Place) → RunText table scenario bytes one → RunText table scenario bytes other → one ≡ other

-- A file of a run has at most one first broken rule, beside want of memory.
abbrev pub OneRunFault : Type 0
OneRunFault =
    (table : Table) (scenario : List (ℕ × ℕ)) (bytes : List ℕ) (one other : SideFault) → IsTable table → one ≢ fault.Memory → other ≢ fault.Memory →
    FirstRunFault table scenario bytes one → FirstRunFault table scenario bytes other → one ≡ other

-- A file that gives a run breaks no rule.
abbrev pub RunsKeepRules : Type 0
RunsKeepRules =
    (table : Table) (scenario : List (ℕ × ℕ)) (bytes : List ℕ) (schedule : List Place) → IsTable table → RunText table scenario bytes schedule →
    (e : SideFault) → e ≢ fault.Memory → ¬ FirstRunFault table scenario bytes e

-- The bytes of a file of edits fix them.
abbrev pub OneListOfEdits : Type 0
OneListOfEdits = (table : Table) (bytes : List ℕ) (one other : List JobEdit) → IsTable table → EditsText table bytes one → EditsText table bytes other → one ≡ other

-- A file of edits has at most one first broken rule, beside want of memory.
abbrev pub OneEditFault : Type 0
OneEditFault =
    (table : Table) (bytes : List ℕ) (one other : SideFault) → one ≢ fault.Memory → other ≢ fault.Memory →
    FirstEditFault table bytes one → FirstEditFault table bytes other → one ≡ other

-- A file that gives edits breaks no rule.
abbrev pub EditsKeepRules : Type 0
EditsKeepRules =
    (table : Table) (bytes : List ℕ) (edits : List JobEdit) → EditsText table bytes edits →
    (e : SideFault) → e ≢ fault.Memory → ¬ FirstEditFault table bytes e
