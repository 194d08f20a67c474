-- What a command does with its files, and what it prints.
--     Work               what is to be done, of files that were accepted
--     Reply              what is printed, and how the work ended
--     precedence_file    the kind and name of the precedence file, where one is named
--     IsAmongFiles       one of these files has that kind and that name
use Rattle.std.specs.Prelude.{ℕ, ◌≡◌, ◌⊎◌, Bool, List, [], ◌∷◌, Option, None, Some, Result}
use Rattle.sag_texts.specs.declared.fault.FileKind.{FileKind}
use Rattle.sag_texts.specs.declared.fault.FileKind.TheVariants as kinds
use Rattle.sag_engine.specs.declared.conclusion.Conclusion.{Conclusion}
use Rattle.graph_check.specs.Entries.{JobEntry}
use Rattle.graph_check.specs.Kept.{Failure}
use Rattle.job_model.specs.declared.interval_end.End.{End}
use Rattle.job_model.specs.Table.{Table}
use Rattle.run_meaning.specs.declared.places.Place.{Place}
use Rattle.side_csv.specs.declared.edits.JobEdit.{JobEdit}

-- What is to be done: to print the certificate of the graph of a table, on so many cores and within a budget of states; to tell
-- what a certificate of the table came to, its intervals and marks or the first failure; the run of a scenario on so many cores;
-- to report of the jobs of a certificate, or of their tasks; to print a certificate that was converted; to print a table as a job
-- file; to tell of a recorded run of a scenario on so many cores; to sum up the graph of a workload on so many cores; to print the
-- scenario for an end of a job's interval, within a budget of states; to print the certificate of the graph of a table once edits
-- of it are made, on so many cores and within such a budget; or to compare the graph of a table with the runs of trials, or to
-- print the scenario of one trial, on so many cores and within such a budget.
pub data Work : Type 0 where
  Analyses : Table → ℕ → ℕ → Work
  Checks : Table → Result (List JobEntry) Failure → Work
  Replays : Table → ℕ → List (ℕ × ℕ) → Work
  Reports : Bool → Table → Result (List JobEntry) Failure → Work
  Converts : List ℕ → Work
  Unrolls : Table → Work
  AuditsRun : Table → ℕ → List (ℕ × ℕ) → List Place → Work
  Selftests : ℕ → ℕ → Work
  Attains : Table → ℕ → End → ℕ → Work
  WhatIfs : Table → List JobEdit → ℕ → ℕ → Work
  Gaps : Table → ℕ → ℕ → Option ℕ → Work

-- the bytes that are printed, and how the work ended
pub record Reply : Type 0 where
  pub conclusion : Conclusion
  pub bytes : List ℕ

-- the kind and name of the precedence file, where one is named
abbrev pub precedence_file : Option (List ℕ) → List (FileKind × List ℕ)
precedence_file None = []
precedence_file (Some name) = (kinds.Precedence, name) ∷ []

-- one of these files has that kind and that name
abbrev pub IsAmongFiles : List (FileKind × List ℕ) → FileKind → List ℕ → Type 0
IsAmongFiles [] kind name = ⊥
IsAmongFiles (file ∷ files) kind name = ((file.0 ≡ kind) × (file.1 ≡ name)) ⊎ IsAmongFiles files kind name
