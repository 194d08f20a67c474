-- The files that a plan reads are those that it names.
use Rattle.std.proofs.Common.{◌≡◌, ℕ, ◌⊎◌, ◌∷◌, ◌++◌, [], inl, inr, List, Option, None, Some, Result, Ok, Err}
use Rattle.sag_edge.specs.Contents.{Contents}
use Rattle.job_model.specs.Table.{Table}
use Rattle.sag_texts.specs.declared.fault.FileKind.{FileKind}
use Rattle.sag_texts.specs.declared.fault.FileKind.TheVariants as kinds
use Rattle.sag_texts.specs.declared.fault.Fault.{Fault}
use Rattle.sag_engine.specs.Plan.{Plan, ◌>>=◌, ReadsNext, file_plan, judged}
use Rattle.sag_engine.specs.Plan.Plan.{Ends, Reads, Judges}
use Rattle.sag_engine.specs.Inputs.{jobs_plan, precedence_plan, scenario_plan, table_plan}
use Rattle.sag_engine.specs.Work.{precedence_file, IsAmongFiles}

-- a plan that goes on reads a file of its first part or of what follows
pub reads_split : {A B : Type 0} (p : Plan (Result A Fault)) (q : A → Plan (Result B Fault)) (m : Option Contents) (k : FileKind) (n : List ℕ) → ReadsNext (p >>= q) m k n → ReadsNext p m k n ⊎ ((a : A) × ReadsNext (q a) m k n)
reads_split (Ends (Ok a)) q m k n h = inr (a, h)
reads_split (Ends (Err f)) q m k n h = absurd h
reads_split (Reads kind name go) q m k n (inl h) = inl (inl h)
reads_split (Reads kind name go) q m k n (inr (bytes, t, h)) =
    elim (reads_split (go bytes) q m k n h) [ inl x ↦ inl (inr (bytes, t, x)) | inr x ↦ inr x ]
reads_split (Judges X Holds go) q m k n (x, t, h) =
    elim (reads_split (go x) q m k n h) [ inl y ↦ inl (x, t, y) | inr y ↦ inr y ]

-- a step that reads one file and judges it reads that file alone
pub one_file : {A : Type 0} (kind : FileKind) (name : List ℕ) (limit : ℕ) (Holds : List ℕ → Result A Fault → Type 0) (m : Option Contents) (k : FileKind) (n : List ℕ) → ReadsNext (file_plan kind name limit >>= λ bytes. judged (Holds bytes)) m k n → (kind ≡ k) × (name ≡ n)
one_file kind name limit Holds m k n h = elim (reads_split (file_plan kind name limit) (λ bytes. judged (Holds bytes)) m k n h) [
  | inl x ↦ elim x [ inl y ↦ y | inr y ↦ absurd y.2 ]
  | inr x ↦ absurd x.1.2
]

jobs_reads : (name : List ℕ) (m : Option Contents) (k : FileKind) (n : List ℕ) → ReadsNext (jobs_plan name) m k n → (kinds.Jobs ≡ k) × (name ≡ n)
unfolding jobs_plan
jobs_reads name m k n h = one_file _ name _ _ m k n h

pub scenario_reads : (table : Table) (name : List ℕ) (m : Option Contents) (k : FileKind) (n : List ℕ) → ReadsNext (scenario_plan table name) m k n → (kinds.Scenario ≡ k) × (name ≡ n)
unfolding scenario_plan
scenario_reads table name m k n h = one_file _ name _ _ m k n h

precedence_reads : (table : Table) (prec : Option (List ℕ)) (m : Option Contents) (k : FileKind) (n : List ℕ) → ReadsNext (precedence_plan table prec) m k n → IsAmongFiles (precedence_file prec) k n
unfolding precedence_plan
precedence_reads table None m k n h = absurd h
precedence_reads table (Some name) m k n h = inl (one_file _ name _ _ m k n h)

pub table_reads : (jobs : List ℕ) (prec : Option (List ℕ)) (m : Option Contents) (k : FileKind) (n : List ℕ) → ReadsNext (table_plan jobs prec) m k n → IsAmongFiles ((kinds.Jobs, jobs) ∷ precedence_file prec) k n
unfolding table_plan
table_reads jobs prec m k n h = elim (reads_split (jobs_plan jobs) (λ table. precedence_plan table prec) m k n h) [
  | inl x ↦ inl (jobs_reads jobs m k n x)
  | inr x ↦ inr (precedence_reads x.0 prec m k n x.1)
]

pub among_first : (files more : List (FileKind × List ℕ)) (k : FileKind) (n : List ℕ) → IsAmongFiles files k n → IsAmongFiles (files ++ more) k n
among_first [] more k n h = absurd h
among_first (file ∷ files) more k n (inl h) = inl h
among_first (file ∷ files) more k n (inr h) = inr (among_first files more k n h)

pub among_more : (files more : List (FileKind × List ℕ)) (k : FileKind) (n : List ℕ) → IsAmongFiles more k n → IsAmongFiles (files ++ more) k n
among_more [] more k n h = h
among_more (file ∷ files) more k n h = inr (among_more files more k n h)
