-- What the rows of a file say of its edits, and when they say that there are none.
use Rattle.std.proofs.Common.{◌≡◌, ◌≢◌, ◌∙◌, ℕ, suc, ◌+◌, ◌<◌, ◌≤◌, List, inl, inr, [], ◌∷◌, ◌++◌, length, take, drop, get_or, refl, sym, ap, subst, arith, drop-cons}
use Rattle.std.specs.Prelude.{All}
use Rattle.std.specs.List.{AllZip}
use Rattle.std.proofs.lemmas.List.{length-take-le, take-append-drop}
use Rattle.std.proofs.lemmas.List.Elements.{All-cons, All-nil}
use Rattle.csv_numbers.specs.Laws.{RowsAgree, RowsKeepRules}
use Rattle.csv_numbers.specs.Rows.{Rows}
use Rattle.lists.proofs.Elements.{zip-middle}
use Rattle.job_model.specs.Table.{IsTable, Table}
use Rattle.job_model.specs.Times.{MayCost}
use Rattle.job_model.specs.declared.limits.TheConstants.{MOST_COST}
use Rattle.side_csv.specs.EditFaults.{FirstEditFault, FirstOutsideCost, ReachedEditRow}
use Rattle.side_csv.specs.EditsText.{EditsText, GivesEdit, cmax_in, cmin_in}
use Rattle.side_csv.specs.Laws.{EditsKeepRules, OneListOfEdits}
use Rattle.side_csv.specs.declared.edits.JobEdit.{JobEdit}
use Rattle.side_csv.specs.declared.fault.SideFault.{SideFault}
use Rattle.side_csv.specs.declared.fault.SideFault.TheVariants as fault
use Rattle.side_csv.proofs.RowLemmas.{names-contained, names-same}

-- the row at an index, where those before it give edits
abbrev pub reached-edit : (table : Table) (bytes : List ℕ) (rows : List (List ℕ)) (i : ℕ) (edits : List JobEdit) → i < length rows → Rows bytes 5 rows → AllZip (GivesEdit table) (take i rows) edits
    → ReachedEditRow table bytes (i + 1)
reached-edit table bytes rows i edits below reads given = record {
  before = take i rows;
  here = get_or rows i [];
  after = drop (suc i) rows;
  rows_are = subst (λ (l : List (List ℕ)). Rows bytes 5 l) (sym (take-append-drop i rows) ∙ ap (λ l. take i rows ++ l) (drop-cons rows i [] below)) reads;
  place = ap (λ n. n + 1) (sym (length-take-le i rows (omega arith)));
  edits = edits;
  given = given;
}

-- a row gives one edit
one-edit : (table : Table) → IsTable table → (row : List ℕ) (e f : JobEdit) → GivesEdit table row e → GivesEdit table row f → e ≡ f
one-edit table is_table row e f one two =
    let job = names-same table is_table row row e.job f.job one.names two.names refl in
    let cmin = sym one.cmin_is ∙ two.cmin_is in
    let cmax = sym one.cmax_is ∙ two.cmax_is in
    let deadline = sym one.deadline_is ∙ two.deadline_is in
    λ i. record { job = job i; cmin = cmin i; cmax = cmax i; deadline = deadline i }

-- rows give one list of edits
pub one-edits : (table : Table) (rows : List (List ℕ)) → (0 < length rows → IsTable table) → (es fs : List JobEdit) → AllZip (GivesEdit table) rows es → AllZip (GivesEdit table) rows fs → es ≡ fs
one-edits table [] is_table [] [] one two = refl
one-edits table [] is_table [] (f ∷ fs) one two = absurd two
one-edits table [] is_table (e ∷ es) fs one two = absurd one
one-edits table (row ∷ rows) is_table [] fs one two = absurd one
one-edits table (row ∷ rows) is_table (e ∷ es) [] one two = absurd two
one-edits table (row ∷ rows) is_table (e ∷ es) (f ∷ fs) one two =
    let same = one-edit table (is_table (omega arith)) row e f one.0 two.0 in
    let rest = one-edits table rows (λ more. is_table (omega arith)) es fs one.1 two.1 in
    λ i. same i ∷ rest i

-- a text has one list of edits
pub one-text : (table : Table) (bytes : List ℕ) (rows : List (List ℕ)) (edits : List JobEdit) → ((list : List (List ℕ)) → Rows bytes 5 list → rows ≡ list)
    → ((t : List JobEdit) → AllZip (GivesEdit table) rows t → edits ≡ t) → (t : List JobEdit) → EditsText table bytes t → edits ≡ t
one-text table bytes rows edits agree only t text = only t (subst (λ l. AllZip (GivesEdit table) l t) (sym (agree text.rows text.rows_are)) text.edits_are)

-- what each row's edit keeps, all edits keep
edits-keep : (table : Table) (P : JobEdit → Type 0) → ((row : List ℕ) (e : JobEdit) → GivesEdit table row e → P e) → (rows : List (List ℕ)) (edits : List JobEdit) → AllZip (GivesEdit table) rows edits → All P edits
edits-keep table P keep [] [] given = All-nil P
edits-keep table P keep [] (e ∷ es) given = absurd given
edits-keep table P keep (row ∷ rows) [] given = absurd given
edits-keep table P keep (row ∷ rows) (e ∷ es) given = All-cons P e es (keep row e given.0) (edits-keep table P keep rows es given.1)

-- the edits that rows give are of jobs of the table
pub edits-in_range : (table : Table) (rows : List (List ℕ)) (edits : List JobEdit) → AllZip (GivesEdit table) rows edits → All (λ (e : JobEdit). e.job < length table.jobs) edits
edits-in_range table rows edits given = edits-keep table (λ (e : JobEdit). e.job < length table.jobs) (λ row e gives. gives.names.is_job) rows edits given

-- and have costs that a job may have
pub edits-may_cost : (table : Table) (rows : List (List ℕ)) (edits : List JobEdit) → AllZip (GivesEdit table) rows edits → All (λ (e : JobEdit). MayCost e.cmin e.cmax) edits
edits-may_cost table rows edits given =
    edits-keep table (λ (e : JobEdit). MayCost e.cmin e.cmax) (λ row e gives. subst (λ n. MayCost e.cmin n) gives.cmax_is (subst (λ n. MayCost n (cmax_in row)) gives.cmin_is gives.may_cost)) rows edits given

-- costs that a job may have are not outside
pub cost-inside : (row : List ℕ) (column : ℕ) → MayCost (cmin_in row) (cmax_in row) → FirstOutsideCost row column → ⊥
cost-inside row column may (inl least) = least.1 (may.costs_something, may.costs)
cost-inside row column may (inr most) =
    let above : MOST_COST < cmax_in row = most.2 in
    let within : cmax_in row ≤ MOST_COST = may.cost_limit in
    omega (arith, above, within)

-- a text that breaks a rule has no edits
no-edits : RowsAgree → RowsKeepRules → (table : Table) (bytes : List ℕ) (e : SideFault) → e ≢ fault.Memory → FirstEditFault table bytes e → (t : List JobEdit) → ¬ EditsText table bytes t
no-edits agree keep table bytes (fault.Csv f) other first t text = keep bytes 5 text.rows text.rows_are f first.0 first.1
no-edits agree keep table bytes (fault.Unknown row column) other first t text =
    let r = first.0 in
    let same = agree bytes 5 text.rows (r.before ++ r.here ∷ r.after) text.rows_are r.rows_are in
    let (e, gives) = zip-middle (GivesEdit table) r.before r.here r.after t (subst (λ l. AllZip (GivesEdit table) l t) same text.edits_are) in
    first.2 (names-contained table r.here e.job gives.names)
no-edits agree keep table bytes (fault.Missing j) other first t text = first
no-edits agree keep table bytes (fault.Twice row earlier) other first t text = first
no-edits agree keep table bytes (fault.Outside row column) other first t text =
    let r = first.0 in
    let same = agree bytes 5 text.rows (r.before ++ r.here ∷ r.after) text.rows_are r.rows_are in
    let (e, gives) = zip-middle (GivesEdit table) r.before r.here r.after t (subst (λ l. AllZip (GivesEdit table) l t) same text.edits_are) in
    cost-inside r.here column gives.may_cost first.2
no-edits agree keep table bytes fault.Memory other first t text = other refl

pub one_list_of_edits : RowsAgree → OneListOfEdits
one_list_of_edits agree table bytes one other is_table a b =
    one-text table bytes a.rows one (λ list reads. agree bytes 5 a.rows list a.rows_are reads) (λ t given. one-edits table a.rows (λ more. is_table) one t a.edits_are given) other b

pub edits_keep_rules : RowsAgree → RowsKeepRules → EditsKeepRules
edits_keep_rules agree keep table bytes edits text e other first = no-edits agree keep table bytes e other first edits text
