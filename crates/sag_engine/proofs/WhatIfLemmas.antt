-- The command `whatif`: what its files come to, which it reads, that it has one reply, and what it means.
use Rattle.std.proofs.Common.{◌≡◌, ◌∙◌, ◌∷◌, ◌<◌, ℕ, inl, inr, List, [], Bool, true, false, cond, Option, None, Some, Result, Ok, Err, IsTrue, ap, length, nat_lt, refl, subst, sym}
use Rattle.std.specs.Prelude.{All, IfOk}
use Rattle.std.specs.Option.{option_or}
use Rattle.sag_edge.specs.Contents.{Contents}
use Rattle.sag_edge.specs.Writing.{SeenSink}
use Rattle.sag_texts.specs.declared.fault.FileKind.{FileKind}
use Rattle.sag_texts.specs.declared.fault.FileKind.TheVariants as kinds
use Rattle.sag_texts.specs.declared.fault.Fault.{Fault}
use Rattle.sag_texts.specs.declared.fault.Fault.TheVariants as faults
use Rattle.job_model.specs.Table.{IsTable, Table}
use Rattle.job_model.specs.Times.{MayCost}
use Rattle.sag_graph.specs.Budget.{Spending, spent}
use Rattle.side_csv.specs.declared.edits.JobEdit.{JobEdit}
use Rattle.side_csv.specs.Laws.{EditsKeepRules, OneEditFault, OneListOfEdits}
use Rattle.what_if.specs.declared.fault.WhatIfFault.{WhatIfFault}
use Rattle.what_if.specs.declared.fault.WhatIfFault.TheVariants as taking
use Rattle.what_if.specs.Edits.{first_spent, tables_of, with_edit, with_edits}
use Rattle.what_if.specs.Faults.{IsUntaken}
use Rattle.sag_engine.specs.declared.conclusion.Conclusion.{Conclusion}
use Rattle.sag_engine.specs.declared.conclusion.Conclusion.TheVariants.{Spent}
use Rattle.sag_engine.specs.declared.fetch.TheConstants.{MOST_FILE_BYTES}
use Rattle.sag_engine.specs.declared.halt.Halt.{Halt}
use Rattle.sag_engine.specs.Analyse.{analysis_reply}
use Rattle.sag_engine.specs.Plan.{AreBytesOf, ComesTo, ReadsNext, file_plan, judged}
use Rattle.sag_engine.specs.Plan.Plan.{Ends}
use Rattle.sag_engine.specs.Inputs.{table_plan}
use Rattle.sag_engine.specs.WhatIf.{EditsJudged, EditsRefused, IsEditList, edits_plan, first_of_edits, whatif_files, whatif_plan, whatif_reply}
use Rattle.sag_engine.specs.Work.{IsAmongFiles, Reply, Work, precedence_file}
use Rattle.sag_engine.specs.Work.Work.{WhatIfs}
use Rattle.sag_engine.specs.Commands.{Replies}
use Rattle.sag_engine.specs.RunEnds.{Gives, Prints, Writes}
use Rattle.sag_engine.proofs.FileLemmas.{among_first, among_more, one_file, reads_split, table_reads}
use Rattle.sag_engine.proofs.InputLemmas.{accepted_table}
use Rattle.sag_engine.proofs.OneInputs.{table_one}
use Rattle.sag_engine.proofs.OneJudgement.{FileLaws}
use Rattle.sag_engine.proofs.OnePlan.{IsOne, ends_one, file_one, judged_one, then_one}
use Rattle.sag_engine.proofs.PlanLemmas.{comes_split, judged_so}

-- what other crates prove of edits
pub record EditLaws : Type 0 where
  pub one_list_of_edits : OneListOfEdits
  pub one_edit_fault : OneEditFault
  pub edits_keep_rules : EditsKeepRules

-- ---- what is known of edits that were accepted

-- a file that was read whole has its bytes
whole_bytes : (kind : FileKind) (bytes whole : List ℕ) (long : Bool) → ◌≡◌ {A = Result (List ℕ) Fault} (cond long (Err (faults.TooLong kind)) (Ok bytes)) (Ok whole) → bytes ≡ whole
whole_bytes kind bytes whole true is = absurd (cc is)
whole_bytes kind bytes whole false is = cc is

whole_file : (kind : FileKind) (name : List ℕ) (limit : ℕ) (m : Option Contents) (whole : List ℕ) → ComesTo (file_plan kind name limit) m (Ok whole) → AreBytesOf m name whole
whole_file kind name limit m whole (bytes, are, is) = subst (λ b. AreBytesOf m name b) (whole_bytes kind bytes whole (nat_lt limit (length bytes)) is) are

-- the edits of a file
pub record AcceptedEdits (table : Table) (name : List ℕ) (m : Option Contents) (edits : List JobEdit) : Type 0 where
  pub bytes : List ℕ
  pub are_bytes : AreBytesOf m name bytes
  pub list : IsEditList table bytes edits

accepted_edits : (table : Table) (name : List ℕ) (m : Option Contents) (edits : List JobEdit) → ComesTo (edits_plan table name) m (Ok edits) → AcceptedEdits table name m edits
unfolding edits_plan
accepted_edits table name m edits h =
    let s = comes_split (file_plan _ name _) _ m edits h in
    record { bytes = s.0; are_bytes = whole_file _ name _ m s.0 s.1; list = judged_so (EditsJudged table s.0) m (Ok edits) s.2 }

-- they are of jobs of the table
pub accepted_jobs : (table : Table) (name : List ℕ) (m : Option Contents) (edits : List JobEdit) → ComesTo (edits_plan table name) m (Ok edits)
    → All (λ e. e.job < length table.jobs) edits
accepted_jobs table name m edits h = (accepted_edits table name m edits h).list.in_range

-- their costs are those that a job may have
pub accepted_costs : (table : Table) (name : List ℕ) (m : Option Contents) (edits : List JobEdit) → ComesTo (edits_plan table name) m (Ok edits)
    → All (λ e. MayCost e.cmin e.cmax) edits
accepted_costs table name m edits h = (accepted_edits table name m edits h).list.costs

-- what the command comes to: a table, with edits
pub record AcceptedWhatIf (jobs edits : List ℕ) (prec : Option (List ℕ)) (cores budget : ℕ) (m : Option Contents) (work : Work) : Type 0 where
  pub table : Table
  pub comes : ComesTo (table_plan jobs prec) m (Ok table)
  pub is_table : IsTable table
  pub changes : List JobEdit
  pub accepted : AcceptedEdits table edits m changes
  pub work_is : work ≡ WhatIfs table changes cores budget

pub accepted_whatif : (jobs edits : List ℕ) (prec : Option (List ℕ)) (cores budget : ℕ) (m : Option Contents) (work : Work)
    → ComesTo (whatif_plan jobs edits prec cores budget) m (Ok work) → AcceptedWhatIf jobs edits prec cores budget m work
accepted_whatif jobs edits prec cores budget m work h =
    let s = comes_split (table_plan jobs prec) _ m work h in
    let t = comes_split (edits_plan s.0 edits) _ m work s.2 in
    record {
      table = s.0;
      comes = s.1;
      is_table = accepted_table jobs prec m s.0 s.1;
      changes = t.0;
      accepted = accepted_edits s.0 edits m t.0 t.1;
      work_is = let same : WhatIfs s.0 t.0 cores budget ≡ work = cc in sym same;
    }

-- ---- its plan

edits_reads : (table : Table) (name : List ℕ) (m : Option Contents) (k : FileKind) (n : List ℕ) → ReadsNext (edits_plan table name) m k n → (kinds.Edits ≡ k) × (name ≡ n)
unfolding edits_plan
edits_reads table name m k n h = one_file _ name _ _ m k n h

-- the files that it reads are those that its words name
pub whatif_reads : (jobs edits : List ℕ) (prec : Option (List ℕ)) (cores budget : ℕ) (m : Option Contents) (k : FileKind) (n : List ℕ)
    → ReadsNext (whatif_plan jobs edits prec cores budget) m k n → IsAmongFiles (whatif_files jobs edits prec) k n
whatif_reads jobs edits prec cores budget m k n h =
    let table_files : List (FileKind × List ℕ) = (kinds.Jobs, jobs) ∷ precedence_file prec in
    let edit_files : List (FileKind × List ℕ) = (kinds.Edits, edits) ∷ [] in
    elim (reads_split (table_plan jobs prec) _ m k n h) [
      | inl x ↦ among_first table_files edit_files k n (table_reads jobs prec m k n x)
      | inr x ↦ elim (reads_split (edits_plan x.0 edits) (λ changes. Ends (Ok (WhatIfs x.0 changes cores budget))) m k n x.1) [
        | inl y ↦ among_more table_files edit_files k n (inl (edits_reads x.0 edits m k n y))
        | inr y ↦ absurd y.1
      ]
    ]

module _ (files : FileLaws) (laws : EditLaws) where
  edits_refused : (table : Table) (bytes : List ℕ) (one two : Fault) → EditsRefused table bytes one → EditsRefused table bytes two → one ≡ two
  edits_refused table bytes one two (e, told, other, first) (e', told', other', first') =
      told ∙ ap (faults.Side kinds.Edits) (laws.one_edit_fault table bytes e e' other other' first first') ∙ sym told'

  -- of a file's bytes there is one judgement
  edits_same : (table : Table) (bytes : List ℕ) → IsTable table → (v w : Result (List JobEdit) Fault) → EditsJudged table bytes v → EditsJudged table bytes w → v ≡ w
  edits_same table bytes is_table (Ok s) (Ok t) a b = ap Ok (laws.one_list_of_edits table bytes s t is_table a.text b.text)
  edits_same table bytes is_table (Ok s) (Err f) a (e, told, other, first) = absurd (laws.edits_keep_rules table bytes s a.text e other first)
  edits_same table bytes is_table (Err f) (Ok s) (e, told, other, first) a = absurd (laws.edits_keep_rules table bytes s a.text e other first)
  edits_same table bytes is_table (Err f) (Err g) a b = ap Err (edits_refused table bytes f g a b)

  edits_one : (contents : Contents) (table : Table) → IsTable table → (name : List ℕ) → IsOne contents (edits_plan table name)
  unfolding edits_plan
  edits_one contents table is_table name = then_one contents (file_plan kinds.Edits name MOST_FILE_BYTES) (λ bytes. judged (EditsJudged table bytes))
      (file_one contents kinds.Edits name MOST_FILE_BYTES) (λ bytes comes. judged_one contents (EditsJudged table bytes) (edits_same table bytes is_table))

  -- its files fix its work, or its refusal
  pub whatif_one : (contents : Contents) (jobs edits : List ℕ) (prec : Option (List ℕ)) (cores budget : ℕ) → IsOne contents (whatif_plan jobs edits prec cores budget)
  whatif_one contents jobs edits prec cores budget = then_one contents (table_plan jobs prec) _ (table_one files contents jobs prec)
      (λ table comes. then_one contents (edits_plan table edits) _ (edits_one contents table (accepted_table jobs prec (Some contents) table comes) edits)
      (λ changes comes'. ends_one contents (Ok (WhatIfs table changes cores budget))))

  -- its work has one reply
  pub one_whatif_reply : (contents : Contents) (jobs edits : List ℕ) (prec : Option (List ℕ)) (cores budget : ℕ) (r s : Reply)
      → Gives (whatif_plan jobs edits prec cores budget) (Some contents) r → Gives (whatif_plan jobs edits prec cores budget) (Some contents) s → r ≡ s
  one_whatif_reply contents jobs edits prec cores budget r s a b =
      let works : ◌≡◌ {A = Result Work Fault} (Ok b.work) (Ok a.work) = (whatif_one contents jobs edits prec cores budget).one (Ok b.work) (Ok a.work) b.comes a.comes in
      let work : b.work ≡ a.work = cc works in
      let w = accepted_whatif jobs edits prec cores budget (Some contents) a.work a.comes in
      let is = subst (λ x. Replies x r) w.work_is a.replies in
      let is' = subst (λ x. Replies x s) (work ∙ w.work_is) b.replies in
      is ∙ sym is'

-- ---- what is printed

-- of two offers none is there, where neither is
neither : (one other : Option Spending) → option_or one other ≡ None → (one ≡ None) × (other ≡ None)
neither None other is = (refl, is)
neither (Some s) other is = absurd (cc is)

-- Where the graph of the table exceeds the budget, its first such offer is the first of all.
first_is : (table : Table) (changes : List JobEdit) (m budget : ℕ) (s : Spending) → spent table m budget ≡ Some s → first_of_edits table changes m budget ≡ Some s
first_is table [] m budget s is = ap (λ o. option_or o None) is
first_is table (e ∷ changes) m budget s is = ap (λ o. option_or o (first_spent (tables_of (with_edit table e) changes) m budget)) is

-- A table that is not taken is not taken with its edits.
pub untaken_at_first : (table : Table) (changes : List JobEdit) (m budget : ℕ) (fault : WhatIfFault) → IsUntaken (spent table m budget) fault
    → IsUntaken (first_of_edits table changes m budget) fault
untaken_at_first table changes m budget (taking.Spent level states edges) is = first_is table changes m budget _ is
untaken_at_first table changes m budget taking.Memory is = tt

-- Where no graph exceeds the budget, that of the edited table does not.
pub last_within : (table : Table) (changes : List JobEdit) (m budget : ℕ) → first_of_edits table changes m budget ≡ None → spent (with_edits table changes) m budget ≡ None
last_within table [] m budget none = (neither (spent table m budget) None none).0
last_within table (e ∷ changes) m budget none =
    last_within (with_edit table e) changes m budget (neither (spent table m budget) (first_spent (tables_of (with_edit table e) changes) m budget) none).1

module _ (table : Table) (changes : List JobEdit) (m budget : ℕ) {a b : SeenSink} {r : Result Conclusion Halt} where
  -- no graph exceeds the budget, and the certificate of the edited table was printed
  pub edited_printed : first_of_edits table changes m budget ≡ None → Prints (analysis_reply (with_edits table changes) m (spent (with_edits table changes) m budget)) a b r
      → Prints (whatif_reply table changes m (first_of_edits table changes m budget)) a b r
  edited_printed none d =
      let whole = subst (λ o. Prints (analysis_reply (with_edits table changes) m o) a b r) (last_within table changes m budget none) d in
      subst (λ o. Prints (whatif_reply table changes m o) a b r) (sym none) whole

  -- a graph exceeds the budget, and nothing was printed
  pub edited_spent : (level states edges : ℕ) → first_of_edits table changes m budget ≡ Some (record { level = level; states = states; edges = edges }) → Writes [] a b r
      → IfOk r (λ told. (told ≡ Spent level states edges) × IsTrue b.finished) → Prints (whatif_reply table changes m (first_of_edits table changes m budget)) a b r
  edited_spent level states edges is d told =
      subst (λ o. Prints (whatif_reply table changes m o) a b r) (sym is) (record { writes = d; conclusion = told })
