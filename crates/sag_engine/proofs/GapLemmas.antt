-- The command `gap`: what its files come to, which it reads, that it has one reply, and what it means.
use Rattle.std.proofs.Common.{◌≡◌, ◌∙◌, ◌≤◌, ℕ, inl, inr, List, [], Option, None, Some, Result, Ok, Err, IsTrue, ap, arith, refl, subst, sym}
use Rattle.std.specs.Prelude.{IfOk, IfSome}
use Rattle.sag_edge.specs.Contents.{Contents}
use Rattle.sag_edge.specs.Writing.{SeenSink}
use Rattle.sag_texts.specs.declared.fault.FileKind.{FileKind}
use Rattle.sag_texts.specs.declared.fault.Fault.{Fault}
use Rattle.sag_texts.specs.declared.fault.Fault.TheVariants as faults
use Rattle.job_model.specs.Table.{IsTable, Table}
use Rattle.sag_graph.specs.Budget.{Spending, spent}
use Rattle.gap_report.specs.GapText.{gap_text}
use Rattle.gap_report.specs.Trials.{last_trial}
use Rattle.gap_trials.specs.Laws.{OneGap}
use Rattle.sag_engine.specs.declared.conclusion.Conclusion.{Conclusion}
use Rattle.sag_engine.specs.declared.conclusion.Conclusion.TheVariants.{Done, Spent}
use Rattle.sag_engine.specs.declared.halt.Halt.{Halt}
use Rattle.sag_engine.specs.Gap.{IsGapOutput, IsGapReply, TrialJudged, gap_files, gap_plan, trial_plan}
use Rattle.sag_engine.specs.Plan.{ComesTo, ReadsNext}
use Rattle.sag_engine.specs.Plan.Plan.{Ends}
use Rattle.sag_engine.specs.Inputs.{table_plan}
use Rattle.sag_engine.specs.Work.{IsAmongFiles, Reply, Work}
use Rattle.sag_engine.specs.Work.Work.{Gaps}
use Rattle.sag_engine.specs.Commands.{Replies}
use Rattle.sag_engine.specs.RunEnds.{Gives, Prints, Writes}
use Rattle.sag_engine.proofs.FileLemmas.{reads_split, table_reads}
use Rattle.sag_engine.proofs.InputLemmas.{accepted_table}
use Rattle.sag_engine.proofs.OneInputs.{table_one}
use Rattle.sag_engine.proofs.OneJudgement.{FileLaws}
use Rattle.sag_engine.proofs.OnePlan.{IsOne, ends_one, judged_one, then_one}
use Rattle.sag_engine.proofs.PlanLemmas.{comes_split, judged_so}

-- ---- what is known of a trial that was accepted

-- it is the one that is asked for, and one of the table's
accepted_trial : (table : Table) (trial : Option ℕ) (m : Option Contents) (known : Option ℕ) → ComesTo (trial_plan table trial) m (Ok known)
    → (known ≡ trial) × IfSome known (λ k. k ≤ last_trial table)
unfolding trial_plan
accepted_trial table trial m known h = judged_so (TrialJudged table trial) m (Ok known) h

pub trial_in_range : (table : Table) (trial : Option ℕ) (m : Option Contents) (known : Option ℕ) → ComesTo (trial_plan table trial) m (Ok known)
    → IfSome known (λ k. k ≤ last_trial table)
trial_in_range table trial m known h = (accepted_trial table trial m known h).1

-- what the command comes to: a table, and the trial that is asked for
pub record AcceptedGap (jobs : List ℕ) (prec : Option (List ℕ)) (cores budget : ℕ) (trial : Option ℕ) (m : Option Contents) (work : Work) : Type 0 where
  pub table : Table
  pub comes : ComesTo (table_plan jobs prec) m (Ok table)
  pub is_table : IsTable table
  pub in_range : IfSome trial (λ k. k ≤ last_trial table)
  pub work_is : work ≡ Gaps table cores budget trial

pub accepted_gap : (jobs : List ℕ) (prec : Option (List ℕ)) (cores budget : ℕ) (trial : Option ℕ) (m : Option Contents) (work : Work)
    → ComesTo (gap_plan jobs prec cores budget trial) m (Ok work) → AcceptedGap jobs prec cores budget trial m work
accepted_gap jobs prec cores budget trial m work h =
    let s = comes_split (table_plan jobs prec) _ m work h in
    let t = comes_split (trial_plan s.0 trial) _ m work s.2 in
    let known = accepted_trial s.0 trial m t.0 t.1 in
    record {
      table = s.0;
      comes = s.1;
      is_table = accepted_table jobs prec m s.0 s.1;
      in_range = subst (λ o. IfSome o (λ k. k ≤ last_trial s.0)) known.0 known.1;
      work_is = let same : Gaps s.0 cores budget t.0 ≡ work = cc in sym same ∙ ap (Gaps s.0 cores budget) known.0;
    }

-- ---- its plan

trial_reads : (table : Table) (trial : Option ℕ) (m : Option Contents) (k : FileKind) (n : List ℕ) → ReadsNext (trial_plan table trial) m k n → ⊥
unfolding trial_plan
trial_reads table trial m k n h = h.2

-- the files that it reads are those that its words name
pub gap_reads : (jobs : List ℕ) (prec : Option (List ℕ)) (cores budget : ℕ) (trial : Option ℕ) (m : Option Contents) (k : FileKind) (n : List ℕ)
    → ReadsNext (gap_plan jobs prec cores budget trial) m k n → IsAmongFiles (gap_files jobs prec) k n
gap_reads jobs prec cores budget trial m k n h = elim (reads_split (table_plan jobs prec) _ m k n h) [
  | inl x ↦ table_reads jobs prec m k n x
  | inr x ↦ elim (reads_split (trial_plan x.0 trial) (λ known. Ends (Ok (Gaps x.0 cores budget known))) m k n x.1) [
    | inl y ↦ absurd (trial_reads x.0 trial m k n y)
    | inr y ↦ absurd y.1
  ]
]

-- a trial of the table is not above the last one
not_above : (table : Table) (trial known : Option ℕ) (fault : Fault) → TrialJudged table trial (Ok known) → TrialJudged table trial (Err fault) → ⊥
not_above table trial known fault (same, within) (k, asked, above, told) =
    let le : k ≤ last_trial table = subst (λ o. IfSome o (λ k. k ≤ last_trial table)) (same ∙ asked) within in
    omega (arith, le, above)

one_number : (i j : ℕ) → ◌≡◌ {A = Option ℕ} (Some i) (Some j) → i ≡ j
one_number i j is = cc is

trial_same : (table : Table) (trial : Option ℕ) (v w : Result (Option ℕ) Fault) → TrialJudged table trial v → TrialJudged table trial w → v ≡ w
trial_same table trial (Ok a) (Ok b) x y = ap Ok (x.0 ∙ sym y.0)
trial_same table trial (Ok a) (Err f) x y = absurd (not_above table trial a f x y)
trial_same table trial (Err f) (Ok a) y x = absurd (not_above table trial a f x y)
trial_same table trial (Err f) (Err g) (i, asked, above, told) (j, asked', above', told') =
    ap Err (told ∙ ap (λ k. faults.NoTrial k (last_trial table)) (one_number i j (sym asked ∙ asked')) ∙ sym told')

trial_one : (contents : Contents) (table : Table) (trial : Option ℕ) → IsOne contents (trial_plan table trial)
unfolding trial_plan
trial_one contents table trial = judged_one contents (TrialJudged table trial) (trial_same table trial)

-- its files fix its work, or its refusal
pub gap_one : FileLaws → (contents : Contents) (jobs : List ℕ) (prec : Option (List ℕ)) (cores budget : ℕ) (trial : Option ℕ) → IsOne contents (gap_plan jobs prec cores budget trial)
gap_one laws contents jobs prec cores budget trial = then_one contents (table_plan jobs prec) _ (table_one laws contents jobs prec)
    (λ table comes. then_one contents (trial_plan table trial) _ (trial_one contents table trial)
    (λ known comes'. ends_one contents (Ok (Gaps table cores budget known))))

-- ---- its reply

module _ (one_gap : OneGap) (table : Table) (m : ℕ) (is_table : IsTable table) (some_core : 1 ≤ m) where
  output_same : (trial : Option ℕ) (a b : List ℕ) → IsGapOutput table m trial a → IsGapOutput table m trial b → a ≡ b
  output_same None a b (rows, are, is) (rows', are', is') = is ∙ ap gap_text (one_gap table m rows rows' is_table some_core are are') ∙ sym is'
  output_same (Some k) a b is is' = is ∙ sym is'

  reply_same : (trial : Option ℕ) (first : Option Spending) (r s : Reply) → IsGapReply table m trial first r → IsGapReply table m trial first s → r ≡ s
  reply_same trial None r s (bytes, are, is) (bytes', are', is') =
      is ∙ ap (λ (x : List ℕ). record { conclusion = Done; bytes = x }) (output_same trial bytes bytes' are are') ∙ sym is'
  reply_same trial (Some x) r s is is' = is ∙ sym is'

-- its work has one reply
pub one_gap_reply : FileLaws → OneGap → (contents : Contents) (jobs : List ℕ) (prec : Option (List ℕ)) (cores budget : ℕ) (trial : Option ℕ) → 1 ≤ cores → (r s : Reply)
    → Gives (gap_plan jobs prec cores budget trial) (Some contents) r → Gives (gap_plan jobs prec cores budget trial) (Some contents) s → r ≡ s
one_gap_reply laws one_gap contents jobs prec cores budget trial some_core r s a b =
    let works : ◌≡◌ {A = Result Work Fault} (Ok b.work) (Ok a.work) = (gap_one laws contents jobs prec cores budget trial).one (Ok b.work) (Ok a.work) b.comes a.comes in
    let work : b.work ≡ a.work = cc works in
    let w = accepted_gap jobs prec cores budget trial (Some contents) a.work a.comes in
    let is : IsGapReply w.table cores trial (spent w.table cores budget) r = subst (λ x. Replies x r) w.work_is a.replies in
    let is' : IsGapReply w.table cores trial (spent w.table cores budget) s = subst (λ x. Replies x s) (work ∙ w.work_is) b.replies in
    reply_same one_gap w.table cores w.is_table some_core trial (spent w.table cores budget) r s is is'

-- ---- what is printed

module _ (table : Table) (m budget : ℕ) (trial : Option ℕ) where
  -- no offer exceeds the budget, and these bytes are printed
  pub gap_replies : (bytes : List ℕ) → spent table m budget ≡ None → IsGapOutput table m trial bytes
      → IsGapReply table m trial (spent table m budget) (record { conclusion = Done; bytes = bytes })
  gap_replies bytes none are =
      subst (λ o. IsGapReply table m trial o (record { conclusion = Done; bytes = bytes })) (sym none) (bytes, are, refl)

  -- an offer exceeds the budget
  pub gap_spent : (level states edges : ℕ) → spent table m budget ≡ Some (record { level = level; states = states; edges = edges })
      → IsGapReply table m trial (spent table m budget) (record { conclusion = Spent level states edges; bytes = [] })
  gap_spent level states edges is =
      subst (λ o. IsGapReply table m trial o (record { conclusion = Spent level states edges; bytes = [] })) (sym is) refl

-- nothing is printed, but that the budget is spent
pub prints_spent : {level states edges : ℕ} {a b : SeenSink} {r : Result Conclusion Halt} → Writes [] a b r → IfOk r (λ told. (told ≡ Spent level states edges) × IsTrue b.finished)
    → Prints (record { conclusion = Spent level states edges; bytes = [] }) a b r
prints_spent writes told = record { writes = writes; conclusion = told }
