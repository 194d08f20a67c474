-- What a yes tells: the lines are valid, its jobs are those of the job lines, and they hold in every legal run.
use Rattle.std.proofs.Common.{◌≡◌, ◌∙◌, ◌↔◌, ℕ, ◌+◌, ◌≤◌, ◌^◌, List, [], ◌∷◌, ◌++◌, Option, Some, None, Ok, Err, Result, IfOk, ap, refl, sym, subst, map}
use Rattle.std.specs.Prelude.{IsOk, IfNone, IsOkAnd, filter_map}
use Rattle.std.specs.List.{enumerate_from, flat_map}
use Rattle.std.proofs.lemmas.List.Elements.{filter_map-append}
use Rattle.job_model.specs.Table.{Table, IsTable}
use Rattle.sag_time.specs.Interval.{Interval}
use Rattle.cert_text.specs.declared.line.CertLine.{CertLine}
use Rattle.cert_text.specs.declared.line.CertLine.TheVariants as line
use Rattle.cert_text.specs.declared.line.Mark.{Mark}
use Rattle.graph_check.specs.declared.answer.CheckAnswer.{CheckAnswer}
use Rattle.graph_check.specs.declared.answer.CheckAnswer.TheVariants as answer
use Rattle.graph_check.specs.declared.answer.Yes.{Yes}
use Rattle.graph_check.specs.declared.due.Due.{Due}
use Rattle.graph_check.specs.declared.due.Due.TheVariants as due
use Rattle.graph_check.specs.Certificate.{Block, Certificate, EdgeEntry, StateEntry, block_lines, edge_line, job_line, lines_of, state_line}
use Rattle.graph_check.specs.Entries.{JobEntry}
use Rattle.graph_check.specs.Answers.{Finishes, FinishesAt, IfProgress, KeptOfLines, SaysYes, kept_of}
use Rattle.graph_check.specs.Bounds.{HoldInEachRun}
use Rattle.graph_check.specs.Kept.{Failure, HeldChecker, kept}
use Rattle.graph_check.specs.Laws as law
use Rattle.graph_check.specs.Progress.{Progress}
use Rattle.graph_check.specs.Told.{entries_of, job_entries, job_entry}
use Rattle.graph_check.specs.Valid.{Valid}
use Rattle.graph_check.proofs.Whole.{kept_are_spans, valid_is_kept}

-- ---- the job lines of a certificate

no-states : (states : List StateEntry) → job_entries (map state_line states) ≡ []
no-states [] = refl
no-states (s ∷ states) = no-states states

no-edges : (edges : List EdgeEntry) → job_entries (map edge_line edges) ≡ []
no-edges [] = refl
no-edges (e ∷ edges) = no-edges edges

no-blocks : (k : ℕ) (blocks : List Block) → job_entries (flat_map block_lines (enumerate_from k blocks)) ≡ []
no-blocks k [] = refl
no-blocks k (b ∷ blocks) =
    let states = map state_line b.states in
    let edges = map edge_line b.edges in
    let later = flat_map block_lines (enumerate_from (k + 1) blocks) in
    filter_map-append job_entry (states ++ edges) later
    ∙ ap (λ es. es ++ job_entries later) (filter_map-append job_entry states edges ∙ ap (λ es. es ++ job_entries edges) (no-states b.states) ∙ no-edges b.edges)
    ∙ no-blocks (k + 1) blocks

each-job : (k : ℕ) (spans : List JobEntry) → job_entries (map job_line (enumerate_from k spans)) ≡ spans
each-job k [] = refl
each-job k (s ∷ spans) = ap (λ es. s ∷ es) (each-job (k + 1) spans)

append-nothing : (es : List JobEntry) → es ++ [] ≡ es
append-nothing [] = refl
append-nothing (e ∷ es) = ap (λ xs. e ∷ xs) (append-nothing es)

pub job_entries_are_spans : law.JobEntriesAreSpans
job_entries_are_spans c =
    let blocks = flat_map block_lines (enumerate_from 1 c.blocks) in
    let jobs = map job_line (enumerate_from 0 c.spans) in
    let last = line.Verdict c.verdict ∷ line.End ∷ [] in
    filter_map-append job_entry (blocks ++ jobs) last
    ∙ ap (λ es. es ++ []) (filter_map-append job_entry blocks jobs ∙ ap (λ es. es ++ job_entries jobs) (no-blocks 1 c.blocks) ∙ each-job 0 c.spans)
    ∙ append-nothing c.spans

-- ---- a yes

entries-are : (jobs : List JobEntry) → entries_of (map (λ s. s.span) jobs) (map (λ s. s.mark) jobs) ≡ jobs
entries-are [] = refl
entries-are (job ∷ jobs) = ap (λ (es : List JobEntry). job ∷ es) (entries-are jobs)

said-entries : (jobs : List JobEntry) (spans : List Interval) (marks : List Mark) → spans ≡ map (λ s. s.span) jobs → marks ≡ map (λ s. s.mark) jobs → entries_of spans marks ≡ jobs
said-entries jobs spans marks spans_are marks_are = rw (spans_are, marks_are) (entries-are jobs)

-- a yes says the jobs that are kept, and only where no line is due
module _ (P : Progress → List JobEntry → Type 0) (holds : (r : Progress) → r.due ≡ due.Nothing → P r r.jobs) where
  yes-at : (r : Progress) (d : Due) (result : Result Yes CheckAnswer) → r.due ≡ d → FinishesAt r d result → IfOk result (λ told. P r (entries_of told.spans.items told.marks.items))
  yes-at r due.Nothing (Ok told) is (spans, marks) = subst (P r) (sym (said-entries r.jobs told.spans.items told.marks.items spans marks)) (holds r is)
  yes-at r due.Nothing (Err other) is said = tt
  yes-at r other (Err answer) is said = tt
  yes-at r other (Ok told) is said = absurd (cc)

module _ (table : Table) (m : ℕ) where
  abbrev is-over : Progress → Type 0
  is-over r = r.due ≡ due.Nothing

  -- ---- exactly where the lines are valid

  valid-at : (lines : List CertLine) (r : Progress) (d : Due) (result : Result Yes CheckAnswer) → kept table m lines ≡ Ok r → r.due ≡ d → FinishesAt r d result →
      IsOk result ↔ Valid table m lines
  valid-at lines r due.Nothing (Ok told) are is said =
      (λ ok. (valid_is_kept table m lines).1 (subst (λ k. IsOkAnd k (λ r. r.due ≡ due.Nothing)) (sym are) is), λ valid. refl)
  valid-at lines r due.Nothing (Err other) are is said = absurd said
  valid-at lines r other (Ok told) are is said = absurd (cc)
  valid-at lines r other (Err answer) are is said =
      let over : Valid table m lines → is-over r = λ valid. subst (λ k. IsOkAnd k is-over) are ((valid_is_kept table m lines).0 valid) in
      (λ ok. absurd (cc), λ valid. absurd (let nothing = over valid in cc))

  pub finish-valid : (k : Option (Result Progress Failure)) (result : Result Yes CheckAnswer) → Finishes k result →
      (lines : List CertLine) → k ≡ Some (kept table m lines) → IsOk result ↔ Valid table m lines
  finish-valid None result said lines are = absurd (cc)
  finish-valid (Some (Err failure)) (Ok told) said lines are = absurd (cc)
  finish-valid (Some (Err failure)) (Err answer) said lines are =
      let failed : kept table m lines ≡ Err failure = cc in
      (λ ok. absurd (cc), λ valid. absurd (subst (λ k. IsOkAnd k is-over) failed ((valid_is_kept table m lines).0 valid)))
  finish-valid (Some (Ok r)) result said lines are = let kept_is : kept table m lines ≡ Ok r = cc in valid-at lines r r.due result kept_is refl said

  -- ---- its jobs are those of the job lines

  kept-jobs : (lines : List CertLine) (r : Progress) → kept table m lines ≡ Ok r → r.due ≡ due.Nothing → r.jobs ≡ job_entries lines
  kept-jobs lines r is over =
      let valid : Valid table m lines = (valid_is_kept table m lines).1 (subst (λ k. IsOkAnd k is-over) (sym is) over) in
      let c = valid.certificate in
      let told : kept table m (lines_of c) ≡ Ok r = ap (kept table m) (sym valid.in_order) ∙ is in
      let jobs : r.jobs ≡ c.spans = subst (λ k. IsOkAnd k (λ r. r.jobs ≡ c.spans)) told (kept_are_spans table m c valid.keeps) in
      jobs ∙ sym (job_entries_are_spans c) ∙ ap job_entries (sym valid.in_order)

  pub finish-jobs : (k : Option (Result Progress Failure)) (result : Result Yes CheckAnswer) → Finishes k result →
      IfOk result (λ told. (lines : List CertLine) → k ≡ Some (kept table m lines) → entries_of told.spans.items told.marks.items ≡ job_entries lines)
  finish-jobs None (Ok told) said = absurd (cc)
  finish-jobs None (Err answer) said = tt
  finish-jobs (Some (Err failure)) (Ok told) said = absurd (cc)
  finish-jobs (Some (Err failure)) (Err answer) said = tt
  finish-jobs (Some (Ok r)) result said =
      yes-at (λ r jobs. (lines : List CertLine) → Some (Ok r) ≡ Some (kept table m lines) → jobs ≡ job_entries lines)
      (λ r over lines are. let kept_is : kept table m lines ≡ Ok r = cc in kept-jobs lines r kept_is over) r r.due result refl said

  -- ---- and they hold

  pub finish-sound : law.YesIsSound → IsTable table → (k : Option (Result Progress Failure)) (result : Result Yes CheckAnswer) → KeptOfLines table m k → Finishes k result →
      IfOk result (λ told. HoldInEachRun table m (entries_of told.spans.items told.marks.items))
  finish-sound sound is_table None (Ok told) of_lines said = absurd (cc)
  finish-sound sound is_table None (Err answer) of_lines said = tt
  finish-sound sound is_table (Some (Err failure)) (Ok told) of_lines said = absurd (cc)
  finish-sound sound is_table (Some (Err failure)) (Err answer) of_lines said = tt
  finish-sound sound is_table (Some (Ok r)) (Err answer) of_lines said = tt
  finish-sound sound is_table (Some (Ok r)) (Ok told) (lines, is) said =
      yes-at (λ q jobs. q ≡ r → HoldInEachRun table m jobs) (λ q over same. sound table m lines q is_table (is ∙ ap (λ p. Ok p) (sym same)) over) r r.due (Ok told) refl said refl

-- a checker in memory keeps a progress of lines
pub of-lines : (table : Table) (m : ℕ) (told : Option CheckAnswer) (r : Progress) (held : HeldChecker) →
    IfNone told ((r.edges ≤ r.lines) × (r.lines ≤ 2 ^ 63) × ((lines : List CertLine) × (kept table m lines ≡ Ok r))) →
    record { table = table; cores = m; kept = kept_of told r } ≡ held → KeptOfLines held.table held.cores held.kept
of-lines table m told r held keeps is = subst (λ (h : HeldChecker). KeptOfLines h.table h.cores h.kept) is (at told keeps)
  where
    at : (told : Option CheckAnswer) → IfNone told ((r.edges ≤ r.lines) × (r.lines ≤ 2 ^ 63) × ((lines : List CertLine) × (kept table m lines ≡ Ok r))) → KeptOfLines table m (kept_of told r)
    at None (edges, few, lines) = lines
    at (Some (answer.No clause line)) keeps = tt
    at (Some answer.Memory) keeps = tt
