-- A command that checks a certificate: what its files come to, which it reads, that its work has one reply, and what a certificate
-- that it accepts means.
use Rattle.std.proofs.Common.{◌≡◌, ◌∙◌, ◌∷◌, ℕ, inl, inr, List, [], Option, Some, Result, Ok, Err, ap, sym, subst}
use Rattle.sag_edge.specs.Contents.{Contents}
use Rattle.sag_edge.specs.Reading.{SeenFiles}
use Rattle.sag_edge.specs.Writing.{GrowsBy, SeenSink}
use Rattle.sag_texts.specs.declared.fault.FileKind.{FileKind}
use Rattle.sag_texts.specs.declared.fault.FileKind.TheVariants as kinds
use Rattle.sag_texts.specs.declared.fault.Fault.{Fault}
use Rattle.job_model.specs.Table.{Table, IsTable}
use Rattle.cert_text.specs.declared.line.CertLine.{CertLine}
use Rattle.cert_text.specs.Grammar.{second_version}
use Rattle.cert_text.specs.Readable.{Readable}
use Rattle.graph_check.specs.Bounds.{HoldInEachRun}
use Rattle.graph_check.specs.Entries.{JobEntry}
use Rattle.graph_check.specs.Kept.{Failure}
use Rattle.graph_check.specs.Told.{job_entries}
use Rattle.graph_check.specs.Valid.{Valid}
use Rattle.cert_check.specs.Checks.{ReadsAs}
use Rattle.sag_engine.specs.declared.conclusion.Conclusion.{Conclusion}
use Rattle.sag_engine.specs.declared.conclusion.Conclusion.TheVariants.{Done, No, Spent}
use Rattle.sag_engine.specs.declared.status.Status.TheVariants as statuses
use Rattle.sag_engine.specs.Plan.{ComesTo, ReadsNext}
use Rattle.sag_engine.specs.Plan.Plan.{Ends}
use Rattle.sag_engine.specs.Inputs.{table_plan}
use Rattle.sag_engine.specs.Certificates.{PrintsCertified, certificate_plan, certificate_reply, certified_files, certified_plan}
use Rattle.sag_engine.specs.Work.{IsAmongFiles, Reply, Work, precedence_file}
use Rattle.sag_engine.specs.Commands.{Replies}
use Rattle.sag_engine.specs.RunEnds.{Gives, Runs, conclusion_status}
use Rattle.sag_engine.proofs.CertificateLemmas.{AcceptedCertificate, CertificateLaws, accepted_certificate, certificate_one, certificate_reads}
use Rattle.sag_engine.proofs.FileLemmas.{among_first, among_more, reads_split, table_reads}
use Rattle.sag_engine.proofs.InputLemmas.{accepted_table}
use Rattle.sag_engine.proofs.OneInputs.{table_one}
use Rattle.sag_engine.proofs.OneJudgement.{FileLaws}
use Rattle.sag_engine.proofs.OnePlan.{IsOne, ends_one, then_one}
use Rattle.sag_engine.proofs.PlanLemmas.{comes_split}

no_is_no : (conclusion : Conclusion) → conclusion ≡ No → conclusion_status conclusion ≡ statuses.Ok → ⊥
no_is_no Done is ok = cc is
no_is_no No is ok = cc ok
no_is_no (Spent level states edges) is ok = cc is

-- what a yes tells of the certificate
record YesOf (text : List JobEntry → List ℕ) (table : Table) (m : ℕ) (bytes : List ℕ) (reply : Reply) : Type 0 where
  lines : List CertLine
  readable : Readable second_version bytes lines
  valid : Valid table m lines
  hold : HoldInEachRun table m (job_entries lines)
  printed : reply.bytes ≡ text (job_entries lines)

yes_of : (text : List JobEntry → List ℕ) (table : Table) (m : ℕ) (bytes : List ℕ) (end : Result (List JobEntry) Failure) (reply : Reply) (conclusion : Conclusion) → ReadsAs table m bytes end
    → reply ≡ certificate_reply text end → conclusion ≡ reply.conclusion → conclusion_status conclusion ≡ statuses.Ok → YesOf text table m bytes reply
yes_of text table m bytes (Ok jobs) reply conclusion reads is same ok =
    let a = reads.checked in
    record {
      lines = reads.lines;
      readable = reads.readable;
      valid = a.valid;
      hold = subst (HoldInEachRun table m) a.jobs_are a.hold;
      printed = ap (λ (r : Reply). r.bytes) is ∙ ap text a.jobs_are;
    }
yes_of text table m bytes (Err failure) reply conclusion reads is same ok = absurd (no_is_no conclusion (same ∙ ap (λ (r : Reply). r.conclusion) is) ok)

module _ (work_of : Table → Result (List JobEntry) Failure → Work) (text : Table → List JobEntry → List ℕ)
    (replied : (table : Table) (end : Result (List JobEntry) Failure) (reply : Reply) → Replies (work_of table end) reply → reply ≡ certificate_reply (text table) end) where
  -- what its files come to
  record AcceptedWork (jobs cert : List ℕ) (prec : Option (List ℕ)) (cores : ℕ) (m : Option Contents) (work : Work) : Type 0 where
    table : Table
    comes : ComesTo (table_plan jobs prec) m (Ok table)
    is_table : IsTable table
    end : Result (List JobEntry) Failure
    certificate : AcceptedCertificate table cores m cert end
    work_is : work ≡ work_of table end

  accepted_work : (jobs cert : List ℕ) (prec : Option (List ℕ)) (cores : ℕ) (m : Option Contents) (work : Work)
      → ComesTo (certified_plan work_of jobs cert prec cores) m (Ok work) → AcceptedWork jobs cert prec cores m work
  accepted_work jobs cert prec cores m work h =
      let s = comes_split (table_plan jobs prec) _ m work h in
      let r = comes_split (certificate_plan s.0 cores cert) _ m work s.2 in
      record {
        table = s.0;
        comes = s.1;
        is_table = accepted_table jobs prec m s.0 s.1;
        end = r.0;
        certificate = accepted_certificate s.0 cores cert m r.0 r.1;
        work_is = let same : work_of s.0 r.0 ≡ work = cc in sym same;
      }

  -- the files that it reads are those that its words name
  pub certified_reads : (jobs cert : List ℕ) (prec : Option (List ℕ)) (cores : ℕ) (m : Option Contents) (k : FileKind) (n : List ℕ)
      → ReadsNext (certified_plan work_of jobs cert prec cores) m k n → IsAmongFiles (certified_files jobs cert prec) k n
  certified_reads jobs cert prec cores m k n h =
      let table_files : List (FileKind × List ℕ) = (kinds.Jobs, jobs) ∷ precedence_file prec in
      let certificate_files : List (FileKind × List ℕ) = (kinds.Certificate, cert) ∷ [] in
      elim (reads_split (table_plan jobs prec) _ m k n h) [
        | inl x ↦ among_first table_files certificate_files k n (table_reads jobs prec m k n x)
        | inr x ↦ elim (reads_split (certificate_plan x.0 cores cert) (λ end. Ends (Ok (work_of x.0 end))) m k n x.1) [
          | inl y ↦ among_more table_files certificate_files k n (inl (certificate_reads x.0 cores cert m k n y))
          | inr y ↦ absurd y.1
        ]
      ]

  -- its files fix its work, or its refusal
  pub certified_one : FileLaws → CertificateLaws → (contents : Contents) (jobs cert : List ℕ) (prec : Option (List ℕ)) (cores : ℕ) → IsOne contents (certified_plan work_of jobs cert prec cores)
  certified_one laws certificates contents jobs cert prec cores = then_one contents (table_plan jobs prec) _ (table_one laws contents jobs prec)
      (λ table comes. then_one contents (certificate_plan table cores cert) _ (certificate_one certificates contents table cores cert)
      (λ end comes'. ends_one contents (Ok (work_of table end))))

  -- its work has one reply
  pub one_certified_reply : FileLaws → CertificateLaws → (contents : Contents) (jobs cert : List ℕ) (prec : Option (List ℕ)) (cores : ℕ) (r s : Reply)
      → Gives (certified_plan work_of jobs cert prec cores) (Some contents) r → Gives (certified_plan work_of jobs cert prec cores) (Some contents) s → r ≡ s
  one_certified_reply laws certificates contents jobs cert prec cores r s a b =
      let works : ◌≡◌ {A = Result Work Fault} (Ok b.work) (Ok a.work) = (certified_one laws certificates contents jobs cert prec cores).one (Ok b.work) (Ok a.work) b.comes a.comes in
      let work : b.work ≡ a.work = cc works in
      let w = accepted_work jobs cert prec cores (Some contents) a.work a.comes in
      let is = replied w.table w.end r (subst (λ x. Replies x r) w.work_is a.replies) in
      let is' = replied w.table w.end s (subst (λ x. Replies x s) (work ∙ w.work_is) b.replies) in
      is ∙ sym is'

  -- the certificate that it accepted
  pub prints_certified : (jobs cert : List ℕ) (prec : Option (List ℕ)) (cores : ℕ) (f f' : SeenFiles) (o o' : SeenSink) (conclusion : Conclusion)
      → Runs (certified_plan work_of jobs cert prec cores) f f' o o' (Ok conclusion) → conclusion_status conclusion ≡ statuses.Ok → PrintsCertified text jobs cert prec cores f o o'
  prints_certified jobs cert prec cores f f' o o' conclusion w ok =
      let given = w.end.1 in
      let a = accepted_work jobs cert prec cores f.contents given.work given.comes in
      let is = replied a.table a.end w.end.0 (subst (λ x. Replies x w.end.0) a.work_is given.replies) in
      let yes = yes_of (text a.table) a.table cores a.certificate.bytes a.end w.end.0 conclusion a.certificate.reads is w.end.2 ok in
      record {
        table = a.table;
        comes = a.comes;
        is_table = a.is_table;
        bytes = a.certificate.bytes;
        are = a.certificate.whole.are;
        few = a.certificate.whole.few;
        lines = yes.lines;
        readable = yes.readable;
        valid = yes.valid;
        hold = yes.hold;
        printed = subst (λ (t : List ℕ). GrowsBy o.taken o'.taken t) yes.printed w.end.3;
      }
