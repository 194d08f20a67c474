-- The certificate of a table: how its reading follows its plan, what is known of it, and that there is one judgement.
--     CertificateLaws                        what other crates prove of certificates
--     certificate_ended, _wrong, _halt       a certificate that was handed on as it was read
--     AcceptedCertificate                    a certificate that was read as a whole, and what it came to
--     certificate_reads, certificate_one     its plan reads its file, and comes to one value
use Rattle.std.proofs.Common.{◌≡◌, ◌∙◌, ◌≤◌, ℕ, Bool, true, false, cond, List, [], length, Option, Result, Ok, Err, IfOk, nat_lt, ap, arith, refl, subst, sym}
use Rattle.sag_edge.specs.Contents.{Contents}
use Rattle.sag_edge.specs.Reading.{SeenFiles}
use Rattle.job_model.specs.Table.{Table}
use Rattle.cert_text.specs.declared.fault.FeedFault.{FeedFault}
use Rattle.cert_text.specs.declared.fault.FeedFault.TheVariants as fault
use Rattle.cert_text.specs.Grammar.{second_version}
use Rattle.graph_check.specs.Entries.{JobEntry}
use Rattle.graph_check.specs.Kept.{Failure}
use Rattle.cert_check.specs.declared.cert_end.CertEnd.{CertEnd}
use Rattle.cert_check.specs.Checks.{EndsBytes, ReadsAs, SeenCheck, TakesBytes, end_told, fresh_check}
use Rattle.cert_check.specs.Laws.{NoFaultOfReadable, OneEnd, OneTextFault}
use Rattle.sag_texts.specs.declared.fault.FileKind.{FileKind}
use Rattle.sag_texts.specs.declared.fault.FileKind.TheVariants as kinds
use Rattle.sag_texts.specs.declared.fault.Fault.{Fault}
use Rattle.sag_texts.specs.declared.fault.Fault.TheVariants as faults
use Rattle.sag_engine.specs.declared.halt.Halt.{Halt}
use Rattle.sag_engine.specs.declared.halt.Halt.TheVariants.{Refused}
use Rattle.sag_engine.specs.declared.fetch.TheConstants.{MOST_CERTIFICATE_BYTES}
use Rattle.sag_engine.specs.Certificates.{CertificateJudged, certificate_plan}
use Rattle.sag_engine.specs.Plan.{AreBytesOf, ComesTo, ReadsNext, file_plan, judged}
use Rattle.sag_engine.specs.RunEnds.{Follows, Pours}
use Rattle.sag_engine.proofs.FileLemmas.{one_file}
use Rattle.sag_engine.proofs.OnePlan.{IsOne, file_one, judged_one, then_one}
use Rattle.sag_engine.proofs.PlanLemmas.{comes_split, follows_halt, follows_judged, follows_then, judged_so}

-- what other crates prove of certificates
pub record CertificateLaws : Type 0 where
  pub one_end : OneEnd
  pub one_text_fault : OneTextFault
  pub no_fault_of_readable : NoFaultOfReadable

-- ---- a certificate that was handed on as it was read

-- a check took the bytes of the file
abbrev PoursCheck : List ℕ → SeenFiles → SeenFiles → SeenCheck → SeenCheck → Type 0
PoursCheck name f f' first last =
    Pours {T = SeenCheck} (file_plan kinds.Certificate name MOST_CERTIFICATE_BYTES) f f' (Ok tt) (λ start bytes. TakesBytes start bytes first) (λ start bytes. TakesBytes start bytes last)

-- what is known of the end of a check
abbrev EndsCheck : SeenCheck → Result CertEnd FeedFault → Type 0
EndsCheck last result = (table : Table) (m : ℕ) (bytes : List ℕ) → TakesBytes (fresh_check table m) bytes last → EndsBytes table m bytes result

module _ (table : Table) (m : ℕ) (name : List ℕ) (f f' : SeenFiles) (first last : SeenCheck) (fresh : first ≡ fresh_check table m) (start : TakesBytes first [] first) where
  ends_at : (p : PoursCheck name f f' first last) (result : Result CertEnd FeedFault) → EndsCheck last result → EndsBytes table m p.bytes result
  ends_at p result ends = ends table m p.bytes (subst (λ (s : SeenCheck). TakesBytes s p.bytes last) fresh (p.takes first [] start))

  pub certificate_ended : (p : PoursCheck name f f' first last) (end : CertEnd) → EndsCheck last (Ok end)
      → Follows (λ (e : CertEnd). end_told e) (certificate_plan table m name) f f' (Ok end)
  unfolding certificate_plan
  certificate_ended p end ends = follows_then _ _ _ _ p.follows (follows_judged _ _ (record { end = ends_at p (Ok end) ends }))

  pub certificate_wrong : (p : PoursCheck name f f' first last) (x : FeedFault) (line byte : ℕ) → x ≡ fault.Text line byte → EndsCheck last (Err x)
      → Follows (λ (e : CertEnd). end_told e) (certificate_plan table m name) f f' (Err (Refused (faults.Text line byte)))
  unfolding certificate_plan
  certificate_wrong p x line byte is ends =
      let at : EndsBytes table m p.bytes (Err (fault.Text line byte)) = subst (λ (y : FeedFault). EndsBytes table m p.bytes (Err y)) is (ends_at p (Err x) ends) in
      follows_then _ _ _ _ p.follows (follows_judged _ _ (record { end = (line, byte, refl, at) }))

pub certificate_halt : (table : Table) (m : ℕ) (name : List ℕ) (f f' : SeenFiles) (A B : SeenCheck → List ℕ → Type 0) (halt : Halt)
    → Pours (file_plan kinds.Certificate name MOST_CERTIFICATE_BYTES) f f' (Err halt) A B → Follows (λ (e : CertEnd). end_told e) (certificate_plan table m name) f f' (Err halt)
unfolding certificate_plan
certificate_halt table m name f f' A B halt p = follows_halt _ _ _ _ p.follows

-- ---- what is known of a certificate that was read

-- the bytes are the file's, and not too many
pub record WholeFile (m : Option Contents) (name : List ℕ) (limit : ℕ) (bytes : List ℕ) : Type 0 where
  pub are : AreBytesOf m name bytes
  pub few : length bytes ≤ limit

whole_at : (m : Option Contents) (kind : FileKind) (name : List ℕ) (limit : ℕ) (read bytes : List ℕ) (v : Bool) → nat_lt limit (length read) ≡ v → AreBytesOf m name read
    → ◌≡◌ {A = Result (List ℕ) Fault} (cond v (Err (faults.TooLong kind)) (Ok read)) (Ok bytes) → WholeFile m name limit bytes
whole_at m kind name limit read bytes true long told is = absurd (cc is)
whole_at m kind name limit read bytes false long told is =
    let same : read ≡ bytes = cc is in
    let few : length read ≤ limit = grind (arith, long) in
    subst (λ (b : List ℕ). WholeFile m name limit b) same (record { are = told; few = few })

pub whole_file : (m : Option Contents) (kind : FileKind) (name : List ℕ) (limit : ℕ) (bytes : List ℕ) → ComesTo (file_plan kind name limit) m (Ok bytes) → WholeFile m name limit bytes
whole_file m kind name limit bytes (read, told, is) = whole_at m kind name limit read bytes (nat_lt limit (length read)) refl told is

-- a certificate that was read as a whole, and what it came to
pub record AcceptedCertificate (table : Table) (cores : ℕ) (m : Option Contents) (name : List ℕ) (end : Result (List JobEntry) Failure) : Type 0 where
  pub bytes : List ℕ
  pub whole : WholeFile m name MOST_CERTIFICATE_BYTES bytes
  pub reads : ReadsAs table cores bytes end

pub accepted_certificate : (table : Table) (cores : ℕ) (name : List ℕ) (m : Option Contents) (end : Result (List JobEntry) Failure)
    → ComesTo (certificate_plan table cores name) m (Ok end) → AcceptedCertificate table cores m name end
unfolding certificate_plan
accepted_certificate table cores name m end h =
    let s = comes_split (file_plan _ name _) _ m end h in
    record {
      bytes = s.0;
      whole = whole_file m _ name _ s.0 s.1;
      reads = judged_so (CertificateJudged table cores s.0) m (Ok end) s.2;
    }

few_jobs : (table : Table) (cores : ℕ) (bytes : List ℕ) (end : Result (List JobEntry) Failure) → ReadsAs table cores bytes end → IfOk end (λ jobs. length jobs ≤ length table.jobs)
few_jobs table cores bytes (Ok jobs) reads = omega (arith, reads.checked.hold.all_jobs)
few_jobs table cores bytes (Err failure) reads = tt

each_job : (table : Table) (cores : ℕ) (bytes : List ℕ) (end : Result (List JobEntry) Failure) → ReadsAs table cores bytes end → IfOk end (λ jobs. length jobs ≡ length table.jobs)
each_job table cores bytes (Ok jobs) reads = reads.checked.hold.all_jobs
each_job table cores bytes (Err failure) reads = tt

-- it has an entry for each job of its table
pub accepted_each : (table : Table) (cores : ℕ) (name : List ℕ) (m : Option Contents) (end : Result (List JobEntry) Failure)
    → ComesTo (certificate_plan table cores name) m (Ok end) → IfOk end (λ jobs. length jobs ≡ length table.jobs)
accepted_each table cores name m end h = let a = accepted_certificate table cores name m end h in each_job table cores a.bytes end a.reads

-- it has no more jobs than its table
pub accepted_jobs : (table : Table) (cores : ℕ) (name : List ℕ) (m : Option Contents) (end : Result (List JobEntry) Failure)
    → ComesTo (certificate_plan table cores name) m (Ok end) → IfOk end (λ jobs. length jobs ≤ length table.jobs)
accepted_jobs table cores name m end h = let a = accepted_certificate table cores name m end h in few_jobs table cores a.bytes end a.reads

-- ---- its plan

pub certificate_reads : (table : Table) (cores : ℕ) (name : List ℕ) (m : Option Contents) (k : FileKind) (n : List ℕ)
    → ReadsNext (certificate_plan table cores name) m k n → (kinds.Certificate ≡ k) × (name ≡ n)
unfolding certificate_plan
certificate_reads table cores name m k n h = one_file _ name _ _ m k n h

module _ (laws : CertificateLaws) where
  not_wrong : (table : Table) (m : ℕ) (bytes : List ℕ) (end : Result (List JobEntry) Failure) (fault : Fault) → ReadsAs table m bytes end → CertificateJudged table m bytes (Err fault) → ⊥
  not_wrong table m bytes end fault reads (l, b, told, wrong) = laws.no_fault_of_readable second_version bytes reads.lines l b reads.readable wrong

  -- of a certificate's bytes there is one judgement
  certificate_same : (table : Table) (m : ℕ) (bytes : List ℕ) (v w : Result (Result (List JobEntry) Failure) Fault)
      → CertificateJudged table m bytes v → CertificateJudged table m bytes w → v ≡ w
  certificate_same table m bytes (Ok a) (Ok b) x y = ap Ok (laws.one_end table m bytes a b x y)
  certificate_same table m bytes (Ok a) (Err f) x y = absurd (not_wrong table m bytes a f x y)
  certificate_same table m bytes (Err f) (Ok a) y x = absurd (not_wrong table m bytes a f x y)
  certificate_same table m bytes (Err f) (Err g) (l, b, told, x) (k, c, told', y) =
      let same = laws.one_text_fault second_version bytes l b k c x y in
      ap Err (told ∙ ap (λ (n : ℕ). faults.Text n b) same.0 ∙ ap (faults.Text k) same.1 ∙ sym told')

  pub certificate_one : (contents : Contents) (table : Table) (m : ℕ) (name : List ℕ) → IsOne contents (certificate_plan table m name)
  unfolding certificate_plan
  certificate_one contents table m name = then_one contents (file_plan kinds.Certificate name MOST_CERTIFICATE_BYTES) (λ bytes. judged (CertificateJudged table m bytes))
      (file_one contents kinds.Certificate name MOST_CERTIFICATE_BYTES) (λ bytes comes. judged_one contents (CertificateJudged table m bytes) (certificate_same table m bytes))
