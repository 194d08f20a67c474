-- The command `convert`: how its reading follows its plan, which file it reads, that it has one reply, and what it means.
use Rattle.std.proofs.Common.{◌≡◌, ◌∙◌, ℕ, inl, inr, List, [], Option, Some, Result, Ok, Err, Vec, ap, refl, subst, sym}
use Rattle.std.specs.declared.alloc.Global.{Global}
use Rattle.sag_edge.specs.Contents.{Contents}
use Rattle.sag_edge.specs.Reading.{SeenFiles}
use Rattle.sag_edge.specs.Writing.{GrowsBy, SeenSink}
use Rattle.cert_text.specs.declared.fault.FeedFault.{FeedFault}
use Rattle.cert_text.specs.declared.fault.FeedFault.TheVariants as fault
use Rattle.cert_text.specs.Grammar.{first_version}
use Rattle.cert_check.specs.Laws.{NoFaultOfReadable, OneTextFault}
use Rattle.cert_convert.specs.Conversions.{ConvertsBytes, ConvertsTo, EndsConversion, SeenConversion, fresh_conversion}
use Rattle.cert_convert.specs.Laws.{ConvertedIsReadable, OneConversion}
use Rattle.graph_check.specs.Laws.{OldIsValid}
use Rattle.sag_texts.specs.declared.fault.FileKind.{FileKind}
use Rattle.sag_texts.specs.declared.fault.FileKind.TheVariants as kinds
use Rattle.sag_texts.specs.declared.fault.Fault.{Fault}
use Rattle.sag_texts.specs.declared.fault.Fault.TheVariants as faults
use Rattle.sag_words.specs.declared.command.Command.TheVariants as commands
use Rattle.sag_words.specs.Laws.{OneCommand}
use Rattle.sag_engine.specs.declared.conclusion.Conclusion.{Conclusion}
use Rattle.sag_engine.specs.declared.halt.Halt.{Halt}
use Rattle.sag_engine.specs.declared.halt.Halt.TheVariants.{Usage, Refused, Read, Write, Memory}
use Rattle.sag_engine.specs.declared.fetch.TheConstants.{MOST_CERTIFICATE_BYTES}
use Rattle.sag_engine.specs.Plan.{ComesTo, ReadsNext, file_plan, judged}
use Rattle.sag_engine.specs.Plan.Plan.{Ends}
use Rattle.sag_engine.specs.Convert.{ConversionJudged, PrintsConversion, PrintsConversions, conversion_plan, convert_files, convert_plan, convert_reply}
use Rattle.sag_engine.specs.Work.{IsAmongFiles, Reply, Work}
use Rattle.sag_engine.specs.Work.Work.{Converts}
use Rattle.sag_engine.specs.Commands.{Replies}
use Rattle.sag_engine.specs.RunEnds.{EndsWords, Follows, Gives, Pours, Runs, Works, run_status}
use Rattle.sag_engine.proofs.CertificateLemmas.{WholeFile, whole_file}
use Rattle.sag_engine.proofs.FileLemmas.{one_file, reads_split}
use Rattle.sag_engine.proofs.OnePlan.{IsOne, ends_one, file_one, judged_one, then_one}
use Rattle.sag_engine.proofs.PlanLemmas.{comes_split, follows_halt, follows_judged, follows_then, judged_so}

-- what other crates prove of conversions
pub record ConversionLaws : Type 0 where
  pub one_conversion : OneConversion
  pub one_text_fault : OneTextFault
  pub no_fault_of_readable : NoFaultOfReadable

-- ---- a certificate that was handed on as it was read

-- a conversion took the bytes of the file
abbrev PoursConversion : List ℕ → SeenFiles → SeenFiles → SeenConversion → SeenConversion → Type 0
PoursConversion name f f' first last =
    Pours {T = SeenConversion} (file_plan kinds.Certificate name MOST_CERTIFICATE_BYTES) f f' (Ok tt) (λ start bytes. ConvertsBytes start bytes first) (λ start bytes. ConvertsBytes start bytes last)

-- what is known of the end of a conversion
abbrev EndsAs : SeenConversion → Result (Vec ℕ Global) FeedFault → Type 0
EndsAs last result = (bytes : List ℕ) → ConvertsBytes fresh_conversion bytes last → EndsConversion bytes result

module _ (name : List ℕ) (f f' : SeenFiles) (first last : SeenConversion) (fresh : first ≡ fresh_conversion) (start : ConvertsBytes first [] first) where
  ends_at : (p : PoursConversion name f f' first last) (result : Result (Vec ℕ Global) FeedFault) → EndsAs last result → EndsConversion p.bytes result
  ends_at p result ends = ends p.bytes (subst (λ (s : SeenConversion). ConvertsBytes s p.bytes last) fresh (p.takes first [] start))

  pub conversion_ended : (p : PoursConversion name f f' first last) (text : Vec ℕ Global) → EndsAs last (Ok text)
      → Follows (λ (t : Vec ℕ Global). t.items) (conversion_plan name) f f' (Ok text)
  unfolding conversion_plan
  conversion_ended p text ends = follows_then _ _ _ _ p.follows (follows_judged _ _ (record { end = ends_at p (Ok text) ends }))

  pub conversion_wrong : (p : PoursConversion name f f' first last) (x : FeedFault) (line byte : ℕ) → x ≡ fault.Text line byte → EndsAs last (Err x)
      → Follows (λ (t : Vec ℕ Global). t.items) (conversion_plan name) f f' (Err (Refused (faults.Text line byte)))
  unfolding conversion_plan
  conversion_wrong p x line byte is ends =
      let at : EndsConversion p.bytes (Err (fault.Text line byte)) = subst (λ (y : FeedFault). EndsConversion p.bytes (Err y)) is (ends_at p (Err x) ends) in
      follows_then _ _ _ _ p.follows (follows_judged _ _ (record { end = (line, byte, refl, at) }))

pub conversion_halt : (name : List ℕ) (f f' : SeenFiles) (A B : SeenConversion → List ℕ → Type 0) (halt : Halt)
    → Pours (file_plan kinds.Certificate name MOST_CERTIFICATE_BYTES) f f' (Err halt) A B → Follows (λ (t : Vec ℕ Global). t.items) (conversion_plan name) f f' (Err halt)
unfolding conversion_plan
conversion_halt name f f' A B halt p = follows_halt _ _ _ _ p.follows

-- ---- what is known of a certificate that was converted

record AcceptedConversion (m : Option Contents) (name text : List ℕ) : Type 0 where
  bytes : List ℕ
  whole : WholeFile m name MOST_CERTIFICATE_BYTES bytes
  converts : ConvertsTo bytes text

accepted_conversion : (name : List ℕ) (m : Option Contents) (text : List ℕ) → ComesTo (conversion_plan name) m (Ok text) → AcceptedConversion m name text
unfolding conversion_plan
accepted_conversion name m text h =
    let s = comes_split (file_plan _ name _) _ m text h in
    record {
      bytes = s.0;
      whole = whole_file m _ name _ s.0 s.1;
      converts = judged_so (ConversionJudged s.0) m (Ok text) s.2;
    }

-- the work is to print the text
record AcceptedConvert (m : Option Contents) (cert : List ℕ) (work : Work) : Type 0 where
  text : List ℕ
  conversion : AcceptedConversion m cert text
  work_is : work ≡ Converts text

accepted_convert : (cert : List ℕ) (m : Option Contents) (work : Work) → ComesTo (convert_plan cert) m (Ok work) → AcceptedConvert m cert work
accepted_convert cert m work h =
    let s = comes_split (conversion_plan cert) _ m work h in
    record {
      text = s.0;
      conversion = accepted_conversion cert m s.0 s.1;
      work_is = let same : Converts s.0 ≡ work = cc in sym same;
    }

-- ---- its plan

conversion_reads : (name : List ℕ) (m : Option Contents) (k : FileKind) (n : List ℕ) → ReadsNext (conversion_plan name) m k n → (kinds.Certificate ≡ k) × (name ≡ n)
unfolding conversion_plan
conversion_reads name m k n h = one_file _ name _ _ m k n h

-- the file that it reads is the one that its words name
pub convert_reads : (cert : List ℕ) (m : Option Contents) (k : FileKind) (n : List ℕ) → ReadsNext (convert_plan cert) m k n → IsAmongFiles (convert_files cert) k n
convert_reads cert m k n h = elim (reads_split (conversion_plan cert) (λ text. Ends (Ok (Converts text))) m k n h) [
  | inl x ↦ inl (conversion_reads cert m k n x)
  | inr x ↦ absurd x.1
]

module _ (laws : ConversionLaws) where
  not_wrong : (bytes text : List ℕ) (fault : Fault) → ConvertsTo bytes text → ConversionJudged bytes (Err fault) → ⊥
  not_wrong bytes text fault converts (l, b, told, wrong) = laws.no_fault_of_readable first_version bytes converts.lines l b converts.readable wrong

  -- of a certificate's bytes there is one judgement
  conversion_same : (bytes : List ℕ) (v w : Result (List ℕ) Fault) → ConversionJudged bytes v → ConversionJudged bytes w → v ≡ w
  conversion_same bytes (Ok a) (Ok b) x y = ap Ok (laws.one_conversion bytes a b x y)
  conversion_same bytes (Ok a) (Err f) x y = absurd (not_wrong bytes a f x y)
  conversion_same bytes (Err f) (Ok a) y x = absurd (not_wrong bytes a f x y)
  conversion_same bytes (Err f) (Err g) (l, b, told, x) (k, c, told', y) =
      let same = laws.one_text_fault first_version bytes l b k c x y in
      ap Err (told ∙ ap (λ (n : ℕ). faults.Text n b) same.0 ∙ ap (faults.Text k) same.1 ∙ sym told')

  conversion_one : (contents : Contents) (name : List ℕ) → IsOne contents (conversion_plan name)
  unfolding conversion_plan
  conversion_one contents name = then_one contents (file_plan kinds.Certificate name MOST_CERTIFICATE_BYTES) (λ bytes. judged (ConversionJudged bytes))
      (file_one contents kinds.Certificate name MOST_CERTIFICATE_BYTES) (λ bytes comes. judged_one contents (ConversionJudged bytes) (conversion_same bytes))

  -- its file fixes its work, or its refusal
  pub convert_one : (contents : Contents) (cert : List ℕ) → IsOne contents (convert_plan cert)
  convert_one contents cert = then_one contents (conversion_plan cert) _ (conversion_one contents cert) (λ text comes. ends_one contents (Ok (Converts text)))

  -- its work has one reply
  pub one_convert_reply : (contents : Contents) (cert : List ℕ) (r s : Reply) → Gives (convert_plan cert) (Some contents) r → Gives (convert_plan cert) (Some contents) s → r ≡ s
  one_convert_reply contents cert r s a b =
      let works : ◌≡◌ {A = Result Work Fault} (Ok b.work) (Ok a.work) = (convert_one contents cert).one (Ok b.work) (Ok a.work) b.comes a.comes in
      let work : b.work ≡ a.work = cc works in
      let w = accepted_convert cert (Some contents) a.work a.comes in
      let is : r ≡ convert_reply w.text = subst (λ x. Replies x r) w.work_is a.replies in
      let is' : s ≡ convert_reply w.text = subst (λ x. Replies x s) (work ∙ w.work_is) b.replies in
      is ∙ sym is'

-- ---- what it means

module _ (one_command : OneCommand) (again : ConvertedIsReadable) (stays : OldIsValid) where
  prints_conversion : (cert : List ℕ) (f f' : SeenFiles) (o o' : SeenSink) (conclusion : Conclusion) → Runs (convert_plan cert) f f' o o' (Ok conclusion) → PrintsConversion cert f o o'
  prints_conversion cert f f' o o' conclusion w =
      let given = w.end.1 in
      let a = accepted_convert cert f.contents given.work given.comes in
      let c = a.conversion.converts in
      let is : w.end.0 ≡ convert_reply a.text = subst (λ x. Replies x w.end.0) a.work_is given.replies in
      record {
        bytes = a.conversion.bytes;
        are = a.conversion.whole.are;
        few = a.conversion.whole.few;
        lines = c.lines;
        readable = c.readable;
        printed = subst (λ (t : List ℕ). GrowsBy o.taken o'.taken t) (ap (λ (r : Reply). r.bytes) is ∙ c.written) w.end.3;
        reads_again = again a.conversion.bytes c.lines c.readable;
        stays_valid = λ table m old. stays table m c.lines old;
      }

  prints_conversions : (words : List (List ℕ)) (f f' : SeenFiles) (o o' : SeenSink) (r : Result Conclusion Halt) → EndsWords words f f' o o' r → PrintsConversions words f o o' (run_status r)
  prints_conversions words f f' o o' (Ok conclusion) w is = λ cert asked.
      let same = one_command words w.command (commands.Convert cert) w.asked asked in
      let runs = rw same at w.runs in
      prints_conversion cert f f' o o' conclusion runs
  prints_conversions words f f' o o' (Err Usage) w is = absurd cc
  prints_conversions words f f' o o' (Err (Refused fault)) w is = absurd cc
  prints_conversions words f f' o o' (Err (Read kind)) w is = absurd cc
  prints_conversions words f f' o o' (Err Write) w is = absurd cc
  prints_conversions words f f' o o' (Err Memory) w is = absurd cc

  -- where the words ask for a conversion, and it was done, the lines were printed in the new version
  pub conversions_by : (words : List (List ℕ)) {f f' : SeenFiles} {o o' : SeenSink} {r : Result Conclusion Halt} → Works words f f' o o' r → PrintsConversions words f o o' (run_status r)
  conversions_by words {f = f} {f' = f'} {o = o} {o' = o'} {r = r} w = prints_conversions words f f' o o' r w.end
