-- Laws of checks: the bytes fix what a check of them comes to.
--     OneEnd               readable bytes come to one end
--     OneTextFault         bytes have one text fault at most
--     NoFaultOfReadable    readable bytes have none
use Rattle.std.specs.Prelude.{ℕ, ◌≡◌, List, Result}
use Rattle.job_model.specs.Table.{Table}
use Rattle.cert_text.specs.declared.grammar.Grammar.{Grammar}
use Rattle.cert_text.specs.declared.line.CertLine.{CertLine}
use Rattle.cert_text.specs.Readable.{Readable}
use Rattle.cert_stream.specs.Lines.{IsTextFault}
use Rattle.graph_check.specs.Entries.{JobEntry}
use Rattle.graph_check.specs.Kept.{Failure}
use Rattle.cert_check.specs.Checks.{ReadsAs}

-- readable bytes come to one end
abbrev pub OneEnd : Type 0
OneEnd = (table : Table) (m : ℕ) (bytes : List ℕ) (one other : Result (List JobEntry) Failure) → ReadsAs table m bytes one → ReadsAs table m bytes other → one ≡ other

-- bytes have one text fault at most
abbrev pub OneTextFault : Type 0
OneTextFault = (g : Grammar) (bytes : List ℕ) (l b k c : ℕ) → IsTextFault g bytes l b → IsTextFault g bytes k c → (l ≡ k) × (b ≡ c)

-- readable bytes have no text fault
abbrev pub NoFaultOfReadable : Type 0
NoFaultOfReadable = (g : Grammar) (bytes : List ℕ) (lines : List CertLine) (l b : ℕ) → Readable g bytes lines → IsTextFault g bytes l b → ⊥
