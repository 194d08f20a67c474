-- The bytes of a certificate fix what a check of them comes to.
use Rattle.std.proofs.Common.{◌≡◌, ◌∙◌, ◌++◌, ◌∷◌, ℕ, List, [], Some, Result, Ok, Err, inl, inr, ap, sym, subst, append_assoc, append-nil, IsOkAnd}
use Rattle.job_model.specs.Table.{Table}
use Rattle.cert_text.specs.declared.fault.FeedFault.TheVariants as fault
use Rattle.cert_text.specs.declared.grammar.Grammar.{Grammar}
use Rattle.cert_text.specs.declared.line.CertLine.{CertLine}
use Rattle.cert_text.specs.Grammar.{second_version}
use Rattle.cert_text.specs.Laws.{OneHeld, OneReading}
use Rattle.cert_text.specs.Readable.{IsPrefix, Readable}
use Rattle.cert_text.specs.Taken.{Fault, Held, HoldsFault}
use Rattle.graph_check.specs.declared.due.Due.TheVariants as due
use Rattle.graph_check.specs.Entries.{JobEntry}
use Rattle.graph_check.specs.Kept.{Failure, failure_of, kept}
use Rattle.graph_check.specs.Laws.{ValidIsKept}
use Rattle.graph_check.specs.Progress.{Progress}
use Rattle.graph_check.specs.Valid.{Valid}
use Rattle.cert_check.specs.Checks.{CheckedAs}
use Rattle.cert_check.specs.Laws.{NoFaultOfReadable, OneEnd, OneTextFault}

-- ---- one end

no_failure : (k : Result Progress Failure) (failure : Failure) → IsOkAnd k (λ r. r.due ≡ due.Nothing) → failure_of k ≡ Some failure → ⊥
no_failure (Ok r) failure a b = cc b
no_failure (Err f) failure a b = absurd a

not_valid : (law : ValidIsKept) (table : Table) (m : ℕ) (lines : List CertLine) (failure : Failure) → Valid table m lines → failure_of (kept table m lines) ≡ Some failure → ⊥
not_valid law table m lines failure valid failed = no_failure (kept table m lines) failure ((law table m lines).0 valid) failed

one_checked : (law : ValidIsKept) (table : Table) (m : ℕ) (lines : List CertLine) (one other : Result (List JobEntry) Failure) → CheckedAs table m lines one → CheckedAs table m lines other → one ≡ other
one_checked law table m lines (Ok jobs) (Ok others) a b = ap Ok (a.jobs_are ∙ sym b.jobs_are)
one_checked law table m lines (Ok jobs) (Err failure) a b = absurd (not_valid law table m lines failure a.valid b)
one_checked law table m lines (Err failure) (Ok jobs) a b = absurd (not_valid law table m lines failure b.valid a)
one_checked law table m lines (Err f) (Err g) a b = let same : Some f ≡ Some g = sym a ∙ b in let is : f ≡ g = cc same in ap Err is

pub one_end : OneReading → ValidIsKept → OneEnd
one_end reading law table m bytes one other a b =
    let same : b.lines ≡ a.lines = reading second_version bytes b.lines a.lines b.readable a.readable in
    one_checked law table m a.lines one other a.checked (subst (λ (ls : List CertLine). CheckedAs table m ls other) same b.checked)

-- ---- one text fault

-- the bytes up to a wrong one begin no readable certificate, so neither do more
no_prefix : (g : Grammar) (bytes : List ℕ) (l b : ℕ) → HoldsFault g bytes l b → IsPrefix g bytes → ⊥
no_prefix g bytes l b h p =
    let are : bytes ++ p.rest ≡ (h.front ++ h.bad ∷ []) ++ (h.more ++ p.rest) =
    ap (λ (t : List ℕ). t ++ p.rest) h.are ∙ append_assoc h.front (h.bad ∷ h.more) p.rest ∙ sym (append_assoc h.front (h.bad ∷ []) (h.more ++ p.rest)) in
    h.first (record { rest = h.more ++ p.rest; lines = p.lines; readable = subst (λ (t : List ℕ). Readable g t p.lines) are p.readable })

pub one_text_fault : OneHeld → OneTextFault
one_text_fault held g bytes l b k c (inl x) (inl y) =
    let same : ◌≡◌ {A = Held} (Fault (fault.Text l b)) (Fault (fault.Text k c)) = held g bytes (Fault (fault.Text l b)) (Fault (fault.Text k c)) x y in (cc same, cc same)
one_text_fault held g bytes l b k c (inl x) (inr y) = absurd (no_prefix g bytes l b x y.prefix)
one_text_fault held g bytes l b k c (inr x) (inl y) = absurd (no_prefix g bytes k c y x.prefix)
one_text_fault held g bytes l b k c (inr x) (inr y) = (x.at_line ∙ sym y.at_line, x.at_byte ∙ sym y.at_byte)

pub no_fault_of_readable : NoFaultOfReadable
no_fault_of_readable g bytes lines l b readable (inl x) =
    no_prefix g bytes l b x (record { rest = []; lines = lines; readable = subst (λ (t : List ℕ). Readable g t lines) (sym (append-nil bytes)) readable })
no_fault_of_readable g bytes lines l b readable (inr x) = x.short (lines, readable)
