-- The text of the lines so far and of one more; and the lines of a conversion in both versions.
use Rattle.std.proofs.Common.{◌≡◌, ◌∙◌, ◌++◌, ◌∷◌, ℕ, List, [], ap, refl, sym, append_assoc, append-nil}
use Rattle.std.specs.List.{AllByRecursion}
use Rattle.std.proofs.lemmas.List.Concat.{flat_map-append}
use Rattle.lists.proofs.Elements.{recursion_weaker}
use Rattle.cert_text.specs.declared.line.CertLine.{CertLine}
use Rattle.cert_text.specs.Grammar.{first_version, second_version}
use Rattle.cert_text.specs.Laws.{OldLinesFit, OneReading}
use Rattle.cert_text.specs.Readable.{Readable}
use Rattle.cert_text.specs.Reader.{HeldReader}
use Rattle.cert_text.specs.Spelling.{FitsLine, line_text}
use Rattle.cert_text.specs.Taken.{HoldsAfter}
use Rattle.cert_convert.specs.Conversions.{ConvertsTo, converted_text}
use Rattle.cert_convert.specs.Laws.{ConvertedIsReadable, OneConversion}

-- one more line
pub converts_line : (start old new : List ℕ) (lines : List CertLine) (l : CertLine) → old ≡ start ++ converted_text lines → new ≡ old ++ line_text second_version l →
    new ≡ start ++ converted_text (lines ++ l ∷ [])
converts_line start old new lines l before more =
    let text = converted_text lines in
    let spelled = line_text second_version l in
    let last : converted_text (lines ++ l ∷ []) ≡ text ++ spelled =
    flat_map-append (line_text second_version) lines (l ∷ []) ∙ ap (λ (t : List ℕ). text ++ t) (append-nil spelled) in
    more ∙ ap (λ (t : List ℕ). t ++ spelled) before ∙ append_assoc start text spelled ∙ ap (λ (t : List ℕ). start ++ t) (sym last)

pub converted_is_readable : OldLinesFit → ConvertedIsReadable
converted_is_readable fit bytes lines r = record {
  head = r.head;
  inner = r.inner;
  are = r.are;
  is_head = r.is_head;
  are_inner = r.are_inner;
  fit = recursion_weaker (FitsLine first_version) (FitsLine second_version) (λ l fits. (fit l fits).0) lines r.fit;
  spelled = refl;
}

pub one_conversion : OneReading → OneConversion
one_conversion reading bytes one other a b =
    a.written ∙ ap converted_text (reading first_version bytes a.lines b.lines a.readable b.readable) ∙ sym b.written
