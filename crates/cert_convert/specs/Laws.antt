-- Laws of conversions.
--     ConvertedIsReadable    the converted text is a readable certificate of the new version, of the same lines
--     OneConversion          bytes convert to one text
use Rattle.std.specs.Prelude.{ℕ, ◌≡◌, List}
use Rattle.cert_text.specs.declared.line.CertLine.{CertLine}
use Rattle.cert_text.specs.Grammar.{first_version, second_version}
use Rattle.cert_text.specs.Readable.{Readable}
use Rattle.cert_convert.specs.Conversions.{ConvertsTo, converted_text}

-- The text of the lines of a readable certificate of the old version is a readable certificate of the new one, of the same lines.
abbrev pub ConvertedIsReadable : Type 0
ConvertedIsReadable = (bytes : List ℕ) (lines : List CertLine) → Readable first_version bytes lines → Readable second_version (converted_text lines) lines

-- bytes convert to one text
abbrev pub OneConversion : Type 0
OneConversion = (bytes one other : List ℕ) → ConvertsTo bytes one → ConvertsTo bytes other → one ≡ other
