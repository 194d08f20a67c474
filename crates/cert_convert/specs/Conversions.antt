-- A certificate of the old version that is written in the new one as its bytes come.
--     SeenConversion                    what is seen of a conversion: what its reader holds, and the text so far
--     fresh_conversion                  a conversion before the first byte
--     converted_text lines              the lines in the new version
--     ConvertsBytes start bytes now     a conversion came from start to now by taking the bytes
--     ConvertsTo bytes text             the bytes are a readable certificate, and the text is that of its lines
--     EndsConversion bytes end          what the end of the bytes gives
use Rattle.std.specs.Prelude.{ℕ, ◌≡◌, ◌++◌, List, [], false, None, Result, Ok, Err, Vec}
use Rattle.std.specs.List.{flat_map}
use Rattle.std.specs.declared.alloc.Global.{Global}
use Rattle.cert_text.specs.declared.fault.FeedFault.{FeedFault}
use Rattle.cert_text.specs.declared.fault.FeedFault.TheVariants as fault
use Rattle.cert_text.specs.declared.line.CertLine.{CertLine}
use Rattle.cert_text.specs.Grammar.{first_version, second_version}
use Rattle.cert_text.specs.Readable.{Readable}
use Rattle.cert_text.specs.Reader.{HeldReader}
use Rattle.cert_text.specs.Spelling.{line_text}
use Rattle.cert_text.specs.Taken.{Open}
use Rattle.cert_stream.specs.Lines.{AfterBytes, IsTextFault}

-- what is seen of a conversion
pub record SeenConversion : Type 0 where
  pub reader : HeldReader
  pub text : List ℕ

-- a conversion before the first byte
abbrev pub fresh_conversion : SeenConversion
fresh_conversion = record {
  reader = record { grammar = first_version; held = Open 0 [] false; waiting = None };
  text = [];
}

-- the lines in the new version, one after another
abbrev pub converted_text : List CertLine → List ℕ
converted_text lines = flat_map (line_text second_version) lines

-- A conversion came from the first to this by taking the bytes: some lines were taken out of them, and written.
abbrev pub ConvertsBytes : SeenConversion → List ℕ → SeenConversion → Type 0
ConvertsBytes first bytes now = AfterBytes first_version bytes now.reader (λ lines. now.text ≡ first.text ++ converted_text lines)

-- the bytes are a readable certificate of the old version, and the text is that of its lines in the new one
pub record ConvertsTo (bytes text : List ℕ) : Type 0 where
  pub lines : List CertLine
  pub readable : Readable first_version bytes lines
  pub written : text ≡ converted_text lines

-- what the end of the bytes gives: the text, or the place of a text fault
abbrev pub EndsConversion : List ℕ → Result (Vec ℕ Global) FeedFault → Type 0
EndsConversion bytes (Ok text) = ConvertsTo bytes text.items
EndsConversion bytes (Err (fault.Text line byte)) = IsTextFault first_version bytes line byte
EndsConversion bytes (Err fault.Memory) = ⊥
