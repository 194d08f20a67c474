use Rattle.std.proofs.Common.{◌∙◌, subst, sym}
use Rattle.cert_text.specs.declared.grammar.Grammar.{Grammar}
use Rattle.cert_text.specs.Readable.{Readable}
use Rattle.cert_stream.specs.Lines.{HasLines}
use Rattle.cert_convert.specs.Conversions.{ConvertsBytes, SeenConversion, fresh_conversion}
use Rattle.cert_convert.proofs.conversion.Conversion.finish.Goals as goal

pub returns-in-Ok : goal.returns-in-Ok
returns-in-Ok c bytes before =
    let h = subst (λ (s : SeenConversion). ConvertsBytes fresh_conversion bytes s) (sym c.self.view_is) before in
    record {
      lines = h.lines;
      readable = subst (λ (g : Grammar). HasLines g bytes c.self.inside.reader h.lines → Readable g bytes h.lines) h.has.version (c.in-Ok.ensures bytes h.lines) h.has;
      written = c.into_text.ensures ∙ h.took;
    }
