use Rattle.std.proofs.Common.{subst, sym}
use Rattle.std.proofs.lemmas.Result.{on_ok_weaker}
use Rattle.cert_convert.specs.Conversions.{ConvertsBytes, SeenConversion}
use Rattle.cert_convert.proofs.conversion.ConversionTakePiece.take_piece.Goals as goal

pub returns-clause-takes : goal.returns-clause-takes
returns-clause-takes c =
    on_ok_weaker c.feed_lines.result (λ h start bytes before. h start.text bytes (subst (λ (s : SeenConversion). ConvertsBytes start bytes s) (sym c.self.view_is) before)) c.feed_lines.ensures.read
