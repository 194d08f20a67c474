use Rattle.std.proofs.Common.{subst, sym}
use Rattle.std.proofs.lemmas.Result.{on_ok_weaker}
use Rattle.cert_check.specs.Checks.{SeenCheck, TakesBytes}
use Rattle.cert_check.proofs.checking.CertCheckTakePiece.take_piece.Goals as goal

pub returns-clause-takes : goal.returns-clause-takes
returns-clause-takes c =
    on_ok_weaker c.feed_lines.result (λ h start bytes checks. h start.checker bytes (subst (λ (s : SeenCheck). TakesBytes start bytes s) (sym c.self.view_is) checks)) c.feed_lines.ensures.read
