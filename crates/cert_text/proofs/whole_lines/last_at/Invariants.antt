use Rattle.std.proofs.Common.{◌≡◌, ◌≤◌, length}
use Rattle.cert_text.proofs.LinesAtOnce.{LastSoFar}
use Rattle.cert_text.proofs.whole_lines.last_at.Given as goal

abbrev pub invariant-loop-turn : goal.invariant-loop-turn
invariant-loop-turn l =
    (l.at ≤ length l.piece) × (length l.last ≡ l.turn) × LastSoFar l.fn.grammar l.piece l.fn.at l.at l.last
