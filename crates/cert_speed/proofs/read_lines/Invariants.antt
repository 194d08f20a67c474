use Rattle.std.proofs.Common.{◌≤◌, length}
use Rattle.cert_text.specs.Reader.{count_of_lines}
use Rattle.cert_speed.proofs.read_lines.Given as goal

abbrev pub invariant-loop-turn : goal.invariant-loop-turn
invariant-loop-turn l = (l.at ≤ length l.piece) × (count_of_lines l.reader.held ≤ l.turn) × (l.lines ≤ l.turn)
