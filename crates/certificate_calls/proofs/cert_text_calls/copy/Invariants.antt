use Rattle.std.proofs.Common.{◌≡◌, ◌≤◌, length, cond}
use Rattle.cert_text.specs.Grammar.{first_version, second_version}
use Rattle.cert_text.specs.Reader.{count_of_lines}
use Rattle.certificate_calls.proofs.cert_text_calls.copy.Given as goal

abbrev pub invariant-loop-turn : goal.invariant-loop-turn
invariant-loop-turn l =
    (l.at ≤ length l.text) × (count_of_lines l.reader.held ≤ l.turn)
    × (l.reader.grammar ≡ cond l.fn.old first_version second_version)
