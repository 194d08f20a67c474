use Rattle.std.proofs.Common.{◌≡◌, ◌≤◌}
use Rattle.cert_text.specs.Grammar.{second_version}
use Rattle.cert_text.specs.Reader.{count_of_lines}
use Rattle.graph_check.specs.Answers.{IfProgress}
use Rattle.certificate_calls.proofs.graph_check_calls.checked.Given as goal

-- no more lines than texts so far
abbrev pub invariant-loop-text : goal.invariant-loop-text
invariant-loop-text l = record {
  read : count_of_lines l.reader.held ≤ l.text-index;
  version : l.reader.grammar ≡ second_version;
  taken : IfProgress l.checker.kept (λ r. r.lines ≤ l.text-index);
}
