use Rattle.std.proofs.Common.{arith, rules, sym, ◌∙◌}
use Rattle.csv_numbers.proofs.FieldLemmas.{front-step, front-stop, front-none}
use Rattle.csv_numbers.proofs.field.trimmed_front.Goals as goal

pub front-preserved : goal.front-preserved
front-preserved c = front-step c.front.text.now (omega arith) (search rules) ∙ c.front.invariant

pub returns-in_default : goal.returns-in_default
returns-in_default c = sym (front-none c.front.text.now (omega arith)) ∙ c.front.invariant

pub returns-then-not-is_blank_byte : goal.returns-then-not-is_blank_byte
returns-then-not-is_blank_byte c = sym (front-stop c.front.text.now (search rules)) ∙ c.front.invariant
