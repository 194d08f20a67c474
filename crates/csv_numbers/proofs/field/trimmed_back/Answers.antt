use Rattle.std.proofs.Common.{arith, rules, sym, ap, reverse, ◌∙◌}
use Rattle.csv_numbers.proofs.FieldLemmas.{back-step, back-stop, back-none}
use Rattle.csv_numbers.proofs.field.trimmed_back.Goals as goal

pub back-preserved : goal.back-preserved
back-preserved c = back-step c.back.text.now (omega arith) (search rules) ∙ c.back.invariant

pub returns-in_default : goal.returns-in_default
returns-in_default c = sym (back-none c.back.text.now (omega arith)) ∙ ap reverse c.back.invariant

pub returns-then-not-is_blank_byte : goal.returns-then-not-is_blank_byte
returns-then-not-is_blank_byte c = sym (back-stop c.back.text.now (omega arith) (search rules)) ∙ ap reverse c.back.invariant
