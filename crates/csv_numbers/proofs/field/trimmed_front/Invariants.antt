use Rattle.std.proofs.Common.{◌≡◌, length}
use Rattle.csv_numbers.specs.Fields.{without_blanks}
use Rattle.csv_numbers.proofs.field.trimmed_front.Given as goal

-- what was taken off is blank
abbrev pub invariant-front : goal.invariant-front
invariant-front l = without_blanks l.text ≡ without_blanks l.initial.text

abbrev pub decreases-front : goal.decreases-front
decreases-front l = length l.text
