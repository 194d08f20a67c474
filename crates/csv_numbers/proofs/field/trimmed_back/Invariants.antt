use Rattle.std.proofs.Common.{◌≡◌, length, reverse}
use Rattle.csv_numbers.specs.Fields.{without_blanks}
use Rattle.csv_numbers.proofs.field.trimmed_back.Given as goal

-- what was taken off is blank
abbrev pub invariant-back : goal.invariant-back
invariant-back l = without_blanks (reverse l.text) ≡ without_blanks (reverse l.initial.text)

abbrev pub decreases-back : goal.decreases-back
decreases-back l = length l.text
