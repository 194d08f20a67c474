-- Worked texts: what the machine makes of them, computed.
use Rattle.std.proofs.Common.{◌≡◌, ℕ, ◌+◌, Bool, true, false, List, [], ◌∷◌, ◌++◌, length, refl, codes}
use Rattle.std.specs.Prelude.{Option, Some, None, take}
use Rattle.cert_text.specs.declared.grammar.Grammar.{Grammar}
use Rattle.cert_text.specs.declared.line.CertLine.{CertLine}
use Rattle.cert_text.specs.declared.line.CertLine.TheVariants as line
use Rattle.cert_text.specs.declared.line.Mark.TheVariants as mark
use Rattle.cert_text.specs.Grammar.{first_version, second_version}
use Rattle.cert_text.specs.Machine.{Text, run}
use Rattle.cert_text.proofs.ReadableRuns.{over}

-- whether all bytes are taken
abbrev takes : Option Text → Bool
takes None = false
takes (Some t) = true

-- the byte behind so many bytes is the first that fits nowhere
abbrev WrongAt : Grammar → List ℕ → ℕ → Type 0
WrongAt g bytes n = (takes (run g (take n bytes)) ≡ true) × (takes (run g (take (n + 1) bytes)) ≡ false)

-- two jobs on one core
abbrev lines : List CertLine
lines =
    line.Head 2 1 ∷ line.Level 0 1 ∷ line.Root (record { lo = 0; hi = 0 } ∷ [])
    ∷ line.Level 1 2 ∷ line.State 0 0 (record { lo = 1; hi = 2 } ∷ []) [] [] ∷ line.State 0 1 (record { lo = 2; hi = 3 } ∷ []) [] []
    ∷ line.Edge 0 0 0 0 0 ∷ line.Edge 0 1 0 0 1
    ∷ line.Level 2 1 ∷ line.State 0 1 (record { lo = 3; hi = 5 } ∷ []) [] [] ∷ line.Edge 0 1 1 2 0 ∷ line.Edge 1 0 2 3 0
    ∷ line.Job 0 1 5 mark.Ok ∷ line.Job 1 2 5 mark.Ok ∷ line.Verdict mark.Ok ∷ line.End ∷ []

-- of the new version and of the old
new_text : List ℕ
new_text =
    codes "sagcert 2 2 1\nlevel 0 1\nroot 0:0\nlevel 1 2\nstate 0 0 1:2 | |\nstate 0 1 2:3 | |\nedge 0 0 0 0 0\nedge 0 1 0 0 1\n"
    ++ codes "level 2 1\nstate 0 1 3:5 | |\nedge 0 1 1 2 0\nedge 1 0 2 3 0\njob 0 1 5 ok\njob 1 2 5 ok\nverdict ok\nend\n"

old_text : List ℕ
old_text =
    codes "sagcert 1 2 1\nlevel 0 1\nroot 0:0\nlevel 1 2\nstate 0 0 1:2 |\nstate 0 1 2:3 |\nedge 0 0 0 0 0\nedge 0 1 0 0 1\n"
    ++ codes "level 2 1\nstate 0 1 3:5 |\nedge 0 1 1 2 0\nedge 1 0 2 3 0\njob 0 1 5 ok\njob 1 2 5 ok\nverdict ok\nend\n"

new_length : length new_text ≡ 208
unfolding new_text
new_length = refl

new_taken : run second_version new_text ≡ Some (over lines)
unfolding new_text
new_taken = refl

old_taken : run first_version old_text ≡ Some (over lines)
unfolding old_text
old_taken = refl

-- the other version's head
old_refused : WrongAt second_version (codes "sagcert 1 2 1\n") 8
old_refused = (refl, refl)

new_refused : WrongAt first_version (codes "sagcert 2 2 1\n") 8
new_refused = (refl, refl)

-- no second bar
no_second_bar : WrongAt second_version (codes "sagcert 2 2 1\nstate 0 0 1:2 |\n") 29
no_second_bar = (refl, refl)

-- a second bar in the old version
second_bar : WrongAt first_version (codes "sagcert 1 2 1\nstate 0 0 1:2 | |\n") 30
second_bar = (refl, refl)

-- ends and last jobs
with_last : takes (run second_version (codes "sagcert 2 2 1\nstate 0 0 1:2 | 0:1:2 5:6:7 | 0 5\n")) ≡ true
with_last = refl

-- a last job that is a pair, a leading zero, and the greatest number
pair_last : WrongAt second_version (codes "sagcert 2 2 1\nstate 0 0 1:2 | | 0:1\n") 33
pair_last = (refl, refl)

zero_last : WrongAt second_version (codes "sagcert 2 2 1\nstate 0 0 1:2 | | 05\n") 33
zero_last = (refl, refl)

great_last : WrongAt second_version (codes "sagcert 2 2 1\nstate 0 0 1:2 | | 4611686018427387904\n") 50
great_last = (refl, refl)
