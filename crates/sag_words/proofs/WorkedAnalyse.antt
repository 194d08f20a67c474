-- What some lists of words after `analyse` come to.
use Rattle.std.proofs.Common.{◌≡◌, ◌∷◌, [], Some, None, arith, codes, lit<, lit≤, refl, true}
use Rattle.clap.specs.Words.{fault_of, is_simple_and_free}
use Rattle.clap.specs.declared.error.kind.ErrorKind.TheVariants.{UnknownArgument}
use Rattle.clap.proofs.OnLiterals.{clap_on_literals}
use Rattle.sag_words.specs.Apps.{IsInGrammar, value_at}
use Rattle.sag_words.specs.Analyse.{analyse_app}
use Rattle.sag_words.specs.Numbers.{GivesBudget}

simple : is_simple_and_free analyse_app ≡ true
simple = refl

plain : IsInGrammar analyse_app (codes "J" ∷ [])
unfolding clap_on_literals IsInGrammar
plain = refl

-- there is no scenario
stray : fault_of analyse_app (codes "J" ∷ codes "S" ∷ []) ≡ UnknownArgument ∷ []
unfolding clap_on_literals
stray = refl

before_taken : IsInGrammar analyse_app (codes "--budget" ∷ codes "4" ∷ codes "J" ∷ [])
unfolding clap_on_literals IsInGrammar
before_taken = refl

before_budget : value_at analyse_app (codes "--budget" ∷ codes "4" ∷ codes "J" ∷ []) (codes "budget") ≡ Some (codes "4")
unfolding clap_on_literals value_at
before_budget = refl

no_budget : value_at analyse_app (codes "J" ∷ []) (codes "budget") ≡ None
unfolding clap_on_literals value_at
no_budget = refl

-- the least and the greatest budget
one : GivesBudget (Some (codes "01")) 1
one = (record { digits = (lit< tt, λ k d within. grind arith); value = refl; fits = lit< tt }, lit≤ tt, lit≤ tt)

million : GivesBudget (Some (codes "1000000")) 1000000
million = (record { digits = (lit< tt, λ k d within. grind arith); value = refl; fits = lit< tt }, lit≤ tt, lit≤ tt)

default : GivesBudget None 100000
default = refl
