-- What some lists of words after `whatif` and `gap` come to.
use Rattle.std.proofs.Common.{◌≡◌, ◌∷◌, [], None, Some, arith, codes, lit<, refl, true}
use Rattle.clap.specs.Words.{fault_of, is_simple_and_free}
use Rattle.clap.specs.declared.error.kind.ErrorKind.TheVariants.{ArgumentConflict}
use Rattle.clap.proofs.OnLiterals.{clap_on_literals}
use Rattle.sag_words.specs.Apps.{IsInGrammar, value_at}
use Rattle.sag_words.specs.Gap.{gap_app}
use Rattle.sag_words.specs.Numbers.{GivesTrial}
use Rattle.sag_words.specs.WhatIf.{whatif_app}

simple_whatif : is_simple_and_free whatif_app ≡ true
simple_whatif = refl

whatif_taken : IsInGrammar whatif_app (codes "J" ∷ codes "--budget=7" ∷ codes "E" ∷ [])
unfolding clap_on_literals IsInGrammar
whatif_taken = refl

simple_gap : is_simple_and_free gap_app ≡ true
simple_gap = refl

trial_given : value_at gap_app (codes "J" ∷ codes "--trial" ∷ codes "5" ∷ []) (codes "trial") ≡ Some (codes "5")
unfolding clap_on_literals value_at
trial_given = refl

trial_twice : fault_of gap_app (codes "J" ∷ codes "--trial=5" ∷ codes "--trial=5" ∷ []) ≡ ArgumentConflict ∷ []
unfolding clap_on_literals
trial_twice = refl

no_trial : GivesTrial None None
no_trial = refl

greatest_trial : GivesTrial (Some (codes "4294967295")) (Some 4294967295)
greatest_trial = (record { digits = (lit< tt, λ k d within. grind arith); value = refl; fits = lit< tt }, lit< tt)
