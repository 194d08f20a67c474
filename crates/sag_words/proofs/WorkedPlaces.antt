-- What some lists of words after `attain`, `selftest`, `audit` and `unroll` come to.
use Rattle.std.proofs.Common.{◌≡◌, ◌∷◌, [], Some, arith, codes, lit<, lit≤, refl, true}
use Rattle.clap.specs.Words.{fault_of, is_simple_and_free}
use Rattle.clap.specs.declared.error.kind.ErrorKind.TheVariants.{MissingRequiredArgument, UnknownArgument}
use Rattle.clap.proofs.OnLiterals.{clap_on_literals}
use Rattle.job_model.specs.declared.interval_end.End.TheVariants.{Best}
use Rattle.task_unroll.specs.declared.task.Policy.TheVariants.{Edf}
use Rattle.sag_words.specs.Apps.{IsInGrammar, value_at}
use Rattle.sag_words.specs.Attain.{attain_app}
use Rattle.sag_words.specs.Audit.{audit_app}
use Rattle.sag_words.specs.Ends.{GivesEnd}
use Rattle.sag_words.specs.Numbers.{GivesHorizon, GivesNumber}
use Rattle.sag_words.specs.Policies.{GivesPolicy}
use Rattle.sag_words.specs.Selftest.{selftest_app}
use Rattle.sag_words.specs.Unroll.{unroll_app}

simple_attain : is_simple_and_free attain_app ≡ true
simple_attain = refl

attain_end : value_at attain_app (codes "J" ∷ codes "1" ∷ codes "2" ∷ codes "best" ∷ []) (codes "END") ≡ Some (codes "best")
unfolding clap_on_literals value_at
attain_end = refl

-- there is one core
no_cores : fault_of attain_app (codes "J" ∷ codes "1" ∷ codes "2" ∷ codes "best" ∷ codes "--cores=1" ∷ []) ≡ UnknownArgument ∷ []
unfolding clap_on_literals
no_cores = refl

best : GivesEnd (Some (codes "best")) Best
best = refl

simple_selftest : is_simple_and_free selftest_app ≡ true
simple_selftest = refl

no_number : fault_of selftest_app [] ≡ MissingRequiredArgument ∷ []
unfolding clap_on_literals
no_number = refl

seven : GivesNumber (Some (codes "07")) 7
seven = record { digits = (lit< tt, λ k d within. grind arith); value = refl; fits = lit< tt }

simple_audit : is_simple_and_free audit_app ≡ true
simple_audit = refl

audit_taken : IsInGrammar audit_app (codes "J" ∷ codes "S" ∷ codes "R" ∷ [])
unfolding clap_on_literals IsInGrammar
audit_taken = refl

simple_unroll : is_simple_and_free unroll_app ≡ true
simple_unroll = refl

unroll_taken : IsInGrammar unroll_app (codes "T" ∷ codes "100" ∷ codes "edf" ∷ [])
unfolding clap_on_literals IsInGrammar
unroll_taken = refl

least_horizon : GivesHorizon (Some (codes "1")) 1
least_horizon = (record { digits = (lit< tt, λ k d within. grind arith); value = refl; fits = lit< tt }, lit≤ tt, lit≤ tt)

edf : GivesPolicy (Some (codes "edf")) Edf
edf = refl
