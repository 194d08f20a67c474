-- What some lists of words after `report` and `convert` come to.
use Rattle.std.proofs.Common.{◌≡◌, ◌∷◌, [], Some, codes, false, refl, true}
use Rattle.clap.specs.Words.{fault_of, is_simple_and_free}
use Rattle.clap.specs.declared.error.kind.ErrorKind.TheVariants.{ArgumentConflict, MissingRequiredArgument, TooManyValues, UnknownArgument}
use Rattle.clap.proofs.OnLiterals.{clap_on_literals}
use Rattle.sag_words.specs.Apps.{IsInGrammar, value_at}
use Rattle.sag_words.specs.Convert.{convert_app}
use Rattle.sag_words.specs.Flags.{is_given}
use Rattle.sag_words.specs.Report.{report_app}

simple : is_simple_and_free report_app ≡ true
simple = refl

plain : IsInGrammar report_app (codes "J" ∷ codes "C" ∷ [])
unfolding clap_on_literals IsInGrammar
plain = refl

plain_tasks : is_given (value_at report_app (codes "J" ∷ codes "C" ∷ []) (codes "tasks")) ≡ false
unfolding clap_on_literals value_at
plain_tasks = refl

-- the flag stands anywhere
tasks_taken : IsInGrammar report_app (codes "--tasks" ∷ codes "J" ∷ codes "C" ∷ [])
unfolding clap_on_literals IsInGrammar
tasks_taken = refl

tasks_given : is_given (value_at report_app (codes "--tasks" ∷ codes "J" ∷ codes "C" ∷ []) (codes "tasks")) ≡ true
unfolding clap_on_literals value_at
tasks_given = refl

tasks_cert : value_at report_app (codes "J" ∷ codes "--tasks" ∷ codes "C" ∷ []) (codes "CERT") ≡ Some (codes "C")
unfolding clap_on_literals value_at
tasks_cert = refl

-- it comes once, and has no value
twice : fault_of report_app (codes "J" ∷ codes "C" ∷ codes "--tasks" ∷ codes "--tasks" ∷ []) ≡ ArgumentConflict ∷ []
unfolding clap_on_literals
twice = refl

with_value : fault_of report_app (codes "J" ∷ codes "C" ∷ codes "--tasks=x" ∷ []) ≡ TooManyValues ∷ []
unfolding clap_on_literals
with_value = refl

-- `convert` has a place, and no option
convert_taken : value_at convert_app (codes "C" ∷ []) (codes "CERT") ≡ Some (codes "C")
unfolding clap_on_literals value_at
convert_taken = refl

convert_none : fault_of convert_app [] ≡ MissingRequiredArgument ∷ []
unfolding clap_on_literals
convert_none = refl

convert_cores : fault_of convert_app (codes "C" ∷ codes "--cores=2" ∷ []) ≡ UnknownArgument ∷ []
unfolding clap_on_literals
convert_cores = refl
