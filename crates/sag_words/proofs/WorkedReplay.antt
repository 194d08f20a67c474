-- What some lists of words after `replay` come to.
use Rattle.std.proofs.Common.{◌≡◌, ◌∷◌, [], ℕ, Some, None, arith, codes, lit<, lit≤, refl, true}
use Rattle.clap.specs.Words.{fault_of, is_simple_and_free}
use Rattle.clap.specs.declared.error.kind.ErrorKind.TheVariants.{ArgumentConflict, InvalidValue, MissingRequiredArgument, UnknownArgument}
use Rattle.clap.proofs.OnLiterals.{clap_on_literals}
use Rattle.sag_words.specs.Apps.{IsInGrammar, value_at}
use Rattle.sag_words.specs.Replay.{replay_app}
use Rattle.sag_words.specs.Numbers.{GivesCores}

simple : is_simple_and_free replay_app ≡ true
simple = refl

plain : IsInGrammar replay_app (codes "J" ∷ codes "S" ∷ [])
unfolding clap_on_literals IsInGrammar
plain = refl

plain_jobs : value_at replay_app (codes "J" ∷ codes "S" ∷ []) (codes "JOBS") ≡ Some (codes "J")
unfolding clap_on_literals value_at
plain_jobs = refl

plain_scenario : value_at replay_app (codes "J" ∷ codes "S" ∷ []) (codes "SCENARIO") ≡ Some (codes "S")
unfolding clap_on_literals value_at
plain_scenario = refl

none : fault_of replay_app [] ≡ MissingRequiredArgument ∷ []
unfolding clap_on_literals
none = refl

one : fault_of replay_app (codes "J" ∷ []) ≡ MissingRequiredArgument ∷ []
unfolding clap_on_literals
one = refl

stray : fault_of replay_app (codes "J" ∷ codes "S" ∷ codes "X" ∷ []) ≡ UnknownArgument ∷ []
unfolding clap_on_literals
stray = refl

-- there is no help
help : fault_of replay_app (codes "J" ∷ codes "S" ∷ codes "--help" ∷ []) ≡ UnknownArgument ∷ []
unfolding clap_on_literals
help = refl

short_help : fault_of replay_app (codes "J" ∷ codes "S" ∷ codes "-h" ∷ []) ≡ UnknownArgument ∷ []
unfolding clap_on_literals
short_help = refl

help_taken : IsInGrammar replay_app (codes "help" ∷ codes "S" ∷ [])
unfolding clap_on_literals IsInGrammar
help_taken = refl

help_jobs : value_at replay_app (codes "help" ∷ codes "S" ∷ []) (codes "JOBS") ≡ Some (codes "help")
unfolding clap_on_literals value_at
help_jobs = refl

-- the empty word and `-` are words like others
empty_taken : IsInGrammar replay_app ([] ∷ codes "S" ∷ [])
unfolding clap_on_literals IsInGrammar
empty_taken = refl

empty_jobs : value_at replay_app ([] ∷ codes "S" ∷ []) (codes "JOBS") ≡ Some []
unfolding clap_on_literals value_at
empty_jobs = refl

hyphen_taken : IsInGrammar replay_app (codes "-" ∷ codes "S" ∷ [])
unfolding clap_on_literals IsInGrammar
hyphen_taken = refl

hyphen_jobs : value_at replay_app (codes "-" ∷ codes "S" ∷ []) (codes "JOBS") ≡ Some (codes "-")
unfolding clap_on_literals value_at
hyphen_jobs = refl

negative : fault_of replay_app (codes "-1" ∷ codes "S" ∷ []) ≡ UnknownArgument ∷ []
unfolding clap_on_literals
negative = refl

-- the name of a place is no option, and an option has a name
place_as_option : fault_of replay_app (codes "J" ∷ codes "S" ∷ codes "--JOBS=x" ∷ []) ≡ UnknownArgument ∷ []
unfolding clap_on_literals
place_as_option = refl

no_option : fault_of replay_app (codes "J" ∷ codes "S" ∷ codes "--=2" ∷ []) ≡ UnknownArgument ∷ []
unfolding clap_on_literals
no_option = refl

-- after `--` every word has a place
dashes_taken : IsInGrammar replay_app (codes "--" ∷ codes "--cores" ∷ codes "-x" ∷ [])
unfolding clap_on_literals IsInGrammar
dashes_taken = refl

dashes_jobs : value_at replay_app (codes "--" ∷ codes "--cores" ∷ codes "-x" ∷ []) (codes "JOBS") ≡ Some (codes "--cores")
unfolding clap_on_literals value_at
dashes_jobs = refl

dashes_scenario : value_at replay_app (codes "--" ∷ codes "--cores" ∷ codes "-x" ∷ []) (codes "SCENARIO") ≡ Some (codes "-x")
unfolding clap_on_literals value_at
dashes_scenario = refl

twice_taken : IsInGrammar replay_app (codes "J" ∷ codes "--" ∷ codes "--" ∷ [])
unfolding clap_on_literals IsInGrammar
twice_taken = refl

twice_scenario : value_at replay_app (codes "J" ∷ codes "--" ∷ codes "--" ∷ []) (codes "SCENARIO") ≡ Some (codes "--")
unfolding clap_on_literals value_at
twice_scenario = refl

-- options stand between the places, and after them
options_taken : IsInGrammar replay_app (codes "J" ∷ codes "--cores=7" ∷ codes "S" ∷ codes "--prec" ∷ codes "P" ∷ [])
unfolding clap_on_literals IsInGrammar
options_taken = refl

options_scenario : value_at replay_app (codes "J" ∷ codes "--cores=7" ∷ codes "S" ∷ codes "--prec" ∷ codes "P" ∷ []) (codes "SCENARIO") ≡ Some (codes "S")
unfolding clap_on_literals value_at
options_scenario = refl

options_prec : value_at replay_app (codes "J" ∷ codes "--cores=7" ∷ codes "S" ∷ codes "--prec" ∷ codes "P" ∷ []) (codes "prec") ≡ Some (codes "P")
unfolding clap_on_literals value_at
options_prec = refl

options_cores : value_at replay_app (codes "J" ∷ codes "--cores=7" ∷ codes "S" ∷ codes "--prec" ∷ codes "P" ∷ []) (codes "cores") ≡ Some (codes "7")
unfolding clap_on_literals value_at
options_cores = refl

-- without an option there is no value
no_prec : value_at replay_app (codes "J" ∷ codes "S" ∷ []) (codes "prec") ≡ None
unfolding clap_on_literals value_at
no_prec = refl

empty_prec : value_at replay_app (codes "J" ∷ codes "S" ∷ codes "--prec=" ∷ []) (codes "prec") ≡ Some []
unfolding clap_on_literals value_at
empty_prec = refl

hyphen_prec : value_at replay_app (codes "J" ∷ codes "S" ∷ codes "--prec" ∷ codes "-" ∷ []) (codes "prec") ≡ Some (codes "-")
unfolding clap_on_literals value_at
hyphen_prec = refl

-- an option comes once, under its whole name, and has a value that does not begin with `-`
second_use : fault_of replay_app (codes "J" ∷ codes "S" ∷ codes "--cores" ∷ codes "2" ∷ codes "--cores=2" ∷ []) ≡ ArgumentConflict ∷ []
unfolding clap_on_literals
second_use = refl

part_of_name : fault_of replay_app (codes "J" ∷ codes "S" ∷ codes "--core" ∷ codes "2" ∷ []) ≡ UnknownArgument ∷ []
unfolding clap_on_literals
part_of_name = refl

no_value : fault_of replay_app (codes "J" ∷ codes "S" ∷ codes "--cores" ∷ []) ≡ InvalidValue ∷ []
unfolding clap_on_literals
no_value = refl

option_as_value : fault_of replay_app (codes "J" ∷ codes "S" ∷ codes "--prec" ∷ codes "--cores=2" ∷ []) ≡ InvalidValue ∷ []
unfolding clap_on_literals
option_as_value = refl

dashes_as_value : fault_of replay_app (codes "J" ∷ codes "S" ∷ codes "--prec" ∷ codes "--" ∷ []) ≡ InvalidValue ∷ []
unfolding clap_on_literals
dashes_as_value = refl

negative_as_value : fault_of replay_app (codes "J" ∷ codes "S" ∷ codes "--cores" ∷ codes "-1" ∷ []) ≡ UnknownArgument ∷ []
unfolding clap_on_literals
negative_as_value = refl

-- numbers are spelled as in a CSV file
seven : GivesCores (Some (codes "007")) 7
seven = (record { digits = (lit< tt, λ k d within. grind arith); value = refl; fits = lit< tt }, lit≤ tt, lit≤ tt)

one_core : GivesCores None 1
one_core = refl

no_sign : (n : ℕ) → GivesCores (Some (codes "+7")) n → ⊥
no_sign n gives =
    let digit = gives.0.digits.1 0 0 (lit< tt) in
    absurd (omega (arith, digit.0))
