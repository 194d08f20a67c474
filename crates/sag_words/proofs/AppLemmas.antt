-- A command, one argument at a time, and the words that it refuses.
use Rattle.std.proofs.Common.{◌≡◌, ◌<◌, ◌+◌, ◌++◌, ◌∷◌, ◌∙◌, [], ℕ, List, length, take, get_or, map, true, refl, inl, inr, ap, Bool, false, ◌&&◌}
use Rattle.std.proofs.lemmas.List.{map-append, take_more}
use Rattle.clap.specs.Words.{HasKind, Kinds, kind_of}
use Rattle.clap.specs.declared.error.Error.{Error}
use Rattle.clap.specs.declared.error.kind.ErrorKind.TheVariants as kind
use Rattle.sag_words.specs.Apps.{argument_rule}
use Rattle.sag_words.specs.declared.parse.Argument.{Argument}

-- one more rule
pub rules-take_more : (arguments : List Argument) (i : ℕ) (d : Argument) → i < length arguments
    → map argument_rule (take (i + 1) arguments) ≡ map argument_rule (take i arguments) ++ argument_rule (get_or arguments i d) ∷ []
rules-take_more arguments i d within = ap (map argument_rule) (take_more arguments i d within) ∙ map-append argument_rule (take i arguments) (get_or arguments i d ∷ [])

pub left_of_and : (a b : Bool) → (a && b) ≡ true → a ≡ true
left_of_and true b e = refl
left_of_and false b e = e

-- an error that is no want of memory comes only of words that are not in the grammar
pub faulty : (kinds : Kinds) (error : Error) → HasKind kinds error → (kind_of error ≡ kind.OutOfMemory → ⊥) → kinds ≡ [] → ⊥
faulty kinds error (inl memory) other none = other memory
faulty kinds error (inr among) other none = rw none at among
