use Rattle.std.proofs.Common.{◌≡◌, map, take}
use Rattle.clap.specs.Words.{app_of}
use Rattle.sag_words.specs.Apps.{app_with, argument_rule}
use Rattle.sag_words.proofs.parse.matched.Given as goal

-- the arguments so far
abbrev pub invariant-loop-argument : goal.invariant-loop-argument
invariant-loop-argument l = app_of l.command ≡ app_with l.name (map argument_rule (take l.argument-index l.arguments))
