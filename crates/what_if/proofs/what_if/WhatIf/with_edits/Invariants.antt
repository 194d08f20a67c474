use Rattle.std.proofs.Common.{drop}
use Rattle.what_if.proofs.EditLemmas.{MadeSome}
use Rattle.what_if.proofs.what_if.WhatIf.with_edits.Given as goal

-- some of the edits are made
abbrev pub invariant-loop-edit : goal.invariant-loop-edit
invariant-loop-edit l = MadeSome l.initial.self l.edits l.self (drop l.edit-index l.edits)
