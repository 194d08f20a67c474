use Rattle.std.proofs.Common.{ℕ, zero, suc, ◌<◌, ◌≤◌, [], ◌∷◌, length, ap, arith}
use Rattle.run_meaning.specs.declared.places.Place.{Place}
use Rattle.run_meaning.specs.Ready.{start_of}
use Rattle.subject_calls.proofs.run_audit_calls.line_of.Goals as goal

-- of two jobs neither starts late
two_early : (first second : Place) (most : ℕ) → first.start ≤ most → second.start ≤ most → (j : ℕ) → j < 2 → start_of (first ∷ second ∷ []) j ≤ most
two_early first second most one two zero below = one
two_early first second most one two (suc zero) below = two
two_early first second most one two (suc (suc j)) below = absurd (omega (arith, below))

pub audit-requires-clause-places : goal.audit-requires-clause-places
audit-requires-clause-places c = omega (arith, ap length c.in_ok-run.ensures, c.len.ensures.count, c.if-len-ne2.false)

pub audit-requires-clause-starts : goal.audit-requires-clause-starts
audit-requires-clause-starts c j below =
    rw c.in_ok-run.ensures
    (two_early c.args.first c.args.second 4611686018427387903 (omega (arith, c.if-first_late.false)) (omega (arith, c.if-second_late.false)) j (omega (arith, below, c.len.ensures.count, c.if-len-ne2.false)))
