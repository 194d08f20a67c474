use Rattle.std.proofs.Common.{◌≡◌, ◌≤◌, ◌-◌, length, take}
use Rattle.cert_text.specs.Machine.{On, byte_steps}
use Rattle.cert_text.specs.Kept.{KeptSpot}
use Rattle.cert_text.proofs.feed.take_piece.Given as goal

abbrev pub invariant-loop-at : goal.invariant-loop-at
invariant-loop-at l =
    (l.at ≤ length l.piece)
    × (byte_steps l.grammar l.standing (On l.fn.draft l.fn.spot) (take l.at l.piece) ≡ On l.draft l.spot)
    × KeptSpot l.grammar l.draft l.spot

abbrev pub decreases-loop-at : goal.decreases-loop-at
decreases-loop-at l = length l.piece - l.at
