use Rattle.std.proofs.Common.{◌≡◌, drop}
use Rattle.std.specs.Map.{keys_of}
use Rattle.std.specs.Cmp.Lexicographic.{pointwise}
use Rattle.sag_step.specs.Widen.{end_covers}
use Rattle.sag_step.proofs.ends.cover_ends.Given as goal

-- it depends on what is left
abbrev pub invariant-loop-place : goal.invariant-loop-place
invariant-loop-place l = record {
  jobs : keys_of (drop l.place l.wide.items) ≡ keys_of (drop l.place l.narrow.items);
  left : pointwise end_covers l.wide.items l.narrow.items ≡ pointwise end_covers (drop l.place l.wide.items) (drop l.place l.narrow.items);
}
