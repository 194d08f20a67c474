use Rattle.std.proofs.Common.{◌≡◌, ◌++◌, take}
use Rattle.std.specs.List.{flat_map}
use Rattle.cert_text.specs.Spelling.{pair_item_text}
use Rattle.cert_text.proofs.write.put_pairs.Given as goal

abbrev pub invariant-loop-pair : goal.invariant-loop-pair
invariant-loop-pair l = l.into.items ≡ l.fn.into.items ++ flat_map pair_item_text (take l.pair-index l.pairs)
