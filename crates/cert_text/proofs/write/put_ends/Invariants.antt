use Rattle.std.proofs.Common.{◌≡◌, ◌++◌, take}
use Rattle.std.specs.List.{flat_map}
use Rattle.cert_text.specs.Spelling.{end_item_text}
use Rattle.cert_text.proofs.write.put_ends.Given as goal

abbrev pub invariant-loop-end : goal.invariant-loop-end
invariant-loop-end l = l.into.items ≡ l.fn.into.items ++ flat_map end_item_text (take l.end-index l.ends)
