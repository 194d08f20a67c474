use Rattle.std.proofs.Common.{◌≡◌, drop}
use Rattle.sag_edge.specs.Contents.{bytes_at}
use Rattle.sag_edge.proofs.names.find_bytes.Given as goal

abbrev pub invariant-loop-file : goal.invariant-loop-file
invariant-loop-file l = bytes_at (drop l.file-index l.files) l.name ≡ bytes_at l.files l.name
