use Rattle.std.proofs.Common.{arith, ◌≤◌, ◌++◌, take}
use Rattle.std.proofs.lemmas.Grind.{common_steps}
use Rattle.sag_edge.proofs.ReadLemmas.{reads_on, one_piece}
use Rattle.sag_edge.proofs.reading.read_piece.Goals as goal

pub returns-in-Err-extend_from_slice-clause-memory : goal.returns-in-Err-extend_from_slice-clause-memory
returns-in-Err-extend_from_slice-clause-memory g c _ start name h =
    let within : c.in-Ok.count ≤ c.args.most = grind (arith, common_steps, c.in-Ok.ensures.bound, c.read.auto.into) in (
      c.args.list.now.items ++ take c.in-Ok.count c.read.new.into,
      one_piece c.args.list.now.items c.read.new.into c.in-Ok.count c.args.most _ c.args.list.now.ok.0 within,
      reads_on _ _ _ _ _ _ _ h c.in-Ok.ensures.contents c.in-Ok.ensures.cause.later c.in-Ok.ensures.ok,
    )
