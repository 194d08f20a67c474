use Rattle.std.proofs.lemmas.Result.{err_from_is_err_and}
use Rattle.sag_engine.proofs.PrecedenceLemmas.{named_halt, named_joined}
use Rattle.sag_engine.proofs.inputs.with_precedence.Goals as goal

pub returns-in_err-edges : goal.returns-in_err-edges
returns-in_err-edges c =
    let p = err_from_is_err_and c.from_residual.result c.from_residual.ensures.1 in
    rw (p.1, p.2) (named_halt _ _ _ _ c.in_err-edges.ensures.edges)

pub returns : goal.returns
returns c = named_joined _ _ _ _ c.in_ok-edges.ensures.edges (rw c.deref.ensures.value at c.joined.ensures)
