-- A precedence file is judged in two steps.
use Rattle.std.proofs.Common.{ℕ, inl, inr, List, Result, Ok, Err}
use Rattle.job_model.specs.Table.{Table}
use Rattle.side_csv.specs.PrecedenceText.{PrecedenceText}
use Rattle.sag_engine.specs.declared.halt.Halt.{Halt}
use Rattle.sag_engine.specs.declared.halt.Halt.TheVariants.{Usage, Refused, Read, Write, Memory}
use Rattle.sag_engine.specs.RunEnds.{EndsJudging, Judged}
use Rattle.sag_engine.specs.Inputs.{PrecedenceJudged}
use Rattle.sag_engine.specs.PrecedenceSteps.{EdgesJoined, EdgesNamed}

module _ {T U : Type 0} (view : T → List (ℕ × ℕ)) (show : U → Table) (table : Table) (bytes : List ℕ) where
  end_named : (halt : Halt) → EndsJudging view (EdgesNamed table bytes) (Err halt) → EndsJudging show (PrecedenceJudged table bytes) (Err halt)
  end_named (Refused fault) h = inl h
  end_named Memory h = tt
  end_named Usage h = absurd h
  end_named (Read kind) h = absurd h
  end_named Write h = absurd h

  -- the rows do not name edges
  pub named_halt : {halt : Halt} → Judged view (EdgesNamed table bytes) (Err halt) → Judged show (PrecedenceJudged table bytes) (Err halt)
  named_halt {halt = halt} h = record { end = end_named halt h.end }

  end_joined : (rows : List (ℕ × ℕ)) (r : Result U Halt) → PrecedenceText table bytes rows → EndsJudging show (EdgesJoined table rows) r → EndsJudging show (PrecedenceJudged table bytes) r
  end_joined rows (Ok u) text (keep, is, is_table) = (rows, text, keep, is, is_table)
  end_joined rows (Err (Refused fault)) text (e, is, other, first) = inr (e, is, other, (rows, text, first))
  end_joined rows (Err Memory) text h = tt
  end_joined rows (Err Usage) text h = absurd h
  end_joined rows (Err (Read kind)) text h = absurd h
  end_joined rows (Err Write) text h = absurd h

  -- the rows name edges, and the table is joined with them, or not
  pub named_joined : {t : T} {r : Result U Halt} → Judged view (EdgesNamed table bytes) (Ok t) → Judged show (EdgesJoined table (view t)) r → Judged show (PrecedenceJudged table bytes) r
  named_joined {t = t} {r = r} h j = record { end = end_joined (view t) r h.end j.end }
