use Rattle.std.proofs.Common.{◌≡◌, map, take}
use Rattle.job_model.specs.Table.{IsTable, id_of, table_of}
use Rattle.job_model.proofs.table.index_rows.Given as goal

-- the rows so far are a table, and the set has their IDs
abbrev pub invariant-loop-i : goal.invariant-loop-i
invariant-loop-i l = record { table : IsTable (table_of (take l.i l.rows)); ids : l.ids.keys ≡ map id_of (take l.i l.rows) }
