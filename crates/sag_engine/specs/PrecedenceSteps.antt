-- What the engine's own steps say of a precedence file.
--     EdgesNamed table bytes end     the edges that its rows name, or the first rule that keeps them from naming edges
--     EdgesJoined table rows end     the table with the edges of these rows, or the first rule of edges that they break
use Rattle.std.specs.Prelude.{ℕ, ◌≡◌, ◌≢◌, List, Result, Ok, Err}
use Rattle.job_model.specs.declared.fault.EdgeFault.{EdgeFault}
use Rattle.job_model.specs.declared.fault.EdgeFault.TheVariants as edge
use Rattle.job_model.specs.EdgeFaults.{FirstEdgeFault, KeepEdgeRules, with_edges}
use Rattle.job_model.specs.Table.{IsTable, Table}
use Rattle.side_csv.specs.declared.fault.SideFault.{SideFault}
use Rattle.side_csv.specs.declared.fault.SideFault.TheVariants as side
use Rattle.side_csv.specs.PrecedenceFaults.{FirstPrecedenceFault}
use Rattle.side_csv.specs.PrecedenceText.{PrecedenceText}
use Rattle.sag_texts.specs.declared.fault.FileKind.TheVariants as kinds
use Rattle.sag_texts.specs.declared.fault.Fault.{Fault}
use Rattle.sag_texts.specs.declared.fault.Fault.TheVariants as faults

-- the edges that the rows of a file name, or the first rule that keeps them from naming edges
abbrev pub EdgesNamed : Table → List ℕ → Result (List (ℕ × ℕ)) Fault → Type 0
EdgesNamed table bytes (Ok rows) = PrecedenceText table bytes rows
EdgesNamed table bytes (Err fault) = (e : SideFault) × (fault ≡ faults.Side kinds.Precedence e) × (e ≢ side.Memory) × FirstPrecedenceFault table bytes e

-- the table with the edges of rows, or the first rule of edges that the rows break
abbrev pub EdgesJoined : Table → List (ℕ × ℕ) → Result Table Fault → Type 0
EdgesJoined table rows (Ok whole) = KeepEdgeRules rows × (whole ≡ with_edges table rows) × IsTable whole
EdgesJoined table rows (Err fault) = (e : EdgeFault) × (fault ≡ faults.Edge e) × (e ≢ edge.Memory) × FirstEdgeFault rows e
