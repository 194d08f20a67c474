-- Laws of the rules of job tables and of precedence rows.
--     OneTableFault      rows have one first broken rule of tables at most
--     TablesKeepRules    rows that are a table break none
--     OneEdgeFault       rows have one first broken rule of edges at most
--     EdgesKeepRules     rows that keep the rules of edges break none
use Rattle.std.specs.Prelude.{◌≡◌, ◌≢◌, ℕ, List}
use Rattle.job_model.specs.declared.job_row.Job.{Job}
use Rattle.job_model.specs.declared.fault.EdgeFault.{EdgeFault}
use Rattle.job_model.specs.declared.fault.EdgeFault.TheVariants as edge
use Rattle.job_model.specs.declared.fault.TableFault.{TableFault}
use Rattle.job_model.specs.declared.fault.TableFault.TheVariants as table
use Rattle.job_model.specs.EdgeFaults.{FirstEdgeFault, KeepEdgeRules}
use Rattle.job_model.specs.Table.{IsTable, table_of}
use Rattle.job_model.specs.TableFaults.{FirstTableFault}

-- The rows of a job table have at most one first broken rule, beside want of memory.
abbrev pub OneTableFault : Type 0
OneTableFault =
    (rows : List Job) (one other : TableFault) → one ≢ table.Memory → other ≢ table.Memory → FirstTableFault rows one → FirstTableFault rows other → one ≡ other

-- Rows that are a table break no rule.
abbrev pub TablesKeepRules : Type 0
TablesKeepRules = (rows : List Job) → IsTable (table_of rows) → (e : TableFault) → e ≢ table.Memory → ¬ FirstTableFault rows e

-- Precedence rows have at most one first broken rule, beside want of memory.
abbrev pub OneEdgeFault : Type 0
OneEdgeFault =
    (rows : List (ℕ × ℕ)) (one other : EdgeFault) → one ≢ edge.Memory → other ≢ edge.Memory → FirstEdgeFault rows one → FirstEdgeFault rows other → one ≡ other

-- Precedence rows that keep the rules break none.
abbrev pub EdgesKeepRules : Type 0
EdgesKeepRules = (rows : List (ℕ × ℕ)) → KeepEdgeRules rows → (e : EdgeFault) → e ≢ edge.Memory → ¬ FirstEdgeFault rows e
