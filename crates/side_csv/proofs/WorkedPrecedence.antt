-- A row of a precedence file, worked out.
use Rattle.std.proofs.Common.{[], ◌∷◌, arith, refl}
use Rattle.job_model.proofs.Tables.{table_b}
use Rattle.side_csv.specs.PrecedenceText.{NamesEdge}

names_edge : NamesEdge table_b (1 ∷ 1 ∷ 3 ∷ 1 ∷ []) (0, 2)
names_edge = record { predecessor = record { is_job = omega arith; ids_are = refl }; successor = record { is_job = omega arith; ids_are = refl } }
