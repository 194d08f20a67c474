-- The lines of the certificate of a graph, from the root on.
--     zipped_pairs state               from when on its cores are possibly and certainly free
--     founded_line founder state       the line of a state, with the parent and the job of the offer that appended it
--     founded_lines numbered           the lines of a level with its number
--     graph_lines table m              all lines
use Rattle.std.specs.Prelude.{ℕ, List, [], ◌∷◌, ◌++◌, length, map, flat_map}
use Rattle.std.specs.List.{enumerate_from, list_all}
use Rattle.job_model.specs.Table.{Table}
use Rattle.lists.specs.Zipped.{zip_with}
use Rattle.sag_step.specs.State.{SystemState, root}
use Rattle.sag_step.specs.Offers.{Offer}
use Rattle.cert_text.specs.declared.line.Pair.{Pair}
use Rattle.cert_text.specs.declared.line.CertLine.{CertLine}
use Rattle.cert_text.specs.declared.line.CertLine.TheVariants as line
use Rattle.sag_graph.specs.Lines.{ends_of, line_of_edge, line_of_job, is_in_time, mark_of}
use Rattle.graph_valid.proofs.FromRoot.{FoundedLevel, levels, spans}

-- at each place from when on a core is possibly free, and from when on certainly
abbrev pub zipped_pairs : SystemState → List Pair
zipped_pairs s = zip_with (λ lo hi. record { lo = lo; hi = hi }) s.low s.high

-- the line of a state, with the parent and the job of the offer that appended it
abbrev pub founded_line : Offer → SystemState → CertLine
founded_line o s = line.State o.from o.job (zipped_pairs s) (ends_of s) s.last.members

-- the lines of a level with its number: how many states, the states, the edges into it
abbrev pub founded_lines : ℕ × FoundedLevel → List CertLine
founded_lines l = line.Level l.0 (length l.1.states) ∷ zip_with founded_line l.1.founders l.1.states ++ map line_of_edge l.1.edges

-- head, level 0 with its state, the levels above it, the jobs, the verdict, and the end
abbrev pub graph_lines : Table → ℕ → List CertLine
graph_lines table m =
    line.Head (length table.jobs) m ∷ line.Level 0 1 ∷ line.Root (zipped_pairs (root table m))
    ∷ flat_map founded_lines (enumerate_from 1 (levels table m))
    ++ map (line_of_job table) (enumerate_from 0 (spans table m))
    ++ line.Verdict (mark_of (list_all (is_in_time table) (enumerate_from 0 (spans table m)))) ∷ line.End ∷ []
