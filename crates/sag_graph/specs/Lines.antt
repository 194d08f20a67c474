-- The certificate of a graph, line by line.
--     origin_of edges i                the edge whose offer appended state number i: the first that leads to it
--     level_lines (k, level)           level k: its states, and the edges into it
--     line_of_state, line_of_edge      a state with its number, an edge
--     line_of_job table (j, span)      a job's interval, and whether it meets its deadline
--     head_lines, tail_lines           what stands before the levels, and after them
--     certificate_lines table graph    all of it
use Rattle.std.specs.Prelude.{ℕ, zero, suc, Bool, List, [], ◌∷◌, ◌++◌, ◌==◌, nat_le, length, map, flat_map, find, unwrap_or, Option, if◌then◌else◌}
use Rattle.std.specs.List.{enumerate_from, list_all}
use Rattle.job_model.specs.Table.{Table, job_at}
use Rattle.sag_time.specs.Interval.{Interval}
use Rattle.sag_step.specs.State.{SystemState}
use Rattle.sag_step.specs.Widen.{core_intervals}
use Rattle.cert_text.specs.declared.line.Pair.{Pair}
use Rattle.cert_text.specs.declared.line.EndOf.{EndOf}
use Rattle.cert_text.specs.declared.line.Mark.{Mark}
use Rattle.cert_text.specs.declared.line.Mark.TheVariants as mark
use Rattle.cert_text.specs.declared.line.CertLine.{CertLine}
use Rattle.cert_text.specs.declared.line.CertLine.TheVariants as line
use Rattle.sag_graph.specs.declared.edge.Edge.{Edge}
use Rattle.sag_graph.specs.Levels.{Level}
use Rattle.sag_graph.specs.Graph.{AbstractionGraph}

-- from when on the cores are possibly and certainly free
abbrev pub pairs_of : SystemState → List Pair
pairs_of state = map (λ s. record { lo = s.lo; hi = s.hi }) (core_intervals state)

-- the ends that the state tracks
abbrev pub ends_of : SystemState → List EndOf
ends_of state = map (λ e. record { job = e.0; lo = e.1.lo; hi = e.1.hi }) state.ends

-- read only of a state that no edge leads to
abbrev pub no_edge : Edge
no_edge = record { from = 0; job = 0; window = record { est = 0; lst = 0 }; to = 0 }

-- The offer that appended a state is the first that leads to it.
abbrev pub origin_of : List Edge → ℕ → Edge
origin_of edges i = unwrap_or (find (λ e. e.to == i) edges) no_edge

-- a state with its number
abbrev pub line_of_state : List Edge → ℕ × SystemState → CertLine
line_of_state edges s = line.State (origin_of edges s.0).from (origin_of edges s.0).job (pairs_of s.1) (ends_of s.1) s.1.last.members

abbrev pub line_of_edge : Edge → CertLine
line_of_edge e = line.Edge e.from e.job e.window.est e.window.lst e.to

-- Level 0 has the root alone, and no edges.
abbrev pub level_lines : ℕ × Level → List CertLine
level_lines (zero, level) = line.Level 0 1 ∷ map (λ s. line.Root (pairs_of s)) level.states
level_lines (suc k, level) = line.Level (suc k) (length level.states) ∷ map (line_of_state level.edges) (enumerate_from 0 level.states) ++ map line_of_edge level.edges

-- by its deadline
abbrev pub is_in_time : Table → ℕ × Interval → Bool
is_in_time table s = nat_le s.1.hi (job_at table s.0).deadline

abbrev pub mark_of : Bool → Mark
mark_of in_time = if in_time then mark.Ok else mark.Miss

-- a job with its number
abbrev pub line_of_job : Table → ℕ × Interval → CertLine
line_of_job table s = line.Job s.0 s.1.lo s.1.hi (mark_of (is_in_time table s))

-- read only of a job without edges
abbrev pub no_span : Interval
no_span = record { lo = 0; hi = 0 }

-- the jobs by number, each with its span
abbrev pub numbered_spans : List (Option Interval) → List (ℕ × Interval)
numbered_spans spans = enumerate_from 0 (map (λ s. unwrap_or s no_span) spans)

abbrev pub head_lines : Table → ℕ → List CertLine
head_lines table m = line.Head (length table.jobs) m ∷ []

abbrev pub tail_lines : Table → List (Option Interval) → List CertLine
tail_lines table spans =
    map (line_of_job table) (numbered_spans spans)
    ++ line.Verdict (mark_of (list_all (is_in_time table) (numbered_spans spans))) ∷ line.End ∷ []

-- the head, the levels, the jobs, the verdict, and the end
abbrev pub certificate_lines : Table → AbstractionGraph → List CertLine
certificate_lines table graph = head_lines table graph.cores ++ flat_map level_lines (enumerate_from 0 graph.levels) ++ tail_lines table graph.spans
