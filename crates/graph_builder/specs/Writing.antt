-- What is needed of states, edges and spans to write their lines.
--     AreListed state               its last jobs rise and are among its ends, which are of jobs of its set's size
--     IsWritable state              so they are, its cores are listed in pairs, and its numbers fit a line
--     line_by origin state          the line of a state of that origin
--     origin_at edges i             the origin of state number i
--     state_lines edges i states    the lines of these states, of which the first is number i
--     edge_lines edges              the lines of the edges
--     job_lines table j spans       the lines of the jobs from number j on, of which these are the spans
--     IsTimed e                     the window of the edge is in order, and its numbers fit a line
--     IsSpanUpTo limit span         the interval, if there is one, ends by the limit
--     text_of lines                 the bytes of the lines
use Rattle.std.specs.Prelude.{◌≡◌, ℕ, ◌≤◌, List, length, flat_map, map, nat_lt, IsTrue, Option, Some, None, unwrap_or}
use Rattle.std.specs.List.{enumerate_from, list_all}
use Rattle.std.specs.Map.{keys_of}
use Rattle.job_sets.specs.Subset.{is_rising, is_within}
use Rattle.job_model.specs.Table.{Table}
use Rattle.sag_time.specs.Interval.{Interval}
use Rattle.sag_step.specs.State.{SystemState}
use Rattle.cert_text.specs.declared.line.CertLine.{CertLine}
use Rattle.cert_text.specs.declared.line.CertLine.TheVariants as line
use Rattle.cert_text.specs.Grammar.{IsCertNumber, second_version}
use Rattle.cert_text.specs.Spelling.{FitsPairs, FitsState, line_text}
use Rattle.sag_graph.specs.declared.edge.Edge.{Edge}
use Rattle.sag_graph.specs.Lines.{ends_of, line_of_edge, line_of_job, line_of_state, no_span, origin_of, pairs_of}
use Rattle.graph_builder.specs.declared.state_line.Origin.{Origin}

-- Its last jobs rise and are among its ends, which are of jobs of its set's size.
pub record AreListed (state : SystemState) : Type 0 where
  pub rise : IsTrue (is_rising state.last.members)
  pub within : IsTrue (is_within state.last.members (keys_of state.ends))
  pub in_range : IsTrue (list_all (λ j. nat_lt j state.set.size) (keys_of state.ends))

-- A line can be made of it.
pub record IsWritable (state : SystemState) : Type 0 where
  pub in_pairs : length state.low ≡ length state.high
  pub listed : AreListed state
  pub fit_pairs : FitsPairs second_version (pairs_of state)
  pub fits : (parent job : ℕ) → IsCertNumber parent → IsCertNumber job → FitsState second_version parent job (pairs_of state) (ends_of state) state.last.members

-- the line of a state of that origin
abbrev pub line_by : Origin → SystemState → CertLine
line_by origin state = line.State origin.parent origin.job (pairs_of state) (ends_of state) state.last.members

-- the origin of state number i
abbrev pub origin_at : List Edge → ℕ → Origin
origin_at edges i = record { parent = (origin_of edges i).from; job = (origin_of edges i).job }

-- the lines of these states, of which the first is number i
abbrev pub state_lines : List Edge → ℕ → List SystemState → List CertLine
state_lines edges i states = map (line_of_state edges) (enumerate_from i states)

-- the lines of the edges
abbrev pub edge_lines : List Edge → List CertLine
edge_lines edges = map line_of_edge edges

-- the lines of the jobs from number j on, of which these are the spans
abbrev pub job_lines : Table → ℕ → List (Option Interval) → List CertLine
job_lines table j spans = map (line_of_job table) (enumerate_from j (map (λ s. unwrap_or s no_span) spans))

-- its window is in order, and the numbers of the window fit a line
pub record IsTimed (e : Edge) : Type 0 where
  pub in_order : e.window.est ≤ e.window.lst
  pub fits : IsCertNumber e.window.lst

-- the interval, if there is one, ends by the limit
abbrev pub IsSpanUpTo : ℕ → Option Interval → Type 0
IsSpanUpTo limit None = Unit {0}
IsSpanUpTo limit (Some span) = span.hi ≤ limit

-- the bytes of the lines
unfoldable pub text_of : List CertLine → List ℕ
text_of lines = flat_map (line_text second_version) lines
