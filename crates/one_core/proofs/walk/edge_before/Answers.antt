use Rattle.std.proofs.Common.{◌≡◌, ℕ, ◌+◌, ◌∷◌, Some, Option, min, nat_eq, arith, ap, sym, ◌∙◌, subst}
use Rattle.std.specs.Prelude.{slice_get, is_some}
use Rattle.std.specs.Map.{lookup}
use Rattle.std.specs.Option.{option_map_or}
use Rattle.std.proofs.lemmas.Option.{same_Some}
use Rattle.job_model.specs.Table.{Table}
use Rattle.sag_step.specs.State.{SystemState, first_core}
use Rattle.sag_graph.specs.declared.edge.Edge.{Edge}
use Rattle.sag_graph.specs.Graph.{AbstractionGraph}
use Rattle.graph_memory.specs.Held.{level_in}
use Rattle.graph_builder.specs.Filling.{no_level}
use Rattle.one_core.specs.Extreme as specs
use Rattle.one_core.specs.Extreme.{settled_job, start_for, core_free_by}
use Rattle.one_core.specs.Walk.{IsOnWalk, HaveJobs}
use Rattle.one_core.proofs.WalkSteps.{walkable-of, IsBefore, found-edge, time_before}
use Rattle.one_core.proofs.walk.edge_before.Goals as goal
use Rattle.one_core.proofs.walk.edge_before.Goals.{After-edge_into}

-- the edge and the time that are found
record IsFoundAt (table : Table) (graph : AbstractionGraph) (k level : ℕ) (e : Edge) (t : ℕ) (time : ℕ) (r : Option Edge) : Type 0 where
  b : IsBefore table graph k level e t
  at : time ≡ time_before table graph level e t
  is : r ≡ Some b.edge

found : (c : After-edge_into) → IsFoundAt c.args.table.now c.args.graph.now c.args.k (c.args.k + 1) c.args.edge.now c.args.t c.min-time.result c.edge_into.result
found c =
    let w = walkable-of c.each_job_has_edge.ensures c.args.table.now c.args.graph.now c.len-count.ensures.table c.requires.no_edges c.requires.graph in
    let b = w.before c.args.k (c.args.k + 1) c.args.edge.now c.args.t (omega arith) c.requires.walk in
    let free : c.free_by-free.result ≡ core_free_by (level_in c.args.graph.now (c.args.k + 1)) c.args.edge.now.from =
    c.free_by-free.ensures ∙ ap (λ ss. option_map_or (λ (s : SystemState). (first_core s).hi) (slice_get ss c.args.edge.now.from) 0) c.states.ensures.states in
    let time : c.min-time.result ≡ time_before c.args.table.now c.args.graph.now (c.args.k + 1) c.args.edge.now c.args.t =
    c.min-time.ensures ∙ ap (λ s. min s c.free_by-free.result) c.start_for.ensures ∙ ap (min (start_for c.args.table.now c.args.edge.now c.args.t)) free in
    record {
      b = b;
      at = time;
      is = found-edge c.args.table.now c.args.graph.now c.args.k (c.args.k + 1) c.args.edge.now c.args.t b c.edges.result.now c.min-time.result c.edge_into.result c.edges.ensures.edges time c.edge_into.ensures;
    }

pub overflow_add-level : goal.overflow_add-level
overflow_add-level c = omega (arith, c.requires.walk.below, c.len-count.ensures.table.few_jobs)

pub free_by-free-requires : goal.free_by-free-requires
free_by-free-requires c =
    let w = walkable-of c.each_job_has_edge.ensures c.args.table.now c.args.graph.now c.len-count.ensures.table c.requires.no_edges c.requires.graph in
    w.have_core (c.args.k + 1) c.states.result.now (omega (arith, c.requires.walk.below)) c.states.ensures.states

pub edge_into-requires : goal.edge_into-requires
edge_into-requires c =
    let w = walkable-of c.each_job_has_edge.ensures c.args.table.now c.args.graph.now c.len-count.ensures.table c.requires.no_edges c.requires.graph in
    subst (HaveJobs c.args.table.now) (sym c.edges.ensures.edges) (w.have_jobs (c.args.k + 1) no_level (omega (arith, w.levels, c.requires.walk.below)))

pub unwrap-before-requires : goal.unwrap-before-requires
unwrap-before-requires c = ap is_some (found c).is

pub returns-clause-walk : goal.returns-clause-walk
returns-clause-walk c =
    let f = found (goal.at.returns-clause-walk c).After-edge_into in
    let same : f.b.edge ≡ c.unwrap-before.result = same_Some f.b.edge c.unwrap-before.result (sym f.is ∙ c.unwrap-before.ensures) in
    subst (λ u. IsOnWalk c.args.table.now c.args.graph.now c.args.k c.unwrap-before.result u) (sym f.at)
    (subst (λ e. IsOnWalk c.args.table.now c.args.graph.now c.args.k e (time_before c.args.table.now c.args.graph.now (c.args.k + 1) c.args.edge.now c.args.t)) same f.b.on_walk)

pub returns-clause-rest : goal.returns-clause-rest
returns-clause-rest c =
    let f = found (goal.at.returns-clause-rest c).After-edge_into in
    let same : f.b.edge ≡ c.unwrap-before.result = same_Some f.b.edge c.unwrap-before.result (sym f.is ∙ c.unwrap-before.ensures) in
    let a = c.args in
    f.b.walk
    ∙ ap (λ e. settled_job a.table.now a.edge.now a.t ∷ specs.walk_back a.table.now a.graph.now a.k e (time_before a.table.now a.graph.now (a.k + 1) a.edge.now a.t)) same
    ∙ ap (λ u. settled_job a.table.now a.edge.now a.t ∷ specs.walk_back a.table.now a.graph.now a.k c.unwrap-before.result u) (sym f.at)

pub returns-clause-alone : goal.returns-clause-alone
returns-clause-alone c =
    let f = found (goal.at.returns-clause-alone c).After-edge_into in
    let same : f.b.edge ≡ c.unwrap-before.result = same_Some f.b.edge c.unwrap-before.result (sym f.is ∙ c.unwrap-before.ensures) in
    let a = c.args in
    ap (λ u. lookup (nat_eq a.edge.now.job) (specs.walk_back a.table.now a.graph.now a.k c.unwrap-before.result u)) f.at
    ∙ ap (λ e. lookup (nat_eq a.edge.now.job) (specs.walk_back a.table.now a.graph.now a.k e (time_before a.table.now a.graph.now (a.k + 1) a.edge.now a.t))) (sym same)
    ∙ f.b.alone
