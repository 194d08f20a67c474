use Rattle.std.proofs.Common.{◌≡◌, ℕ, List, Vec, Global, length, arith, ap, sym, ◌∙◌, subst}
use Rattle.std.specs.Prelude.{◌==◌, ◌&&◌, find, IfSome}
use Rattle.std.specs.Option.{option_map_or}
use Rattle.std.proofs.lemmas.List.FromFn.{length-map-range_with_len}
use Rattle.job_model.specs.Scenario.{Fits}
use Rattle.job_model.specs.Table.{job_at}
use Rattle.run_meaning.specs.declared.places.Place.{Place}
use Rattle.run_meaning.specs.Legal.{Legal}
use Rattle.run_meaning.specs.Ready.{finish_of}
use Rattle.sag_graph.specs.declared.edge.Edge.{Edge}
use Rattle.sag_graph.specs.Spans.{edge_finish}
use Rattle.sag_graph.specs.Graph.{AbstractionGraph}
use Rattle.one_core.specs.Extreme as specs
use Rattle.one_core.specs.Extreme.{end_of_span, own_end, attaining_edge, numbered_edges}
use Rattle.one_core.specs.Walk.{IsOnWalk, latest_rows, overlaid}
use Rattle.one_core.specs.Laws.{IsAttained}
use Rattle.graph_memory.proofs.GraphLists.{spans-length}
use Rattle.one_core.proofs.WalkSteps.{IsWalkable, walkable-of, extreme-found, extreme-none}
use Rattle.one_core.proofs.walk.extreme.Goals as goal
use Rattle.one_core.proofs.walk.extreme.Goals.{In_ok-rows, After-first_with_end, After-new, After-unwrap, in-Some, in_default}

walkable : (c : In_ok-rows) → IsWalkable c.args.table.now c.args.graph.now
walkable c = walkable-of c.each_job_has_edge.ensures c.args.table.now c.args.graph.now c.in_ok-rows.ensures.table c.requires.no_edges c.requires.graph

-- the end of the span, and the edge that is looked for
time-is : (c : After-first_with_end) → c.end_of-t.result ≡ end_of_span c.args.graph.now c.args.job c.args.end
time-is c = c.end_of-t.ensures ∙ ap (λ o. option_map_or (own_end c.args.end) o 0) c.span.ensures.span

attaining-is : (c : After-first_with_end) → c.first_with_end.result ≡ attaining_edge c.args.table.now c.args.graph.now c.args.job c.args.end
attaining-is c =
    let a = c.args in
    c.first_with_end.ensures
    ∙ ap (λ u. find (λ (e : ℕ × Edge). (e.1.job == a.job) && (own_end a.end (edge_finish a.table.now e.1) == u)) (numbered_edges a.graph.now))
    (c.end_of-t.ensures ∙ ap (λ o. option_map_or (own_end c.args.end) o 0) c.span.ensures.span)

-- the rows are the scenario of the definition
rows-are : (c : After-new) → c.match-first_with_end.rows.items ≡ specs.extreme c.args.table.now c.args.graph.now c.args.job c.args.end
rows-are c =
    let table = c.args.table.now in
    let graph = c.args.graph.now in
    let t : c.end_of-t.result ≡ end_of_span graph c.args.job c.args.end = c.end_of-t.ensures ∙ ap (λ o. option_map_or (own_end c.args.end) o 0) c.span.ensures.span in
    let sought : c.first_with_end.result ≡ attaining_edge table graph c.args.job c.args.end =
    c.first_with_end.ensures
    ∙ ap (λ u. find (λ (e : ℕ × Edge). (e.1.job == c.args.job) && (own_end c.args.end (edge_finish table e.1) == u)) (numbered_edges graph)) t in
    elim c.match-first_with_end.branch [
      | in-Some w ↦
          ap (λ (v : Vec (ℕ × ℕ) Global). v.items) w.rows-is
          ∙ w.walk_back.ensures
          ∙ ap (λ rows. overlaid table rows (specs.walk_back table graph w.in-Some.from w.in-Some.edge c.end_of-t.result)) c.in_ok-rows.ensures.rows
          ∙ ap (λ u. overlaid table (latest_rows table) (specs.walk_back table graph w.in-Some.from w.in-Some.edge u)) t
          ∙ extreme-found table graph c.args.job c.args.end w.in-Some.from w.in-Some.edge (sym sought ∙ w.in-Some.is)
      | in_default w ↦
          ap (λ (v : Vec (ℕ × ℕ) Global). v.items) w.rows-is
          ∙ c.in_ok-rows.ensures.rows
          ∙ extreme-none table graph c.args.job c.args.end (sym sought ∙ w.in_default.is)
    ]

-- the law speaks of the graph of the table, which this graph is
own-fits : (c : After-new) → Fits c.args.table.now (specs.extreme c.args.table.now c.args.graph.now c.args.job c.args.end)
own-fits c =
    let law : IsAttained c.args.table.now c.args.job c.args.end = c.ends_are_attained.ensures c.args.table.now c.args.job c.args.end c.in_ok-rows.ensures.table c.requires.no_edges c.requires.job in
    subst (λ g. Fits c.args.table.now (specs.extreme c.args.table.now g c.args.job c.args.end)) (sym c.requires.graph) law.fits

pub span-requires : goal.span-requires
span-requires c =
    let each : length c.args.graph.now.spans ≡ length c.args.table.now.jobs =
    ap (λ (g : AbstractionGraph). length g.spans) c.requires.graph ∙ spans-length c.args.table.now 1 in
    omega (arith, each, c.requires.job)

pub first_with_end-requires : goal.first_with_end-requires
first_with_end-requires c = (walkable (goal.at.first_with_end-requires c).In_ok-rows).have_jobs

pub walk_back-requires-clause-walk : goal.walk_back-requires-clause-walk
walk_back-requires-clause-walk c =
    let at = goal.at.walk_back-requires-clause-walk c in
    let w = walkable at.In_ok-rows in
    subst (λ u. IsOnWalk c.args.table.now c.args.graph.now c.in-Some.from c.in-Some.edge u) (sym (time-is at.After-first_with_end))
    (w.begins c.args.job c.args.end c.in-Some.from c.in-Some.edge c.requires.job (sym (attaining-is at.After-first_with_end) ∙ c.in-Some.is))

pub walk_back-requires-clause-rows : goal.walk_back-requires-clause-rows
walk_back-requires-clause-rows c =
    let row : ℕ → ℕ × ℕ = λ i. ((job_at c.args.table.now i).rmax, (job_at c.args.table.now i).cmax) in
    ap length c.in_ok-rows.ensures.rows ∙ length-map-range_with_len row 0 (length c.args.table.now.jobs)

pub unwrap-requires : goal.unwrap-requires
unwrap-requires c = c.new.ensures.fits.1 (subst (Fits c.args.table.now) (sym (rows-are c)) (own-fits c))

pub returns-clause-extreme : goal.returns-clause-extreme
returns-clause-extreme c =
    subst (λ o. IfSome o (λ s. s ≡ c.match-first_with_end.rows.items)) c.unwrap.ensures c.new.ensures.rows ∙ rows-are (goal.at.returns-clause-extreme c).After-new

pub returns-clause-attains : goal.returns-clause-attains
returns-clause-attains c =
    let table = c.args.table.now in
    let given : c.unwrap.result ≡ specs.extreme table c.args.graph.now c.args.job c.args.end =
    subst (λ o. IfSome o (λ s. s ≡ c.match-first_with_end.rows.items)) c.unwrap.ensures c.new.ensures.rows ∙ rows-are (goal.at.returns-clause-attains c).After-new in
    let law = c.ends_are_attained.ensures table c.args.job c.args.end c.in_ok-rows.ensures.table c.requires.no_edges c.requires.job in
    subst (λ s. (schedule : List Place) → Legal table 1 s schedule → finish_of s schedule c.args.job ≡ end_of_span c.args.graph.now c.args.job c.args.end) (sym given)
    (subst (λ g. (schedule : List Place) → Legal table 1 (specs.extreme table g c.args.job c.args.end) schedule → finish_of (specs.extreme table g c.args.job c.args.end) schedule c.args.job ≡ end_of_span g c.args.job c.args.end)
    (sym c.requires.graph) law.finish)
