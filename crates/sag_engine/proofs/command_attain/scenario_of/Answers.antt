use Rattle.std.proofs.Common.{◌≡◌, ◌∙◌, ℕ, List, ap, subst}
use Rattle.std.specs.Prelude.{IfOk}
use Rattle.side_csv.specs.ScenarioRows.{scenario_text}
use Rattle.sag_graph.specs.Graph.{AbstractionGraph, graph_of}
use Rattle.one_core.specs.Extreme.{extreme}
use Rattle.sag_engine.proofs.command_attain.scenario_of.Goals as goal

pub returns : goal.returns
returns c =
    let same : c.in_ok-scenario.scenario ≡ extreme c.args.table.now (graph_of c.args.table.now 1) c.args.job c.args.end =
    c.in_ok-scenario.ensures.extreme ∙ ap (λ (graph : AbstractionGraph). extreme c.args.table.now graph c.args.job c.args.end) c.requires.graph in
    subst (λ (s : List (ℕ × ℕ)). IfOk c.write_scenario.result (λ text. text.items ≡ scenario_text c.args.table.now s)) same c.write_scenario.ensures.text
