use Rattle.std.proofs.Common.{rules, ◌≡◌, ◌∙◌, [], ◌∷◌}
use Rattle.run_meaning.proofs.Rows.{place, b_legal}
use Rattle.state_calls.proofs.run_cover_calls.on_two_cores.Goals as goal

pub returns-clause-legal : goal.returns-clause-legal
returns-clause-legal c =
    let places : c.in_ok-places.places.items ≡ place 0 0 ∷ place 0 1 ∷ place 4 0 ∷ [] = search rules in
    rw (c.in_ok-run.ensures.table, c.in_ok-run.ensures.scenario, c.in_ok-run.ensures.schedule ∙ places) b_legal
