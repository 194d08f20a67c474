use Rattle.std.proofs.Common.{◌≡◌, length, true, false, ap, sym, ◌∙◌, arith}
use Rattle.std.specs.Prelude.{is_some}
use Rattle.std.proofs.lemmas.List.{length-map}
use Rattle.job_model.specs.Table.{Table}
use Rattle.graph_check.specs.declared.level_state.LevelState.{LevelState}
use Rattle.graph_check.specs.Turns.{offer_at}
use Rattle.graph_check.specs.Comings.{HeldProgress}
use Rattle.graph_check.specs.Progress.{due_at_end, due_in_level}
use Rattle.graph_check.specs.Shown.{held_progress}
use Rattle.graph_check.proofs.LineOutcomes.{due-is-edge, due-is-end, due-is-level, left-by-turn, no-turn-left, none-by-turn, some-turn}
use Rattle.graph_check.proofs.progress.Progress.due_in_level.Goals as goal

pub returns-then-is_some : goal.returns-then-is_some
returns-then-is_some c =
    let p = c.self.inside in
    let h = held_progress p in
    let some : is_some c.turn.result ≡ true = cc in
    let left = left-by-turn h.table h.progress p.walk.cores (some-turn (offer_at p.walk) c.turn.result c.turn.ensures.turn some) in
    due-is-edge h.table h.progress (omega (arith, length-map p.states.items (λ (s : LevelState). s.state.state), p.states.ok.0)) left ∙ ap (λ (k : HeldProgress). due_in_level k.table k.progress) c.self.view_is

pub returns-then-self-from : goal.returns-then-self-from
returns-then-self-from c =
    let p = c.self.inside in
    let h = held_progress p in
    let never : is_some c.turn.result ≡ false = cc in
    let none = none-by-turn h.table h.progress p.walk.cores (no-turn-left (offer_at p.walk) c.turn.result c.turn.ensures.turn never) in
    let table = ap (λ (t : Table). length t.jobs) c.table.ensures in
    due-is-level h.table h.progress (omega (arith, length-map p.states.items (λ (s : LevelState). s.state.state), p.states.ok.0)) none (omega (arith, table))
    ∙ ap (λ (k : HeldProgress). due_in_level k.table k.progress) c.self.view_is

pub returns-else-self-from : goal.returns-else-self-from
returns-else-self-from c =
    let p = c.self.inside in
    let h = held_progress p in
    let never : is_some c.turn.result ≡ false = cc in
    let none = none-by-turn h.table h.progress p.walk.cores (no-turn-left (offer_at p.walk) c.turn.result c.turn.ensures.turn never) in
    let table = ap (λ (t : Table). length t.jobs) c.table.ensures in
    due-is-end h.table h.progress c.due_at_end.result (omega (arith, length-map p.states.items (λ (s : LevelState). s.state.state), p.states.ok.0)) none (omega (arith, table))
    (c.due_at_end.ensures ∙ ap (λ (k : HeldProgress). due_at_end k.table k.progress) (sym c.self.view_is))
    ∙ ap (λ (k : HeldProgress). due_in_level k.table k.progress) c.self.view_is
