-- The states of a level without the edited job are the same, in the same order.
use Rattle.std.proofs.Common.{zero, suc, List, [], ◌∷◌, filter, ap, sym, ◌∙◌}
use Rattle.sag_step.specs.State.{SystemState, root}
use Rattle.sag_graph.specs.Levels.{level_at}
use Rattle.graph_rework.specs.Edit.{stays}
use Rattle.graph_rework.specs.Laws.{StatesStay}
use Rattle.graph_rework.proofs.LevelOffers.{states-are}
use Rattle.graph_rework.proofs.Levels.{states-stay_next}

pub states_stay : StatesStay
unfolding level_at
states_stay e before after edit m zero =
    ap (λ n. filter (stays e) (record { set = record { size = n; members = [] }; low = (root before m).low; high = (root before m).high; ends = []; last = record { size = n; members = [] } } ∷ [])) edit.count
states_stay e before after edit m (suc k) =
    let old : List SystemState = (level_at before m k).states in
    let new : List SystemState = (level_at after m k).states in
    ap (filter (stays e)) (states-are after new)
    ∙ states-stay_next e before after edit old new (states_stay e before after edit m k)
    ∙ ap (filter (stays e)) (sym (states-are before old))
