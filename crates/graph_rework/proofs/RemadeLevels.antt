-- A level that is made anew is the next level of the edited table.
use Rattle.std.proofs.Common.{[], ap, sym, ◌∙◌, filter, not}
use Rattle.std.specs.List.{fold}
use Rattle.graph_rework.specs.Edit.{stays}
use Rattle.graph_rework.specs.Order.{order_from, ranks_from}
use Rattle.graph_rework.specs.Links.{links_out}
use Rattle.graph_rework.specs.Rework.{grown}
use Rattle.graph_rework.specs.Remake.{after_place, selected}
use Rattle.graph_rework.specs.Laws.{LevelIsRemade}
use Rattle.graph_rework.proofs.LevelOffers.{states-are}
use Rattle.graph_rework.proofs.Levels.{remade-level}

pub level_is_remade : LevelIsRemade
level_is_remade e before after edit old new same =
    ap (λ ss. fold (after_place after e (filter (stays e) old) (selected (stays e) old (links_out before [] old)) (ranks_from (stays e) 0 ss) (filter (λ s. not (stays e s)) new))
    (record { next = grown e []; links = [] }) (order_from (stays e) 0 0 new)) (states-are before old)
    ∙ remade-level e before after edit old new same
    ∙ ap (λ ss. record { next = grown e ss; links = links_out after [] new }) (sym (states-are after new))
