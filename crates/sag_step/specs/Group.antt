-- From the offers of a level to the states of the next. In the literature the merge phase (ECRTS 2018 and 2019: states of one set
-- of dispatched jobs whose intervals of availability overlap). What differs: offers are taken one by one, in a fixed order, each
-- by the first state that it touches, and neighbouring intervals touch too.
--     placed states offer         the states once the first that touches the offer has absorbed it, or with it at the end
--     place_of states offer       the number of the state that takes it
--     group offers                the states that the offers make
--     places_of states offers     the numbers of the states that take the offers, one after another
use Rattle.std.specs.Prelude.{ℕ, List, [], ◌∷◌, map, fold, if◌then◌else◌}
use Rattle.std.specs.List.{position_or_len}
pub use Rattle.sag_step.specs.Offers.{Offer, offers, offers_of}
use Rattle.sag_step.specs.State.{SystemState}
use Rattle.sag_step.specs.Widen.{states_touch, state_hull}

-- The first state that touches the offer absorbs it. Where there is none, it comes last.
abbrev pub placed : List SystemState → SystemState → List SystemState
placed [] offer = offer ∷ []
placed (s ∷ states) offer = if states_touch s offer then state_hull s offer ∷ states else s ∷ placed states offer

-- the number of the state that takes the offer
abbrev pub place_of : List SystemState → SystemState → ℕ
place_of states offer = position_or_len (λ s. states_touch s offer) states

-- the states that the offers make, one after another
abbrev pub group : List Offer → List SystemState
group offers = fold placed [] (map (λ o. o.next) offers)

-- the numbers of the states that take the offers, one after another
abbrev pub places_of : List SystemState → List Offer → List ℕ
places_of states [] = []
places_of states (o ∷ offers) = place_of states o.next ∷ places_of (placed states o.next) offers
