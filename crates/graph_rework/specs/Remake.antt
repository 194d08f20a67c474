-- What an edit of job e makes anew of a level, state by state.
--     LevelSoFar                 the next level so far, and the edges out of each state that was looked at
--     looked                     what is made so far, once the state at one place of the level is looked at
--     steps_at                   how many steps that takes
--     after_place                the level so far and the edges, once the state at one more place is looked at
--     all_offered table states   the next states of all states, in their order
--     occupant_state kept made x the state that stands at a place
--     selected p states items    the items at the places of the states that pass
use Rattle.std.specs.Prelude.{ℕ, Bool, List, [], ◌∷◌, ◌++◌, ◌==◌, count_by, flat_map, fold, length, slice_index_or, if◌then◌else◌}
use Rattle.job_model.specs.Table.{Table}
use Rattle.sag_step.specs.State.{SystemState}
use Rattle.graph_rework.specs.declared.link.Link.{Link}
use Rattle.graph_rework.specs.declared.occupant.Occupant.{Occupant}
use Rattle.graph_rework.specs.declared.occupant.Occupant.TheVariants.{Stayed, Remade}
use Rattle.graph_rework.specs.Links.{offered, windows_of}
use Rattle.graph_rework.specs.Rework.{Growing, Reworked, after_step, after_link}

-- the next level so far, and the edges out of each state that was looked at
pub record LevelSoFar : Type 0 where
  pub next : Growing
  pub links : List (List Link)

-- read only past the end of a list
abbrev pub no_state : SystemState
no_state = record { set = record { size = 0; members = [] }; low = []; high = []; ends = []; last = record { size = 0; members = [] } }

-- with the edges out of one more state
abbrev pub with_links : LevelSoFar → Reworked → LevelSoFar
with_links so_far w = record { next = w.level; links = so_far.links ++ w.links ∷ [] }

-- no edge of a state yet
abbrev pub begun : LevelSoFar → Reworked
begun so_far = record { level = so_far.next; links = [] }

-- Once the state at one place is looked at. Of the states that stay, `kept` has the states and `links` the edges of before the
-- edit; `ranks` has the rank of each state of the next level before the edit; `made` has the states that were made.
abbrev pub looked : Table → ℕ → List SystemState → List (List Link) → List ℕ → List SystemState → Reworked → Occupant → Reworked
looked table e kept links ranks made so_far (Stayed r) =
    fold (after_link table e (slice_index_or kept r no_state) ranks) so_far (slice_index_or links r [])
looked table e kept links ranks made so_far (Remade i) =
    let state = slice_index_or made i no_state in fold (after_step table state) so_far (windows_of table state)

-- how many steps that takes
abbrev pub steps_at : Table → ℕ → List (List Link) → List SystemState → Occupant → ℕ
steps_at table e links made (Stayed r) = count_by (λ l. l.job == e) (slice_index_or links r [])
steps_at table e links made (Remade i) = length (windows_of table (slice_index_or made i no_state))

-- once the state at one more place is looked at
abbrev pub after_place : Table → ℕ → List SystemState → List (List Link) → List ℕ → List SystemState → LevelSoFar → Occupant → LevelSoFar
after_place table e kept links ranks made so_far spot = with_links so_far (looked table e kept links ranks made (begun so_far) spot)

-- the next states of all states, in their order
abbrev pub all_offered : Table → List SystemState → List SystemState
all_offered table states = flat_map (λ s. offered table s (windows_of table s)) states

-- the items at the places of the states that pass
abbrev pub selected : {S X : Type 0} → (S → Bool) → List S → List X → List X
selected p [] items = []
selected p (s ∷ states) [] = []
selected p (s ∷ states) (x ∷ items) = if p s then x ∷ selected p states items else selected p states items

-- the state that stands at a place
abbrev pub occupant_state : List SystemState → List SystemState → Occupant → SystemState
occupant_state kept made (Stayed r) = slice_index_or kept r no_state
occupant_state kept made (Remade i) = slice_index_or made i no_state
