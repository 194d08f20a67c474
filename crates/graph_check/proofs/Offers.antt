-- The offers of a level by places: those of the states before one, and then a place among its own.
use Rattle.std.proofs.Common.{◌≡◌, Bool, true, false, Bor, Result, Ok, Err, ℕ, zero, suc, ◌+◌, ◌<◌, ◌≤◌, List, [], ◌∷◌, ◌++◌, drop, get_or, length, map, Option, Some, None, refl, ap, sym, ◌∙◌, subst, arith, add-one}
use Rattle.std.specs.Prelude.{slice_get, IsSome, IfSome, IfNone, MatchOption, OnOk, is_err}
use Rattle.std.specs.List.{cons_option, enumerate_from, filter_map, flat_map, AllByRecursion}
use Rattle.std.specs.Option.{option_map, option_map_or}
use Rattle.std.proofs.lemmas.List.{length-map}
use Rattle.std.proofs.lemmas.Option.{slice_get_past, slice_get_read, slice_get_within, slice_get-map, same_Some}
use Rattle.lists.specs.Numbers.{numbers_below}
use Rattle.job_model.specs.Table.{Table}
use Rattle.start_windows.specs.declared.StartWindow.{StartWindow}
use Rattle.start_windows.specs.Eligible.{eligible_windows}
use Rattle.sag_step.specs.State.{SystemState, HeldState, first_core, state_window}
use Rattle.sag_step.specs.Next.{next}
use Rattle.sag_step.specs.Shape.{IsState}
use Rattle.sag_step.specs.Widen.{widens}
use Rattle.sag_step.specs.Offers.{Offer, offers, offers_of, offer_by, offers_from}
use Rattle.start_windows.proofs.WindowFacts.{IsWindow-from}
use Rattle.graph_check.specs.declared.level_state.LevelState.{LevelState}
use Rattle.graph_check.specs.Turns.{IsFit, IsLevelState, IsStart, AreFit, HeldTurns, StandsAt, offer_at, offers_left, level_states, turn_of, windows_at}
use Rattle.lists.proofs.Elements.{drop-at}

-- ---- places of lists

drop-nil : {A : Type 0} (k : ℕ) → ◌≡◌ {A = List A} (drop k []) []
drop-nil zero = refl
drop-nil (suc k) = refl

drop-past : {A : Type 0} (k : ℕ) (xs : List A) → length xs ≤ k → drop k xs ≡ []
drop-past k [] h = drop-nil k
drop-past zero (x ∷ xs) h = absurd (omega arith)
drop-past (suc k) (x ∷ xs) h = drop-past k xs (omega arith)

-- an element by what is left from its place on
head-drop : {A : Type 0} (xs : List A) (k : ℕ) → slice_get xs k ≡ slice_get (drop k xs) 0
head-drop [] k = rw (drop-nil k) refl
head-drop (x ∷ xs) zero = refl
head-drop (x ∷ xs) (suc k) = head-drop xs k

nil-cons : {A : Type 0} {x : A} {xs : List A} → [] ≡ x ∷ xs → ⊥
nil-cons e = cc

drop-suc : {A : Type 0} (xs : List A) (k : ℕ) (x : A) (ys : List A) → drop k xs ≡ x ∷ ys → drop (suc k) xs ≡ ys
drop-suc [] k x ys e = absurd (nil-cons (sym (drop-nil k) ∙ e))
drop-suc (y ∷ xs) zero x ys e = cc
drop-suc (y ∷ xs) (suc k) x ys e = drop-suc xs k x ys e

none-past : {A : Type 0} (xs : List A) (k : ℕ) → slice_get xs k ≡ None → length xs ≤ k
none-past [] k e = omega arith
none-past (x ∷ xs) zero e = absurd (cc)
none-past (x ∷ xs) (suc k) e = let rest = none-past xs k e in omega arith

-- ---- fit states

fit-at : (table : Table) (m : ℕ) (level : List LevelState) (k : ℕ) (s : LevelState) → AllByRecursion (IsLevelState table m) level → slice_get level k ≡ Some s →
    IsLevelState table m s
fit-at table m [] k s all e = absurd (cc)
fit-at table m (t ∷ level) zero s all e = subst (IsLevelState table m) (cc) all.0
fit-at table m (t ∷ level) (suc k) s all e = fit-at table m level k s all.1 e

-- ---- the offers of one state

-- by a window for each job, or none
by_windows : (table : Table) (from : ℕ) (s : SystemState) (f : ℕ → Option StartWindow) (js : List ℕ) →
    filter_map (λ j. option_map (λ window. record { from = from; job = j; window = window; next = next table s j window }) (f j)) js
    ≡ map (offer_by table from s) (filter_map (λ j. option_map (λ w. (j, w)) (f j)) js)
by_windows table from s f [] = refl
by_windows table from s f (j ∷ js) =
    let rest = by_windows table from s f js in
    elim (f j) as (λ o.
    cons_option (option_map (λ window. record { from = from; job = j; window = window; next = next table s j window }) o)
    (filter_map (λ j. option_map (λ window. record { from = from; job = j; window = window; next = next table s j window }) (f j)) js)
    ≡ map (offer_by table from s) (cons_option (option_map (λ w. (j, w)) o) (filter_map (λ j. option_map (λ w. (j, w)) (f j)) js)))
    [ None ↦ rest | Some w ↦ ap (λ os. offer_by table from s (j, w) ∷ os) rest ]

own_offers : (table : Table) (from : ℕ) (s : SystemState) →
    offers_of table (from, s) ≡ map (offer_by table from s) (eligible_windows table s.set.members s.ends (first_core s))
own_offers table from s = by_windows table from s (state_window table s) (numbers_below (length table.jobs))

-- a job of such a list has its window
window_of : (f : ℕ → Option StartWindow) (js : List ℕ) (k : ℕ) (w : ℕ × StartWindow) →
    slice_get (filter_map (λ j. option_map (λ w. (j, w)) (f j)) js) k ≡ Some w → f w.0 ≡ Some w.1
window_of f [] k w e = absurd (cc)
window_of f (j ∷ js) k w e =
    elim (f j) as (λ o. f j ≡ o → slice_get (cons_option (option_map (λ w. (j, w)) o) (filter_map (λ j. option_map (λ w. (j, w)) (f j)) js)) k ≡ Some w → f w.0 ≡ Some w.1) [
      | None ↦ λ p q. window_of f js k w q
      | Some v ↦ λ p q. elim k as (λ k. slice_get ((j, v) ∷ filter_map (λ j. option_map (λ w. (j, w)) (f j)) js) k ≡ Some w → f w.0 ≡ Some w.1) [
        | zero ↦ λ r. subst (λ (x : ℕ × StartWindow). f x.0 ≡ Some x.1) (cc) p
        | suc n ↦ λ r. window_of f js n w r
      ] q
    ] refl e

-- ---- the offers of all states

-- the offers from a state on are its own, and those from the next on
from_state : (table : Table) (level : List SystemState) (k n : ℕ) →
    option_map_or (λ s. offers_of table (n, s)) (slice_get level k) [] ++ flat_map (offers_of table) (enumerate_from (n + 1) (drop (suc k) level))
    ≡ flat_map (offers_of table) (enumerate_from n (drop k level))
from_state table [] k n = rw (drop-nil k) refl
from_state table (s ∷ level) zero n = refl
from_state table (s ∷ level) (suc k) n = from_state table level k n

-- By all windows of a state, what is left are its offers and those of later states.
pub left-all : (table : Table) (level : List SystemState) (at : ℕ) → offers_left table level at (windows_at table level at) ≡ offers_from table level at
unfolding offers_left windows_at
left-all table level at =
    let own : option_map_or (λ s. map (offer_by table at s) (option_map_or (λ s. eligible_windows table s.set.members s.ends (first_core s)) (slice_get level at) [])) (slice_get level at) []
    ≡ option_map_or (λ s. offers_of table (at, s)) (slice_get level at) [] =
    elim (slice_get level at) as (λ o. option_map_or (λ s. map (offer_by table at s) (option_map_or (λ s. eligible_windows table s.set.members s.ends (first_core s)) o [])) o []
    ≡ option_map_or (λ s. offers_of table (at, s)) o [])
    [ None ↦ refl | Some s ↦ sym (own_offers table at s) ] in
    ap (λ os. os ++ offers_from table level (at + 1)) own ∙ ap (λ n. option_map_or (λ s. offers_of table (at, s)) (slice_get level at) [] ++ flat_map (offers_of table) (enumerate_from (at + 1) (drop n level))) (add-one at) ∙ from_state table level at at

-- where no window is left
pub left-none : (table : Table) (level : List SystemState) (at : ℕ) → offers_left table level at [] ≡ offers_from table level (at + 1)
unfolding offers_left
left-none table level at = elim (slice_get level at) as (λ o. option_map_or (λ s. map (offer_by table at s) []) o [] ++ offers_from table level (at + 1) ≡ offers_from table level (at + 1))
    [ None ↦ refl | Some s ↦ refl ]

-- past the states there are no offers
pub from-past : (table : Table) (level : List SystemState) (at : ℕ) → length level ≤ at → offers_from table level at ≡ []
from-past table level at h = rw (drop-past at level h) refl

-- the next state's windows, where none of this one is left
pub left-next : (table : Table) (level : List SystemState) (at place : ℕ) (windows : List (ℕ × StartWindow)) → length windows ≤ place →
    offers_left table level (at + 1) (windows_at table level (at + 1)) ≡ offers_left table level at (drop place windows)
left-next table level at place windows h =
    left-all table level (at + 1) ∙ sym (left-none table level at) ∙ ap (offers_left table level at) (sym (drop-past place windows h))

-- ---- the offer whose turn it is

-- the state of a window, its offer, and what is left behind it
pub record IsTurn (turns : HeldTurns) (at : ℕ) (windows : List (ℕ × StartWindow)) (place : ℕ) (w : ℕ × StartWindow) : Type 0 where
  pub state : SystemState
  pub is_state : slice_get turns.level at ≡ Some state
  pub offer : offer_at turns ≡ Some (offer_by turns.table at state w)
  pub window : state_window turns.table state w.0 ≡ Some w.1
  pub behind : drop (turns.passed + 1) (offers turns.table turns.level) ≡ offers_left turns.table turns.level at (drop (place + 1) windows)

record IsWindowOf (table : Table) (level : List SystemState) (at : ℕ) (w : ℕ × StartWindow) : Type 0 where
  pub state : SystemState
  pub is_state : slice_get level at ≡ Some state
  pub window : state_window table state w.0 ≡ Some w.1

state-here : (table : Table) (level : List SystemState) (at k : ℕ) (w : ℕ × StartWindow) → slice_get (windows_at table level at) k ≡ Some w →
    IsWindowOf table level at w
unfolding windows_at
state-here table level at k w e =
    elim (slice_get level at) as (λ o. slice_get level at ≡ o →
    slice_get (option_map_or (λ s. eligible_windows table s.set.members s.ends (first_core s)) o []) k ≡ Some w → IsWindowOf table level at w) [
      | None ↦ λ p q. absurd (cc)
      | Some s ↦ λ p q. record { state = s; is_state = p; window = window_of (state_window table s) (numbers_below (length table.jobs)) k w q }
    ] refl e

left-some : (table : Table) (level : List SystemState) (at : ℕ) (s : SystemState) (w : ℕ × StartWindow) (ws : List (ℕ × StartWindow)) → slice_get level at ≡ Some s →
    offers_left table level at (w ∷ ws) ≡ offer_by table at s w ∷ offers_left table level at ws
unfolding offers_left
left-some table level at s w ws e = rw e refl

none-is-no-some : {A : Type 0} {o : Option A} → o ≡ None → IsSome o → ⊥
none-is-no-some e some = let f = subst IsSome e some in cc

module _ (turns : HeldTurns) (at : ℕ) (windows : List (ℕ × StartWindow)) (place : ℕ) (stands : StandsAt turns at windows place) where
  -- a window at the place is that of an offer whose turn it is
  pub is-turn : (w : ℕ × StartWindow) → slice_get windows place ≡ Some w → IsTurn turns at windows place w
  unfolding offer_at
  is-turn w e =
      let here = state-here turns.table turns.level at place w (subst (λ ws. slice_get ws place ≡ Some w) stands.own e) in
      let left : drop turns.passed (offers turns.table turns.level)
      ≡ offer_by turns.table at here.state w ∷ offers_left turns.table turns.level at (drop (suc place) windows) =
      stands.left ∙ ap (offers_left turns.table turns.level at) (drop-at windows place w e)
      ∙ left-some turns.table turns.level at here.state w (drop (suc place) windows) here.is_state in
      record {
        state = here.state;
        is_state = here.is_state;
        offer = head-drop (offers turns.table turns.level) turns.passed ∙ ap (λ os. slice_get os 0) left;
        window = here.window;
        behind = rw (add-one turns.passed, add-one place) (drop-suc (offers turns.table turns.level) turns.passed _ _ left);
      }

  -- where no window is left, no offer is
  pub no-turn : slice_get windows place ≡ None → offer_at turns ≡ None
  unfolding offer_at
  no-turn e =
      let past : length windows ≤ place = none-past windows place e in
      let all : length turns.level ≤ at = stands.settled past in
      let done : drop turns.passed (offers turns.table turns.level) ≡ [] =
      stands.left ∙ ap (offers_left turns.table turns.level at) (drop-past place windows past) ∙ left-none turns.table turns.level at
      ∙ from-past turns.table turns.level (at + 1) (omega arith) in
      head-drop (offers turns.table turns.level) turns.passed ∙ ap (λ os. slice_get os 0) done

  -- where an offer is left, there is a window, and a state that it is of
  pub record IsPlaced : Type 0 where
    pub window : ℕ × StartWindow
    pub at_place : slice_get windows place ≡ Some window
    pub in_windows : place < length windows
    pub in_level : at < length turns.level
    pub turn : IsTurn turns at windows place window

  placed-by : (o : Option (ℕ × StartWindow)) → slice_get windows place ≡ o → IsSome (offer_at turns) → IsPlaced
  placed-by None e some = absurd (none-is-no-some (no-turn e) some)
  placed-by (Some w) e some =
      let turn = is-turn w e in
      record {
        window = w;
        at_place = e;
        in_windows = slice_get_within windows place w e;
        in_level = slice_get_within turns.level at turn.state turn.is_state;
        turn = turn;
      }

  pub is-placed : IsSome (offer_at turns) → IsPlaced
  is-placed some = placed-by (slice_get windows place) refl some

-- ---- states in memory

-- what an index gives of the states
pub state-at : (held : List LevelState) (at : ℕ) (x : LevelState) → at < length held → x ≡ get_or held at x → slice_get (level_states held) at ≡ Some x.state.state
state-at held at x lt is =
    slice_get-map (λ (h : LevelState). h.state.state) held at ∙ ap (option_map (λ (h : LevelState). h.state.state)) (slice_get_read held (length held) at x refl lt is)

pub state-past : (held : List LevelState) (at : ℕ) → length held ≤ at → slice_get (level_states held) at ≡ None
state-past held at past =
    slice_get-map (λ (h : LevelState). h.state.state) held at ∙ ap (option_map (λ (h : LevelState). h.state.state)) (slice_get_past held at past)

-- a state at its place, as a step asks of it
pub record IsSource (table : Table) (m : ℕ) (level : List SystemState) (at : ℕ) (held : LevelState) : Type 0 where
  pub at_place : slice_get level at ≡ Some held.state.state
  pub level_state : IsLevelState table m held
  pub fit : IsFit table m held.state.state
  pub some : 0 < length held.state.state.low

pub source-at : (table : Table) (m : ℕ) (held : List LevelState) (at : ℕ) (x : LevelState) → AreFit table m held → at < length held → x ≡ get_or held at x →
    IsSource table m (level_states held) at x
source-at table m held at x fit lt is =
    let here = state-at held at x lt is in
    let level_state = fit-at table m held at x fit.each (slice_get_read held (length held) at x refl lt is) in
    let own = level_state.fit in
    let cores : length x.state.state.low ≡ m = own.is_state.shape.low_count in
    let one : 1 ≤ m = own.is_state.some_core in
    record { at_place = here; level_state = level_state; fit = own; some = omega arith }

-- the windows of a state at its place
pub windows-here : (table : Table) (level : List SystemState) (at : ℕ) (s : SystemState) → slice_get level at ≡ Some s →
    windows_at table level at ≡ eligible_windows table s.set.members s.ends (first_core s)
unfolding windows_at
windows-here table level at s e = rw e refl

pub windows-past : (table : Table) (level : List SystemState) (at : ℕ) → slice_get level at ≡ None → windows_at table level at ≡ []
unfolding windows_at
windows-past table level at e = rw e refl

-- ---- no states

pub no-states-fit : (table : Table) (m : ℕ) → AreFit table m []
no-states-fit table m = record { each = tt }

none-from : (table : Table) (at : ℕ) → offers_from table [] at ≡ []
none-from table at = from-past table [] at (omega arith)

pub none-stands : (table : Table) (m at place passed : ℕ) → StandsAt (record { table = table; cores = m; level = []; passed = passed }) at [] place
none-stands table m at place passed = record {
  own = sym (windows-past table [] at refl);
  left = drop-nil passed ∙ sym (none-from table (at + 1)) ∙ sym (left-none table [] at) ∙ ap (offers_left table [] at) (sym (drop-nil place));
  settled = λ _. omega arith;
}

-- ---- what a walk asks

module _ (table : Table) (m : ℕ) (held : List LevelState) (passed at : ℕ) (windows : List (ℕ × StartWindow)) (place : ℕ) where
  abbrev turns-of : HeldTurns
  turns-of = record { table = table; cores = m; level = level_states held; passed = passed }

  -- the places are there
  pub record ArePlaces : Type 0 where
    pub in_windows : place < length windows
    pub in_states : at < length held

  pub are-places : (old : HeldTurns) → turns-of ≡ old → StandsAt turns-of at windows place → IsSome (offer_at old) → ArePlaces
  are-places old is stands some =
      let placed = is-placed turns-of at windows place stands (subst (λ t. IsSome (offer_at t)) (sym is) some) in
      let count : length (level_states held) ≡ length held = length-map held (λ (h : LevelState). h.state.state) in
      let in_windows = placed.in_windows in
      let in_level = placed.in_level in
      record { in_windows = in_windows; in_states = omega arith }

  -- the state and the job of the offer whose turn it is, and room for its next state
  pub record IsStep (x : LevelState) (w : ℕ × StartWindow) (scratch : HeldState) : Type 0 where
    pub fit : IsFit table m x.state.state
    pub from : IsState table (length x.state.state.low) x.state.state
    pub into : IsState table (length x.state.state.low) scratch.state
    pub window : state_window table x.state.state w.0 ≡ Some w.1
    pub offer : offer_at turns-of ≡ Some (offer_by table at x.state.state w)
    pub behind : drop (passed + 1) (offers table (level_states held)) ≡ offers_left table (level_states held) at (drop (place + 1) windows)

  pub is-step : (old : HeldTurns) → turns-of ≡ old → AreFit table m held → StandsAt turns-of at windows place → IsSome (offer_at old) →
      (x : LevelState) → x ≡ get_or held at x → (w : ℕ × StartWindow) → w ≡ get_or windows place w → (scratch : HeldState) → IsState table m scratch.state → IsStep x w scratch
  is-step old is fit stands some x x-is w w-is scratch scratch-is =
      let places = are-places old is stands some in
      let source = source-at table m held at x fit places.in_states x-is in
      let turn = is-turn turns-of at windows place stands w (slice_get_read windows (length windows) place w refl places.in_windows w-is) in
      let one : turn.state ≡ x.state.state = same_Some turn.state x.state.state (sym turn.is_state ∙ source.at_place) in
      let cores : m ≡ length x.state.state.low = sym source.fit.is_state.shape.low_count in
      record {
        fit = source.fit;
        from = subst (λ n. IsState table n x.state.state) cores source.fit.is_state;
        into = subst (λ n. IsState table n scratch.state) cores scratch-is;
        window = subst (λ s. state_window table s w.0 ≡ Some w.1) one turn.window;
        offer = subst (λ s. offer_at turns-of ≡ Some (offer_by table at s w)) one turn.offer;
        behind = turn.behind;
      }

  -- the offer whose turn it is, as it is told
  pub told-turn : (old : HeldTurns) → turns-of ≡ old → StandsAt turns-of at windows place → (w : ℕ × StartWindow) → place < length windows → w ≡ get_or windows place w →
      Some (record { from = at; job = w.0; window = w.1 }) ≡ option_map turn_of (offer_at old)
  told-turn old is stands w lt w-is =
      let turn = is-turn turns-of at windows place stands w (slice_get_read windows (length windows) place w refl lt w-is) in
      ap (option_map turn_of) (sym turn.offer) ∙ ap (λ t. option_map turn_of (offer_at t)) is

  pub told-start : (old : HeldTurns) → turns-of ≡ old → StandsAt turns-of at windows place → (w : ℕ × StartWindow) → place < length windows → w ≡ get_or windows place w →
      IsStart old.table w.0 w.1
  told-start old is stands w lt w-is =
      let turn = is-turn turns-of at windows place stands w (slice_get_read windows (length windows) place w refl lt w-is) in
      let s = turn.state in
      let found = IsWindow-from table s.set.members s.ends (first_core s) w.0 w.1 turn.window in
      subst (λ (t : HeldTurns). IsStart t.table w.0 w.1) is (record { is_job = found.is_job; in_order = found.in_order })

  pub told-none : (old : HeldTurns) → turns-of ≡ old → StandsAt turns-of at windows place → length windows ≤ place → None ≡ option_map turn_of (offer_at old)
  told-none old is stands past =
      ap (option_map turn_of) (sym (no-turn turns-of at windows place stands (slice_get_past windows place past))) ∙ ap (λ t. option_map turn_of (offer_at t)) is

-- after a step on or a beginning, by what the settling says
pub settled-stands : (table : Table) (m : ℕ) (level : List SystemState) (passed at : ℕ) (windows : List (ℕ × StartWindow)) (place : ℕ) (rest : List Offer) →
    windows ≡ windows_at table level at → offers_left table level at (drop place windows) ≡ rest → (length windows ≤ place → length level ≤ at) →
    drop passed (offers table level) ≡ rest → StandsAt (record { table = table; cores = m; level = level; passed = passed }) at windows place
settled-stands table m level passed at windows place rest own left settled is = record { own = own; left = is ∙ sym left; settled = settled }

-- all offers are left at the first state
pub left-first : (table : Table) (level : List SystemState) → offers table level ≡ offers_left table level 0 (windows_at table level 0)
left-first table level = sym (left-all table level 0)

pub covers-offer : (old : HeldTurns) (state : SystemState) (result : Bool) (o : Offer) → offer_at old ≡ Some o → result ≡ widens state o.next →
    IfSome (offer_at old) (λ offer. result ≡ widens state offer.next)
covers-offer old state result o is e = rw is e

-- what is told of a state by its number
pub record ToldState (old : HeldTurns) (number : ℕ) (result : Option (Bor LevelState)) : Type 0 where
  pub some : IfSome result (λ s. slice_get old.level number ≡ Some s.now.state.state)
  pub fit : IfSome result (λ s. IsLevelState old.table old.cores s.now)
  pub none : IfNone result (slice_get old.level number ≡ None)

pub told-state : (table : Table) (m : ℕ) (held : List LevelState) (passed number : ℕ) (old : HeldTurns) →
    record { table = table; cores = m; level = level_states held; passed = passed } ≡ old → AreFit table m held → (result : Option (Bor LevelState)) →
    MatchOption result (length held ≤ number) (λ x. (number < length held) × ((d : LevelState) → x.now ≡ get_or held number d)) → ToldState old number result
told-state table m held passed number old is fit None past =
    subst (λ (t : HeldTurns). ToldState t number None) is (record { some = tt; fit = tt; none = state-past held number past })
told-state table m held passed number old is fit (Some x) there =
    let source = source-at table m held number x.now fit there.0 (there.1 x.now) in
    subst (λ (t : HeldTurns). ToldState t number (Some x)) is (record { some = source.at_place; fit = source.level_state; none = tt })

-- ---- what is known of the fields, where clauses speak of the view

module _ (table : Table) (m : ℕ) (held : List LevelState) (passed : ℕ) (old : HeldTurns) (is : record { table = table; cores = m; level = level_states held; passed = passed } ≡ old) where
  pub own-fit : (state : SystemState) → IsFit old.table old.cores state → IsFit table m state
  own-fit state fit = subst (λ (t : HeldTurns). IsFit t.table t.cores state) (sym is) fit

  pub fit-of-view : (states : List LevelState) → AreFit old.table old.cores states → AreFit table m states
  fit-of-view states fit = subst (λ (t : HeldTurns). AreFit t.table t.cores states) (sym is) fit

pub passed-turn : (table : Table) (m : ℕ) (held : List LevelState) (passed at : ℕ) (windows : List (ℕ × StartWindow)) (place : ℕ) (old : HeldTurns) →
    turns-of table m held passed at windows place ≡ old → StandsAt (turns-of table m held passed at windows place) at windows place → IsSome (offer_at old) →
    drop (passed + 1) (offers table (level_states held)) ≡ offers_left table (level_states held) at (drop (place + 1) windows)
passed-turn table m held passed at windows place old is stands some =
    (is-placed (turns-of table m held passed at windows place) at windows place stands (subst (λ t. IsSome (offer_at t)) (sym is) some)).turn.behind

pub by-ok : {T E P : Type 0} (r : Result T E) → is_err r ≡ false → OnOk r P → P
by-ok (Ok x) e p = p
by-ok (Err x) e p = absurd (true≢false e)
  where
    true≢false : true ≡ false → ⊥
    true≢false e = cc
