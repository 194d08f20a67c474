-- What is kept of states and edges, as offers are placed.
use Rattle.std.proofs.Common.{◌≡◌, ◌≢◌, ℕ, suc, zero, Bool, true, false, List, [], ◌∷◌, ◌++◌, ◌+◌, ◌<◌, ◌≤◌, get_or, length, refl, sym, ap, ◌∙◌, subst, arith}
use Rattle.std.specs.Prelude.{◌&&◌, Some}
use Rattle.std.specs.List.{AllByRecursion, AllZip}
use Rattle.job_model.specs.declared.limits.TheConstants.{MOST_ARRIVAL, MOST_COST, MOST_JOBS}
use Rattle.job_model.specs.Table.{Table, IsTable}
use Rattle.start_windows.specs.declared.StartWindow.{StartWindow}
use Rattle.start_windows.specs.Laws.{FrontsAreHandedDown}
use Rattle.start_windows.proofs.WindowFacts.{IsWindow-from}
use Rattle.sag_step.specs.declared.TheConstants.{MOST_STEP_TIME}
use Rattle.std.proofs.lemmas.List.{get_or-map, length-map}
use Rattle.sag_step.specs.State.{SystemState, HeldState, first_core, state_window}
use Rattle.sag_step.specs.State.{states_of}
use Rattle.sag_step.specs.Next.{next}
use Rattle.sag_step.specs.Shape.{IsState, IsUpTo}
use Rattle.sag_step.specs.Widen.{AreComparable, same_set, state_hull, states_touch}
use Rattle.sag_step.specs.Group.{placed, place_of}
use Rattle.sag_step.proofs.Widening.{IsState-hull, IsUpTo-hull, shaped_are_comparable}
use Rattle.sag_step.proofs.NextStates.{HasRoom-from, next_is_state, next_is_up_to}
use Rattle.state_merge.specs.Index.{AreComparableTo}
use Rattle.sag_graph.specs.declared.edge.Edge.{Edge}
use Rattle.graph_builder.specs.Fit.{AreEdges, AreReady, IsEdge, IsReady, most_at}

-- a level further, one cost more
pub most-more : (k : ℕ) → most_at k + MOST_COST ≡ most_at (k + 1)
most-more k = omega arith

pub arrival-most : (k : ℕ) → MOST_ARRIVAL ≤ most_at k
arrival-most k = omega arith

-- with few levels a step can be made
pub most-few : (k : ℕ) → k ≤ MOST_JOBS → most_at k ≤ MOST_STEP_TIME
most-few k few = omega arith

-- the next state by an eligible job
pub ready-next : (table : Table) (m limit : ℕ) (s : SystemState) (t j : ℕ) (window : StartWindow) → IsTable table → MOST_ARRIVAL ≤ limit →
    IsReady table m limit s t → state_window table s j ≡ Some window → FrontsAreHandedDown → IsReady table m (limit + MOST_COST) (next table s j window) t
ready-next table m limit s t j window is_table arrivals ready eligible handed = record {
  is_state = next_is_state table m s j window is_table ready.is_state eligible;
  in_limit = next_is_up_to table s j window limit is_table ready.in_limit arrivals eligible;
  is_front = handed.kept table s.set.members t j ready.is_front;
}

-- its edge
pub edge-next : (table : Table) (limit : ℕ) (s : SystemState) (from j to : ℕ) (window : StartWindow) → IsTable table → MOST_ARRIVAL ≤ limit → IsUpTo limit s →
    state_window table s j ≡ Some window → IsEdge table (limit + MOST_COST) (record { from = from; job = j; window = window; to = to })
edge-next table limit s from j to window is_table arrivals within eligible =
    let room = HasRoom-from table s j window limit is_table within arrivals eligible in
    let found = IsWindow-from table s.set.members s.ends (first_core s) j window eligible in
    record { is_job = found.is_job; in_order = room.order; latest = room.latest }

pub edges-push : (table : Table) (limit : ℕ) (edges : List Edge) (e : Edge) → AreEdges table limit edges → IsEdge table limit e → AreEdges table limit (edges ++ e ∷ [])
edges-push table limit edges e all own = record { each = by edges all.each }
  where
    by : (es : List Edge) → AllByRecursion (IsEdge table limit) es → AllByRecursion (IsEdge table limit) (es ++ e ∷ [])
    by [] h = (own, tt)
    by (x ∷ es) h = (h.0, by es h.1)

-- each of the states can be compared with another
pub comparable-to : (table : Table) (m limit : ℕ) (states : List SystemState) (ts : List ℕ) (o : SystemState) → AreReady table m limit states ts → IsState table m o →
    AreComparableTo states o
comparable-to table m limit states ts o ready is = record { each = by states ts ready.each }
  where
    by : (ss : List SystemState) (us : List ℕ) → AllZip (IsReady table m limit) ss us → AllByRecursion (λ s. AreComparable s o) ss
    by [] us h = tt
    by (s ∷ ss) [] h = absurd h
    by (s ∷ ss) (u ∷ us) h = (shaped_are_comparable table m s o h.0.is_state is, by ss us h.1)

first-true : (a b : Bool) → (a && b) ≡ true → a ≡ true
first-true true b e = refl
first-true false b e = absurd (cc)

module _ (table : Table) (m limit : ℕ) (o : SystemState) (t : ℕ) (own : IsReady table m limit o t) where
  ready-hull : (s : SystemState) (u : ℕ) → IsReady table m limit s u → states_touch s o ≡ true → IsReady table m limit (state_hull s o) u
  ready-hull s u ready touch = record {
    is_state = IsState-hull table m s o ready.is_state own.is_state (first-true (same_set s.set o.set) _ touch);
    in_limit = IsUpTo-hull limit s o ready.in_limit own.in_limit;
    is_front = ready.is_front;
  }

  absorbed : (ss : List SystemState) (us : List ℕ) → AllZip (IsReady table m limit) ss us → place_of ss o ≢ length ss → AllZip (IsReady table m limit) (placed ss o) us
  absorbed [] us h n = absurd (n refl)
  absorbed (s ∷ ss) [] h n = absurd h
  absorbed (s ∷ ss) (u ∷ us) h n = by (states_touch s o) refl (λ p. absorbed ss us h.1 p) n
    where
      by : (b : Bool) → states_touch s o ≡ b → (place_of ss o ≢ length ss → AllZip (IsReady table m limit) (placed ss o) us) → place_of (s ∷ ss) o ≢ suc (length ss) → AllZip (IsReady table m limit) (placed (s ∷ ss) o) (u ∷ us)
      by true e rest n = rw e (ready-hull s u h.0 e, h.1)
      by false e rest n = rw e (h.0, rest (λ p. n (rw e (omega (arith, p)))))

  appended : (ss : List SystemState) (us : List ℕ) → AllZip (IsReady table m limit) ss us → place_of ss o ≡ length ss → AllZip (IsReady table m limit) (placed ss o) (us ++ t ∷ [])
  appended [] [] h n = (own, tt)
  appended [] (u ∷ us) h n = absurd h
  appended (s ∷ ss) [] h n = absurd h
  appended (s ∷ ss) (u ∷ us) h n = by (states_touch s o) refl (λ p. appended ss us h.1 p) n
    where
      by : (b : Bool) → states_touch s o ≡ b → (place_of ss o ≡ length ss → AllZip (IsReady table m limit) (placed ss o) (us ++ t ∷ [])) → place_of (s ∷ ss) o ≡ suc (length ss) → AllZip (IsReady table m limit) (placed (s ∷ ss) o) (u ∷ (us ++ t ∷ []))
      by true e rest n = absurd (let z = rw e at n in omega (arith, z))
      by false e rest n = let z = rw e at n in rw e (h.0, rest (omega (arith, z)))

  -- where it is absorbed the fronts stay
  pub ready-absorbed : (states : List SystemState) (ts : List ℕ) → AreReady table m limit states ts → place_of states o ≢ length states → AreReady table m limit (placed states o) ts
  ready-absorbed states ts ready n = record { each = absorbed states ts ready.each n }

  -- where it comes last its front does
  pub ready-appended : (states : List SystemState) (ts : List ℕ) → AreReady table m limit states ts → place_of states o ≡ length states → AreReady table m limit (placed states o) (ts ++ t ∷ [])
  ready-appended states ts ready n = record { each = appended states ts ready.each n }

-- an edge at its place
pub edge-at : (table : Table) (limit : ℕ) (edges : List Edge) (i : ℕ) (e : Edge) → AreEdges table limit edges → i < length edges → e ≡ get_or edges i e → IsEdge table limit e
edge-at table limit edges i e all lt is = subst (IsEdge table limit) (sym is) (by edges i all.each lt)
  where
    by : (es : List Edge) (k : ℕ) → AllByRecursion (IsEdge table limit) es → k < length es → IsEdge table limit (get_or es k e)
    by [] k h lt = absurd (omega arith)
    by (x ∷ es) zero h lt = h.0
    by (x ∷ es) (suc k) h lt = by es k h.1 (omega arith)

-- a state in memory at its place, with its front
pub record IsReadyAt (table : Table) (m limit : ℕ) (level : List SystemState) (ts : List ℕ) (i : ℕ) (s : SystemState) : Type 0 where
  pub ready : IsReady table m limit s (get_or ts i 0)
  pub in_fronts : i < length ts
  pub in_level : i < length level
  pub at_place : get_or level i s ≡ s
  pub some_core : 0 < length s.low

pub ready-at : (table : Table) (m limit : ℕ) (held : List HeldState) (ts : List ℕ) (i : ℕ) (x : HeldState) → AreReady table m limit (states_of held) ts → i < length held →
    x ≡ get_or held i x → IsReadyAt table m limit (states_of held) ts i x.state
ready-at table m limit held ts i x all lt is =
    let own : IsReady table m limit x.state (get_or ts i 0) = subst (λ (y : HeldState). IsReady table m limit y.state (get_or ts i 0)) (sym is) (by held ts i all.each lt) in
    let cores : length x.state.low ≡ m = own.is_state.shape.low_count in
    let some : 1 ≤ m = own.is_state.some_core in
    record {
      ready = own;
      in_fronts = omega (arith, count held ts all.each, lt);
      in_level = omega (arith, lt, length-map held (λ (h : HeldState). h.state));
      at_place = get_or-map (λ (h : HeldState). h.state) held i x x.state lt ∙ ap (λ (h : HeldState). h.state) (sym is);
      some_core = omega (arith, cores, some);
    }
  where
    by : (hs : List HeldState) (us : List ℕ) (k : ℕ) → AllZip (IsReady table m limit) (states_of hs) us → k < length hs → IsReady table m limit (get_or hs k x).state (get_or us k 0)
    by [] us k h lt = absurd (omega arith)
    by (y ∷ hs) [] k h lt = absurd h
    by (y ∷ hs) (u ∷ us) zero h lt = h.0
    by (y ∷ hs) (u ∷ us) (suc k) h lt = by hs us k h.1 (omega arith)

    count : (hs : List HeldState) (us : List ℕ) → AllZip (IsReady table m limit) (states_of hs) us → length us ≡ length hs
    count [] [] h = refl
    count [] (u ∷ us) h = absurd h
    count (y ∷ hs) [] h = absurd h
    count (y ∷ hs) (u ∷ us) h = ap suc (count hs us h.1)
