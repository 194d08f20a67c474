-- The offers that are left, as one is placed.
use Rattle.std.proofs.Common.{◌≡◌, ℕ, suc, zero, Bool, true, false, cond, List, [], ◌∷◌, ◌++◌, ◌+◌, ◌*◌, ◌<◌, ◌≤◌, drop, fold, length, map, get_or, refl, sym, ap, ◌∙◌, subst, arith, append-nil, append_assoc, add-one}
use Rattle.std.specs.Prelude.{◌↔◌, ◌||◌, nat_lt, IsTrue, OnOk, Result, Ok, Err, find, Option, Some, None, if◌then◌else◌}
use Rattle.std.specs.List.{cons_option, enumerate_from, filter_map, flat_map}
use Rattle.std.specs.Option.{option_map}
use Rattle.std.proofs.lemmas.List.{length-append}
use Rattle.lists.specs.Numbers.{numbers_below}
use Rattle.job_model.specs.Table.{Table}
use Rattle.start_windows.specs.declared.StartWindow.{StartWindow}
use Rattle.start_windows.specs.Eligible.{eligible_windows}
use Rattle.sag_step.specs.State.{SystemState, first_core, state_window}
use Rattle.sag_step.specs.Next.{next}
use Rattle.sag_step.specs.Widen.{state_hull, states_touch}
use Rattle.sag_step.specs.Group.{Offer, offers, offers_of, placed, place_of}
use Rattle.sag_graph.specs.declared.edge.Edge.{Edge}
use Rattle.sag_graph.specs.Levels.{Level, edge_to, edges_into, next_level}
use Rattle.sag_graph.specs.Budget.{Spending, exceeds, spendings_into}
use Rattle.sag_graph.specs.declared.TheConstants.{MOST_BUDGET}
use Rattle.graph_builder.specs.declared.draft.Draft.{Draft}
use Rattle.graph_builder.specs.declared.fault.LevelFault.{LevelFault}
use Rattle.graph_builder.specs.declared.fault.LevelFault.TheVariants as fault
use Rattle.graph_builder.specs.declared.filling.Purse.{Purse}
use Rattle.graph_builder.specs.Fit.{AreEdges, AreReady, IsEdge, IsReady}
use Rattle.sag_step.specs.Offers.{offer_by, offers_from}
use Rattle.graph_builder.specs.Filling.{FitsBudget, IsDraft, IsOver, IsOverWith, before_of, completed, first_over, no_level, totals, with_offer}
use Rattle.graph_builder.proofs.FitLemmas.{edges-push, ready-absorbed, ready-appended}

-- ---- what the offers that are left make

pub completed-none : (level : Level) → completed level [] ≡ level
unfolding completed
completed-none level = λ i. record { states = level.states; edges = append-nil level.edges i }

pub completed-one : (level : Level) (o : Offer) (os : List Offer) → completed level (o ∷ os) ≡ completed (with_offer level o) os
unfolding completed with_offer
completed-one level o os =
    let edges : level.edges ++ (edge_to o (place_of level.states o.next) ∷ edges_into (placed level.states o.next) os)
    ≡ (level.edges ++ edge_to o (place_of level.states o.next) ∷ []) ++ edges_into (placed level.states o.next) os =
    sym (append_assoc level.edges (edge_to o (place_of level.states o.next) ∷ []) (edges_into (placed level.states o.next) os)) in
    λ i. record { states = fold placed (placed level.states o.next) (map (λ p. p.next) os); edges = edges i }

pub completed-append : (level : Level) (os ps : List Offer) → completed level (os ++ ps) ≡ completed (completed level os) ps
completed-append level [] ps = ap (λ l. completed l ps) (sym (completed-none level))
completed-append level (o ∷ os) ps =
    completed-one level o (os ++ ps) ∙ completed-append (with_offer level o) os ps ∙ ap (λ l. completed l ps) (sym (completed-one level o os))

-- ---- where the budget is spent

over-none : (budget : ℕ) (before : Spending) (level : Level) → first_over budget before level [] ≡ None
unfolding first_over
over-none budget before level = refl

pub over-one : (budget : ℕ) (before : Spending) (level : Level) (o : Offer) (os : List Offer) →
    first_over budget before level (o ∷ os)
    ≡ cond (exceeds budget (totals before (with_offer level o))) (Some (totals before (with_offer level o))) (first_over budget before (with_offer level o) os)
unfolding first_over with_offer
over-one budget before level o os =
    let more : before.edges + length level.edges + 1 ≡ before.edges + length (level.edges ++ edge_to o (place_of level.states o.next) ∷ []) =
    omega (arith, length-append level.edges (edge_to o (place_of level.states o.next) ∷ [])) in
    let f : ℕ → Option Spending = λ n. cond (exceeds budget (record { level = before.level; states = before.states + length (placed level.states o.next); edges = n }))
    (Some (record { level = before.level; states = before.states + length (placed level.states o.next); edges = n }))
    (find (exceeds budget) (spendings_into (record { level = before.level; states = before.states; edges = n }) (placed level.states o.next) os)) in
    ap f more

-- after an offer that is over
pub over-here : (budget : ℕ) (before : Spending) (level : Level) (o : Offer) (os : List Offer) → exceeds budget (totals before (with_offer level o)) ≡ true →
    first_over budget before level (o ∷ os) ≡ Some (totals before (with_offer level o))
over-here budget before level o os e =
    over-one budget before level o os ∙ ap (λ b. cond b (Some (totals before (with_offer level o))) (first_over budget before (with_offer level o) os)) e

-- after one that is not
pub over-later : (budget : ℕ) (before : Spending) (level : Level) (o : Offer) (os : List Offer) → exceeds budget (totals before (with_offer level o)) ≡ false →
    first_over budget before level (o ∷ os) ≡ first_over budget before (with_offer level o) os
over-later budget before level o os e =
    over-one budget before level o os ∙ ap (λ b. cond b (Some (totals before (with_offer level o))) (first_over budget before (with_offer level o) os)) e

module _ (budget : ℕ) (before : Spending) where
  -- where none of the first offers is over
  pub over-behind : (level : Level) (os ps : List Offer) → first_over budget before level os ≡ None →
      first_over budget before level (os ++ ps) ≡ first_over budget before (completed level os) ps
  over-behind level [] ps e = ap (λ l. first_over budget before l ps) (sym (completed-none level))
  over-behind level (o ∷ os) ps e = by (exceeds budget (totals before (with_offer level o))) refl (λ h. over-behind (with_offer level o) os ps h)
    where
      by : (b : Bool) → exceeds budget (totals before (with_offer level o)) ≡ b →
          (first_over budget before (with_offer level o) os ≡ None → first_over budget before (with_offer level o) (os ++ ps) ≡ first_over budget before (completed (with_offer level o) os) ps) →
          first_over budget before level (o ∷ (os ++ ps)) ≡ first_over budget before (completed level (o ∷ os)) ps
      by true p rest = absurd (let q = sym (over-here budget before level o os p) ∙ e in cc)
      by false p rest =
          over-later budget before level o (os ++ ps) p
          ∙ rest (sym (over-later budget before level o os p) ∙ e)
          ∙ ap (λ l. first_over budget before l ps) (sym (completed-one level o os))

  -- where one of them is
  pub over-among : (level : Level) (os ps : List Offer) (s : Spending) → first_over budget before level os ≡ Some s → first_over budget before level (os ++ ps) ≡ Some s
  over-among level [] ps s e = absurd (let q = sym (over-none budget before level) ∙ e in cc)
  over-among level (o ∷ os) ps s e = by (exceeds budget (totals before (with_offer level o))) refl (λ h. over-among (with_offer level o) os ps s h)
    where
      by : (b : Bool) → exceeds budget (totals before (with_offer level o)) ≡ b →
          (first_over budget before (with_offer level o) os ≡ Some s → first_over budget before (with_offer level o) (os ++ ps) ≡ Some s) → first_over budget before level (o ∷ (os ++ ps)) ≡ Some s
      by true p rest = over-here budget before level o (os ++ ps) p ∙ sym (over-here budget before level o os p) ∙ e
      by false p rest =
          over-later budget before level o (os ++ ps) p ∙ rest (sym (over-later budget before level o os p) ∙ e)

-- ---- the offers of a state, and of all

by_windows : (table : Table) (from : ℕ) (s : SystemState) (f : ℕ → Option StartWindow) (js : List ℕ) →
    filter_map (λ j. option_map (λ window. record { from = from; job = j; window = window; next = next table s j window }) (f j)) js
    ≡ map (offer_by table from s) (filter_map (λ j. option_map (λ w. (j, w)) (f j)) js)
by_windows table from s f [] = refl
by_windows table from s f (j ∷ js) =
    let rest = by_windows table from s f js in
    elim (f j) as (λ o.
    cons_option (option_map (λ window. record { from = from; job = j; window = window; next = next table s j window }) o)
    (filter_map (λ j. option_map (λ window. record { from = from; job = j; window = window; next = next table s j window }) (f j)) js)
    ≡ map (offer_by table from s) (cons_option (option_map (λ w. (j, w)) o) (filter_map (λ j. option_map (λ w. (j, w)) (f j)) js)))
    [ None ↦ rest | Some w ↦ ap (λ os. offer_by table from s (j, w) ∷ os) rest ]

own_offers : (table : Table) (from : ℕ) (s : SystemState) →
    offers_of table (from, s) ≡ map (offer_by table from s) (eligible_windows table s.set.members s.ends (first_core s))
own_offers table from s = by_windows table from s (state_window table s) (numbers_below (length table.jobs))

drop-at : {A : Type 0} (xs : List A) (k : ℕ) (d : A) → k < length xs → drop k xs ≡ get_or xs k d ∷ drop (suc k) xs
drop-at [] k d lt = absurd (omega arith)
drop-at (y ∷ xs) zero d lt = refl
drop-at (y ∷ xs) (suc k) d lt = drop-at xs k d (omega arith)

-- The offers from a state on are its own, by its windows, and those from the next state on.
pub offers-here : (table : Table) (level : List SystemState) (i : ℕ) (s : SystemState) → i < length level → get_or level i s ≡ s →
    offers_from table level i ≡ map (offer_by table i s) (eligible_windows table s.set.members s.ends (first_core s)) ++ offers_from table level (i + 1)
offers-here table level i s lt is =
    ap (λ l. flat_map (offers_of table) (enumerate_from i l)) (drop-at level i s lt ∙ ap (λ x. x ∷ drop (suc i) level) is)
    ∙ ap (λ os. os ++ flat_map (offers_of table) (enumerate_from (i + 1) (drop (suc i) level))) (own_offers table i s)
    ∙ ap (λ n. map (offer_by table i s) (eligible_windows table s.set.members s.ends (first_core s)) ++ flat_map (offers_of table) (enumerate_from (i + 1) (drop n level))) (sym (add-one i))

pub offers-first : (table : Table) (level : List SystemState) → offers table level ≡ offers_from table level 0
offers-first table level = refl

drop-past : {A : Type 0} (k : ℕ) (xs : List A) → length xs ≤ k → drop k xs ≡ []
drop-past zero [] h = refl
drop-past (suc k) [] h = refl
drop-past zero (x ∷ xs) h = absurd (omega arith)
drop-past (suc k) (x ∷ xs) h = drop-past k xs (omega arith)

pub offers-past : (table : Table) (level : List SystemState) (i : ℕ) → length level ≤ i → offers_from table level i ≡ []
offers-past table level i past = ap (λ l. flat_map (offers_of table) (enumerate_from i l)) (drop-past i level past)

-- the window of a job of such a list
pub window-of : (f : ℕ → Option StartWindow) (js : List ℕ) (k : ℕ) (w : ℕ × StartWindow) → k < length {A = ℕ × StartWindow} (filter_map (λ j. option_map (λ w. (j, w)) (f j)) js) →
    get_or (filter_map (λ j. option_map (λ w. (j, w)) (f j)) js) k w ≡ w → f w.0 ≡ Some w.1
window-of f [] k w lt e = absurd (omega arith)
window-of f (j ∷ js) k w lt e =
    elim (f j) as (λ o. f j ≡ o → k < length {A = ℕ × StartWindow} (cons_option (option_map (λ w. (j, w)) o) (filter_map (λ j. option_map (λ w. (j, w)) (f j)) js)) →
    get_or (cons_option (option_map (λ w. (j, w)) o) (filter_map (λ j. option_map (λ w. (j, w)) (f j)) js)) k w ≡ w → f w.0 ≡ Some w.1) [
      | None ↦ λ p lt q. window-of f js k w lt q
      | Some v ↦ λ p lt q. elim k as (λ k. k < length {A = ℕ × StartWindow} ((j, v) ∷ filter_map (λ j. option_map (λ w. (j, w)) (f j)) js) → get_or ((j, v) ∷ filter_map (λ j. option_map (λ w. (j, w)) (f j)) js) k w ≡ w → f w.0 ≡ Some w.1) [
        | zero ↦ λ lt r. subst (λ (x : ℕ × StartWindow). f x.0 ≡ Some x.1) r p
        | suc n ↦ λ lt r. window-of f js n w (omega arith) r
      ] lt q
    ] refl lt e

-- ---- one offer, by its window, of those of a state

module _ (f : ℕ × StartWindow → Offer) (ws : List (ℕ × StartWindow)) (i : ℕ) (w : ℕ × StartWindow) (lt : i < length ws) (is : get_or ws i w ≡ w) where
  left-cons : map f (drop i ws) ≡ f w ∷ map f (drop (i + 1) ws)
  left-cons = ap (map f) (drop-at ws i w lt ∙ ap (λ x. x ∷ drop (suc i) ws) is) ∙ ap (λ n. f w ∷ map f (drop n ws)) (sym (add-one i))

  pub made-one : (level more whole : Level) → completed level (map f (drop i ws)) ≡ whole → more ≡ with_offer level (f w) → completed more (map f (drop (i + 1) ws)) ≡ whole
  made-one level more whole made is-more =
      ap (λ l. completed l (map f (drop (i + 1) ws))) is-more ∙ sym (completed-one level (f w) (map f (drop (i + 1) ws))) ∙ ap (completed level) (sym left-cons) ∙ made

  pub over-not : (budget : ℕ) (before : Spending) (level more : Level) (over : Option Spending) → first_over budget before level (map f (drop i ws)) ≡ over →
      more ≡ with_offer level (f w) → exceeds budget (totals before more) ≡ false → first_over budget before more (map f (drop (i + 1) ws)) ≡ over
  over-not budget before level more over e is-more not =
      ap (λ l. first_over budget before l (map f (drop (i + 1) ws))) is-more
      ∙ sym (over-later budget before level (f w) (map f (drop (i + 1) ws)) (ap (λ l. exceeds budget (totals before l)) (sym is-more) ∙ not))
      ∙ ap (first_over budget before level) (sym left-cons) ∙ e

  pub over-now : (budget : ℕ) (before : Spending) (level : Level) (over : Option Spending) → first_over budget before level (map f (drop i ws)) ≡ over →
      exceeds budget (totals before (with_offer level (f w))) ≡ true → over ≡ Some (totals before (with_offer level (f w)))
  over-now budget before level over e here =
      sym e ∙ ap (first_over budget before level) left-cons ∙ over-here budget before level (f w) (map f (drop (i + 1) ws)) here

  -- what a fault tells of it, it tells of all
  pub over-told : (purse : Purse) (level : Level) (over : Option Spending) → first_over purse.budget (before_of purse) level (map f (drop i ws)) ≡ over → (x : LevelFault) →
      IsOverWith purse (with_offer level (f w)) x → IsOver over x
  over-told purse level over e (fault.Spent k s n) h = over-now purse.budget (before_of purse) level over e h.1 ∙ ap Some h.0
  over-told purse level over e fault.Memory h = tt

-- what a fault tells of the first offers, it tells of all
pub among-told : (budget : ℕ) (before : Spending) (level : Level) (os ps : List Offer) (over : Option Spending) → first_over budget before level (os ++ ps) ≡ over → (x : LevelFault) →
    IsOver (first_over budget before level os) x → IsOver over x
among-told budget before level os ps over e (fault.Spent k s n) h = sym e ∙ over-among budget before level os ps (record { level = k; states = s; edges = n }) h
among-told budget before level os ps over e fault.Memory h = tt

pub made-all : (f : ℕ × StartWindow → Offer) (ws : List (ℕ × StartWindow)) (i : ℕ) (level whole : Level) → length ws ≤ i → completed level (map f (drop i ws)) ≡ whole → level ≡ whole
made-all f ws i level whole past made = sym (completed-none level) ∙ ap (λ l. completed level (map f l)) (sym (drop-past i ws past)) ∙ made

pub over-never : (f : ℕ × StartWindow → Offer) (ws : List (ℕ × StartWindow)) (i : ℕ) (budget : ℕ) (before : Spending) (level : Level) (over : Option Spending) → length ws ≤ i →
    first_over budget before level (map f (drop i ws)) ≡ over → over ≡ None
over-never f ws i budget before level over past e =
    sym e ∙ ap (λ l. first_over budget before level (map f l)) (drop-past i ws past) ∙ over-none budget before level

-- ---- a draft with an offer more

-- what follows from an answer Ok
pub on-ok : {T E P Q : Type 0} (r : Result T E) → (P → Q) → OnOk r P → OnOk r Q
on-ok (Ok x) f p = f p
on-ok (Err x) f p = p

pub taken-level : (table : Table) (old : Level) (from : ℕ) (s after : SystemState) (job : ℕ) (window : StartWindow) (to : ℕ) (index : List SystemState) (edges : List Edge) →
    after ≡ next table s job window → index ≡ placed old.states after → to ≡ place_of old.states after →
    edges ≡ old.edges ++ record { from = from; job = job; window = window; to = to } ∷ [] →
    record { states = index; edges = edges } ≡ with_offer old (offer_by table from s (job, window))
unfolding with_offer
taken-level table old from s after job window to index edges after-is index-is to-is edges-is =
    let o : Offer = offer_by table from s (job, window) in
    let one : index ≡ placed old.states o.next = index-is ∙ ap (placed old.states) after-is in
    let place : to ≡ place_of old.states o.next = to-is ∙ ap (place_of old.states) after-is in
    let two : edges ≡ old.edges ++ edge_to o (place_of old.states o.next) ∷ [] = edges-is ∙ ap (λ n. old.edges ++ edge_to o n ∷ []) place in
    λ i. record { states = one i; edges = two i }

pub taken-draft : (table : Table) (m limit : ℕ) (draft more : Draft) (o : SystemState) (front : ℕ) (is_new : Bool) (to : ℕ) (e : Edge) →
    IsDraft table m limit draft → IsReady table m limit o front → more.index ≡ placed draft.index o → (IsTrue is_new ↔ (to ≡ length draft.index)) → to ≡ place_of draft.index o →
    more.fronts.items ≡ (if is_new then draft.fronts.items ++ front ∷ [] else draft.fronts.items) → IsEdge table limit e → more.edges.items ≡ draft.edges.items ++ e ∷ [] →
    IsDraft table m limit more
taken-draft table m limit draft more o front is_new to e is own index new place fronts edge edges = record {
  ready = by is_new new fronts;
  edges = subst (AreEdges table limit) (sym edges) (edges-push table limit draft.edges.items e is.edges edge);
}
  where
    by : (b : Bool) → (IsTrue b ↔ (to ≡ length draft.index)) → more.fronts.items ≡ (if b then draft.fronts.items ++ front ∷ [] else draft.fronts.items) →
        AreReady table m limit more.index more.fronts.items
    by true new fronts =
        subst (AreReady table m limit more.index) (sym fronts)
        (subst (λ states. AreReady table m limit states (draft.fronts.items ++ front ∷ [])) (sym index)
        (ready-appended table m limit o front own draft.index draft.fronts.items is.ready (sym place ∙ new.0 refl)))
    by false new fronts =
        subst (AreReady table m limit more.index) (sym fronts)
        (subst (λ states. AreReady table m limit states draft.fronts.items) (sym index)
        (ready-absorbed table m limit o front own draft.index draft.fronts.items is.ready (λ last. let f = new.1 (place ∙ last) in cc)))

-- ---- the budget

placed-length : (states : List SystemState) (o : SystemState) → length (placed states o) ≤ length states + 1
placed-length [] o = omega arith
placed-length (s ∷ states) o = by (states_touch s o) (placed-length states o)
  where
    by : (b : Bool) → length (placed states o) ≤ length states + 1 → length (if b then state_hull s o ∷ states else s ∷ placed states o) ≤ suc (length states) + 1
    by true h = omega arith
    by false h = omega (arith, h)

-- one state more at most
pub one-more : (level more : Level) (o : Offer) → more ≡ with_offer level o → length more.states ≤ length level.states + 1
unfolding with_offer
one-more level more o is = subst (λ l. length l.states ≤ length level.states + 1) (sym is) (placed-length level.states o.next)

nat_lt-false : (a b : ℕ) → nat_lt a b ≡ false → b ≤ a
nat_lt-false a b e = grind arith

or-false : (a b : Bool) → (a || b) ≡ false → (a ≡ false) × (b ≡ false)
or-false true b e = absurd (cc)
or-false false b e = (refl, e)

-- where the test says that there is not too much
pub fits-now : (purse : Purse) (level : Level) (k states edges : ℕ) → purse.budget ≤ MOST_BUDGET → states ≡ purse.states + length level.states → edges ≡ purse.edges + length level.edges →
    exceeds purse.budget (record { level = k; states = states; edges = edges }) ≡ false → FitsBudget purse level
fits-now purse level k states edges small states-is edges-is e =
    let both = or-false (nat_lt purse.budget states) (nat_lt (16 * purse.budget) edges) e in
    let one : states ≤ purse.budget = nat_lt-false purse.budget states both.0 in
    let two : edges ≤ 16 * purse.budget = nat_lt-false (16 * purse.budget) edges both.1 in
    record { small = small; states = omega (arith, one, states-is); edges = omega (arith, two, edges-is) }

-- where it says that there is
pub over-with : (purse : Purse) (level : Level) (states edges : ℕ) → states ≡ purse.states + length level.states → edges ≡ purse.edges + length level.edges →
    exceeds purse.budget (record { level = purse.level + 1; states = states; edges = edges }) ≡ true →
    IsOverWith purse level (fault.Spent (purse.level + 1) states edges)
over-with purse level states edges states-is edges-is e =
    let same : totals (before_of purse) level ≡ record { level = purse.level + 1; states = states; edges = edges } =
    λ i. record { level = purse.level + 1; states = sym states-is i; edges = sym edges-is i } in
    (same, ap (exceeds purse.budget) same ∙ e)

nat_lt-not : (a b : ℕ) → b ≤ a → nat_lt a b ≡ false
nat_lt-not a b e = grind arith

-- where there is not too much, the test says so
pub not-over : (purse : Purse) (level : Level) → FitsBudget purse level → exceeds purse.budget (totals (before_of purse) level) ≡ false
not-over purse level fits =
    rw (nat_lt-not purse.budget (purse.states + length level.states) fits.states, nat_lt-not (16 * purse.budget) (purse.edges + length level.edges) fits.edges) refl

-- ---- the offers of a state among those of all

module _ (table : Table) (states : List SystemState) (i : ℕ) (s : SystemState) (lt : i < length states) (at : get_or states i s ≡ s)
    (ws : List (ℕ × StartWindow)) (windows : ws ≡ eligible_windows table s.set.members s.ends (first_core s)) where
  own-here : offers_from table states i ≡ map (offer_by table i s) ws ++ offers_from table states (i + 1)
  own-here = offers-here table states i s lt at ∙ ap (λ l. map (offer_by table i s) l ++ offers_from table states (i + 1)) (sym windows)

  pub made-state : (level more whole : Level) → completed level (offers_from table states i) ≡ whole → more ≡ completed level (map (offer_by table i s) ws) →
      completed more (offers_from table states (i + 1)) ≡ whole
  made-state level more whole made is =
      ap (λ l. completed l (offers_from table states (i + 1))) is ∙ sym (completed-append level (map (offer_by table i s) ws) (offers_from table states (i + 1)))
      ∙ ap (completed level) (sym own-here) ∙ made

  pub over-state : (budget : ℕ) (before : Spending) (level more : Level) (over : Option Spending) → first_over budget before level (offers_from table states i) ≡ over →
      more ≡ completed level (map (offer_by table i s) ws) → first_over budget before level (map (offer_by table i s) ws) ≡ None →
      first_over budget before more (offers_from table states (i + 1)) ≡ over
  over-state budget before level more over e is none =
      ap (λ l. first_over budget before l (offers_from table states (i + 1))) is
      ∙ sym (over-behind budget before level (map (offer_by table i s) ws) (offers_from table states (i + 1)) none) ∙ ap (first_over budget before level) (sym own-here) ∙ e

  pub told-state : (budget : ℕ) (before : Spending) (level : Level) (over : Option Spending) → first_over budget before level (offers_from table states i) ≡ over → (x : LevelFault) →
      IsOver (first_over budget before level (map (offer_by table i s) ws)) x → IsOver over x
  told-state budget before level over e x h =
      among-told budget before level (map (offer_by table i s) ws) (offers_from table states (i + 1)) over (ap (first_over budget before level) (sym own-here) ∙ e) x h

-- all offers are those from the first state on, and they make the next level
pub made-whole : (table : Table) (states : List SystemState) (i : ℕ) (level : Level) → length states ≤ i →
    completed level (offers_from table states i) ≡ completed no_level (offers table states) → level ≡ next_level table states
unfolding completed next_level
made-whole table states i level past made = sym (completed-none level) ∙ ap (completed level) (sym (offers-past table states i past)) ∙ made

pub over-whole : (table : Table) (states : List SystemState) (i : ℕ) (budget : ℕ) (before : Spending) (level : Level) (over : Option Spending) → length states ≤ i →
    first_over budget before level (offers_from table states i) ≡ over → over ≡ None
over-whole table states i budget before level over past e =
    sym e ∙ ap (first_over budget before level) (offers-past table states i past) ∙ over-none budget before level
