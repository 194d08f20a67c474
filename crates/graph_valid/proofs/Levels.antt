-- The levels of a graph keep clauses K4 to K8.
use Rattle.std.proofs.Common.{◌≡◌, ℕ, zero, suc, ◌+◌, true, List, [], ◌∷◌, ◌++◌, length, map, refl, sym, ap, ◌∙◌, subst, Option, Some, None}
use Rattle.std.specs.Prelude.{IsTrue, IsSomeAnd, IfSome, slice_get, flat_map, option_map}
use Rattle.std.specs.List.{AllByRecursion, AllZip, enumerate_from}
use Rattle.std.specs.Option.{option_map_or}
use Rattle.lists.proofs.Elements.{recursion_weaker, each_at}
use Rattle.job_sets.specs.Subset.{Subset, with_number}
use Rattle.lists.specs.Numbers.{numbers_below}
use Rattle.job_model.specs.Table.{Table, IsTable}
use Rattle.start_windows.specs.declared.StartWindow.{StartWindow}
use Rattle.start_windows.specs.Window.{is_candidate}
use Rattle.start_windows.proofs.WindowFacts.{IsWindow-from}
use Rattle.sag_step.specs.State.{SystemState, first_core, state_window}
use Rattle.sag_step.specs.Shape.{IsState, HasShape}
use Rattle.sag_step.specs.Next.{next}
use Rattle.sag_step.specs.Offers.{Offer, offers, offers_of}
use Rattle.sag_step.specs.Group.{group}
use Rattle.sag_step.specs.Laws as state_law
use Rattle.graph_check.specs.Certificate.{Block, block_lines}
use Rattle.graph_check.specs.Valid.{NamesCandidate, parent_set, entry_state, block_states, LeadsToWider, IsValidBlock, AreValidBlocks}
use Rattle.graph_valid.proofs.FromRoot.{FoundedLevel, level_after, levels_after}
use Rattle.graph_valid.proofs.FromRootLines.{founded_lines}
use Rattle.graph_valid.proofs.Lists.{all-map, all-flat_map, all-filter_map, all-numbered, zip-map_left}
use Rattle.graph_valid.proofs.Grouped.{HullLaws, Founded, group_founded, states_of, states-grouped, founders-grouped, all-grouped, targets}
use Rattle.graph_valid.proofs.Blocks.{edge_entry, state_entry, founded_entry, block_of, level_of, zip-founded, block-lines, lows, highs, ends-back, choices, windows}

-- ---- the offers of a level

-- An offer is of one of these states: its job may be the next there, in its window.
pub record IsOfferOf (table : Table) (before : List SystemState) (o : Offer) : Type 0 where
  pub parent : SystemState
  pub there : slice_get before o.from ≡ Some parent
  pub window : state_window table parent o.job ≡ Some o.window
  pub next : o.next ≡ next table parent o.job o.window

pub are_offers : (table : Table) (before : List SystemState) → AllByRecursion (IsOfferOf table before) (offers table before)
are_offers table before =
    all-flat_map (IsOfferOf table before) (offers_of table) (enumerate_from 0 before)
    (recursion_weaker (λ (e : ℕ × SystemState). slice_get before e.0 ≡ Some e.1) (λ e. AllByRecursion (IsOfferOf table before) (offers_of table e))
    (λ e there. all-filter_map (IsOfferOf table before)
    (λ j. option_map (λ (w : StartWindow). record { from = e.0; job = j; window = w; next = next table e.1 j w }) (state_window table e.1 j))
    (λ j. one e there j (state_window table e.1 j) refl) (numbers_below (length table.jobs)))
    (enumerate_from 0 before) (all-numbered before))
  where
    one : (e : ℕ × SystemState) → slice_get before e.0 ≡ Some e.1 → (j : ℕ) (o : Option StartWindow) → state_window table e.1 j ≡ o →
        IfSome (option_map (λ (w : StartWindow). record { from = e.0; job = j; window = w; next = next table e.1 j w }) o) (IsOfferOf table before)
    one e there j None is = tt
    one e there j (Some w) is = record { parent = e.1; there = there; window = is; next = refl }

module _ (next_is_state : state_law.NextIsState) (table : Table) (m : ℕ) (is_table : IsTable table) (before : List SystemState) (are : AllByRecursion (IsState table m) before) where
  pub offer_is_state : (o : Offer) → IsOfferOf table before o → IsState table m o.next
  offer_is_state o of =
      let parent = each_at (IsState table m) before o.from of.parent are of.there in
      subst (IsState table m) (sym of.next) (next_is_state table m of.parent o.job o.window is_table parent of.window)

  pub are_next_states : AllByRecursion (λ (o : Offer). IsState table m o.next) (offers table before)
  are_next_states = recursion_weaker (IsOfferOf table before) (λ (o : Offer). IsState table m o.next) offer_is_state (offers table before) (are_offers table before)

-- ---- the states of a level

-- a state with the offer that appended it
pub record IsFounded (table : Table) (m : ℕ) (before : List SystemState) (o : Offer) (s : SystemState) : Type 0 where
  pub of_offer : IsOfferOf table before o
  pub set : s.set ≡ o.next.set
  pub is_state : IsState table m s

module _ (next_is_state : state_law.NextIsState) (laws : HullLaws) (table : Table) (m : ℕ) (is_table : IsTable table) where
  module _ (before : List SystemState) (are : AllByRecursion (IsState table m) before) where
    abbrev pub grouped : List Founded
    grouped = group_founded [] (offers table before)

    pub are_founded : AllByRecursion (λ (f : Founded). IsFounded table m before f.founder f.state) grouped
    are_founded = all-grouped (IsFounded table m before) (IsOfferOf table before)
        (λ o of. record { of_offer = of; set = refl; is_state = offer_is_state next_is_state table m is_table before are o of })
        (λ f s o founded of same. record {
          of_offer = founded.of_offer;
          set = founded.set;
          is_state = laws.hull_is_state table m s o.next founded.is_state (offer_is_state next_is_state table m is_table before are o of) same;
        })
        [] (offers table before) (are_offers table before) tt

    pub states_are : states_of grouped ≡ group (offers table before)
    states_are = states-grouped [] (offers table before)

    pub level_is : level_of grouped (level_after table before).edges ≡ level_after table before
    level_is = λ i. record { states = states_are i; founders = founders-grouped [] (offers table before) i; edges = (level_after table before).edges }

    pub are_states_after : AllByRecursion (IsState table m) (group (offers table before))
    are_states_after = subst (AllByRecursion (IsState table m)) states_are
        (all-map (IsState table m) (λ (f : Founded). f.state) grouped
        (recursion_weaker (λ (f : Founded). IsFounded table m before f.founder f.state) (λ (f : Founded). IsState table m f.state) (λ f founded. founded.is_state) grouped are_founded))

    -- the entry of a state gives the state
    entry_is : (o : Offer) (s : SystemState) → IsFounded table m before o s → entry_state table before (state_entry o s) ≡ s
    entry_is o s f =
        let parent : parent_set before o.from ≡ f.of_offer.parent.set.members = ap (λ p. option_map_or (λ (p : SystemState). p.set.members) p []) f.of_offer.there in
        let members : with_number o.job (parent_set before o.from) ≡ s.set.members =
        ap (with_number o.job) parent ∙ ap (λ (n : SystemState). n.set.members) (sym f.of_offer.next) ∙ ap (λ (x : Subset). x.members) (sym f.set) in
        let size : length table.jobs ≡ s.set.size = sym f.is_state.of_table in
        let last_size : length table.jobs ≡ s.last.size = sym (f.is_state.last_size ∙ f.is_state.of_table) in
        λ i. record {
          set = record { size = size i; members = members i };
          low = lows s.low s.high f.is_state.shape.in_order i;
          high = highs s.low s.high f.is_state.shape.in_order i;
          ends = ends-back s.ends i;
          last = record { size = last_size i; members = s.last.members };
        }

    entries_are : (fs : List Founded) → AllByRecursion (λ (f : Founded). IsFounded table m before f.founder f.state) fs → map (entry_state table before) (map founded_entry fs) ≡ states_of fs
    entries_are [] all = refl
    entries_are (f ∷ fs) all = λ i. entry_is f.founder f.state all.0 i ∷ entries_are fs all.1 i

    abbrev pub own_block : Block
    own_block = block_of (level_after table before)

    block_is : block_of (level_of grouped (level_after table before).edges) ≡ own_block
    block_is = ap block_of level_is

    own_entries : own_block.states ≡ map founded_entry grouped
    own_entries = ap (λ (b : Block). b.states) (sym block_is) ∙ zip-founded state_entry grouped

    pub block_states_are : block_states table before own_block ≡ group (offers table before)
    block_states_are = ap (map (entry_state table before)) own_entries ∙ entries_are grouped are_founded ∙ states_are

    -- a founder's job is a candidate in its state
    names : (o : Offer) (s : SystemState) → IsFounded table m before o s → NamesCandidate table before (state_entry o s)
    names o s f =
        let parent = f.of_offer.parent in
        let candidate : is_candidate table parent.set.members o.job ≡ true =
        (IsWindow-from table parent.set.members parent.ends (first_core parent) o.job o.window f.of_offer.window).is_candidate in
        subst (λ p. IsSomeAnd p (λ (parent : SystemState). IsTrue (is_candidate table parent.set.members o.job))) (sym f.of_offer.there) candidate

    pub is_valid_block : IsValidBlock table m before own_block
    is_valid_block = record {
      candidates =
          subst (AllByRecursion (NamesCandidate table before)) (sym own_entries)
          (all-map (NamesCandidate table before) founded_entry grouped
          (recursion_weaker (λ (f : Founded). IsFounded table m before f.founder f.state) (λ (f : Founded). NamesCandidate table before (founded_entry f)) (λ f founded. names f.founder f.state founded) grouped are_founded));
      shapes =
          subst (AllByRecursion (HasShape table m)) (sym block_states_are)
          (recursion_weaker (IsState table m) (HasShape table m) (λ s is. is.shape) (group (offers table before)) are_states_after);
      all_offers = choices (offers table before) [];
      windows = windows (offers table before) [];
      targets =
          subst (λ (states : List SystemState). AllZip (LeadsToWider states) own_block.edges (offers table before)) (sym block_states_are)
          (zip-map_left (LeadsToWider (group (offers table before))) edge_entry (level_after table before).edges (offers table before)
          (targets laws table m (offers table before) [] tt (are_next_states next_is_state table m is_table before are)));
    }

    pub own_lines : (a : ℕ) → block_lines (a, own_block) ≡ founded_lines (a, level_after table before)
    own_lines a =
        ap (λ (b : Block). block_lines (a, b)) (sym block_is) ∙ block-lines a grouped (level_after table before).edges ∙ ap (λ (l : FoundedLevel). founded_lines (a, l)) level_is

  -- ---- level after level

  pub are_valid_blocks : (n : ℕ) (before : List SystemState) → AllByRecursion (IsState table m) before → AreValidBlocks table m before (map block_of (levels_after table n before))
  are_valid_blocks zero before are = tt
  are_valid_blocks (suc n) before are = (
    is_valid_block before are,
    subst (λ states. AreValidBlocks table m states (map block_of (levels_after table n (group (offers table before))))) (sym (block_states_are before are))
        (are_valid_blocks n (group (offers table before)) (are_states_after before are)),
  )

  pub all_lines : (n a : ℕ) (before : List SystemState) → AllByRecursion (IsState table m) before →
      flat_map block_lines (enumerate_from a (map block_of (levels_after table n before))) ≡ flat_map founded_lines (enumerate_from a (levels_after table n before))
  all_lines zero a before are = refl
  all_lines (suc n) a before are = λ i. own_lines before are a i ++ all_lines n (a + 1) (group (offers table before)) (are_states_after before are) i
