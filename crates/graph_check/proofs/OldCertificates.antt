-- Certificates of the old version are valid.
use Rattle.std.proofs.Common.{◌≡◌, ℕ, zero, suc, ◌+◌, ◌≤◌, Bool, true, List, [], ◌∷◌, ◌++◌, length, map, Option, Some, None, refl, ap, sym, ◌∙◌, subst, arith}
use Rattle.std.specs.Prelude.{◌&&◌, IsTrue, IsSomeAnd, filter_map, flat_map, slice_get}
use Rattle.std.specs.List.{AllByRecursion, AllZip, cons_option, enumerate_from}
use Rattle.std.specs.Option.{option_map}
use Rattle.std.proofs.lemmas.Bool.{and_from}
use Rattle.job_model.specs.Table.{Table}
use Rattle.lists.specs.Numbers.{numbers_below}
use Rattle.lists.proofs.Elements.{all-append, each_at}
use Rattle.start_windows.specs.declared.StartWindow.{StartWindow}
use Rattle.sag_step.specs.State.{SystemState, root, state_window}
use Rattle.sag_step.specs.Next.{next}
use Rattle.sag_step.specs.Widen.{widens}
use Rattle.sag_step.specs.Offers.{Offer, offers, offers_of}
use Rattle.graph_check.specs.Certificate.{Block, EdgeEntry, StateEntry}
use Rattle.graph_check.specs.Entries.{root_from}
use Rattle.graph_check.specs.Laws as law
use Rattle.graph_check.specs.Old.{ListsNoLast, LeadsToOldWider, OldValid, old_next, old_widens}
use Rattle.graph_check.specs.Valid.{AreBlocksBy, AreValidBlocks, LeadsToWider, block_states, entry_state}
use Rattle.graph_check.proofs.OldSteps.{widens-by_old}

-- ---- offers come from the states of their level

module _ (table : Table) (level : List SystemState) where
  record ComesFrom (o : Offer) : Type 0 where
    pub state : SystemState
    pub there : slice_get level o.from ≡ Some state
    pub is_next : o.next ≡ next table state o.job o.window

  module _ (k : ℕ) (s : SystemState) (there : slice_get level k ≡ Some s) where
    abbrev offer_in : ℕ → StartWindow → Offer
    offer_in j window = record { from = k; job = j; window = window; next = next table s j window }

    of-jobs : (jobs : List ℕ) → AllByRecursion ComesFrom (filter_map (λ j. option_map (offer_in j) (state_window table s j)) jobs)
    of-jobs [] = tt
    of-jobs (j ∷ jobs) = at (state_window table s j) (of-jobs jobs)
      where
        at : (w : Option StartWindow) → AllByRecursion ComesFrom (filter_map (λ j. option_map (offer_in j) (state_window table s j)) jobs) →
            AllByRecursion ComesFrom (cons_option (option_map (offer_in j) w) (filter_map (λ j. option_map (offer_in j) (state_window table s j)) jobs))
        at None later = later
        at (Some w) later = (record { state = s; there = there; is_next = refl }, later)

  of-states : (k : ℕ) (states : List SystemState) → ((i : ℕ) (s : SystemState) → slice_get states i ≡ Some s → slice_get level (k + i) ≡ Some s) →
      AllByRecursion ComesFrom (flat_map (offers_of table) (enumerate_from k states))
  of-states k [] there = tt
  of-states k (s ∷ states) there =
      all-append ComesFrom (offers_of table (k, s)) (flat_map (offers_of table) (enumerate_from (k + 1) states))
      (of-jobs k s (subst (λ n. slice_get level n ≡ Some s) (omega arith) (there 0 s refl)) (numbers_below (length table.jobs)))
      (of-states (k + 1) states (λ i x is. subst (λ n. slice_get level n ≡ Some x) (omega arith) (there (suc i) x is)))

  each-comes : AllByRecursion ComesFrom (offers table level)
  each-comes = of-states 0 level (λ i s is. subst (λ n. slice_get level n ≡ Some s) (omega arith) is)

-- ---- levels without last jobs

abbrev IsBare : SystemState → Type 0
IsBare s = s.last.members ≡ []

bare-states : (table : Table) (before : List SystemState) (entries : List StateEntry) → AllByRecursion (λ s. s.last ≡ []) entries →
    AllByRecursion IsBare (map (entry_state table before) entries)
bare-states table before [] none = tt
bare-states table before (e ∷ entries) none = (none.0, bare-states table before entries none.1)

module _ (table : Table) (before states : List SystemState) (bare_before : AllByRecursion IsBare before) (bare : AllByRecursion IsBare states) where
  leads-on : (e : EdgeEntry) (o : Offer) → ComesFrom table before o → LeadsToOldWider table before states e o → LeadsToWider states e o
  leads-on e o from leads = at (slice_get states e.to) refl (subst (λ x. IsSomeAnd x (λ from. IsSomeAnd (slice_get states e.to) (λ to. IsTrue (old_widens to (old_next table from o.job o.window))))) from.there leads)
    where
      at : (to : Option SystemState) → slice_get states e.to ≡ to → IsSomeAnd to (λ to. IsTrue (old_widens to (old_next table from.state o.job o.window))) → IsSomeAnd to (λ s. IsTrue (widens s o.next))
      at None is wide = absurd wide
      at (Some to) is wide =
          subst (λ n. IsTrue (widens to n)) (sym from.is_next)
          (widens-by_old table from.state o.job o.window (each_at IsBare before o.from from.state bare_before from.there) to (each_at IsBare states e.to to bare is) wide)

  all-lead : (edges : List EdgeEntry) (os : List Offer) → AllByRecursion (ComesFrom table before) os → AllZip (LeadsToOldWider table before states) edges os → AllZip (LeadsToWider states) edges os
  all-lead [] [] from leads = tt
  all-lead [] (o ∷ os) from leads = absurd leads
  all-lead (e ∷ es) [] from leads = absurd leads
  all-lead (e ∷ es) (o ∷ os) from leads = (leads-on e o from.0 leads.0, all-lead es os from.1 leads.1)

all-blocks : (table : Table) (m : ℕ) (before : List SystemState) (blocks : List Block) → AllByRecursion IsBare before → AllByRecursion ListsNoLast blocks →
    AreBlocksBy (LeadsToOldWider table) table m before blocks → AreValidBlocks table m before blocks
all-blocks table m before [] bare none old = tt
all-blocks table m before (b ∷ blocks) bare none old =
    let states = block_states table before b in
    let bare_states : AllByRecursion IsBare states = bare-states table before b.states none.0 in (
      record {
        candidates = old.0.candidates;
        shapes = old.0.shapes;
        all_offers = old.0.all_offers;
        windows = old.0.windows;
        targets = all-lead table before states bare bare_states b.edges (offers table before) (each-comes table before) old.0.targets;
      },
      all-blocks table m states blocks bare_states none.1 old.1,
    )

pub old_is_valid : law.OldIsValid
old_is_valid table m lines old =
    let c = old.certificate in
    let k = old.keeps in
    let first = root_from table c.root in
    record {
      certificate = c;
      in_order = old.in_order;
      keeps = record {
        jobs = k.jobs;
        cores = k.cores;
        level_count = k.level_count;
        job_count = k.job_count;
        one_root = k.one_root;
        root_shape = k.root_shape;
        root_wide = and_from (old_widens first (root table m)) true k.root_wide refl;
        blocks = all-blocks table m (first ∷ []) c.blocks (refl, tt) old.no_last k.blocks;
        spans = k.spans;
        in_spans = k.in_spans;
        marks = k.marks;
        verdict = k.verdict;
      };
    }
