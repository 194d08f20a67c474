-- What is judged line by line are the clauses.
use Rattle.std.proofs.Common.{◌≡◌, ℕ, ◌+◌, ◌<◌, ◌≤◌, true, List, [], ◌∷◌, map, length, refl, sym, ap, ◌∙◌, subst, arith, zero-add, Option, Some, None, Contains}
use Rattle.std.specs.Prelude.{slice_get, IsTrue, IsSomeAnd, filter_map, flat_map, option_map}
use Rattle.std.specs.List.{AllByRecursion, AllZip, enumerate_from, cons_option}
use Rattle.std.proofs.lemmas.List.{length-map}
use Rattle.std.proofs.lemmas.List.Elements.{All-from_recursion, recursion_from_All, All-contains, All-contains_itself, All-weaker}
use Rattle.lists.specs.Numbers.{numbers_below}
use Rattle.job_model.specs.Table.{Table}
use Rattle.sag_time.specs.Interval.{covers}
use Rattle.lists.proofs.Elements.{recursion_weaker}
use Rattle.start_windows.specs.declared.StartWindow.{StartWindow}
use Rattle.sag_step.specs.State.{SystemState, state_window}
use Rattle.sag_step.specs.Next.{next}
use Rattle.sag_step.specs.Shape.{HasShape}
use Rattle.sag_step.specs.Offers.{Offer, offers, offers_of}
use Rattle.graph_check.specs.Entries.{JobEntry}
use Rattle.graph_check.specs.Certificate.{StateEntry, EdgeEntry, Block}
use Rattle.graph_check.specs.Valid.{NamesCandidate, entry_state, block_states, LeadsToWider, edge_choice, offer_choice, IsValidBlock, AreValidBlocks, IsInSpan, IsMarkedRight}
use Rattle.graph_check.proofs.PassedLines.{NamesState, FitsOffer, IsFitJob}
use Rattle.graph_check.proofs.LinesLeft.{hulls_over, IsRightBlock, AreRightBlocks}
use Rattle.lists.proofs.Elements.{each_at, element, numbered_at, numbered_from, cons-parts, all-append, range-below}
use Rattle.graph_check.proofs.CoveredHulls.{finish_of_edge, no_hulls, none-covered, nothing_kept, all-parts, all-more, HaveJobs, IsCovered}

module _ (table : Table) (m : ℕ) where
  -- ---- blocks

  abbrev named_shapes : List SystemState → List StateEntry → Type 0
  named_shapes before entries = AllByRecursion (HasShape table m) (map (entry_state table before) entries)

  shapes-from_named : (before : List SystemState) (entries : List StateEntry) → AllByRecursion (NamesState table m before) entries → named_shapes before entries
  shapes-from_named before [] all = tt
  shapes-from_named before (e ∷ es) all = (all.0.shape, shapes-from_named before es all.1)

  named-from : (before : List SystemState) (entries : List StateEntry) → AllByRecursion (NamesCandidate table before) entries → named_shapes before entries →
      AllByRecursion (NamesState table m before) entries
  named-from before [] candidates shapes = tt
  named-from before (e ∷ es) candidates shapes = (record { candidate = candidates.0; shape = shapes.0 }, named-from before es candidates.1 shapes.1)

  choices : (states : List SystemState) (edges : List EdgeEntry) (os : List Offer) → AllZip (FitsOffer table m states) edges os → map edge_choice edges ≡ map offer_choice os
  choices states [] [] all = refl
  choices states [] (o ∷ os) all = absurd all
  choices states (e ∷ es) [] all = absurd all
  choices states (e ∷ es) (o ∷ os) all =
      let later = choices states es os all.1 in
      λ i. all.0.choice i ∷ later i

  windows : (states : List SystemState) (edges : List EdgeEntry) (os : List Offer) → AllZip (FitsOffer table m states) edges os →
      map (λ e. e.window) edges ≡ map (λ o. o.window) os
  windows states [] [] all = refl
  windows states [] (o ∷ os) all = absurd all
  windows states (e ∷ es) [] all = absurd all
  windows states (e ∷ es) (o ∷ os) all =
      let later = windows states es os all.1 in
      λ i. all.0.window i ∷ later i

  targets : (states : List SystemState) (edges : List EdgeEntry) (os : List Offer) → AllZip (FitsOffer table m states) edges os → AllZip (LeadsToWider states) edges os
  targets states [] [] all = tt
  targets states [] (o ∷ os) all = absurd all
  targets states (e ∷ es) [] all = absurd all
  targets states (e ∷ es) (o ∷ os) all = (all.0.target, targets states es os all.1)

  led-from : (states : List SystemState) (edges : List EdgeEntry) (os : List Offer) → map edge_choice edges ≡ map offer_choice os →
      map (λ e. e.window) edges ≡ map (λ o. o.window) os →
      AllZip (LeadsToWider states) edges os → AllZip (FitsOffer table m states) edges os
  led-from states [] [] choice window all = tt
  led-from states [] (o ∷ os) choice window all = absurd all
  led-from states (e ∷ es) [] choice window all = absurd all
  led-from states (e ∷ es) (o ∷ os) choice window all =
      let c = cons-parts (edge_choice e) (offer_choice o) (map edge_choice es) (map offer_choice os) choice in
      let w = cons-parts e.window o.window (map (λ e. e.window) es) (map (λ o. o.window) os) window in
      (record { choice = c.0; window = w.0; target = all.0 }, led-from states es os c.1 w.1 all.1)

  pub valid-from_right : (before : List SystemState) (blocks : List Block) → AreRightBlocks table m before blocks → AreValidBlocks table m before blocks
  valid-from_right before [] right = tt
  valid-from_right before (b ∷ bs) right =
      let states = block_states table before b in
      let os = offers table before in
      let valid : IsValidBlock table m before b = record {
        candidates = recursion_weaker (NamesState table m before) (NamesCandidate table before) (λ e names. names.candidate) b.states right.0.named;
        shapes = shapes-from_named before b.states right.0.named;
        all_offers = choices states b.edges os right.0.led;
        windows = windows states b.edges os right.0.led;
        targets = targets states b.edges os right.0.led;
      } in
      (valid, valid-from_right states bs right.1)

  pub right-from_valid : (before : List SystemState) (blocks : List Block) → AreValidBlocks table m before blocks → AreRightBlocks table m before blocks
  right-from_valid before [] valid = tt
  right-from_valid before (b ∷ bs) valid =
      let states = block_states table before b in
      let right : IsRightBlock table m before b = record {
        named = named-from before b.states valid.0.candidates valid.0.shapes;
        led = led-from states b.edges (offers table before) valid.0.all_offers valid.0.windows valid.0.targets;
      } in
      (right, right-from_valid states bs valid.1)

  -- ---- the jobs of edges are in range

  abbrev InRange : Offer → Type 0
  InRange o = o.job < length table.jobs

  abbrev offer_by : ℕ × SystemState → ℕ → StartWindow → Offer
  offer_by s j window = record { from = s.0; job = j; window = window; next = next table s.1 j window }

  one-in_range : (s : ℕ × SystemState) (j : ℕ) (w : Option StartWindow) (os : List Offer) → j < length table.jobs → AllByRecursion InRange os →
      AllByRecursion InRange (cons_option (option_map (offer_by s j) w) os)
  one-in_range s j None os below all = all
  one-in_range s j (Some window) os below all = (below, all)

  state-in_range : (s : ℕ × SystemState) (js : List ℕ) → AllByRecursion (λ j. j < length table.jobs) js →
      AllByRecursion InRange (filter_map (λ j. option_map (offer_by s j) (state_window table s.1 j)) js)
  state-in_range s [] below = tt
  state-in_range s (j ∷ js) below =
      one-in_range s j (state_window table s.1 j) (filter_map (λ j. option_map (offer_by s j) (state_window table s.1 j)) js) below.0 (state-in_range s js below.1)

  all-in_range : (level : List (ℕ × SystemState)) → AllByRecursion InRange (flat_map (offers_of table) level)
  all-in_range [] = tt
  all-in_range (s ∷ ss) =
      let n = length table.jobs in
      let first = state-in_range s (numbers_below n) (range-below 0 n n (omega arith)) in
      all-append InRange (offers_of table s) (flat_map (offers_of table) ss) first (all-in_range ss)

  led-in_range : (states : List SystemState) (edges : List EdgeEntry) (os : List Offer) → AllZip (FitsOffer table m states) edges os → AllByRecursion InRange os →
      HaveJobs table (length table.jobs) edges
  led-in_range states [] [] all below = tt
  led-in_range states [] (o ∷ os) all below = absurd all
  led-in_range states (e ∷ es) [] all below = absurd all
  led-in_range states (e ∷ es) (o ∷ os) all below =
      let job : e.job ≡ o.job = ap (λ c. c.1) all.0.choice in
      (subst (λ j. j < length table.jobs) (sym job) below.0, led-in_range states es os all.1 below.1)

  pub edges-in_range : (before : List SystemState) (blocks : List Block) → AreRightBlocks table m before blocks →
      HaveJobs table (length table.jobs) (flat_map (λ b. b.edges) blocks)
  edges-in_range before [] right = tt
  edges-in_range before (b ∷ bs) right =
      all-append (λ e. e.job < length table.jobs) b.edges (flat_map (λ b. b.edges) bs)
      (led-in_range (block_states table before b) b.edges (offers table before) right.0.led (all-in_range (enumerate_from 0 before)))
      (edges-in_range (block_states table before b) bs right.1)

  -- ---- jobs

  abbrev Fit : List EdgeEntry → ℕ × JobEntry → Type 0
  Fit edges = IsFitJob table m (hulls_over table (no_hulls table) edges)

  abbrev IsInOrder : JobEntry → Type 0
  IsInOrder s = s.span.lo ≤ s.span.hi

  kept_edges : (edges : List EdgeEntry) → HaveJobs table (length table.jobs) edges → HaveJobs table (length (no_hulls table)) edges
  kept_edges edges jobs = subst (λ n. HaveJobs table n edges) (sym (length-map table.jobs (λ _. None))) jobs

  pub in_order-from_fit : (edges : List EdgeEntry) (spans : List JobEntry) (a : ℕ) → AllByRecursion (Fit edges) (enumerate_from a spans) → AllByRecursion IsInOrder spans
  in_order-from_fit edges [] a fit = tt
  in_order-from_fit edges (s ∷ ss) a fit = (fit.0.in_order, in_order-from_fit edges ss (a + 1) fit.1)

  pub marks-from_fit : (edges : List EdgeEntry) (spans : List JobEntry) (a : ℕ) → AllByRecursion (Fit edges) (enumerate_from a spans) →
      AllByRecursion (IsMarkedRight table) (enumerate_from a spans)
  marks-from_fit edges spans a fit = recursion_weaker (Fit edges) (IsMarkedRight table) (λ s f. f.mark) (enumerate_from a spans) fit

  pub in_spans-from_fit : (edges : List EdgeEntry) (spans : List JobEntry) → length spans ≡ length table.jobs → HaveJobs table (length table.jobs) edges →
      AllByRecursion (Fit edges) (enumerate_from 0 spans) → AllByRecursion (IsInSpan table spans) edges
  in_spans-from_fit edges spans long jobs fit =
      recursion_from_All (IsInSpan table spans) edges (All-weaker (Contains edges) (IsInSpan table spans) each edges (All-contains_itself edges))
    where
      each : (e : EdgeEntry) → Contains edges e → IsInSpan table spans e
      each e there =
          let below : e.job < length table.jobs =
          All-contains (λ e. e.job < length table.jobs) edges e (All-from_recursion (λ e. e.job < length table.jobs) edges jobs) there in
          let found = element spans e.job (omega (arith, below, long)) in
          let fits : Fit edges (e.job, found.0) = subst (λ n. Fit edges (n, found.0)) (zero-add e.job) (numbered_at (Fit edges) spans 0 e.job found.0 fit found.1) in
          let covered = all-parts table edges (no_hulls table) e.job found.0.span (kept_edges edges jobs) fits.covers in
          let wide : covers found.0.span (finish_of_edge table e) ≡ true =
          All-contains (IsCovered table e.job found.0.span) edges e (All-from_recursion (IsCovered table e.job found.0.span) edges covered.1) there refl in
          subst (λ o. IsSomeAnd o (λ s. IsTrue (covers s.span (finish_of_edge table e)))) (sym found.1) wide

  pub fit-from_spans : (edges : List EdgeEntry) (spans : List JobEntry) → HaveJobs table (length table.jobs) edges →
      AllByRecursion IsInOrder spans → AllByRecursion (IsInSpan table spans) edges → AllByRecursion (IsMarkedRight table) (enumerate_from 0 spans) →
      AllByRecursion (Fit edges) (enumerate_from 0 spans)
  fit-from_spans edges spans jobs in_order in_spans marks = numbered_from (Fit edges) spans 0 each
    where
      each : (k : ℕ) (s : JobEntry) → slice_get spans k ≡ Some s → Fit edges (0 + k, s)
      each k s is =
          let covered : (e : EdgeEntry) → IsInSpan table spans e → IsCovered table k s.span e = λ e inside same.
          let at_k : slice_get spans e.job ≡ Some s = ap (slice_get spans) same ∙ is in
          subst (λ o. IsSomeAnd o (λ s. IsTrue (covers s.span (finish_of_edge table e)))) at_k inside in
          let none = none-covered table (no_hulls table) k s.span (nothing_kept table) in
          let wide =
          all-more table edges (no_hulls table) k s.span (kept_edges edges jobs) none (recursion_weaker (IsInSpan table spans) (IsCovered table k s.span) covered edges in_spans) in
          let fits : Fit edges (k, s) = record {
            in_order = each_at IsInOrder spans k s in_order is;
            covers = wide;
            mark = subst (λ n. IsMarkedRight table (n, s)) (zero-add k) (numbered_at (IsMarkedRight table) spans 0 k s marks is);
          } in
          subst (λ n. Fit edges (n, s)) (sym (zero-add k)) fits
