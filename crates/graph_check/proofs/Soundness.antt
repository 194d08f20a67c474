-- In every legal run each job finishes within its interval of a valid certificate.
use Rattle.std.proofs.Common.{◌≡◌, ℕ, ◌+◌, ◌<◌, ◌≤◌, List, [], ◌∷◌, ◌++◌, length, refl, ap, arith, ⊎_elim, sym, ◌∙◌, subst, Option, Some, None, Ok, IsSomeAnd, get_or, Contains, zero-add}
use Rattle.std.specs.Prelude.{IsTrue, IsOkAnd, slice_index, slice_get, nat_le, flat_map, option_map}
use Rattle.std.specs.List.{AllByRecursion, enumerate_from}
use Rattle.std.proofs.lemmas.Bool.{cases_eq, and_parts, leb-true}
use Rattle.std.proofs.lemmas.Option.{slice_get_within, get_or_from_slice_get}
use Rattle.std.proofs.lemmas.List.{get_or-map}
use Rattle.std.proofs.lemmas.List.FromFn.{get_or-enumerate_from, length-enumerate_from, get_or-range_with_len, length-range_with_len}
use Rattle.std.proofs.lemmas.List.Elements.{All-contains, All-from_recursion, Contains-append_left, Contains-append_right, Contains-get_or}
use Rattle.lists.specs.Numbers.{numbers_below}
use Rattle.job_model.specs.Table.{Table, IsTable, job_at}
use Rattle.job_model.specs.Scenario.{Fits}
use Rattle.sag_time.specs.Interval.{covers}
use Rattle.run_meaning.specs.declared.places.Place.{Place}
use Rattle.run_meaning.specs.Ready.{start_of, finish_of}
use Rattle.run_meaning.specs.Order.{dispatch_order}
use Rattle.run_meaning.specs.Legal.{Legal}
use Rattle.run_meaning.proofs.OrderLaws.{length-dispatch_order}
use Rattle.run_meaning.proofs.OrderMembers.{placed}
use Rattle.run_meaning.proofs.Sorted.{dispatch_below}
use Rattle.lists.proofs.Elements.{recursion_at}
use Rattle.start_windows.specs.declared.StartWindow.{StartWindow}
use Rattle.sag_step.specs.State.{SystemState, root, state_window}
use Rattle.sag_step.specs.Next.{next, finish_interval}
use Rattle.sag_step.specs.Widen.{widens}
use Rattle.sag_step.specs.Shape.{HasShape}
use Rattle.sag_step.specs.Offers.{Offer, offers, offers_of}
use Rattle.run_cover.specs.Covers.{Covers}
use Rattle.run_cover.specs.Laws.{IsStepOf, RootCovers, StepsCover, WiderCovers}
use Rattle.graph_check.specs.declared.due.Due.TheVariants as due
use Rattle.graph_check.specs.Entries.{root_from, JobEntry}
use Rattle.graph_check.specs.Certificate.{Certificate, Block, EdgeEntry, lines_of, all_edges}
use Rattle.graph_check.specs.Valid.{KeepsClauses, IsValidBlock, AreValidBlocks, LeadsToWider, block_states, edge_choice, offer_choice, IsInSpan, IsMarkedRight}
use Rattle.graph_check.specs.Bounds.{HoldInEachRun}
use Rattle.run_meaning.specs.Guarantees.{FinishesWithin}
use Rattle.graph_check.specs.Kept.{kept}
use Rattle.graph_check.specs.Laws as law
use Rattle.lists.proofs.Elements.{numbered_at, contains-first, contains-filter_map, contains-flat_map, zip-long, zip-at}
use Rattle.graph_check.proofs.Whole.{valid_is_kept, kept_are_spans}

-- ---- one run

module _ (root_covers : RootCovers) (steps_cover : StepsCover) (wider_covers : WiderCovers) where
  module _ (table : Table) (m : ℕ) (is_table : IsTable table) (scenario : List (ℕ × ℕ)) (schedule : List Place) (fits : Fits table scenario) (legal : Legal table m scenario schedule) where
    abbrev job_after : ℕ → ℕ
    job_after count = slice_index (dispatch_order table schedule) count

    -- an edge of job j whose window holds the start of j
    record IsFound (edges : List EdgeEntry) (j : ℕ) : Type 0 where
      edge : EdgeEntry
      there : Contains edges edge
      job : edge.job ≡ j
      early : edge.window.est ≤ start_of schedule j
      late : start_of schedule j ≤ edge.window.lst

    -- one of the states covers the first jobs
    record IsCovered (states : List SystemState) (count : ℕ) : Type 0 where
      state : SystemState
      there : Contains states state
      covers : Covers table m scenario schedule count state

    abbrev offer_of : ℕ → SystemState → ℕ → StartWindow → Offer
    offer_of k s j w = record { from = k; job = j; window = w; next = next table s j w }

    offered : (before : List SystemState) (s : SystemState) (there : Contains before s) (j : ℕ) (w : StartWindow) → j < length table.jobs → state_window table s j ≡ Some w →
        Contains (offers table before) (offer_of there.0 s j w)
    offered before s there j w below is =
        let k = there.0 in
        let n = length table.jobs in
        let within : j < length (numbers_below n) = omega (arith, below, length-range_with_len 0 n) in
        let number : get_or (numbers_below n) j j ≡ j = get_or-range_with_len 0 n j j below ∙ zero-add j in
        let one : Contains (offers_of table (k, s)) (offer_of k s j w) =
        contains-filter_map (λ j. option_map (offer_of k s j) (state_window table s j)) (numbers_below n) j j (offer_of k s j w) within number
        (ap (option_map (offer_of k s j)) is) in
        let at : get_or (enumerate_from 0 before) k (k, s) ≡ (k, s) = get_or-enumerate_from 0 before k (k, s) there.1 ∙ (λ i. (zero-add k i, there.2 i)) in
        contains-flat_map (offers_of table) (enumerate_from 0 before) k (k, s) (offer_of k s j w) (omega (arith, there.1, length-enumerate_from 0 before)) at one

    reached : (states : List SystemState) (count : ℕ) (e : EdgeEntry) (o : Offer) → LeadsToWider states e o →
        ((wider : SystemState) → IsTrue (widens wider o.next) → Covers table m scenario schedule count wider) → IsCovered states count
    reached states count e o leads cover = at (slice_get states e.to) refl leads
      where
        at : (t : Option SystemState) → slice_get states e.to ≡ t → IsSomeAnd t (λ s. IsTrue (widens s o.next)) → IsCovered states count
        at None is wide = absurd wide
        at (Some s) is wide = record {
          state = s;
          there = (e.to, slice_get_within states e.to s is, get_or_from_slice_get states e.to s s is);
          covers = cover s wide;
        }

    -- a valid block has an edge of the next job, and it leads to a state that covers one job more
    block_step : (before : List SystemState) (block : Block) (count : ℕ) → IsValidBlock table m before block → AllByRecursion (HasShape table m) before →
        count < length table.jobs →
        IsCovered before count → IsFound block.edges (job_after count) × IsCovered (block_states table before block) (count + 1)
    block_step before block count valid shapes below from =
        at (state_window table from.state (job_after count)) refl
        (steps_cover table m scenario schedule count from.state is_table fits legal
        (All-contains (HasShape table m) before from.state (All-from_recursion (HasShape table m) before shapes) from.there) below from.covers)
      where
        at : (t : Option StartWindow) → state_window table from.state (job_after count) ≡ t →
            IsSomeAnd t (IsStepOf table m scenario schedule count from.state (job_after count)) →
            IsFound block.edges (job_after count) × IsCovered (block_states table before block) (count + 1)
        at None is step = absurd step
        at (Some w) is step =
            let j = job_after count in
            let o = offer_of from.there.0 from.state j w in
            let is_job : j < length table.jobs =
            recursion_at (λ j. j < length table.jobs) (dispatch_order table schedule) count 0 (dispatch_below table schedule)
            (omega (arith, below, length-dispatch_order table schedule)) in
            let place_o : Contains (offers table before) o = offered before from.state from.there j w is_job is in
            let p = place_o.0 in
            let blank : EdgeEntry = record { from = 0; job = 0; window = w; to = 0 } in
            let e = get_or block.edges p blank in
            let long : length block.edges ≡ length (offers table before) =
            zip-long (LeadsToWider (block_states table before block)) block.edges (offers table before) valid.targets in
            let within : p < length block.edges = omega (arith, long, place_o.1) in
            let leads : LeadsToWider (block_states table before block) e (get_or (offers table before) p o) =
            zip-at (LeadsToWider (block_states table before block)) block.edges (offers table before) p blank o valid.targets within in
            let leads_o : LeadsToWider (block_states table before block) e o = subst (LeadsToWider (block_states table before block) e) place_o.2 leads in
            let choice : edge_choice e ≡ offer_choice o =
            sym (get_or-map edge_choice block.edges p blank (0, 0) within)
            ∙ ap (λ l. get_or l p (0, 0)) valid.all_offers
            ∙ get_or-map offer_choice (offers table before) p o (0, 0) place_o.1
            ∙ ap offer_choice place_o.2 in
            let window : e.window ≡ w =
            sym (get_or-map (λ e. e.window) block.edges p blank w within)
            ∙ ap (λ l. get_or l p w) valid.windows
            ∙ get_or-map (λ o. o.window) (offers table before) p o w place_o.1
            ∙ ap (λ o. o.window) place_o.2 in (
              record {
                edge = e;
                there = Contains-get_or block.edges p blank within;
                job = ap (λ c. c.1) choice;
                early = subst (λ w. w.est ≤ start_of schedule j) (sym window) step.not_before;
                late = subst (λ w. start_of schedule j ≤ w.lst) (sym window) step.not_after;
              },
              reached (block_states table before block) (count + 1) e o leads_o step.covers_next,
            )

    found-left : (xs ys : List EdgeEntry) (j : ℕ) → IsFound xs j → IsFound (xs ++ ys) j
    found-left xs ys j f = record { edge = f.edge; there = Contains-append_left xs ys f.edge f.there; job = f.job; early = f.early; late = f.late }

    found-right : (xs ys : List EdgeEntry) (j : ℕ) → IsFound ys j → IsFound (xs ++ ys) j
    found-right xs ys j f = record { edge = f.edge; there = Contains-append_right xs ys f.edge f.there; job = f.job; early = f.early; late = f.late }

    -- each later job has its edge in the blocks
    walk : (blocks : List Block) (before : List SystemState) (count : ℕ) → AreValidBlocks table m before blocks → AllByRecursion (HasShape table m) before →
        count + length blocks ≡ length table.jobs →
        IsCovered before count → (i : ℕ) → count ≤ i → i < length table.jobs → IsFound (flat_map (λ b. b.edges) blocks) (job_after i)
    walk [] before count valid shapes long from i low high = absurd (omega (arith, long, low, high))
    walk (b ∷ bs) before count valid shapes long from i low high =
        let step : IsFound b.edges (job_after count) × IsCovered (block_states table before b) (count + 1) =
        block_step before b count valid.0 shapes (omega (arith, low, high)) from in
        ⊎_elim
        (λ (here : count ≡ i). found-left b.edges (flat_map (λ b. b.edges) bs) (job_after i) (subst (λ n. IsFound b.edges (job_after n)) here step.0))
        (λ (later : count ≡ i → ⊥).
        found-right b.edges (flat_map (λ b. b.edges) bs) (job_after i)
        (walk bs (block_states table before b) (count + 1) valid.1 valid.0.shapes (omega (arith, long)) step.1 i (omega (arith, low, later)) high))
        (cases_eq count i)

    found_edge : (c : Certificate) → KeepsClauses table m c → (j : ℕ) → j < length table.jobs → IsFound (all_edges c) j
    found_edge c keeps j below =
        let p = placed table schedule j below in
        let r = root_from table c.root in
        let from : IsCovered (r ∷ []) 0 = record {
          state = r;
          there = contains-first r [];
          covers = wider_covers table m scenario schedule 0 r (root table m) keeps.root_wide (root_covers table m scenario schedule legal);
        } in
        subst (IsFound (all_edges c)) p.is (walk c.blocks (r ∷ []) 0 keeps.blocks (keeps.root_shape, tt) (omega (arith, keeps.level_count)) from p.at (omega arith) p.below)

    -- its finish is in the span
    finish_in_span : (c : Certificate) → KeepsClauses table m c → (j : ℕ) (s : JobEntry) → slice_get c.spans j ≡ Some s →
        (s.span.lo ≤ finish_of scenario schedule j) × (finish_of scenario schedule j ≤ s.span.hi)
    finish_in_span c keeps j s is =
        let below : j < length table.jobs = omega (arith, slice_get_within c.spans j s is, keeps.job_count) in
        let f = found_edge c keeps j below in
        let inside : IsInSpan table c.spans f.edge =
        All-contains (IsInSpan table c.spans) (all_edges c) f.edge (All-from_recursion (IsInSpan table c.spans) (all_edges c) keeps.in_spans) f.there in
        let at_job : IsSomeAnd (slice_get c.spans j) (λ s. IsTrue (covers s.span (finish_interval table j f.edge.window))) =
        subst (λ k. IsSomeAnd (slice_get c.spans k) (λ s. IsTrue (covers s.span (finish_interval table k f.edge.window)))) f.job inside in
        let wide : IsTrue (covers s.span (finish_interval table j f.edge.window)) =
        subst (λ o. IsSomeAnd o (λ s. IsTrue (covers s.span (finish_interval table j f.edge.window)))) is at_job in
        let parts = and_parts (nat_le s.span.lo (f.edge.window.est + (job_at table j).cmin)) (nat_le (f.edge.window.lst + (job_at table j).cmax) s.span.hi) wide in
        let low : s.span.lo ≤ f.edge.window.est + (job_at table j).cmin = leb-true s.span.lo (f.edge.window.est + (job_at table j).cmin) parts.0 in
        let high : f.edge.window.lst + (job_at table j).cmax ≤ s.span.hi = leb-true (f.edge.window.lst + (job_at table j).cmax) s.span.hi parts.1 in
        let run = fits.each j below in
        (omega (arith, low, f.early, run.at_least), omega (arith, high, f.late, run.at_most))

  pub spans_hold : law.SpansHold
  spans_hold table m c is_table keeps =
      let within : (j : ℕ) (s : JobEntry) → slice_get c.spans j ≡ Some s → FinishesWithin table m j s.span.lo s.span.hi = λ j s is scenario schedule fits legal.
      finish_in_span table m is_table scenario schedule fits legal c keeps j s is in
      record {
        all_jobs = keeps.job_count;
        within = within;
        deadline = λ j s is ok scenario schedule fits legal.
            let mark : IsMarkedRight table (j, s) = subst (λ n. IsMarkedRight table (n, s)) (zero-add j) (numbered_at (IsMarkedRight table) c.spans 0 j s keeps.marks is) in
            omega (arith, mark.0 ok, (within j s is scenario schedule fits legal).1);
      }

pub a_yes_is_sound : law.SpansHold → law.YesIsSound
a_yes_is_sound spans_hold table m lines r is_table is over =
    let valid = (valid_is_kept table m lines).1 (subst (λ k. IsOkAnd k (λ r. r.due ≡ due.Nothing)) (sym is) over) in
    let c = valid.certificate in
    let kept_is : kept table m (lines_of c) ≡ Ok r = sym (ap (kept table m) valid.in_order) ∙ is in
    let jobs : r.jobs ≡ c.spans = subst (λ k. IsOkAnd k (λ r. r.jobs ≡ c.spans)) kept_is (kept_are_spans table m c valid.keeps) in
    subst (HoldInEachRun table m) (sym jobs) (spans_hold table m c is_table valid.keeps)
