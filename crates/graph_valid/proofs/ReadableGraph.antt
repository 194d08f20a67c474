-- The lines of a graph within the greatest budget are those of a readable certificate.
use Rattle.std.proofs.Common.{◌≡◌, ℕ, zero, suc, ◌+◌, ◌<◌, ◌≤◌, true, List, [], ◌∷◌, ◌++◌, length, map, replicate, refl, sym, ap, ◌∙◌, subst, arith}
use Rattle.std.specs.Prelude.{IsNone, nat_le, flat_map}
use Rattle.std.specs.List.{AllByRecursion, enumerate_from, list_all}
use Rattle.std.proofs.lemmas.List.{append_assoc, length-map}
use Rattle.std.proofs.lemmas.List.FromFn.{length-range_with_len}
use Rattle.std.proofs.lemmas.Bool.{and_from, le-leb}
use Rattle.std.proofs.lemmas.Option.{slice_get_within}
use Rattle.lists.proofs.Elements.{all-append, recursion_weaker, each_at}
use Rattle.job_model.specs.declared.limits.TheConstants.{MOST_JOBS, MOST_CORES}
use Rattle.lists.specs.Numbers.{numbers_below}
use Rattle.job_model.specs.Table.{Table, IsTable}
use Rattle.sag_time.specs.Interval.{Interval}
use Rattle.lists.specs.Zipped.{zip_with}
use Rattle.sag_step.specs.State.{SystemState, root}
use Rattle.sag_step.specs.Shape.{IsState, IsUpTo}
use Rattle.sag_step.specs.Next.{finish_interval, next}
use Rattle.sag_step.specs.Offers.{Offer, offers}
use Rattle.sag_step.specs.Group.{group}
use Rattle.cert_text.specs.declared.line.CertLine.{CertLine}
use Rattle.cert_text.specs.declared.line.CertLine.TheVariants as line
use Rattle.cert_text.specs.Grammar.{IsCertNumber, most_number, second_version}
use Rattle.cert_text.specs.Spelling.{line_text, FitsLine}
use Rattle.cert_text.specs.Readable.{IsInner, Readable}
use Rattle.sag_graph.specs.declared.TheConstants.{MOST_BUDGET}
use Rattle.sag_graph.specs.declared.edge.Edge.{Edge}
use Rattle.sag_graph.specs.Spans.{edge_finish}
use Rattle.sag_graph.specs.Lines.{ends_of, line_of_edge, line_of_job, is_in_time, mark_of}
use Rattle.graph_valid.proofs.FromRoot.{FoundedLevel, edges_of, level_after, levels_after, levels, graph_edges, spans, span_of}
use Rattle.graph_valid.proofs.FromRootLines.{zipped_pairs, founded_line, founded_lines, graph_lines}
use Rattle.graph_valid.proofs.FromRootBudget.{Excess, excess_at, excess_after, excess}
use Rattle.graph_valid.proofs.FromRootLaws.{GraphIsReadable}
use Rattle.graph_valid.proofs.Lists.{all-map, all-both}
use Rattle.graph_valid.proofs.Grouped.{StepLaws, Founded, states_of, founders_of, all-grouped}
use Rattle.graph_valid.proofs.Blocks.{level_of, zip-founded}
use Rattle.graph_valid.proofs.Levels.{IsOfferOf, are_offers, IsFounded, grouped, are_founded, states_are, level_is, are_states_after}
use Rattle.graph_valid.proofs.EdgesBetween.{froms_below, jobs_start}
use Rattle.graph_valid.proofs.Spans.{offer_starts, edge_starts, edges_start, zipped, spans-keep, finish_order}
use Rattle.graph_valid.proofs.Numbers.{limit_at, limit-fits, limit-next, arrivals, state_fits, pairs_fit, ends_few, last_few}
use Rattle.graph_valid.proofs.Short.{IsShort, level_short, root_short, state_short, edge_short, job_short, verdict_short}
use Rattle.graph_valid.proofs.Counts.{both_none, few_states, targets_below}

-- a line within a certificate, and no longer than its weight
abbrev pub IsGood : CertLine → Type 0
IsGood l = FitsLine second_version l × (IsInner l × IsShort l)

line_good : (number count : ℕ) → IsCertNumber number → IsCertNumber count → IsGood (line.Level number count)
line_good number count f g = ((f, g), (tt, level_short number count f g))

all-numbers : {X : Type 0} (P : X → Type 0) (n : ℕ) (xs : List X) (a : ℕ) → a + length xs ≤ n → AllByRecursion P xs → AllByRecursion (λ (e : ℕ × X). (e.0 < n) × P e.1) (enumerate_from a xs)
all-numbers P n [] a few all = tt
all-numbers P n (x ∷ xs) a few all = ((omega (arith, few), all.0), all-numbers P n xs (a + 1) (omega (arith, few)) all.1)

module _ (steps : StepLaws) (table : Table) (m : ℕ) (is_table : IsTable table) (few : m ≤ MOST_CORES) where
  module _ (k : ℕ) (left : k + 1 ≤ MOST_JOBS) (before : List SystemState) (are : AllByRecursion (IsState table m) before) (within : AllByRecursion (IsUpTo (limit_at k)) before) where
    abbrev os : List Offer
    os = offers table before

    abbrev fs : List Founded
    fs = grouped steps.next_is_state steps.hulls table m is_table before are

    offer_within : (o : Offer) → IsOfferOf table before o → IsUpTo (limit_at (k + 1)) o.next
    offer_within o of =
        let parent = each_at (IsUpTo (limit_at k)) before o.from of.parent within of.there in
        subst (IsUpTo (limit_at (k + 1))) (sym of.next)
        (subst (λ (n : ℕ). IsUpTo n (next table of.parent o.job o.window)) (limit-next k) (steps.next_is_up_to table of.parent o.job o.window (limit_at k) is_table parent (arrivals k) of.window))

    offer_finish : (o : Offer) → IsOfferOf table before o → (finish_interval table o.job o.window).hi ≤ limit_at (k + 1)
    offer_finish o of =
        let parent = each_at (IsUpTo (limit_at k)) before o.from of.parent within of.there in
        omega (arith, steps.finish_is_up_to table of.parent o.job o.window (limit_at k) is_table parent (arrivals k) of.window, limit-next k)

    founded_within : AllByRecursion (λ (f : Founded). IsUpTo (limit_at (k + 1)) f.state) fs
    founded_within = all-grouped (λ o s. IsUpTo (limit_at (k + 1)) s) (IsOfferOf table before) offer_within
        (λ f s o one of same. steps.hull_is_up_to (limit_at (k + 1)) s o.next one (offer_within o of)) [] os (are_offers table before) tt

    pub within_after : AllByRecursion (IsUpTo (limit_at (k + 1))) (group os)
    within_after = subst (AllByRecursion (IsUpTo (limit_at (k + 1)))) (states_are steps.next_is_state steps.hulls table m is_table before are)
        (all-map (IsUpTo (limit_at (k + 1))) (λ (f : Founded). f.state) fs founded_within)

    pub finishes_within : AllByRecursion (λ (e : Edge). (edge_finish table e).hi ≤ limit_at (k + 1)) (level_after table before).edges
    finishes_within =
        zipped (λ j w. (finish_interval table j w).hi ≤ limit_at (k + 1)) os []
        (recursion_weaker (IsOfferOf table before) (λ (o : Offer). (finish_interval table o.job o.window).hi ≤ limit_at (k + 1)) offer_finish os (are_offers table before))

    module _ (few_before : length before ≤ MOST_BUDGET) (few_after : length (group os) ≤ MOST_BUDGET) where
      small : limit_at (k + 1) ≤ most_number
      small = limit-fits (k + 1) left

      -- ---- the lines of the states

      state_good : (f : Founded) → (IsFounded table m before f.founder f.state × IsUpTo (limit_at (k + 1)) f.state) → IsGood (founded_line f.founder f.state)
      state_good f both =
          let of = both.0.of_offer in
          let below : f.founder.from < length before = slice_get_within before f.founder.from of.parent of.there in
          let fits = state_fits table m is_table few (limit_at (k + 1)) small f.state both.0.is_state both.1 f.founder.from f.founder.job (omega (arith, below, few_before))
          (offer_starts table before f.founder of).is_job in (
            fits,
            (
              tt,
              state_short f.founder.from f.founder.job (zipped_pairs f.state) (ends_of f.state) f.state.last.members fits
                  (ends_few table m is_table few (limit_at (k + 1)) small f.state both.0.is_state both.1) (last_few table m is_table few (limit_at (k + 1)) small f.state both.0.is_state both.1),
            ),
          )

      states_good : AllByRecursion IsGood (map (λ (f : Founded). founded_line f.founder f.state) fs)
      states_good = all-map IsGood (λ (f : Founded). founded_line f.founder f.state) fs
          (recursion_weaker (λ (f : Founded). IsFounded table m before f.founder f.state × IsUpTo (limit_at (k + 1)) f.state) (λ (f : Founded). IsGood (founded_line f.founder f.state)) state_good fs
          (all-both (λ (f : Founded). IsFounded table m before f.founder f.state) (λ (f : Founded). IsUpTo (limit_at (k + 1)) f.state) fs
          (are_founded steps.next_is_state steps.hulls table m is_table before are) founded_within))

      -- ---- the lines of the edges

      starts : AllByRecursion (edge_starts table) (level_after table before).edges
      starts = jobs_start table before

      edge_good : (e : Edge) → ((e.from < length before) × (edge_starts table e × ((edge_finish table e).hi ≤ limit_at (k + 1) × (e.to < length (group os))))) → IsGood (line_of_edge e)
      edge_good e (from, rest) =
          let fits : FitsLine second_version (line_of_edge e) = (
            omega (arith, from, few_before),
            omega (arith, rest.0.is_job, is_table.few_jobs),
            omega (arith, rest.0.in_order, rest.1.0, small),
            omega (arith, rest.1.0, small),
            omega (arith, rest.1.1, few_after),
          ) in
          (fits, (tt, edge_short e.from e.job e.window.est e.window.lst e.to fits))

      edges_good : AllByRecursion IsGood (map line_of_edge (level_after table before).edges)
      edges_good =
          let es = (level_after table before).edges in
          let last = all-both (λ (e : Edge). (edge_finish table e).hi ≤ limit_at (k + 1)) (λ (e : Edge). e.to < length (group os)) es finishes_within (targets_below os []) in
          let more = all-both (edge_starts table) (λ (e : Edge). (edge_finish table e).hi ≤ limit_at (k + 1) × (e.to < length (group os))) es starts last in
          let all = all-both (λ (e : Edge). e.from < length before) (λ (e : Edge). edge_starts table e × ((edge_finish table e).hi ≤ limit_at (k + 1) × (e.to < length (group os)))) es (froms_below table before) more in
          all-map IsGood line_of_edge es (recursion_weaker
          (λ (e : Edge). (e.from < length before) × (edge_starts table e × ((edge_finish table e).hi ≤ limit_at (k + 1) × (e.to < length (group os))))) (λ (e : Edge). IsGood (line_of_edge e)) edge_good es all)

      -- ---- the lines of the level

      founded_good : AllByRecursion IsGood (founded_lines (k + 1, level_of fs (level_after table before).edges))
      founded_good =
          let count : length (states_of fs) ≡ length (group os) = ap (λ (ss : List SystemState). length ss) (states_are steps.next_is_state steps.hulls table m is_table before are) in (
            line_good (k + 1) (length (states_of fs)) (omega (arith, left)) (omega (arith, count, few_after)),
            all-append IsGood (zip_with founded_line (founders_of fs) (states_of fs)) (map line_of_edge (level_after table before).edges)
                (subst (AllByRecursion IsGood) (sym (zip-founded founded_line fs)) states_good) edges_good,
          )

      pub level_good : AllByRecursion IsGood (founded_lines (k + 1, level_after table before))
      level_good = subst (λ (l : FoundedLevel). AllByRecursion IsGood (founded_lines (k + 1, l))) (level_is steps.next_is_state steps.hulls table m is_table before are) founded_good

  -- ---- level after level

  pub levels_good : (n k : ℕ) (below : Excess) (before : List SystemState) → k + n ≤ MOST_JOBS → AllByRecursion (IsState table m) before → AllByRecursion (IsUpTo (limit_at k)) before →
      length before ≤ MOST_BUDGET → IsNone (excess_after table MOST_BUDGET below n before) → AllByRecursion IsGood (flat_map founded_lines (enumerate_from (k + 1) (levels_after table n before)))
  levels_good zero k below before left are within few_before none = tt
  levels_good (suc n) k below before left are within few_before none =
      let os = offers table before in
      let rest : Excess = record { level = below.level + 1; states = below.states + length (group os); edges = below.edges + length os } in
      let parts = both_none (excess_at MOST_BUDGET below [] os) (excess_after table MOST_BUDGET rest n (group os)) none in
      let few_after : length (group os) ≤ MOST_BUDGET = few_states MOST_BUDGET os below [] (omega arith) parts.0 in
      let one : k + 1 ≤ MOST_JOBS = omega (arith, left) in
      all-append IsGood (founded_lines (k + 1, level_after table before)) (flat_map founded_lines (enumerate_from (k + 1 + 1) (levels_after table n (group os))))
      (level_good k one before are within few_before few_after)
      (levels_good n (k + 1) rest (group os) (omega (arith, left)) (are_states_after steps.next_is_state steps.hulls table m is_table before are) (within_after k one before are within) few_after parts.1)

  -- all edges finish within the greatest number
  pub finishes_fit : (n k : ℕ) (before : List SystemState) → k + n ≤ MOST_JOBS → AllByRecursion (IsState table m) before → AllByRecursion (IsUpTo (limit_at k)) before →
      AllByRecursion (λ (e : Edge). (edge_finish table e).hi ≤ most_number) (edges_of (levels_after table n before))
  finishes_fit zero k before left are within = tt
  finishes_fit (suc n) k before left are within =
      let one : k + 1 ≤ MOST_JOBS = omega (arith, left) in
      let small = limit-fits (k + 1) one in
      all-append (λ (e : Edge). (edge_finish table e).hi ≤ most_number) (level_after table before).edges (edges_of (levels_after table n (group (offers table before))))
      (recursion_weaker (λ (e : Edge). (edge_finish table e).hi ≤ limit_at (k + 1)) (λ (e : Edge). (edge_finish table e).hi ≤ most_number) (λ e h. omega (arith, h, small)) (level_after table before).edges
      (finishes_within k one before are within))
      (finishes_fit n (k + 1) (group (offers table before)) (omega (arith, left)) (are_states_after steps.next_is_state steps.hulls table m is_table before are) (within_after k one before are within))

-- ---- the whole

zeros-up_to : (limit m : ℕ) → list_all (λ t. nat_le t limit) (replicate m 0) ≡ true
zeros-up_to limit zero = refl
zeros-up_to limit (suc m) = and_from (nat_le 0 limit) (list_all (λ t. nat_le t limit) (replicate m 0)) (le-leb 0 limit (omega arith)) (zeros-up_to limit m)

-- an interval of numbers of a certificate
abbrev IsSmall : Interval → Type 0
IsSmall s = (s.lo ≤ most_number) × (s.hi ≤ most_number)

job_good : (table : Table) → IsTable table → (e : ℕ × Interval) → ((e.0 < length table.jobs) × IsSmall e.1) → IsGood (line_of_job table e)
job_good table is_table e (below, small) =
    let fits : FitsLine second_version (line_of_job table e) = (omega (arith, below, is_table.few_jobs), small.0, small.1) in
    (fits, (tt, job_short e.0 e.1.lo e.1.hi (mark_of (is_in_time table e)) fits))

-- the parts of its lines
module _ (table : Table) (m : ℕ) where
  abbrev pub start : List SystemState
  start = root table m ∷ []

  abbrev pub level_part : List CertLine
  level_part = flat_map founded_lines (enumerate_from 1 (levels table m))

  abbrev pub job_part : List CertLine
  job_part = map (line_of_job table) (enumerate_from 0 (spans table m))

  abbrev pub verdict_line : CertLine
  verdict_line = line.Verdict (mark_of (list_all (is_in_time table) (enumerate_from 0 (spans table m))))

  abbrev pub head_line : CertLine
  head_line = line.Head (length table.jobs) m

  abbrev pub inner : List CertLine
  inner = line.Level 0 1 ∷ line.Root (zipped_pairs (root table m)) ∷ level_part ++ job_part ++ verdict_line ∷ []

  pub split : graph_lines table m ≡ head_line ∷ inner ++ line.End ∷ []
  split =
      ap (λ ls. head_line ∷ line.Level 0 1 ∷ line.Root (zipped_pairs (root table m)) ∷ ls)
      (sym (append_assoc (level_part ++ job_part) (verdict_line ∷ []) (line.End ∷ [])))

module _ (steps : StepLaws) (table : Table) (m : ℕ) (is_table : IsTable table) (some : 1 ≤ m) (few : m ≤ MOST_CORES) where
  root_within : IsUpTo (limit_at 0) (root table m)
  root_within = record { low = zeros-up_to (limit_at 0) m; high = zeros-up_to (limit_at 0) m; ends = refl }

  root_good : IsGood (line.Root (zipped_pairs (root table m)))
  root_good =
      let fits = pairs_fit table m is_table few (limit_at 0) (limit-fits 0 (omega arith)) (root table m) (steps.root_is_shaped table m some).is_state root_within in
      (fits, (tt, root_short (zipped_pairs (root table m)) fits))

  small_finish : (e : Edge) → (edge_starts table e × ((edge_finish table e).hi ≤ most_number)) → IsSmall (edge_finish table e)
  small_finish e both = (omega (arith, finish_order table is_table e both.0, both.1), both.1)

  jobs_within : 0 + length table.jobs ≤ MOST_JOBS
  jobs_within = omega (arith, is_table.few_jobs)

  spans_small : AllByRecursion IsSmall (spans table m)
  spans_small =
      let es = graph_edges table m in
      let finishes = finishes_fit steps table m is_table few (length table.jobs) 0 (start table m) jobs_within
      ((steps.root_is_shaped table m some).is_state, tt) (root_within, tt) in
      spans-keep table is_table IsSmall (λ a b one other. (omega (arith, one.0, other.0), omega (arith, one.1, other.1))) es
      (recursion_weaker (λ (e : Edge). edge_starts table e × ((edge_finish table e).hi ≤ most_number)) (λ (e : Edge). IsSmall (edge_finish table e)) small_finish es
      (all-both (edge_starts table) (λ (e : Edge). (edge_finish table e).hi ≤ most_number) es (edges_start table (length table.jobs) (start table m)) finishes))
      (omega arith, omega arith) (numbers_below (length table.jobs))

  jobs_good : AllByRecursion IsGood (map (line_of_job table) (enumerate_from 0 (spans table m)))
  jobs_good =
      let long : length (spans table m) ≡ length table.jobs = length-map (numbers_below (length table.jobs)) (span_of table (graph_edges table m)) ∙ length-range_with_len 0 (length table.jobs) in
      all-map IsGood (line_of_job table) (enumerate_from 0 (spans table m))
      (recursion_weaker (λ (e : ℕ × Interval). (e.0 < length table.jobs) × IsSmall e.1) (λ (e : ℕ × Interval). IsGood (line_of_job table e)) (job_good table is_table) (enumerate_from 0 (spans table m))
      (all-numbers IsSmall (length table.jobs) (spans table m) 0 (omega (arith, long)) spans_small))

  pub inner_good : IsNone (excess table m MOST_BUDGET) → AllByRecursion IsGood (inner table m)
  inner_good none =
      let below : Excess = record { level = 1; states = 1; edges = 0 } in
      let levels_part : AllByRecursion IsGood (level_part table m) =
      levels_good steps table m is_table few (length table.jobs) 0 below (start table m) jobs_within
      ((steps.root_is_shaped table m some).is_state, tt) (root_within, tt) (omega arith) none in (
        line_good 0 1 (omega arith) (omega arith),
        (root_good, all-append IsGood (level_part table m ++ job_part table m) (verdict_line table m ∷ []) (all-append IsGood (level_part table m) (job_part table m) levels_part jobs_good) ((tt, (tt, verdict_short (mark_of (list_all (is_in_time table) (enumerate_from 0 (spans table m)))))), tt)),
      )

  pub readable : IsNone (excess table m MOST_BUDGET) → Readable second_version (flat_map (line_text second_version) (graph_lines table m)) (graph_lines table m)
  readable none =
      let good = inner_good none in
      record {
        head = head_line table m;
        inner = inner table m;
        are = split table m;
        is_head = tt;
        are_inner = recursion_weaker IsGood IsInner (λ l both. both.1.0) (inner table m) good;
        fit =
            subst (AllByRecursion (FitsLine second_version)) (sym (split table m)) (
              (omega (arith, is_table.few_jobs), omega (arith, few)),
              all-append (FitsLine second_version) (inner table m) (line.End ∷ []) (recursion_weaker IsGood (FitsLine second_version) (λ l both. both.0) (inner table m) good) (tt, tt),
            );
        spelled = refl;
      }

pub graph_is_readable : StepLaws → GraphIsReadable
graph_is_readable steps table m is_table some few none = readable steps table m is_table some few none
