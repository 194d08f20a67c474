-- The edges that are made anew, counted by the states that they leave.
use Rattle.std.proofs.Common.{◌≡◌, ℕ, ◌+◌, true, false, cond, not, eqb, ◌||◌, List, [], ◌∷◌, drop, length, map, get_or, refl, ap, sym, ◌∙◌, arith}
use Rattle.std.specs.List.{flat_map, enumerate_from, count_by}
use Rattle.std.proofs.lemmas.List.Sums.{sum_by-append}
use Rattle.sag_time.proofs.Counts.{count_by-cons, one_if}
use Rattle.job_model.specs.Table.{Table}
use Rattle.sag_step.specs.State.{SystemState}
use Rattle.sag_graph.specs.declared.edge.Edge.{Edge}
use Rattle.graph_rework.specs.declared.link.Link.{Link}
use Rattle.graph_rework.specs.Edit.{stays}
use Rattle.graph_rework.specs.Links.{links_of, links_out, edge_from, taken_after, windows_of}
use Rattle.graph_rework.specs.Remake.{no_state}
use Rattle.graph_rework.specs.Bound.{is_reworked, own_reworked, links_reworked}
use Rattle.graph_rework.specs.Laws.{ReworkIsCounted}
use Rattle.graph_rework.proofs.LevelOffers.{links_are_edges}
use Rattle.graph_rework.proofs.Levels.{drop-head, drop-tail}

count-staying : (e : ℕ) (all : List SystemState) (n : ℕ) → stays e (get_or all n no_state) ≡ true → (ls : List Link) →
    count_by (is_reworked e all) (map (edge_from n) ls) ≡ count_by (λ l. eqb l.job e) ls
count-staying e all n stay [] = refl
count-staying e all n stay (l ∷ ls) =
    count_by-cons (is_reworked e all) (edge_from n l) (map (edge_from n) ls)
    ∙ ap (λ b. one_if (eqb l.job e || not b) + count_by (is_reworked e all) (map (edge_from n) ls)) stay
    ∙ elim (eqb l.job e) as (λ b. one_if (b || false) + count_by (is_reworked e all) (map (edge_from n) ls) ≡ one_if b + count_by (is_reworked e all) (map (edge_from n) ls)) [ true ↦ refl | false ↦ refl ]
    ∙ ap (λ k. one_if (eqb l.job e) + k) (count-staying e all n stay ls)
    ∙ sym (count_by-cons (λ (l : Link). eqb l.job e) l ls)

count-all : (e : ℕ) (all : List SystemState) (n : ℕ) → stays e (get_or all n no_state) ≡ false → (ls : List Link) →
    count_by (is_reworked e all) (map (edge_from n) ls) ≡ length ls
count-all e all n stay [] = refl
count-all e all n stay (l ∷ ls) =
    let ih = count-all e all n stay ls in
    let one : one_if (is_reworked e all (edge_from n l)) ≡ 1 =
    ap (λ b. one_if (eqb l.job e || not b)) stay ∙ elim (eqb l.job e) as (λ b. one_if (b || true) ≡ 1) [ true ↦ refl | false ↦ refl ] in
    count_by-cons (is_reworked e all) (edge_from n l) (map (edge_from n) ls) ∙ omega (arith, one, ih)

-- of one state
count-own : (e : ℕ) (all : List SystemState) (n : ℕ) (s : SystemState) (ls : List Link) → get_or all n no_state ≡ s →
    count_by (is_reworked e all) (map (edge_from n) ls) ≡ own_reworked e s ls
count-own e all n s ls here =
    elim (stays e s) as (λ b. stays e s ≡ b → count_by (is_reworked e all) (map (edge_from n) ls) ≡ cond b (count_by (λ l. eqb l.job e) ls) (length ls)) [
      | true ↦ λ h. count-staying e all n (ap (stays e) here ∙ h) ls
      | false ↦ λ h. count-all e all n (ap (stays e) here ∙ h) ls
    ] refl

count-from : (e : ℕ) (table : Table) (all : List SystemState) (n : ℕ) (taken states : List SystemState) → drop n all ≡ states →
    count_by (is_reworked e all) (flat_map (λ l. map (edge_from l.0) l.1) (enumerate_from n (links_out table taken states)))
    ≡ links_reworked e states (links_out table taken states)
count-from e table all n taken [] at = refl
count-from e table all n taken (s ∷ states) at =
    let own : List Link = links_of table s taken (windows_of table s) in
    let later : List Edge = flat_map (λ l. map (edge_from l.0) l.1) (enumerate_from (n + 1) (links_out table (taken_after table taken s) states)) in
    sum_by-append (λ x. cond (is_reworked e all x) 1 0) (map (edge_from n) own) later
    ∙ ap (λ k. k + count_by (is_reworked e all) later) (count-own e all n s own (drop-head n all s states no_state at))
    ∙ ap (λ k. own_reworked e s own + k) (count-from e table all (n + 1) (taken_after table taken s) states (drop-tail n all s states at))

pub rework_is_counted : ReworkIsCounted
rework_is_counted e table states = ap (count_by (is_reworked e states)) (links_are_edges table states) ∙ count-from e table states 0 [] states refl
