-- The offers of a level, and its edges by the states that they leave.
use Rattle.std.proofs.Common.{◌≡◌, ℕ, ◌+◌, List, [], ◌∷◌, ◌++◌, map, Option, Some, None, refl, ap, ◌∙◌, length}
use Rattle.std.specs.List.{fold, flat_map, filter_map, cons_option, enumerate_from}
use Rattle.std.specs.Option.{option_map}
use Rattle.std.proofs.lemmas.List.{map-append}
use Rattle.lists.specs.Numbers.{numbers_below}
use Rattle.job_model.specs.Table.{Table}
use Rattle.start_windows.specs.declared.StartWindow.{StartWindow}
use Rattle.sag_step.specs.State.{SystemState, state_window}
use Rattle.sag_step.specs.Next.{next}
use Rattle.sag_step.specs.Offers.{Offer, offers_of, offer_by}
use Rattle.sag_step.specs.Group.{placed, place_of}
use Rattle.sag_graph.specs.Levels.{edge_to, edges_into, next_level}
use Rattle.graph_rework.specs.Links.{offered, links_of, links_out, edge_from, taken_after, windows_of}
use Rattle.graph_rework.specs.Remake.{all_offered}
use Rattle.graph_rework.specs.Laws.{LinksAreEdges}

-- ---- the offers of a level

by_windows : (table : Table) (from : ℕ) (s : SystemState) (f : ℕ → Option StartWindow) (js : List ℕ) →
    filter_map (λ j. option_map (λ window. record { from = from; job = j; window = window; next = next table s j window }) (f j)) js
    ≡ map (offer_by table from s) (filter_map (λ j. option_map (λ w. (j, w)) (f j)) js)
by_windows table from s f [] = refl
by_windows table from s f (j ∷ js) =
    let rest = by_windows table from s f js in
    elim (f j) as (λ o.
    cons_option (option_map (λ window. record { from = from; job = j; window = window; next = next table s j window }) o)
    (filter_map (λ j. option_map (λ window. record { from = from; job = j; window = window; next = next table s j window }) (f j)) js)
    ≡ map (offer_by table from s) (cons_option (option_map (λ w. (j, w)) o) (filter_map (λ j. option_map (λ w. (j, w)) (f j)) js)))
    [ None ↦ rest | Some w ↦ ap (λ os. offer_by table from s (j, w) ∷ os) rest ]

own_offers : (table : Table) (from : ℕ) (s : SystemState) → offers_of table (from, s) ≡ map (offer_by table from s) (windows_of table s)
own_offers table from s = by_windows table from s (state_window table s) (numbers_below (length table.jobs))

nexts-of : (table : Table) (from : ℕ) (s : SystemState) (ws : List (ℕ × StartWindow)) → map (λ o. o.next) (map (offer_by table from s) ws) ≡ offered table s ws
nexts-of table from s [] = refl
nexts-of table from s (w ∷ ws) = ap (λ os. next table s w.0 w.1 ∷ os) (nexts-of table from s ws)

abbrev offers_on : Table → ℕ → List SystemState → List Offer
offers_on table n states = flat_map (offers_of table) (enumerate_from n states)

nexts : (table : Table) (n : ℕ) (states : List SystemState) → map (λ o. o.next) (offers_on table n states) ≡ all_offered table states
nexts table n [] = refl
nexts table n (s ∷ states) =
    map-append (λ (o : Offer). o.next) (offers_of table (n, s)) (offers_on table (n + 1) states)
    ∙ ap (λ os. map (λ o. o.next) os ++ map (λ o. o.next) (offers_on table (n + 1) states)) (own_offers table n s)
    ∙ ap (λ xs. xs ++ map (λ o. o.next) (offers_on table (n + 1) states)) (nexts-of table n s (windows_of table s))
    ∙ ap (λ xs. offered table s (windows_of table s) ++ xs) (nexts table (n + 1) states)

-- the states that they make
pub states-are : (table : Table) (states : List SystemState) → (next_level table states).states ≡ fold placed [] (all_offered table states)
unfolding next_level
states-are table states = ap (fold placed []) (nexts table 0 states)

-- ---- the edges of a level

edges_into-append : (taken : List SystemState) (xs ys : List Offer) → edges_into taken (xs ++ ys) ≡ edges_into taken xs ++ edges_into (fold placed taken (map (λ o. o.next) xs)) ys
edges_into-append taken [] ys = refl
edges_into-append taken (x ∷ xs) ys = ap (λ es. edge_to x (place_of taken x.next) ∷ es) (edges_into-append (placed taken x.next) xs ys)

own-edges : (table : Table) (from : ℕ) (s : SystemState) (taken : List SystemState) (ws : List (ℕ × StartWindow)) →
    edges_into taken (map (offer_by table from s) ws) ≡ map (edge_from from) (links_of table s taken ws)
own-edges table from s taken [] = refl
own-edges table from s taken (w ∷ ws) =
    ap (λ es. edge_from from (record { job = w.0; window = w.1; to = place_of taken (next table s w.0 w.1) }) ∷ es)
    (own-edges table from s (placed taken (next table s w.0 w.1)) ws)

edges-are : (table : Table) (n : ℕ) (taken states : List SystemState) →
    edges_into taken (offers_on table n states) ≡ flat_map (λ l. map (edge_from l.0) l.1) (enumerate_from n (links_out table taken states))
edges-are table n taken [] = refl
edges-are table n taken (s ∷ states) =
    let ws : List (ℕ × StartWindow) = windows_of table s in
    let own : List Offer = map (offer_by table n s) ws in
    let later : List Offer = offers_on table (n + 1) states in
    ap (λ os. edges_into taken (os ++ later)) (own_offers table n s)
    ∙ edges_into-append taken own later
    ∙ ap (λ es. es ++ edges_into (fold placed taken (map (λ o. o.next) own)) later) (own-edges table n s taken ws)
    ∙ ap (λ os. map (edge_from n) (links_of table s taken ws) ++ edges_into (fold placed taken os) later) (nexts-of table n s ws)
    ∙ ap (λ es. map (edge_from n) (links_of table s taken ws) ++ es) (edges-are table (n + 1) (taken_after table taken s) states)

pub links_are_edges : LinksAreEdges
unfolding next_level
links_are_edges table states = edges-are table 0 [] states
