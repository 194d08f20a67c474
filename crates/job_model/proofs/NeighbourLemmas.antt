-- The lists of neighbours, as edges come in one after another; and that neighbours are jobs.
use Rattle.std.proofs.Common.{◌≡◌, ◌≢◌, ℕ, ◌<◌, ◌≤◌, ◌⊎◌, inl, inr, cond, List, [], ◌∷◌, ◌++◌, length, map, get_or, set, eqb, sym, subst, ap, ◌∙◌, arith}
use Rattle.std.proofs.lemmas.Bool.{cases_eq, cases_lt, eq-eqb, ne_eqb}
use Rattle.std.proofs.lemmas.List.{append-nil, get_or-replicate, get_or-set_other, get_or-set_same, get_or-map, get_or_past, length-replicate, length-set, map-append, map-set}
use Rattle.std.proofs.lemmas.List.Elements.{All-filter, All-map, filter-append}
use Rattle.std.proofs.Math.ListN.{replicate}
use Rattle.std.specs.Prelude.{◌==◌, All}
use Rattle.std.specs.List.{filter}
use Rattle.job_model.specs.Table.{IsTable, Table, successors}
use Rattle.job_model.specs.Neighbours.{AreNeighbours, JoinJobs, list_at, put_at, sources, targets}

-- empty lists are empty, also past the end
empty_at : (n j : ℕ) → list_at (replicate n []) j ≡ []
empty_at n j = by (cases_lt j n)
  where
    by : (j < n) ⊎ (n ≤ j) → list_at (replicate n []) j ≡ []
    by (inl below) = get_or-replicate n j [] [] below
    by (inr past) = get_or_past (replicate n []) j [] (omega (arith, past, length-replicate {A = List ℕ} n []))

-- no edges, and empty lists
pub AreNeighbours-none : (n : ℕ) → AreNeighbours [] (replicate n []) (replicate n [])
AreNeighbours-none n = record { from = empty_at n; to = empty_at n }

-- what stands at j after one number more is put to the list at i
module _ (lists : List (List ℕ)) (i x : ℕ) (below : i < length lists) where
  put_here : (j : ℕ) → j ≡ i → list_at (put_at lists i x) j ≡ list_at lists j ++ x ∷ []
  put_here j e = rw e (get_or-set_same lists i (list_at lists i ++ x ∷ []) [] below)

  put_elsewhere : (j : ℕ) → j ≢ i → list_at (put_at lists i x) j ≡ list_at lists j
  put_elsewhere j e = get_or-set_other lists i j (list_at lists i ++ x ∷ []) [] e

-- one edge more is among those of j, or it is not
module _ (edges : List (ℕ × ℕ)) (e : ℕ × ℕ) (key value : ℕ × ℕ → ℕ) (j : ℕ) where
  abbrev of_key : List (ℕ × ℕ) → List ℕ
  of_key es = map value (filter (λ x. eqb (key x) j) es)

  split : of_key (edges ++ e ∷ []) ≡ of_key edges ++ of_key (e ∷ [])
  split = ap (map value) (filter-append (λ x. eqb (key x) j) edges (e ∷ [])) ∙ map-append value _ _

  one_more : j ≡ key e → of_key (edges ++ e ∷ []) ≡ of_key edges ++ value e ∷ []
  one_more same = split ∙ ap (λ b. of_key edges ++ map value (cond b (e ∷ []) [])) (eq-eqb (key e) j (sym same))

  none_more : j ≢ key e → of_key (edges ++ e ∷ []) ≡ of_key edges
  none_more differ = split ∙ ap (λ b. of_key edges ++ map value (cond b (e ∷ []) [])) (ne_eqb (key e) j (λ same. differ (sym same))) ∙ append-nil (of_key edges)

-- one edge more
pub AreNeighbours-push : (edges : List (ℕ × ℕ)) (e : ℕ × ℕ) (before after : List (List ℕ)) → AreNeighbours edges before after → e.1 < length before → e.0 < length after
    → AreNeighbours (edges ++ e ∷ []) (put_at before e.1 e.0) (put_at after e.0 e.1)
AreNeighbours-push edges e before after h is_target is_source = record { from = λ j. from j (cases_eq j e.1); to = λ j. to j (cases_eq j e.0) }
  where
    from : (j : ℕ) → (j ≡ e.1) ⊎ (j ≢ e.1) → list_at (put_at before e.1 e.0) j ≡ sources (edges ++ e ∷ []) j
    from j (inl same) = put_here before e.1 e.0 is_target j same ∙ ap (λ l. l ++ e.0 ∷ []) (h.from j) ∙ sym (one_more edges e (λ x. x.1) (λ x. x.0) j same)
    from j (inr differ) = put_elsewhere before e.1 e.0 is_target j differ ∙ h.from j ∙ sym (none_more edges e (λ x. x.1) (λ x. x.0) j differ)

    to : (j : ℕ) → (j ≡ e.0) ⊎ (j ≢ e.0) → list_at (put_at after e.0 e.1) j ≡ targets (edges ++ e ∷ []) j
    to j (inl same) = put_here after e.0 e.1 is_source j same ∙ ap (λ l. l ++ e.1 ∷ []) (h.to j) ∙ sym (one_more edges e (λ x. x.0) (λ x. x.1) j same)
    to j (inr differ) = put_elsewhere after e.0 e.1 is_source j differ ∙ h.to j ∙ sym (none_more edges e (λ x. x.0) (λ x. x.1) j differ)

-- a number more in the list at place j, where the lists are held in some other form
pub put-set : {V : Type 0} (items : V → List ℕ) (lists : List V) (j x : ℕ) (old new : V) → j < length lists → get_or lists j old ≡ old → items new ≡ items old ++ x ∷ []
    → map items (set lists j new) ≡ put_at (map items lists) j x
put-set items lists j x old new below at pushed =
    map-set items lists j new
    ∙ ap (λ l. set (map items lists) j l) (pushed ∙ ap (λ l. l ++ x ∷ []) (ap items (sym at) ∙ sym (get_or-map items lists j old [] below)))

pub length-put_at : (lists : List (List ℕ)) (j x : ℕ) → length (put_at lists j x) ≡ length lists
length-put_at lists j x = length-set lists j (list_at lists j ++ x ∷ [])

-- the edge at a place joins jobs below that number
pub joined_at : (count : ℕ) (edges items : List (ℕ × ℕ)) (i : ℕ) (e : ℕ × ℕ) → JoinJobs count edges → items ≡ edges → i < length items → e ≡ get_or items i e → (e.0 < count) × (e.1 < count)
joined_at count edges items i e joined same below is =
    subst (λ x. (x.0 < count) × (x.1 < count)) (sym (rw same at is)) (joined i e (rw same at below))

-- successors are jobs
pub successors_below : (table : Table) → IsTable table → (b : ℕ) → All (λ s. s < length table.jobs) (successors table b)
successors_below table is_table b =
    All-map (λ s. s < length table.jobs) (λ e. e.1) (filter (λ e. e.0 == b) table.edges)
    (All-filter (λ e. e.0 == b) (λ e. e.1 < length table.jobs) table.edges (λ k d below. (is_table.edges_in_range k d below).1))
