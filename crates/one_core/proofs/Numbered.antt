-- The edges of all levels from one on: those of this level come first.
use Rattle.std.proofs.Common.{◌≡◌, ℕ, suc, ◌+◌, ◌-◌, ◌<◌, Bool, true, false, cond, List, [], ◌∷◌, ◌++◌, length, map, drop, Option, Some, None, refl, ap, ◌∙◌, arith}
use Rattle.std.specs.Prelude.{flat_map, slice_index_or, option_map}
use Rattle.std.specs.List.{enumerate_from, find}
use Rattle.std.specs.Option.{option_or}
use Rattle.std.proofs.Math.Seq.{drop-cons}
use Rattle.std.proofs.lemmas.List.Folds.{find-append}
use Rattle.sag_graph.specs.declared.edge.Edge.{Edge}
use Rattle.sag_graph.specs.Levels.{Level}
use Rattle.graph_builder.specs.Filling.{no_level}

abbrev pub numbered : ℕ × Level → List (ℕ × Edge)
numbered l = map (λ e. (l.0 - 1, e)) l.1.edges

-- the edges from level k on
abbrev pub edges_from : List Level → ℕ → List (ℕ × Edge)
edges_from levels k = flat_map numbered (enumerate_from k (drop k levels))

find-numbered : (q : Edge → Bool) (i : ℕ) (es : List Edge) → find (λ (e : ℕ × Edge). q e.1) (map (λ e. (i, e)) es) ≡ option_map (λ e. (i, e)) (find q es)
find-numbered q i [] = refl
find-numbered q i (e ∷ es) = by (q e) (find-numbered q i es)
  where
    by : (b : Bool) → find (λ (f : ℕ × Edge). q f.1) (map (λ f. (i, f)) es) ≡ option_map (λ f. (i, f)) (find q es) →
        cond {A = Option (ℕ × Edge)} b (Some (i, e)) (find (λ (f : ℕ × Edge). q f.1) (map (λ f. (i, f)) es)) ≡ option_map (λ f. (i, f)) (cond b (Some e) (find q es))
    by true rest = refl
    by false rest = rest

module _ (q : Edge → Bool) (levels : List Level) (k : ℕ) (below : k < length levels) where
  find-from : find (λ (e : ℕ × Edge). q e.1) (edges_from levels k)
      ≡ option_or (option_map (λ e. (k - 1, e)) (find q (slice_index_or levels k no_level).edges)) (find (λ (e : ℕ × Edge). q e.1) (edges_from levels (k + 1)))
  find-from =
      let level = slice_index_or levels k no_level in
      let split : drop k levels ≡ level ∷ drop (suc k) levels = drop-cons levels k no_level below in
      let one : suc k ≡ k + 1 = omega arith in
      let parts : edges_from levels k ≡ numbered (k, level) ++ edges_from levels (k + 1) =
      ap (λ ls. flat_map numbered (enumerate_from k ls)) split ∙ ap (λ n. numbered (k, level) ++ flat_map numbered (enumerate_from (k + 1) (drop n levels))) one in
      ap (find (λ (e : ℕ × Edge). q e.1)) parts
      ∙ find-append (λ (e : ℕ × Edge). q e.1) (numbered (k, level)) (edges_from levels (k + 1))
      ∙ ap (λ o. option_or o (find (λ (e : ℕ × Edge). q e.1) (edges_from levels (k + 1)))) (find-numbered q (k - 1) level.edges)

  -- where the level has such an edge, that is the first
  pub find-here : (e : Edge) → find q (slice_index_or levels k no_level).edges ≡ Some e → find (λ (f : ℕ × Edge). q f.1) (edges_from levels k) ≡ Some (k - 1, e)
  find-here e found = find-from ∙ ap (λ o. option_or (option_map (λ f. (k - 1, f)) o) (find (λ (f : ℕ × Edge). q f.1) (edges_from levels (k + 1)))) found

  -- otherwise the first is in a later level
  pub find-later : find q (slice_index_or levels k no_level).edges ≡ None → find (λ (f : ℕ × Edge). q f.1) (edges_from levels k) ≡ find (λ (f : ℕ × Edge). q f.1) (edges_from levels (k + 1))
  find-later none = find-from ∙ ap (λ o. option_or (option_map (λ f. (k - 1, f)) o) (find (λ (f : ℕ × Edge). q f.1) (edges_from levels (k + 1)))) none
