-- A level that is made anew is the next level of the edited table.
use Rattle.std.proofs.Common.{◌≡◌, ℕ, zero, suc, ◌+◌, Bool, true, false, cond, not, eqb, List, [], ◌∷◌, ◌++◌, drop, filter, get_or, refl, ap, sym, ◌∙◌, subst, append_assoc, append-nil, add-one}
use Rattle.std.specs.List.{fold}
use Rattle.std.proofs.lemmas.List.Elements.{filter-append}
use Rattle.std.proofs.lemmas.List.Sums.{fold-append}
use Rattle.job_model.specs.Table.{Table}
use Rattle.start_windows.specs.declared.StartWindow.{StartWindow}
use Rattle.sag_step.specs.State.{SystemState}
use Rattle.sag_step.specs.Next.{next}
use Rattle.sag_step.specs.Widen.{states_touch, state_hull}
use Rattle.sag_step.specs.Group.{placed}
use Rattle.graph_rework.specs.declared.link.Link.{Link}
use Rattle.graph_rework.specs.declared.occupant.Occupant.{Occupant}
use Rattle.graph_rework.specs.declared.occupant.Occupant.TheVariants.{Stayed, Remade}
use Rattle.graph_rework.specs.Edit.{IsEdit, stays}
use Rattle.graph_rework.specs.Order.{order_from, ranks_from}
use Rattle.graph_rework.specs.Links.{offered, links_of, links_out, taken_after, windows_of}
use Rattle.graph_rework.specs.Rework.{grown, after_step, after_link}
use Rattle.graph_rework.specs.Remake.{LevelSoFar, after_place, all_offered, no_state, selected, with_links}
use Rattle.graph_rework.proofs.Grouping.{filter-fold}
use Rattle.graph_rework.proofs.Windows.{apart, next-stays, windows_of-stay}
use Rattle.graph_rework.proofs.Reworks.{at_states, eqb-false, has-after, has-own, links-are, stays-after, steps-are}

-- ---- places of lists

pub drop-head : {A : Type 0} (k : ℕ) (xs : List A) (x : A) (ys : List A) (d : A) → drop k xs ≡ x ∷ ys → get_or xs k d ≡ x
drop-head zero [] x ys d e = absurd (cc)
drop-head (suc k) [] x ys d e = absurd (cc)
drop-head zero (y ∷ xs) x ys d e = cc
drop-head (suc k) (y ∷ xs) x ys d e = drop-head k xs x ys d e

drop-suc : {A : Type 0} (k : ℕ) (xs : List A) (x : A) (ys : List A) → drop k xs ≡ x ∷ ys → drop (suc k) xs ≡ ys
drop-suc zero [] x ys e = absurd (cc)
drop-suc (suc k) [] x ys e = absurd (cc)
drop-suc zero (y ∷ xs) x ys e = cc
drop-suc (suc k) (y ∷ xs) x ys e = drop-suc k xs x ys e

pub drop-tail : {A : Type 0} (k : ℕ) (xs : List A) (x : A) (ys : List A) → drop k xs ≡ x ∷ ys → drop (k + 1) xs ≡ ys
drop-tail k xs x ys e = rw (add-one k) (drop-suc k xs x ys e)

-- ---- the offers of one class

pub filter-fold_stays : (e : ℕ) (ss os : List SystemState) → filter (stays e) (fold placed ss os) ≡ fold placed (filter (stays e) ss) (filter (stays e) os)
filter-fold_stays e ss os = filter-fold states_touch state_hull (stays e) (apart e) ss os

-- no next state of one that has job e stays
pub none-stay : (e : ℕ) (table : Table) (s : SystemState) (windows : List (ℕ × StartWindow)) → stays e s ≡ false → filter (stays e) (offered table s windows) ≡ []
none-stay e table s [] h = refl
none-stay e table s (w ∷ windows) h =
    ap (λ b. cond b (next table s w.0 w.1 ∷ filter (stays e) (offered table s windows)) (filter (stays e) (offered table s windows))) (has-after e table s w.0 w.1 h)
    ∙ none-stay e table s windows h

pub taken-other : (e : ℕ) (table : Table) (ss : List SystemState) (s : SystemState) → stays e s ≡ false → filter (stays e) (taken_after table ss s) ≡ filter (stays e) ss
taken-other e table ss s h =
    filter-fold_stays e ss (offered table s (windows_of table s)) ∙ ap (fold placed (filter (stays e) ss)) (none-stay e table s (windows_of table s) h)

module _ (e : ℕ) (before after : Table) (edit : IsEdit e before after) where
  -- the next states that stay, of one that stays, are the same for both tables
  pub offered-stay : (s : SystemState) (windows : List (ℕ × StartWindow)) → stays e s ≡ true →
      filter (stays e) (offered after s windows) ≡ filter (stays e) (offered before s windows)
  offered-stay s [] stay = refl
  offered-stay s (w ∷ windows) stay =
      let ih = offered-stay s windows stay in
      let xs : List SystemState = filter (stays e) (offered after s windows) in
      let ys : List SystemState = filter (stays e) (offered before s windows) in
      elim (eqb w.0 e) as (λ b. eqb w.0 e ≡ b →
      cond (stays e (next after s w.0 w.1)) (next after s w.0 w.1 ∷ xs) xs ≡ cond (stays e (next before s w.0 w.1)) (next before s w.0 w.1 ∷ ys) ys) [
        | true ↦ λ h.
            ap (λ b. cond b (next after s w.0 w.1 ∷ xs) xs) (has-own e after s w.0 w.1 h) ∙ ih
            ∙ sym (ap (λ b. cond b (next before s w.0 w.1 ∷ ys) ys) (has-own e before s w.0 w.1 h))
        | false ↦ λ h.
            ap (λ b. cond b (next after s w.0 w.1 ∷ xs) xs) (stays-after e after s w.0 w.1 stay h)
            ∙ ap (λ o. o ∷ xs) (next-stays e before after edit s w.0 w.1 (eqb-false w.0 e h)) ∙ ap (λ zs. next before s w.0 w.1 ∷ zs) ih
            ∙ sym (ap (λ b. cond b (next before s w.0 w.1 ∷ ys) ys) (stays-after e before s w.0 w.1 stay h))
      ] refl

  -- ---- the level before the edit

  module _ (ranks : List ℕ) where
    -- The edges are those out of a state that stays, where the states that stay of the next level so far are `taken`.
    pub record IsKept (taken : List SystemState) (s : SystemState) (links : List Link) : Type 0 where
      pub old : List SystemState
      pub more : List SystemState
      pub same : filter (stays e) old ≡ taken
      pub links_are : links ≡ links_of before s old (windows_of before s)
      pub ranks_are : ranks ≡ ranks_from (stays e) 0 (fold placed (taken_after before old s) more)

    -- these, of each of the states that stay
    abbrev pub AreKept : List SystemState → List SystemState → List (List Link) → Type 0
    AreKept taken [] links = Unit {0}
    AreKept taken (s ∷ ss) [] = ⊥
    AreKept taken (s ∷ ss) (l ∷ links) =
        IsKept taken s l × AreKept (fold placed taken (filter (stays e) (offered before s (windows_of before s)))) ss links

    pub are-kept : (old states : List SystemState) → ranks ≡ ranks_from (stays e) 0 (fold placed old (all_offered before states)) →
        AreKept (filter (stays e) old) (filter (stays e) states) (selected (stays e) states (links_out before old states))
    are-kept old [] ranks_are = tt
    are-kept old (s ∷ states) ranks_are =
        let later : List SystemState = taken_after before old s in
        let rest_ranks : ranks ≡ ranks_from (stays e) 0 (fold placed later (all_offered before states)) =
        ranks_are ∙ ap (ranks_from (stays e) 0) (fold-append placed old (offered before s (windows_of before s)) (all_offered before states)) in
        let rest : AreKept (filter (stays e) later) (filter (stays e) states) (selected (stays e) states (links_out before later states)) = are-kept later states rest_ranks in
        elim (stays e s) as (λ b. stays e s ≡ b → AreKept (filter (stays e) old) (cond b (s ∷ filter (stays e) states) (filter (stays e) states))
        (cond b (links_of before s old (windows_of before s) ∷ selected (stays e) states (links_out before later states)) (selected (stays e) states (links_out before later states)))) [
          | true ↦ λ h. (
            record { old = old; more = all_offered before states; same = refl; links_are = refl; ranks_are = rest_ranks },
            subst (λ q. AreKept q (filter (stays e) states) (selected (stays e) states (links_out before later states))) (filter-fold_stays e old (offered before s (windows_of before s))) rest,
          )
          | false ↦ λ h. subst (λ q. AreKept q (filter (stays e) states) (selected (stays e) states (links_out before later states))) (taken-other e before old s h) rest
        ] refl

    -- ---- the level after it

    abbrev pub level_at_states : List SystemState → List (List Link) → LevelSoFar
    level_at_states ss links = record { next = grown e ss; links = links }

    module _ (kept : List SystemState) (links : List (List Link)) (made : List SystemState) where
      kept-spot : (s : SystemState) (ss taken : List SystemState) (k : ℕ) (done : List (List Link)) (ls : List (List Link)) (l : List Link) → stays e s ≡ true →
          drop k kept ≡ s ∷ ss → drop k links ≡ l ∷ ls → IsKept (filter (stays e) taken) s l →
          after_place after e kept links ranks made (level_at_states taken done) (Stayed k)
          ≡ level_at_states (taken_after after taken s) (done ++ links_of after s taken (windows_of after s) ∷ [])
      kept-spot s ss taken k done ls l stay at_state at_links is_kept =
          let windows : List (ℕ × StartWindow) = windows_of before s in
          let reworked : fold (after_link after e s ranks) (at_states e taken []) (links_of before s is_kept.old windows)
          ≡ at_states e (fold placed taken (offered after s windows)) (links_of after s taken windows) =
          links-are e before after edit s stay ranks is_kept.more is_kept.old taken [] windows is_kept.same is_kept.ranks_are in
          ap (λ x. with_links (level_at_states taken done) (fold (after_link after e x ranks) (at_states e taken []) (get_or links k []))) (drop-head k kept s ss no_state at_state)
          ∙ ap (λ x. with_links (level_at_states taken done) (fold (after_link after e s ranks) (at_states e taken []) x)) (drop-head k links l ls [] at_links ∙ is_kept.links_are)
          ∙ ap (with_links (level_at_states taken done)) reworked
          ∙ ap (λ ws. level_at_states (fold placed taken (offered after s ws)) (done ++ links_of after s taken ws ∷ [])) (sym (windows_of-stay e before after edit s))

      made-spot : (s : SystemState) (ss taken : List SystemState) (m : ℕ) (done : List (List Link)) → stays e s ≡ false → drop m made ≡ s ∷ ss →
          after_place after e kept links ranks made (level_at_states taken done) (Remade m)
          ≡ level_at_states (taken_after after taken s) (done ++ links_of after s taken (windows_of after s) ∷ [])
      made-spot s ss taken m done h at_state =
          ap (λ x. with_links (level_at_states taken done) (fold (after_step after x) (at_states e taken []) (windows_of after x))) (drop-head m made s ss no_state at_state)
          ∙ ap (with_links (level_at_states taken done)) (steps-are e after s taken [] (windows_of after s) h)

      pub class-after : (s : SystemState) (taken : List SystemState) → stays e s ≡ true →
          fold placed (filter (stays e) taken) (filter (stays e) (offered before s (windows_of before s))) ≡ filter (stays e) (taken_after after taken s)
      class-after s taken stay =
          ap (fold placed (filter (stays e) taken)) (sym (offered-stay s (windows_of before s) stay))
          ∙ ap (λ ws. fold placed (filter (stays e) taken) (filter (stays e) (offered after s ws))) (sym (windows_of-stay e before after edit s))
          ∙ sym (filter-fold_stays e taken (offered after s (windows_of after s)))

      abbrev pub remade_by : LevelSoFar → List Occupant → LevelSoFar
      remade_by so_far order = fold (after_place after e kept links ranks made) so_far order

      -- what is to be shown of the states from here on
      abbrev GoesOn : List SystemState → ℕ → ℕ → Type 0
      GoesOn states k m =
          (taken : List SystemState) (done : List (List Link)) → drop k kept ≡ filter (stays e) states →
          AreKept (filter (stays e) taken) (filter (stays e) states) (drop k links) → drop m made ≡ filter (λ s. not (stays e s)) states →
          remade_by (level_at_states taken done) (order_from (stays e) k m states)
          ≡ level_at_states (fold placed taken (all_offered after states)) (done ++ links_out after taken states)

      -- the states and the edges so far, with those of one more state
      one-more : (s : SystemState) (states taken : List SystemState) (done : List (List Link)) →
          level_at_states (fold placed (taken_after after taken s) (all_offered after states))
          ((done ++ links_of after s taken (windows_of after s) ∷ []) ++ links_out after (taken_after after taken s) states)
          ≡ level_at_states (fold placed taken (all_offered after (s ∷ states))) (done ++ links_out after taken (s ∷ states))
      one-more s states taken done =
          ap (λ ss. level_at_states ss ((done ++ links_of after s taken (windows_of after s) ∷ []) ++ links_out after (taken_after after taken s) states))
          (sym (fold-append placed taken (offered after s (windows_of after s)) (all_offered after states)))
          ∙ ap (level_at_states (fold placed taken (all_offered after (s ∷ states))))
          (append_assoc done (links_of after s taken (windows_of after s) ∷ []) (links_out after (taken_after after taken s) states))

      kept-step : (s : SystemState) (states : List SystemState) (k m : ℕ) (taken : List SystemState) (done ls : List (List Link)) → stays e s ≡ true →
          drop k links ≡ ls → drop k kept ≡ s ∷ filter (stays e) states → AreKept (filter (stays e) taken) (s ∷ filter (stays e) states) ls →
          drop m made ≡ filter (λ s. not (stays e s)) states → GoesOn states (k + 1) m →
          remade_by (level_at_states taken done) (Stayed k ∷ order_from (stays e) (k + 1) m states)
          ≡ level_at_states (fold placed taken (all_offered after (s ∷ states))) (done ++ links_out after taken (s ∷ states))
      kept-step s states k m taken done [] stay at_links at_kept are at_made ih = absurd are
      kept-step s states k m taken done (l ∷ ls) stay at_links at_kept are at_made ih =
          let later : List SystemState = taken_after after taken s in
          let next_are : AreKept (filter (stays e) later) (filter (stays e) states) (drop (k + 1) links) =
          subst (λ q. AreKept q (filter (stays e) states) (drop (k + 1) links)) (class-after s taken stay)
          (subst (AreKept (fold placed (filter (stays e) taken) (filter (stays e) (offered before s (windows_of before s)))) (filter (stays e) states)) (sym (drop-tail k links l ls at_links)) are.1) in
          ap (λ x. remade_by x (order_from (stays e) (k + 1) m states)) (kept-spot s (filter (stays e) states) taken k done ls l stay at_kept at_links are.0)
          ∙ ih later (done ++ links_of after s taken (windows_of after s) ∷ []) (drop-tail k kept s (filter (stays e) states) at_kept) next_are at_made
          ∙ one-more s states taken done

      made-step : (s : SystemState) (states : List SystemState) (k m : ℕ) (taken : List SystemState) (done : List (List Link)) → stays e s ≡ false →
          drop k kept ≡ filter (stays e) states → AreKept (filter (stays e) taken) (filter (stays e) states) (drop k links) →
          drop m made ≡ s ∷ filter (λ s. not (stays e s)) states → GoesOn states k (m + 1) →
          remade_by (level_at_states taken done) (Remade m ∷ order_from (stays e) k (m + 1) states)
          ≡ level_at_states (fold placed taken (all_offered after (s ∷ states))) (done ++ links_out after taken (s ∷ states))
      made-step s states k m taken done h at_kept are at_made ih =
          let later : List SystemState = taken_after after taken s in
          ap (λ x. remade_by x (order_from (stays e) k (m + 1) states)) (made-spot s (filter (λ s. not (stays e s)) states) taken m done h at_made)
          ∙ ih later (done ++ links_of after s taken (windows_of after s) ∷ []) at_kept
          (subst (λ q. AreKept q (filter (stays e) states) (drop k links)) (sym (taken-other e after taken s h)) are)
          (drop-tail m made s (filter (λ s. not (stays e s)) states) at_made)
          ∙ one-more s states taken done

      step-by : (s : SystemState) (states : List SystemState) (k m : ℕ) (taken : List SystemState) (done : List (List Link)) (b : Bool) → stays e s ≡ b →
          GoesOn states (k + 1) m → GoesOn states k (m + 1) →
          drop k kept ≡ cond b (s ∷ filter (stays e) states) (filter (stays e) states) →
          AreKept (filter (stays e) taken) (cond b (s ∷ filter (stays e) states) (filter (stays e) states)) (drop k links) →
          drop m made ≡ cond (not b) (s ∷ filter (λ s. not (stays e s)) states) (filter (λ s. not (stays e s)) states) →
          remade_by (level_at_states taken done) (cond b (Stayed k ∷ order_from (stays e) (k + 1) m states) (Remade m ∷ order_from (stays e) k (m + 1) states))
          ≡ level_at_states (fold placed taken (all_offered after (s ∷ states))) (done ++ links_out after taken (s ∷ states))
      step-by s states k m taken done true h one two at_kept are at_made = kept-step s states k m taken done (drop k links) h refl at_kept are at_made one
      step-by s states k m taken done false h one two at_kept are at_made = made-step s states k m taken done h at_kept are at_made two

      pub remade : (states : List SystemState) (k m : ℕ) → GoesOn states k m
      remade [] k m taken done at_kept are at_made = ap (level_at_states taken) (sym (append-nil done))
      remade (s ∷ states) k m taken done at_kept are at_made =
          step-by s states k m taken done (stays e s) refl (remade states (k + 1) m) (remade states k (m + 1)) at_kept are at_made

  -- What is made anew of a level is the next level of the edited table.
  pub remade-level : (old new : List SystemState) → filter (stays e) new ≡ filter (stays e) old →
      fold
      (after_place after e (filter (stays e) old) (selected (stays e) old (links_out before [] old)) (ranks_from (stays e) 0 (fold placed [] (all_offered before old)))
      (filter (λ s. not (stays e s)) new))
      (record { next = record { made = []; order = [] }; links = [] }) (order_from (stays e) 0 0 new)
      ≡ record { next = grown e (fold placed [] (all_offered after new)); links = links_out after [] new }
  remade-level old new same =
      let ranks : List ℕ = ranks_from (stays e) 0 (fold placed [] (all_offered before old)) in
      let kept_links : List (List Link) = selected (stays e) old (links_out before [] old) in
      remade ranks (filter (stays e) old) kept_links (filter (λ s. not (stays e s)) new) new 0 0 [] [] (sym same)
      (subst (λ ss. AreKept ranks [] ss kept_links) (sym same) (are-kept ranks [] old refl)) refl

  -- ---- the states that stay

  -- only states that stay have next states that do
  offered-by_staying : (table : Table) (states : List SystemState) →
      filter (stays e) (all_offered table states) ≡ filter (stays e) (all_offered table (filter (stays e) states))
  offered-by_staying table [] = refl
  offered-by_staying table (s ∷ states) =
      let own : List SystemState = offered table s (windows_of table s) in
      let ih = offered-by_staying table states in
      filter-append (stays e) own (all_offered table states)
      ∙ elim (stays e s) as (λ b. stays e s ≡ b → filter (stays e) own ++ filter (stays e) (all_offered table states)
      ≡ filter (stays e) (all_offered table (cond b (s ∷ filter (stays e) states) (filter (stays e) states)))) [
        | true ↦ λ h. ap (λ xs. filter (stays e) own ++ xs) ih ∙ sym (filter-append (stays e) own (all_offered table (filter (stays e) states)))
        | false ↦ λ h. ap (λ xs. xs ++ filter (stays e) (all_offered table states)) (none-stay e table s (windows_of table s) h) ∙ ih
      ] refl

  offered-same : (states : List SystemState) →
      filter (stays e) (all_offered after (filter (stays e) states)) ≡ filter (stays e) (all_offered before (filter (stays e) states))
  offered-same [] = refl
  offered-same (s ∷ states) =
      let ih = offered-same states in
      elim (stays e s) as (λ b. stays e s ≡ b → filter (stays e) (all_offered after (cond b (s ∷ filter (stays e) states) (filter (stays e) states)))
      ≡ filter (stays e) (all_offered before (cond b (s ∷ filter (stays e) states) (filter (stays e) states)))) [
        | true ↦ λ h.
            filter-append (stays e) (offered after s (windows_of after s)) (all_offered after (filter (stays e) states))
            ∙ ap (λ ws. filter (stays e) (offered after s ws) ++ filter (stays e) (all_offered after (filter (stays e) states))) (windows_of-stay e before after edit s)
            ∙ ap (λ xs. xs ++ filter (stays e) (all_offered after (filter (stays e) states))) (offered-stay s (windows_of before s) h)
            ∙ ap (λ xs. filter (stays e) (offered before s (windows_of before s)) ++ xs) ih
            ∙ sym (filter-append (stays e) (offered before s (windows_of before s)) (all_offered before (filter (stays e) states)))
        | false ↦ λ h. ih
      ] refl

  -- Where the states that stay of a level are the same, so are those of the next.
  pub states-stay_next : (old new : List SystemState) → filter (stays e) new ≡ filter (stays e) old →
      filter (stays e) (fold placed [] (all_offered after new)) ≡ filter (stays e) (fold placed [] (all_offered before old))
  states-stay_next old new same =
      filter-fold_stays e [] (all_offered after new)
      ∙ ap (fold placed []) (offered-by_staying after new ∙ ap (λ ss. filter (stays e) (all_offered after ss)) same ∙ offered-same old ∙ sym (offered-by_staying before old))
      ∙ sym (filter-fold_stays e [] (all_offered before old))
