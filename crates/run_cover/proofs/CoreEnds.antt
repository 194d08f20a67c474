-- When cores have finished lists of jobs, and when the last of a list starts.
--     greatest-le                          a bound of the values at the members
--     core_end-le, le-core_end             bounds of a core's end
--     core_end-other                       a job on another core does not change it
--     last_start-push, last_start-le       the last start of a list with one more, and a bound of it
use Rattle.std.proofs.Common.{◌≡◌, ◌≢◌, ℕ, ◌-◌, ◌<◌, ◌≤◌, true, false, cond, List, [], ◌∷◌, ◌++◌, length, map, filter, refl, ap, arith, sym, ◌∙◌, get_or, append-nil}
use Rattle.std.specs.Prelude.{slice_index, ◌==◌}
use Rattle.std.proofs.lemmas.Bool.{eqb-true, eq-eqb, ne_eqb}
use Rattle.std.proofs.lemmas.List.{get_or_push, length_push, get_or-map, map_push, length-map}
use Rattle.std.proofs.lemmas.List.Elements.{filter-append}
use Rattle.std.proofs.lemmas.List.Recursion.{max_least}
use Rattle.job_sets.specs.Subset.{is_member}
use Rattle.job_sets.proofs.Members.{is_member-at, is_member-filter, is_member-from_filter}
use Rattle.lists.specs.Numbers.{greatest}
use Rattle.run_meaning.specs.declared.places.Place.{Place}
use Rattle.run_meaning.specs.Ready.{start_of, core_of, finish_of}
use Rattle.start_windows.proofs.SomeEligible.{greatest-member}
use Rattle.run_cover.specs.Covers.{core_end, last_start}

pub greatest-le : (f : ℕ → ℕ) (xs : List ℕ) (t : ℕ) → ((i : ℕ) → is_member i xs ≡ true → f i ≤ t) → greatest (map f xs) ≤ t
greatest-le f xs t h = max_least (λ ys. greatest (map f ys)) f refl (λ y ys. refl) xs 0 t (λ k below. h (get_or xs k 0) (is_member-at xs k 0 below))

module _ (scenario : List (ℕ × ℕ)) (schedule : List Place) where
  pub core_end-le : (jobs : List ℕ) (core t : ℕ) → ((i : ℕ) → is_member i jobs ≡ true → core_of schedule i ≡ core → finish_of scenario schedule i ≤ t) → core_end scenario schedule jobs core ≤ t
  core_end-le jobs core t h = greatest-le (finish_of scenario schedule) (filter (λ i. core_of schedule i == core) jobs) t (λ i e.
      let parts = is_member-from_filter (λ i. core_of schedule i == core) jobs i e in
      h i parts.1 (eqb-true (core_of schedule i) core parts.0))

  pub le-core_end : (jobs : List ℕ) (core i : ℕ) → is_member i jobs ≡ true → core_of schedule i ≡ core → finish_of scenario schedule i ≤ core_end scenario schedule jobs core
  le-core_end jobs core i there on_core = greatest-member (finish_of scenario schedule) i (filter (λ i. core_of schedule i == core) jobs)
      (is_member-filter (λ i. core_of schedule i == core) jobs i (eq-eqb (core_of schedule i) core on_core) there)

  -- a job on another core does not change it
  pub core_end-other : (jobs : List ℕ) (core j : ℕ) → core ≢ core_of schedule j → core_end scenario schedule (jobs ++ j ∷ []) core ≡ core_end scenario schedule jobs core
  core_end-other jobs core j other =
      let p = λ (i : ℕ). core_of schedule i == core in
      let none : p j ≡ false = ne_eqb (core_of schedule j) core (λ e. other (sym e)) in
      let last : filter p (j ∷ []) ≡ [] = ap (λ b. cond b (j ∷ []) []) none in
      let whole : filter p (jobs ++ j ∷ []) ≡ filter p jobs = filter-append p jobs (j ∷ []) ∙ ap (λ l. filter p jobs ++ l) last ∙ append-nil (filter p jobs) in
      ap (λ l. greatest (map (finish_of scenario schedule) l)) whole

  pub last_start-push : (jobs : List ℕ) (j : ℕ) → last_start schedule (jobs ++ j ∷ []) ≡ start_of schedule j
  last_start-push jobs j =
      let long : length (jobs ++ j ∷ []) - 1 ≡ length jobs = omega (arith, length_push jobs j) in
      ap (λ k. slice_index (map (start_of schedule) (jobs ++ j ∷ [])) k) long
      ∙ ap (λ l. slice_index l (length jobs)) (map_push (start_of schedule) jobs j)
      ∙ get_or_push (map (start_of schedule) jobs) (start_of schedule j) 0 (length jobs) (length-map jobs (start_of schedule))

  pub last_start-le : (jobs : List ℕ) (t : ℕ) → ((i : ℕ) → is_member i jobs ≡ true → start_of schedule i ≤ t) → last_start schedule jobs ≤ t
  last_start-le [] t h = omega arith
  last_start-le (x ∷ xs) t h =
      let jobs = x ∷ xs in
      let k = length jobs - 1 in
      let within : k < length jobs = omega arith in
      let at : slice_index (map (start_of schedule) jobs) k ≡ start_of schedule (get_or jobs k 0) = get_or-map (start_of schedule) jobs k 0 0 within in
      omega (arith, at, h (get_or jobs k 0) (is_member-at jobs k 0 within))
