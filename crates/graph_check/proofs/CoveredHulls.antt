-- An interval covers the hull that is kept of a job exactly where it covers each of the job's edges.
use Rattle.std.proofs.Common.{◌≡◌, ℕ, zero, suc, ◌<◌, ◌≤◌, min, max, Bool, true, List, [], ◌∷◌, map, length, refl, sym, ap, ◌∙◌, subst, arith, length-set, ⊎_elim, Option, Some, None}
use Rattle.std.specs.Prelude.{slice_get, nat_le}
use Rattle.std.specs.List.{AllByRecursion}
use Rattle.std.specs.Option.{option_map_or}
use Rattle.std.proofs.lemmas.Bool.{and_parts, and_from, leb-true, le-leb, cases_eq}
use Rattle.job_model.specs.Table.{Table}
use Rattle.sag_time.specs.Interval.{Interval, hull, covers}
use Rattle.sag_step.specs.Next.{finish_interval}
use Rattle.graph_check.specs.Certificate.{EdgeEntry}
use Rattle.graph_check.specs.Checks.{covers_hull}
use Rattle.graph_check.specs.Kept.{hulls_with}
use Rattle.lists.proofs.Elements.{get-set_same, get-set_other}
use Rattle.graph_check.proofs.LinesLeft.{hulls_over}

-- ---- one edge more

covers-parts : (s a b : Interval) → covers s (hull a b) ≡ true → (covers s a ≡ true) × (covers s b ≡ true)
covers-parts s a b wide =
    let parts = and_parts (nat_le s.lo (min a.lo b.lo)) (nat_le (max a.hi b.hi) s.hi) wide in
    let low : s.lo ≤ min a.lo b.lo = leb-true s.lo (min a.lo b.lo) parts.0 in
    let high : max a.hi b.hi ≤ s.hi = leb-true (max a.hi b.hi) s.hi parts.1 in (
      and_from (nat_le s.lo a.lo) (nat_le a.hi s.hi) (le-leb s.lo a.lo (omega (arith, low))) (le-leb a.hi s.hi (omega (arith, high))),
      and_from (nat_le s.lo b.lo) (nat_le b.hi s.hi) (le-leb s.lo b.lo (omega (arith, low))) (le-leb b.hi s.hi (omega (arith, high))),
    )

covers-hull : (s a b : Interval) → covers s a ≡ true → covers s b ≡ true → covers s (hull a b) ≡ true
covers-hull s a b first second =
    let one = and_parts (nat_le s.lo a.lo) (nat_le a.hi s.hi) first in
    let two = and_parts (nat_le s.lo b.lo) (nat_le b.hi s.hi) second in
    let low : s.lo ≤ min a.lo b.lo = omega (arith, leb-true s.lo a.lo one.0, leb-true s.lo b.lo two.0) in
    let high : max a.hi b.hi ≤ s.hi = omega (arith, leb-true a.hi s.hi one.1, leb-true b.hi s.hi two.1) in
    and_from (nat_le s.lo (min a.lo b.lo)) (nat_le (max a.hi b.hi) s.hi) (le-leb s.lo (min a.lo b.lo) low) (le-leb (max a.hi b.hi) s.hi high)

-- the hull so far with one more interval
abbrev grown : Interval → Option (Option Interval) → Interval
grown f o = option_map_or (λ h. option_map_or (hull f) h f) o f

abbrev covers_kept : Interval → Option (Option Interval) → Bool
covers_kept s o = option_map_or (λ h. option_map_or (covers s) h true) o true

grown-parts : (s f : Interval) (o : Option (Option Interval)) → covers s (grown f o) ≡ true → (covers_kept s o ≡ true) × (covers s f ≡ true)
grown-parts s f None wide = (refl, wide)
grown-parts s f (Some None) wide = (refl, wide)
grown-parts s f (Some (Some h)) wide =
    let parts = covers-parts s f h wide in
    (parts.1, parts.0)

covers-grown : (s f : Interval) (o : Option (Option Interval)) → covers_kept s o ≡ true → covers s f ≡ true → covers s (grown f o) ≡ true
covers-grown s f None kept more = more
covers-grown s f (Some None) kept more = more
covers-grown s f (Some (Some h)) kept more = covers-hull s f h more kept

one-parts : (hulls : List (Option Interval)) (j k : ℕ) (f s : Interval) → j < length hulls → covers_hull (hulls_with hulls j f) k s ≡ true →
    (covers_hull hulls k s ≡ true) × (j ≡ k → covers s f ≡ true)
one-parts hulls j k f s within wide = ⊎_elim
    (λ (same : j ≡ k).
    let at_j : covers_hull (hulls_with hulls j f) j s ≡ true = subst (λ n. covers_hull (hulls_with hulls j f) n s ≡ true) (sym same) wide in
    let grows : covers s (grown f (slice_get hulls j)) ≡ true = sym (ap (covers_kept s) (get-set_same hulls j (Some (grown f (slice_get hulls j))) within)) ∙ at_j in
    let parts = grown-parts s f (slice_get hulls j) grows in
    (subst (λ n. covers_hull hulls n s ≡ true) same parts.0, λ _. parts.1))
    (λ (other : j ≡ k → ⊥).
    (sym (ap (covers_kept s) (get-set_other hulls j k (Some (grown f (slice_get hulls j))) other)) ∙ wide, λ same. absurd (other same)))
    (cases_eq j k)

one-more : (hulls : List (Option Interval)) (j k : ℕ) (f s : Interval) → j < length hulls → covers_hull hulls k s ≡ true → (j ≡ k → covers s f ≡ true) →
    covers_hull (hulls_with hulls j f) k s ≡ true
one-more hulls j k f s within kept more = ⊎_elim
    (λ (same : j ≡ k).
    let grows : covers s (grown f (slice_get hulls j)) ≡ true = covers-grown s f (slice_get hulls j) (subst (λ n. covers_hull hulls n s ≡ true) (sym same) kept) (more same) in
    let at_j : covers_hull (hulls_with hulls j f) j s ≡ true = ap (covers_kept s) (get-set_same hulls j (Some (grown f (slice_get hulls j))) within) ∙ grows in
    subst (λ n. covers_hull (hulls_with hulls j f) n s ≡ true) same at_j)
    (λ (other : j ≡ k → ⊥). ap (covers_kept s) (get-set_other hulls j k (Some (grown f (slice_get hulls j))) other) ∙ kept)
    (cases_eq j k)

module _ (table : Table) where
  -- ---- all edges

  abbrev pub finish_of_edge : EdgeEntry → Interval
  finish_of_edge e = finish_interval table e.job e.window

  abbrev pub IsCovered : ℕ → Interval → EdgeEntry → Type 0
  IsCovered k s e = e.job ≡ k → covers s (finish_of_edge e) ≡ true

  abbrev pub HaveJobs : ℕ → List EdgeEntry → Type 0
  HaveJobs n edges = AllByRecursion (λ e. e.job < n) edges

  pub all-parts : (edges : List EdgeEntry) (hulls : List (Option Interval)) (k : ℕ) (s : Interval) → HaveJobs (length hulls) edges →
      covers_hull (hulls_over table hulls edges) k s ≡ true →
      (covers_hull hulls k s ≡ true) × AllByRecursion (IsCovered k s) edges
  all-parts [] hulls k s jobs wide = (wide, tt)
  all-parts (e ∷ es) hulls k s jobs wide =
      let next = hulls_with hulls e.job (finish_of_edge e) in
      let long : length hulls ≡ length next = sym (length-set hulls e.job (Some (grown (finish_of_edge e) (slice_get hulls e.job)))) in
      let later = all-parts es next k s (subst (λ n. HaveJobs n es) long jobs.1) wide in
      let parts = one-parts hulls e.job k (finish_of_edge e) s jobs.0 later.0 in
      (parts.0, (parts.1, later.1))

  pub all-more : (edges : List EdgeEntry) (hulls : List (Option Interval)) (k : ℕ) (s : Interval) → HaveJobs (length hulls) edges → covers_hull hulls k s ≡ true →
      AllByRecursion (IsCovered k s) edges →
      covers_hull (hulls_over table hulls edges) k s ≡ true
  all-more [] hulls k s jobs kept each = kept
  all-more (e ∷ es) hulls k s jobs kept each =
      let next = hulls_with hulls e.job (finish_of_edge e) in
      let long : length hulls ≡ length next = sym (length-set hulls e.job (Some (grown (finish_of_edge e) (slice_get hulls e.job)))) in
      all-more es next k s (subst (λ n. HaveJobs n es) long jobs.1) (one-more hulls e.job k (finish_of_edge e) s jobs.0 kept each.0) each.1

  abbrev pub no_hulls : List (Option Interval)
  no_hulls = map (λ _. None) table.jobs

  pub none-covered : (xs : List (Option Interval)) (k : ℕ) (s : Interval) → AllByRecursion (λ o. o ≡ None) xs → covers_hull xs k s ≡ true
  none-covered [] k s all = refl
  none-covered (x ∷ xs) zero s all = rw all.0 refl
  none-covered (x ∷ xs) (suc k) s all = none-covered xs k s all.1

  nones : {X : Type 0} (xs : List X) → AllByRecursion (λ (o : Option Interval). o ≡ None) (map (λ _. None) xs)
  nones [] = tt
  nones (x ∷ xs) = (refl, nones xs)

  pub nothing_kept : AllByRecursion (λ (o : Option Interval). o ≡ None) no_hulls
  nothing_kept = nones table.jobs
