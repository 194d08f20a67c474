-- Caps: windows by one number, and what may be left out of a minimum.
use Rattle.std.proofs.Common.{◌≡◌, ◌∙◌, ℕ, suc, ◌-◌, ◌<◌, ◌≤◌, Bool, true, false, ◌&&◌, cond, List, [], ◌∷◌, ◌++◌, map, min, max, Option, Some, None, leb, ltb, refl, sym, ap, arith}
use Rattle.std.specs.Prelude.{filter}
use Rattle.std.specs.List.{cons_option, filter_map}
use Rattle.std.specs.Option.{option_map_or}
use Rattle.std.proofs.lemmas.Bool.{cond-false, lt-ltb, le-ltb}
use Rattle.std.proofs.lemmas.Bool.Decides.{nat_tests}
use Rattle.lists.specs.Numbers.{greatest, least}
use Rattle.start_windows.specs.declared.StartWindow.{StartWindow}
use Rattle.start_windows.specs.declared.eligibility.Prospect.{Prospect}
use Rattle.start_windows.specs.Window.{is_before, last_before}
use Rattle.start_windows.specs.Prospects.{capped, jobs_of, window_of}

pub capped-le : (c : ℕ) (xs : List ℕ) → capped c xs ≤ c
capped-le c [] = omega arith
capped-le c (x ∷ xs) = omega (arith, capped-le c xs)

pub capped_push : (c : ℕ) (xs : List ℕ) (y : ℕ) → capped c (xs ++ y ∷ []) ≡ min (capped c xs) y
capped_push c [] y = omega arith
capped_push c (x ∷ xs) y = omega (arith, capped_push c xs y)

-- a cap can be applied last
pub capped_min : (b c : ℕ) (xs : List ℕ) → capped (min b c) xs ≡ min b (capped c xs)
capped_min b c [] = refl
capped_min b c (x ∷ xs) = omega (arith, capped_min b c xs)

-- What is left out is not below b: below b the minimum is the same.
pub capped-kept : (b c : ℕ) (f : ℕ → ℕ) (keep : ℕ → Bool) → ((x : ℕ) → keep x ≡ false → b ≤ f x) → (xs : List ℕ) → min b (capped c (map f xs)) ≡ min b (capped c (map f (filter keep xs)))
capped-kept b c f keep far [] = refl
capped-kept b c f keep far (x ∷ xs) = by_test (keep x) (far x) (capped-kept b c f keep far xs)
  where
    by_test : (t : Bool) → (t ≡ false → b ≤ f x) → min b (capped c (map f xs)) ≡ min b (capped c (map f (filter keep xs)))
        → min b (min (f x) (capped c (map f xs))) ≡ min b (capped c (map f (cond t (x ∷ filter keep xs) (filter keep xs))))
    by_test true h e = omega arith
    by_test false h e = omega (arith, h refl)

-- two tests in either order
pub filter-filter : (p q : ℕ → Bool) (xs : List ℕ) → filter p (filter q xs) ≡ filter q (filter p xs)
filter-filter p q [] = refl
filter-filter p q (x ∷ xs) = by_tests (p x) (q x) refl refl (filter-filter p q xs)
  where
    by_tests : (s t : Bool) → p x ≡ s → q x ≡ t → filter p (filter q xs) ≡ filter q (filter p xs)
        → filter p (cond (q x) (x ∷ filter q xs) (filter q xs)) ≡ filter q (cond (p x) (x ∷ filter p xs) (filter p xs))
    by_tests true true ps qt e = rw (ps, qt, ps) (ap (λ l. x ∷ l) e)
    by_tests true false ps qt e = rw (ps, qt) e
    by_tests false true ps qt e = rw (ps, qt) (rw ps e)
    by_tests false false ps qt e = rw (ps, qt) e

-- where what fails q fails p
pub filter-kept : (p q : ℕ → Bool) → ((x : ℕ) → q x ≡ false → p x ≡ false) → (xs : List ℕ) → filter p (filter q xs) ≡ filter p xs
filter-kept p q fails [] = refl
filter-kept p q fails (x ∷ xs) = by_test (q x) (fails x) (filter-kept p q fails xs)
  where
    by_test : (t : Bool) → (t ≡ false → p x ≡ false) → filter p (filter q xs) ≡ filter p xs → filter p (cond t (x ∷ filter q xs) (filter q xs)) ≡ cond (p x) (x ∷ filter p xs) (filter p xs)
    by_test true h e = ap (λ l. cond (p x) (x ∷ l) l) e
    by_test false h e = e ∙ sym (cond-false _ _ _ (h refl))

-- the least number, where there is one, as a cap
pub capped-least : (c : ℕ) (xs : List ℕ) → capped c xs ≡ option_map_or (λ r. min r c) (least xs) c
capped-least c [] = refl
capped-least c (x ∷ xs) = by_rest (least xs) (capped-least c xs)
  where
    by_rest : (o : Option ℕ) → capped c xs ≡ option_map_or (λ r. min r c) o c → min x (capped c xs) ≡ min (option_map_or (λ y. min x y) o x) c
    by_rest None e = omega arith
    by_rest (Some r) e = omega arith

one_test : (est certain r : ℕ) → (leb est certain && ltb est r) ≡ ltb est (min r (suc certain))
one_test est certain r = grind (arith, nat_tests)

last_test : (est certain : ℕ) → (leb est certain && true) ≡ ltb est (suc certain)
last_test est certain = grind (arith, nat_tests)

same_window : (a b : Bool) (est s t : ℕ) → a ≡ b → s ≡ t → cond {A = Option StartWindow} a (Some (record { est = est; lst = s })) None ≡ cond b (Some (record { est = est; lst = t })) None
same_window a b est s t p q = cc

-- eligible, and the last start, by one number
pub window-capped : (est certain : ℕ) (bounds : List ℕ) →
    cond {A = Option StartWindow} (leb est certain && is_before est (least bounds)) (Some (record { est = est; lst = last_before (least bounds) certain })) None
    ≡ window_of est (capped (suc certain) bounds)
window-capped est certain bounds = by_least (least bounds) ∙ ap (window_of est) (sym (capped-least (suc certain) bounds))
  where
    by_least : (o : Option ℕ) → cond {A = Option StartWindow} (leb est certain && is_before est o) (Some (record { est = est; lst = last_before o certain })) None ≡ window_of est (option_map_or (λ r. min r (suc certain)) o (suc certain))
    by_least None = same_window _ _ est certain (suc certain - 1) (last_test est certain) (omega arith)
    by_least (Some r) = same_window _ _ est (min certain (r - 1)) (min r (suc certain) - 1) (one_test est certain r) (omega arith)

-- no start before a cap that is not after est
pub window_of-none : (est cap : ℕ) → cap ≤ est → window_of est cap ≡ None
window_of-none est cap le = cond-false {A = Option StartWindow} (ltb est cap) _ None (le-ltb est cap le)

pub window_of-some : (est lst : ℕ) → est ≤ lst → window_of est (suc lst) ≡ Some (record { est = est; lst = lst })
window_of-some est lst le = same_window (ltb est (suc lst)) true est (suc lst - 1) lst (lt-ltb est (suc lst) (omega (arith, le))) (omega arith)

-- where h gives nothing of what does not pass, and what g gives of the rest
pub filter_map-filter : {Y : Type 0} (h g : ℕ → Option Y) (p : ℕ → Bool) → ((x : ℕ) → p x ≡ true → h x ≡ g x) → ((x : ℕ) → p x ≡ false → h x ≡ None) →
    (xs : List ℕ) → filter_map h xs ≡ filter_map g (filter p xs)
filter_map-filter h g p same none [] = refl
filter_map-filter {Y} h g p same none (x ∷ xs) = by_test (p x) (same x) (none x) (filter_map-filter h g p same none xs)
  where
    by_test : (t : Bool) → (t ≡ true → h x ≡ g x) → (t ≡ false → h x ≡ None) → filter_map h xs ≡ filter_map g (filter p xs)
        → cons_option (h x) (filter_map h xs) ≡ filter_map g (cond t (x ∷ filter p xs) (filter p xs))
    by_test true s n e = rw (s refl, e) refl
    by_test false s n e = rw (n refl) e

pub filter_map-same : {Y : Type 0} (h g : ℕ → Option Y) → ((x : ℕ) → h x ≡ g x) → (xs : List ℕ) → filter_map h xs ≡ filter_map g xs
filter_map-same h g same [] = refl
filter_map-same h g same (x ∷ xs) = rw (same x, filter_map-same h g same xs) refl

pub greatest-filter-le : (f : ℕ → ℕ) (p : ℕ → Bool) (xs : List ℕ) → greatest (map f (filter p xs)) ≤ greatest (map f xs)
greatest-filter-le f p [] = omega arith
greatest-filter-le f p (x ∷ xs) = by_test (p x) (greatest-filter-le f p xs)
  where
    by_test : (t : Bool) → greatest (map f (filter p xs)) ≤ greatest (map f xs)
        → greatest (map f (cond t (x ∷ filter p xs) (filter p xs))) ≤ max (f x) (greatest (map f xs))
    by_test true h = omega arith
    by_test false h = omega arith

-- ---- one prospect after the other: f is the limit that a job sets

module _ (f : ℕ → ℕ) (est : ℕ) where
  -- the window up to lst that these leave
  abbrev pub left : ℕ → List Prospect → Option StartWindow
  left lst found = window_of est (capped (suc lst) (map f (jobs_of found)))

  pub left-taken : (lst limit : ℕ) (x : Prospect) (rest : List Prospect) → limit ≡ f x.job → est < limit → left (min lst (limit - 1)) rest ≡ left lst (x ∷ rest)
  left-taken lst limit x rest own after =
      let one : suc (min lst (limit - 1)) ≡ min (f x.job) (suc lst) = omega (arith, own, after) in
      ap (λ c. window_of est (capped c (map f (jobs_of rest)))) one ∙ ap (window_of est) (capped_min (f x.job) (suc lst) (map f (jobs_of rest)))

  pub left-late : (lst : ℕ) (x : Prospect) (rest : List Prospect) → lst < f x.job → left lst rest ≡ left lst (x ∷ rest)
  left-late lst x rest late = ap (window_of est) (lesser (f x.job) (capped (suc lst) (map f (jobs_of rest))) (omega (arith, late, capped-le (suc lst) (map f (jobs_of rest)))))
    where
      lesser : (a b : ℕ) → b ≤ a → b ≡ min a b
      lesser a b le = omega (arith, le)

  pub left-none : (lst limit : ℕ) (x : Prospect) (rest : List Prospect) → limit ≡ f x.job → limit ≤ est → None ≡ left lst (x ∷ rest)
  left-none lst limit x rest own le = sym (window_of-none est _ (omega (arith, own, le)))
