-- One pass that puts a number in order among raised ones.
use Rattle.std.proofs.Common.{◌≡◌, ℕ, zero, suc, ◌+◌, ◌-◌, ◌<◌, ◌≤◌, true, List, [], ◌∷◌, ◌++◌, length, map, take, drop, set, refl, ap, sym, ◌∙◌, arith, min, max, get_or}
use Rattle.std.proofs.lemmas.List.{drop-set-lt}
use Rattle.sag_time.specs.Sorted.{is_sorted, sorted_with}
use Rattle.sag_time.proofs.SortedLists.{sorted_with-carry, is_sorted-raised, is_sorted-drop_one}

-- what stands before place k, then the carried number in its order among the raised ones from place n on
abbrev pub carried : ℕ → ℕ → ℕ → ℕ → List ℕ → List ℕ
carried floor carry k n times = take k times ++ sorted_with carry (map (max floor) (drop n times))

is_sorted-drop_more : (k : ℕ) (xs : List ℕ) → is_sorted (drop k xs) ≡ true → is_sorted (drop (suc k) xs) ≡ true
is_sorted-drop_more zero xs sorted = is_sorted-drop_one xs sorted
is_sorted-drop_more (suc k) [] sorted = refl
is_sorted-drop_more (suc k) (x ∷ xs) sorted = is_sorted-drop_more k xs sorted

carried_more : (floor carry free k : ℕ) (times : List ℕ) → suc k < length times → is_sorted (drop (suc k) times) ≡ true → free ≡ max floor (get_or times (suc k) 0) →
    carried floor (max free carry) (suc k) (suc (suc k)) (set times k (min free carry)) ≡ carried floor carry k (suc k) times
carried_more floor carry free k [] below sorted is = absurd (omega (arith, below))
carried_more floor carry free zero (x ∷ []) below sorted is = absurd (omega (arith, below))
carried_more floor carry free zero (x ∷ y ∷ zs) below sorted is =
    (λ i. min (is i) carry ∷ sorted_with (max (is i) carry) (map (max floor) zs))
    ∙ sym (sorted_with-carry carry (max floor y) (map (max floor) zs) (is_sorted-raised floor (y ∷ zs) sorted))
carried_more floor carry free (suc k) (x ∷ xs) below sorted is = ap (λ zs. x ∷ zs) (carried_more floor carry free k xs (omega (arith, below)) sorted is)

-- a turn at place i
pub carried_step : (floor carry i free out next : ℕ) (times : List ℕ) → 1 ≤ i → i < length times → is_sorted (drop i times) ≡ true →
    free ≡ max (get_or times i 0) floor → out ≡ min free carry → next ≡ max free carry →
    carried floor next (i + 1 - 1) (i + 1) (set times (i - 1) out) ≡ carried floor carry (i - 1) i times
carried_step floor carry zero free out next times from below sorted a b d = absurd (omega (arith, from))
carried_step floor carry (suc k) free out next times from below sorted a b d =
    let here : suc k + 1 - 1 ≡ suc k = omega arith in
    let after : suc k + 1 ≡ suc (suc k) = omega arith in
    let before : suc k - 1 ≡ k = omega arith in
    let raised : free ≡ max floor (get_or times (suc k) 0) = omega (arith, a) in
    (λ j. carried floor (d j) (here j) (after j) (set times (before j) (b j)))
    ∙ carried_more floor carry free k times below sorted raised
    ∙ (λ j. carried floor carry (sym before j) (suc k) times)

pub is_sorted-others : (i out : ℕ) (times : List ℕ) → is_sorted (drop i times) ≡ true → is_sorted (drop (i + 1) (set times (i - 1) out)) ≡ true
is_sorted-others i out times sorted =
    let after : i + 1 ≡ suc i = omega arith in
    ap is_sorted (drop-set-lt (i + 1) times (i - 1) out (omega arith) ∙ ap (λ n. drop n times) after) ∙ is_sorted-drop_more i times sorted

last_carried : (floor carry x : ℕ) (xs : List ℕ) → set (x ∷ xs) (length xs) carry ≡ carried floor carry (length xs) (suc (length xs)) (x ∷ xs)
last_carried floor carry x [] = refl
last_carried floor carry x (y ∷ ys) = ap (λ zs. x ∷ zs) (last_carried floor carry y ys)

-- at the end the carried number takes the last place
pub carried_all : (floor carry i : ℕ) (times : List ℕ) → 0 < length times → i ≡ length times → set times (length times - 1) carry ≡ carried floor carry (i - 1) i times
carried_all floor carry i [] some is = absurd (omega (arith, some))
carried_all floor carry i (x ∷ xs) some is =
    let last : length (x ∷ xs) - 1 ≡ length xs = omega arith in
    let before : i - 1 ≡ length xs = omega (arith, is) in
    (λ j. set (x ∷ xs) (last j) carry) ∙ last_carried floor carry x xs ∙ (λ j. carried floor carry (sym before j) (sym is j) (x ∷ xs))
