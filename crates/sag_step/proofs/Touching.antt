-- Where two states leave no gap, by the ends of their intervals.
use Rattle.std.proofs.Common.{◌≡◌, ℕ, ◌+◌, Bool, true, false, ◌&&◌, List, [], ◌∷◌, length, refl, ap, ◌∙◌, arith}
use Rattle.std.specs.Prelude.{nat_le}
use Rattle.std.specs.Cmp.Lexicographic.{pointwise}
use Rattle.sag_time.specs.Interval.{Interval, touches}
use Rattle.lists.specs.Zipped.{zip_with}

and_swap : (a b p q : Bool) → ((a && b) && (p && q)) ≡ ((a && p) && (b && q))
and_swap true true p q = refl
and_swap true false true q = refl
and_swap true false false q = refl
and_swap false b p q = refl

abbrev pair : ℕ → ℕ → Interval
pair lo hi = record { lo = lo; hi = hi }

abbrev pub begins_near : ℕ → ℕ → Bool
begins_near from to = nat_le from (to + 1)

pub touch_by_ends : (al ah bl bh : List ℕ) → length al ≡ length ah → length al ≡ length bl → length bl ≡ length bh →
    pointwise touches (zip_with pair al ah) (zip_with pair bl bh) ≡ (pointwise begins_near al bh && pointwise begins_near bl ah)
touch_by_ends [] [] [] [] p q r = refl
touch_by_ends [] [] [] (y ∷ ys) p q r = absurd (omega (arith, r))
touch_by_ends [] [] (x ∷ xs) bh p q r = absurd (omega (arith, q))
touch_by_ends [] (h ∷ hs) bl bh p q r = absurd (omega (arith, p))
touch_by_ends (l ∷ ls) [] bl bh p q r = absurd (omega (arith, p))
touch_by_ends (l ∷ ls) (h ∷ hs) [] bh p q r = absurd (omega (arith, q))
touch_by_ends (l ∷ ls) (h ∷ hs) (x ∷ xs) [] p q r = absurd (omega (arith, r))
touch_by_ends (l ∷ ls) (h ∷ hs) (x ∷ xs) (y ∷ ys) p q r =
    ap (λ b. touches (pair l h) (pair x y) && b) (touch_by_ends ls hs xs ys (omega (arith, p)) (omega (arith, q)) (omega (arith, r)))
    ∙ and_swap (begins_near l y) (begins_near x h) (pointwise begins_near ls ys) (pointwise begins_near xs hs)
