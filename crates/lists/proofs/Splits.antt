-- Two splits of one list around an item.
use Rattle.std.proofs.Common.{◌≡◌, ◌<◌, ◌++◌, ◌∷◌, [], List, length, arith, refl, ap}

-- the shorter front, with the item behind it, stands at the front of the longer
pub front-within : {A : Type 0} (xs : List A) (x : A) (xs' ys : List A) (y : A) (ys' : List A) → xs ++ x ∷ xs' ≡ ys ++ y ∷ ys' → length xs < length ys
    → (tail : List A) × (ys ≡ xs ++ x ∷ tail)
front-within xs x xs' [] y ys' same less = absurd (omega (arith, less))
front-within [] x xs' (b ∷ ys) y ys' same less =
    let head : x ≡ b = cc in
    (ys, rw head refl)
front-within (a ∷ xs) x xs' (b ∷ ys) y ys' same less =
    let head : a ≡ b = cc in
    let rest : xs ++ x ∷ xs' ≡ ys ++ y ∷ ys' = cc in
    let (tail, is) = front-within xs x xs' ys y ys' rest (omega (arith, less)) in
    (tail, rw head (ap (λ l. b ∷ l) is))

-- fronts of one length are one, and so are the items behind them
pub fronts-same : {A : Type 0} (xs : List A) (x : A) (xs' ys : List A) (y : A) (ys' : List A) → xs ++ x ∷ xs' ≡ ys ++ y ∷ ys' → length xs ≡ length ys
    → (xs ≡ ys) × (x ≡ y)
fronts-same [] x xs' [] y ys' same long = (refl, cc)
fronts-same [] x xs' (b ∷ ys) y ys' same long = absurd (omega (arith, long))
fronts-same (a ∷ xs) x xs' [] y ys' same long = absurd (omega (arith, long))
fronts-same (a ∷ xs) x xs' (b ∷ ys) y ys' same long =
    let head : a ≡ b = cc in
    let rest : xs ++ x ∷ xs' ≡ ys ++ y ∷ ys' = cc in
    let (fronts, items) = fronts-same xs x xs' ys y ys' rest (omega (arith, long)) in
    (rw head (ap (λ l. b ∷ l) fronts), items)
