-- Sets as bits of words.
use Rattle.std.proofs.Common.{◌≡◌, ℕ, zero, suc, ◌+◌, ◌*◌, ◌-◌, ◌/◌, ◌%◌, ◌^◌, ◌<◌, ◌≤◌, Bool, true, false, cond, List, [], ◌∷◌, length, filter, refl, ap, sym, ◌∙◌, arith, ⊎_elim, ◌⊎◌, inl, inr, get_or, set, subst, ◌≢◌, replicate, ap₂, min}
use Rattle.std.specs.Prelude.{nat_lt, ◌==◌, ◌||◌, ◌&&◌, not, bit_or, bit_and}
use Rattle.std.specs.List.{list_all, range_with_len}
use Rattle.std.specs.Int.{bit_at, bit_not, trailing_zeros, w64}
use Rattle.std.proofs.lemmas.Bool.{and_parts, and_from, ltb-true, lt-ltb, eqb-true, eq-eqb, ne_eqb, cases_lt, cases_eq, false≢true, false_from_ne_true}
use Rattle.std.proofs.lemmas.Bool.Decides.{nat_tests}
use Rattle.std.proofs.lemmas.List.{get_or-set_same, get_or-set_other, get_or_past, get_or-replicate, length-set, length-replicate}
use Rattle.std.proofs.lemmas.Grind.{same_number_lists, get_or_default_zero}
use Rattle.std.proofs.lemmas.Nat.{or_lt, and_le_l, shr-shr, shr_le}
use Rattle.std.proofs.lemmas.Nat.Bits.{bit_at_set_same, bit_at_set_other, bit_at_clear_same, bit_at_clear_other, same_from_bits_below, bit_at-lt, bit_at-zero, shr_and_one, bit_at_and, bit_at_not, bit_at-trailing_zeros, bit_at_above}
use Rattle.job_sets.specs.Subset.{IsSubset, is_member, is_rising, with_number, without, is_within}
use Rattle.job_sets.specs.Words.{has_bit, members_of, AreWords, with_bit, pattern, pattern_sum}
use Rattle.job_sets.proofs.Members.{is_member-from_filter, is_member-filter, is_member-range, list_all-member}
use Rattle.job_sets.proofs.Subsets.{length-without, pattern_sum-with_number, pattern_sum-without, is_within-from_members, not_within}
use Rattle.job_sets.proofs.Filters.{is_member-of_filter, is_rising-filter}
use Rattle.job_sets.proofs.Additions.{same_members, few_members, length-with_number, IsSubset-with_number, is_rising-with_number, is_member-with_number}

-- ---- the numbers of a range, and those that a test keeps

above_range : (p : ℕ → Bool) (x a n : ℕ) → x < a → list_all (nat_lt x) (filter p (range_with_len a n)) ≡ true
above_range p x a zero h = refl
above_range p x a (suc n) h = at (p a) (above_range p x (a + 1) n (omega arith))
  where
    at : (b : Bool) → list_all (nat_lt x) (filter p (range_with_len (a + 1) n)) ≡ true → list_all (nat_lt x) (cond b (a ∷ filter p (range_with_len (a + 1) n)) (filter p (range_with_len (a + 1) n))) ≡ true
    at true rest = and_from (nat_lt x a) _ (lt-ltb x a h) rest
    at false rest = rest

rising_range : (p : ℕ → Bool) (a n : ℕ) → is_rising (filter p (range_with_len a n)) ≡ true
rising_range p a zero = refl
rising_range p a (suc n) = at (p a) (rising_range p (a + 1) n)
  where
    at : (b : Bool) → is_rising (filter p (range_with_len (a + 1) n)) ≡ true → is_rising (cond b (a ∷ filter p (range_with_len (a + 1) n)) (filter p (range_with_len (a + 1) n))) ≡ true
    at true rest = and_from (list_all (nat_lt a) (filter p (range_with_len (a + 1) n))) _ (above_range p a (a + 1) n (omega arith)) rest
    at false rest = rest

below_range : (p : ℕ → Bool) (a n m : ℕ) → a + n ≤ m → list_all (λ j. nat_lt j m) (filter p (range_with_len a n)) ≡ true
below_range p a zero m h = refl
below_range p a (suc n) m h = at (p a) (below_range p (a + 1) n m (omega (arith, h)))
  where
    at : (b : Bool) → list_all (λ j. nat_lt j m) (filter p (range_with_len (a + 1) n)) ≡ true → list_all (λ j. nat_lt j m) (cond b (a ∷ filter p (range_with_len (a + 1) n)) (filter p (range_with_len (a + 1) n))) ≡ true
    at true rest = and_from (nat_lt a m) _ (lt-ltb a m (omega (arith, h))) rest
    at false rest = rest

-- ---- what the members of words are

pub is_rising-members : (n : ℕ) (ws : List ℕ) → is_rising (members_of n ws) ≡ true
unfolding members_of
is_rising-members n ws = rising_range (has_bit ws) 0 n

pub IsSubset-members : (n : ℕ) (ws : List ℕ) → IsSubset (record { size = n; members = members_of n ws })
unfolding members_of
IsSubset-members n ws = record { rising = rising_range (has_bit ws) 0 n; in_range = below_range (has_bit ws) 0 n n (omega arith) }

pub is_member-members : (n : ℕ) (ws : List ℕ) (j : ℕ) → j < n → is_member j (members_of n ws) ≡ has_bit ws j
unfolding members_of
is_member-members n ws j h = at (has_bit ws j) refl
  where
    at : (b : Bool) → has_bit ws j ≡ b → is_member j (filter (has_bit ws) (range_with_len 0 n)) ≡ b
    at true is = is_member-filter (has_bit ws) (range_with_len 0 n) j is (is_member-range 0 n j (omega arith) (omega (arith, h)))
    at false is = false_from_ne_true _ (λ yes. false≢true (sym is ∙ (is_member-from_filter (has_bit ws) (range_with_len 0 n) j yes).0))

pub beyond : (n : ℕ) (ws : List ℕ) (j : ℕ) → n ≤ j → is_member j (members_of n ws) ≡ false
beyond n ws j h = false_from_ne_true _ (λ yes. let is = IsSubset-members n ws in
    let below : j < n = ltb-true j n (list_all-member (λ i. nat_lt i n) (members_of n ws) j is.in_range yes) in absurd (omega (arith, below, h)))

-- a rising list of numbers below the size with the same members is the list of members
pub members-are : (n : ℕ) (ws xs : List ℕ) → is_rising xs ≡ true → ((j : ℕ) → n ≤ j → is_member j xs ≡ false) → ((j : ℕ) → j < n → is_member j xs ≡ has_bit ws j) → members_of n ws ≡ xs
members-are n ws xs rising out within = same_members (members_of n ws) xs (is_rising-members n ws) rising
    (λ k. ⊎_elim
    (λ (h : k < n). is_member-members n ws k h ∙ sym (within k h))
    (λ (h : n ≤ k). beyond n ws k h ∙ sym (out k h))
    (cases_lt k n))

-- ---- one bit written

-- of a word of 64 bits, whether a bit is set
abbrev bit : ℕ → ℕ → Bool
bit w i = bit_at w i == 1

pub has_bit-write_here : (ws : List ℕ) (k w i : ℕ) → i / 64 ≡ k → k < length ws → has_bit (set ws k w) i ≡ bit w (i % 64)
has_bit-write_here ws k w i e h =
    let at : get_or (set ws k w) (i / 64) 0 ≡ w = ap (λ q. get_or (set ws k w) q 0) e ∙ get_or-set_same ws k w 0 h in
    ap (λ v. bit v (i % 64)) at

pub has_bit-write_away : (ws : List ℕ) (k w i : ℕ) → (i / 64 ≡ k → ⊥) → has_bit (set ws k w) i ≡ has_bit ws i
has_bit-write_away ws k w i other = ap (λ v. bit v (i % 64)) (get_or-set_other ws k (i / 64) w 0 other)

-- `words[j / 64] & !(1 << (j % 64))`
abbrev pub without_bit : List ℕ → ℕ → List ℕ
without_bit ws j = set ws (j / 64) (bit_and (get_or ws (j / 64) 0) (bit_not w64 (1 * 2 ^ (j % 64) % 2 ^ 64)))

small : (i : ℕ) → i % 64 < 64
small i = omega arith

or_true : (b : Bool) → true ≡ (true || b)
or_true b = refl

pub has_bit-with : (ws : List ℕ) (j i : ℕ) → j / 64 < length ws → has_bit (with_bit ws j) i ≡ ((j == i) || has_bit ws i)
has_bit-with ws j i h = at (cases_eq j i)
  where
    word : ℕ
    word = bit_or (get_or ws (j / 64) 0) (1 * 2 ^ (j % 64) % 2 ^ 64)

    apart : (j ≡ i → ⊥) → ((i / 64 ≡ j / 64) ⊎ (i / 64 ≡ j / 64 → ⊥)) → has_bit (with_bit ws j) i ≡ has_bit ws i
    apart other (inl here) =
        let places : i % 64 ≡ j % 64 → ⊥ = λ same. other (omega (arith, here, same)) in
        has_bit-write_here ws (j / 64) _ i here h
        ∙ ap (λ v. v == 1) (bit_at_set_other w64 (get_or ws (j / 64) 0) (j % 64) (small j) (i % 64) places)
        ∙ ap (λ q. bit (get_or ws q 0) (i % 64)) (sym here)
    apart other (inr away) = has_bit-write_away ws (j / 64) _ i away

    at : (j ≡ i) ⊎ (j ≢ i) → has_bit (with_bit ws j) i ≡ ((j == i) || has_bit ws i)
    at (inl same) =
        let hit : (j == i) ≡ true = eq-eqb j i same in
        has_bit-write_here ws (j / 64) _ i (ap (λ k. k / 64) (sym same)) h
        ∙ ap (λ q. bit (bit_or (get_or ws (j / 64) 0) (1 * 2 ^ (j % 64) % 2 ^ 64)) q) (ap (λ k. k % 64) (sym same))
        ∙ ap (λ v. v == 1) (bit_at_set_same w64 (get_or ws (j / 64) 0) (j % 64) (small j))
        ∙ sym (ap (λ b. b || has_bit ws i) hit)
    at (inr other) = apart other (cases_eq (i / 64) (j / 64)) ∙ sym (ap (λ b. b || has_bit ws i) (ne_eqb j i other))

pub has_bit-without : (ws : List ℕ) (j i : ℕ) → j / 64 < length ws → has_bit (without_bit ws j) i ≡ (not (j == i) && has_bit ws i)
has_bit-without ws j i h = at (cases_eq j i)
  where
    apart : (j ≡ i → ⊥) → ((i / 64 ≡ j / 64) ⊎ (i / 64 ≡ j / 64 → ⊥)) → has_bit (without_bit ws j) i ≡ has_bit ws i
    apart other (inl here) =
        let places : i % 64 ≡ j % 64 → ⊥ = λ same. other (omega (arith, here, same)) in
        has_bit-write_here ws (j / 64) _ i here h
        ∙ ap (λ v. v == 1) (bit_at_clear_other w64 (get_or ws (j / 64) 0) (j % 64) (small j) (i % 64) (small i) places)
        ∙ ap (λ q. bit (get_or ws q 0) (i % 64)) (sym here)
    apart other (inr away) = has_bit-write_away ws (j / 64) _ i away

    at : (j ≡ i) ⊎ (j ≢ i) → has_bit (without_bit ws j) i ≡ (not (j == i) && has_bit ws i)
    at (inl same) =
        let hit : (j == i) ≡ true = eq-eqb j i same in
        has_bit-write_here ws (j / 64) _ i (ap (λ k. k / 64) (sym same)) h
        ∙ ap (λ q. bit (bit_and (get_or ws (j / 64) 0) (bit_not w64 (1 * 2 ^ (j % 64) % 2 ^ 64))) q) (ap (λ k. k % 64) (sym same))
        ∙ ap (λ v. v == 1) (bit_at_clear_same w64 (get_or ws (j / 64) 0) (j % 64) (small j))
        ∙ sym (ap (λ b. not b && has_bit ws i) hit)
    at (inr other) = apart other (cases_eq (i / 64) (j / 64)) ∙ sym (ap (λ b. not b && has_bit ws i) (ne_eqb j i other))

-- a word written at its place keeps words in range
pub in_range-write : (ws : List ℕ) (k w : ℕ) → ((i : ℕ) → get_or ws i 0 < 2 ^ 64) → w < 2 ^ 64 → (i : ℕ) → get_or (set ws k w) i 0 < 2 ^ 64
in_range-write ws k w all fits i = ⊎_elim
    (λ (same : i ≡ k). ⊎_elim
    (λ (h : k < length ws). let e : get_or (set ws k w) i 0 ≡ w = ap (λ q. get_or (set ws k w) q 0) same ∙ get_or-set_same ws k w 0 h in omega (arith, e, fits))
    (λ (h : length ws ≤ k). let e : get_or (set ws k w) i 0 ≡ 0 = get_or_past (set ws k w) i 0 (omega (arith, length-set ws k w, same, h)) in omega (arith, e))
    (cases_lt k (length ws)))
    (λ (other : i ≢ k). let e : get_or (set ws k w) i 0 ≡ get_or ws i 0 = get_or-set_other ws k i w 0 other in omega (arith, e, all i))
    (cases_eq i k)

pub AreWords-with : (n : ℕ) (ws : List ℕ) (j : ℕ) → AreWords n ws → j < n → AreWords n (with_bit ws j)
AreWords-with n ws j are h =
    let word : 1 * 2 ^ (j % 64) % 2 ^ 64 < 2 ^ 64 = omega arith in
    let place : j / 64 < length ws = omega (arith, are.long, h) in
    record {
      long = length-set ws (j / 64) (bit_or (get_or ws (j / 64) 0) (1 * 2 ^ (j % 64) % 2 ^ 64)) ∙ are.long;
      in_range = in_range-write ws (j / 64) _ are.in_range (or_lt 64 _ _ (are.in_range (j / 64)) word);
      clean = λ i far. has_bit-with ws j i place ∙ ap (λ b. b || has_bit ws i) (ne_eqb j i (λ (e : j ≡ i). omega (arith, e, h, far))) ∙ are.clean i far;
    }

pub AreWords-without : (n : ℕ) (ws : List ℕ) (j : ℕ) → AreWords n ws → j < n → AreWords n (without_bit ws j)
AreWords-without n ws j are h =
    let place : j / 64 < length ws = omega (arith, are.long, h) in
    let old : get_or ws (j / 64) 0 < 2 ^ 64 = are.in_range (j / 64) in
    let less : bit_and (get_or ws (j / 64) 0) (bit_not w64 (1 * 2 ^ (j % 64) % 2 ^ 64)) ≤ get_or ws (j / 64) 0 = and_le_l (get_or ws (j / 64) 0) (bit_not w64 (1 * 2 ^ (j % 64) % 2 ^ 64)) in
    record {
      long = length-set ws (j / 64) (bit_and (get_or ws (j / 64) 0) (bit_not w64 (1 * 2 ^ (j % 64) % 2 ^ 64))) ∙ are.long;
      in_range = in_range-write ws (j / 64) _ are.in_range (omega (arith, less, old));
      clean = λ i far. has_bit-without ws j i place ∙ ap (λ b. not b && has_bit ws i) (ne_eqb j i (λ (e : j ≡ i). omega (arith, e, h, far))) ∙ are.clean i far;
    }

-- to set the bit of a number is to add the number
pub members-with : (n : ℕ) (ws : List ℕ) (j : ℕ) → AreWords n ws → j < n → members_of n (with_bit ws j) ≡ with_number j (members_of n ws)
members-with n ws j are h =
    let place : j / 64 < length ws = omega (arith, are.long, h) in
    members-are n (with_bit ws j) (with_number j (members_of n ws)) (is_rising-with_number j (members_of n ws) (is_rising-members n ws))
    (λ i far. is_member-with_number i j (members_of n ws) ∙ ap (λ b. b || is_member i (members_of n ws)) (ne_eqb j i (λ (e : j ≡ i). omega (arith, e, h, far))) ∙ beyond n ws i far)
    (λ i near. is_member-with_number i j (members_of n ws) ∙ ap (λ b. (j == i) || b) (is_member-members n ws i near) ∙ sym (has_bit-with ws j i place))

-- ---- words are fixed by their members

pub words_are_fixed : (n : ℕ) (a b : List ℕ) → AreWords n a → AreWords n b → members_of n a ≡ members_of n b → a ≡ b
words_are_fixed n a b one other same = same_number_lists a b (one.long ∙ sym other.long)
    (λ k h. same_from_bits_below 64 (get_or a k 0) (get_or b k 0) (one.in_range k) (other.in_range k) (λ i below. at k i below))
  where
    has : (j : ℕ) → has_bit a j ≡ has_bit b j
    has j = ⊎_elim
        (λ (h : j < n). sym (is_member-members n a j h) ∙ ap (is_member j) same ∙ is_member-members n b j h)
        (λ (h : n ≤ j). one.clean j h ∙ sym (other.clean j h))
        (cases_lt j n)

    bits_alike : (u v : ℕ) → u < 2 → v < 2 → (u == 1) ≡ (v == 1) → u ≡ v
    bits_alike u v p q e = grind (arith, nat_tests)

    at : (k i : ℕ) → i < 64 → bit_at (get_or a k 0) i ≡ bit_at (get_or b k 0) i
    at k i below =
        let q : (k * 64 + i) / 64 ≡ k = omega arith in
        let r : (k * 64 + i) % 64 ≡ i = omega arith in
        bits_alike _ _ (bit_at-lt (get_or a k 0) i) (bit_at-lt (get_or b k 0) i)
        (sym (ap₂ (λ u v. bit (get_or a u 0) v) q r) ∙ has (k * 64 + i) ∙ ap₂ (λ u v. bit (get_or b u 0) v) q r)

-- no bit in zeros
abbrev pub zeros : ℕ → List ℕ
zeros k = replicate k 0

length-zeros : (k : ℕ) → length (zeros k) ≡ k
length-zeros k = let z : ℕ = 0 in length-replicate k z

pub has_bit-zeros : (k j : ℕ) → has_bit (zeros k) j ≡ false
has_bit-zeros k j = ap (λ v. bit v (j % 64)) all ∙ ap (λ v. v == 1) (bit_at-zero (j % 64))
  where
    all : get_or (zeros k) (j / 64) 0 ≡ 0
    all = ⊎_elim
        (λ (h : j / 64 < k). get_or-replicate k (j / 64) 0 0 h)
        (λ (h : k ≤ j / 64). get_or_past (zeros k) (j / 64) 0 (omega (arith, length-zeros k, h)))
        (cases_lt (j / 64) k)

pub AreWords-zeros : (n : ℕ) → AreWords n (zeros ((n + 63) / 64))
AreWords-zeros n = record {
  long = length-zeros ((n + 63) / 64);
  in_range = λ k. ⊎_elim
      (λ (h : k < (n + 63) / 64). let e : get_or (zeros ((n + 63) / 64)) k 0 ≡ 0 = get_or-replicate ((n + 63) / 64) k 0 0 h in omega (arith, e))
      (λ (h : (n + 63) / 64 ≤ k). let e : get_or (zeros ((n + 63) / 64)) k 0 ≡ 0 = get_or_past (zeros ((n + 63) / 64)) k 0 (omega (arith, length-zeros ((n + 63) / 64), h)) in omega (arith, e))
      (cases_lt k ((n + 63) / 64));
  clean = λ j _. has_bit-zeros ((n + 63) / 64) j;
}

pub members-zeros : (n : ℕ) → members_of n (zeros ((n + 63) / 64)) ≡ []
members-zeros n = members-are n (zeros ((n + 63) / 64)) [] refl (λ j h. refl) (λ j h. sym (has_bit-zeros ((n + 63) / 64) j))

-- ---- what the operations need

-- `(words[j / 64] >> (j % 64)) & 1 == 1`
pub bit_test : (n : ℕ) (ws : List ℕ) (j v : ℕ) → AreWords n ws → j < n → v ≡ get_or ws (j / 64) v → (bit_and (v / 2 ^ (j % 64)) 1 == 1) ≡ is_member j (members_of n ws)
bit_test n ws j v are h e =
    let place : j / 64 < length ws = omega (arith, are.long, h) in
    let value : v ≡ get_or ws (j / 64) 0 = e ∙ get_or_default_zero ws (j / 64) v place in
    ap (λ q. q == 1) (shr_and_one v (j % 64)) ∙ ap (λ q. bit q (j % 64)) value ∙ sym (is_member-members n ws j h)

-- with a new member the set still has no more members than its size
pub has_room : (n : ℕ) (ws : List ℕ) (j : ℕ) → j < n → is_member j (members_of n ws) ≡ false → length (members_of n ws) < n
has_room n ws j below absent =
    let is : IsSubset (record { size = n; members = with_number j (members_of n ws) }) = IsSubset-with_number (record { size = n; members = members_of n ws }) j below (IsSubset-members n ws) in
    omega (arith, length-with_number j (members_of n ws) absent, few_members (record { size = n; members = with_number j (members_of n ws) }) is)

pub record IsWith (n : ℕ) (ws : List ℕ) (j : ℕ) (more : List ℕ) : Type 0 where
  pub words : AreWords n more
  pub count : length (members_of n ws) + 1 ≡ length (members_of n more)
  pub mark : (pattern_sum (members_of n ws) + pattern j) % 2 ^ 64 ≡ pattern_sum (members_of n more)
  pub members : members_of n more ≡ with_number j (members_of n ws)

turned : (a b : ℕ) → (b + a) % 2 ^ 64 ≡ (a + b) % 2 ^ 64
turned a b = omega arith

-- `words[j / 64] |= 1 << (j % 64)`
pub add_bit : (n : ℕ) (ws : List ℕ) (j v : ℕ) → AreWords n ws → j < n → v ≡ get_or ws (j / 64) v → is_member j (members_of n ws) ≡ false → IsWith n ws j (set ws (j / 64) (bit_or v (1 * 2 ^ (j % 64) % 2 ^ 64)))
add_bit n ws j v are h e absent =
    let place : j / 64 < length ws = omega (arith, are.long, h) in
    let value : v ≡ get_or ws (j / 64) 0 = e ∙ get_or_default_zero ws (j / 64) v place in
    subst (λ q. IsWith n ws j (set ws (j / 64) (bit_or q (1 * 2 ^ (j % 64) % 2 ^ 64)))) (sym value) (record {
      words = AreWords-with n ws j are h;
      count = sym (ap length (members-with n ws j are h) ∙ length-with_number j (members_of n ws) absent);
      mark = turned (pattern j) (pattern_sum (members_of n ws)) ∙ sym (ap pattern_sum (members-with n ws j are h) ∙ pattern_sum-with_number j (members_of n ws) absent);
      members = members-with n ws j are h;
    })

-- to clear the bit of a number is to leave the number out
pub members-without : (n : ℕ) (ws : List ℕ) (j : ℕ) → AreWords n ws → j < n → members_of n (without_bit ws j) ≡ without j (members_of n ws)
members-without n ws j are h =
    let place : j / 64 < length ws = omega (arith, are.long, h) in
    members-are n (without_bit ws j) (without j (members_of n ws)) (is_rising-filter (λ k. not (j == k)) (members_of n ws) (is_rising-members n ws))
    (λ i far. is_member-of_filter (λ k. not (j == k)) (members_of n ws) i ∙ ap (λ b. not (j == i) && b) (beyond n ws i far) ∙ and_false (not (j == i)))
    (λ i near. is_member-of_filter (λ k. not (j == k)) (members_of n ws) i ∙ ap (λ b. not (j == i) && b) (is_member-members n ws i near) ∙ sym (has_bit-without ws j i place))
  where
    and_false : (b : Bool) → (b && false) ≡ false
    and_false true = refl
    and_false false = refl

pub record IsWithout (n : ℕ) (ws : List ℕ) (j : ℕ) (fewer : List ℕ) : Type 0 where
  pub words : AreWords n fewer
  pub count : length (members_of n fewer) + 1 ≡ length (members_of n ws)
  pub mark : pattern j < 2 ^ 64 → (pattern_sum (members_of n ws) + (2 ^ 64 - pattern j)) % 2 ^ 64 ≡ pattern_sum (members_of n fewer)
  pub members : members_of n fewer ≡ without j (members_of n ws)

-- `words[j / 64] &= !(1 << (j % 64))`
pub remove_bit : (n : ℕ) (ws : List ℕ) (j v : ℕ) → AreWords n ws → j < n → v ≡ get_or ws (j / 64) v → is_member j (members_of n ws) ≡ true → IsWithout n ws j (set ws (j / 64) (bit_and v (bit_not w64 (1 * 2 ^ (j % 64) % 2 ^ 64))))
remove_bit n ws j v are h e there =
    let place : j / 64 < length ws = omega (arith, are.long, h) in
    let value : v ≡ get_or ws (j / 64) 0 = e ∙ get_or_default_zero ws (j / 64) v place in
    subst (λ q. IsWithout n ws j (set ws (j / 64) (bit_and q (bit_not w64 (1 * 2 ^ (j % 64) % 2 ^ 64))))) (sym value) (record {
      words = AreWords-without n ws j are h;
      count = ap (λ xs. length xs + 1) (members-without n ws j are h) ∙ length-without j (members_of n ws) (is_rising-members n ws) there;
      mark = λ small. pattern_sum-without j (members_of n ws) (is_rising-members n ws) there small ∙ sym (ap pattern_sum (members-without n ws j are h));
      members = members-without n ws j are h;
    })

-- ---- one set within another: `a & !b` for each pair of words

-- what is left of a without b, at a bit
left_bit : (a b i : ℕ) → b < 2 ^ 64 → i < 64 → bit_at (bit_and a (bit_not w64 b)) i ≡ min (bit_at a i) (1 - bit_at b i)
left_bit a b i h below = bit_at_and a (bit_not w64 b) i ∙ ap (min (bit_at a i)) (bit_at_not w64 b i h below)

none_left : (u v : ℕ) → min u (1 - v) ≡ 0 → v < 2 → (u == 1) ≡ true → (v == 1) ≡ true
none_left u v e h there = let one : u ≡ 1 = eqb-true u 1 there in let is : v ≡ 1 = omega (arith, e, one, h) in eq-eqb v 1 is

one_left : (u v : ℕ) → u < 2 → min u (1 - v) ≡ 1 → ((u == 1) ≡ true) × ((v == 1) ≡ false)
one_left u v h e = (let is : u ≡ 1 = omega (arith, e, h) in eq-eqb u 1 is, ne_eqb v 1 (λ one. omega (arith, e, one)))

pub all_within : (n : ℕ) (a b : List ℕ) → AreWords n a → AreWords n b → ((k : ℕ) → k < length a → bit_and (get_or a k 0) (bit_not w64 (get_or b k 0)) ≡ 0) → is_within (members_of n a) (members_of n b) ≡ true
all_within n a b one other none = is_within-from_members (members_of n a) (members_of n b) (λ i there. at i there (cases_lt i n))
  where
    at : (i : ℕ) → is_member i (members_of n a) ≡ true → (i < n) ⊎ (n ≤ i) → is_member i (members_of n b) ≡ true
    at i there (inl h) =
        let left : min (bit_at (get_or a (i / 64) 0) (i % 64)) (1 - bit_at (get_or b (i / 64) 0) (i % 64)) ≡ 0 =
        sym (left_bit (get_or a (i / 64) 0) (get_or b (i / 64) 0) (i % 64) (other.in_range (i / 64)) (small i))
        ∙ ap (λ q. bit_at q (i % 64)) (none (i / 64) (omega (arith, one.long, h))) ∙ bit_at-zero (i % 64) in
        is_member-members n b i h ∙ none_left _ _ left (bit_at-lt (get_or b (i / 64) 0) (i % 64)) (sym (is_member-members n a i h) ∙ there)
    at i there (inr far) = absurd (false≢true (sym (beyond n a i far) ∙ there))

pub one_outside : (n : ℕ) (a b : List ℕ) (k : ℕ) → AreWords n a → AreWords n b → (bit_and (get_or a k 0) (bit_not w64 (get_or b k 0)) ≡ 0 → ⊥) → is_within (members_of n a) (members_of n b) ≡ false
one_outside n a b k one other some = not_within (members_of n a) (members_of n b) (k * 64 + t) member absent
  where
    x : ℕ
    x = bit_and (get_or a k 0) (bit_not w64 (get_or b k 0))

    t : ℕ
    t = trailing_zeros w64 x

    lowest : (t < 64) × (bit_at x t ≡ 1) × ((i : ℕ) → i < t → bit_at x i ≡ 0)
    lowest = bit_at-trailing_zeros w64 x (omega (arith, some)) (omega (arith, and_le_l (get_or a k 0) (bit_not w64 (get_or b k 0)), one.in_range k))

    parts : (bit (get_or a k 0) t ≡ true) × (bit (get_or b k 0) t ≡ false)
    parts = one_left _ _ (bit_at-lt (get_or a k 0) t) (sym (left_bit (get_or a k 0) (get_or b k 0) t (other.in_range k) lowest.0) ∙ lowest.1)

    q : (k * 64 + t) / 64 ≡ k
    q = omega (arith, lowest.0)

    r : (k * 64 + t) % 64 ≡ t
    r = omega (arith, lowest.0)

    has : has_bit a (k * 64 + t) ≡ true
    has = ap₂ (λ u v. bit (get_or a u 0) v) q r ∙ parts.0

    hasnt : has_bit b (k * 64 + t) ≡ false
    hasnt = ap₂ (λ u v. bit (get_or b u 0) v) q r ∙ parts.1

    below : k * 64 + t < n
    below = ⊎_elim (λ (h : k * 64 + t < n). h) (λ (h : n ≤ k * 64 + t). absurd (false≢true (sym (one.clean (k * 64 + t) h) ∙ has))) (cases_lt (k * 64 + t) n)

    member : is_member (k * 64 + t) (members_of n a) ≡ true
    member = is_member-members n a (k * 64 + t) below ∙ has

    absent : is_member (k * 64 + t) (members_of n b) ≡ false
    absent = is_member-members n b (k * 64 + t) below ∙ hasnt

-- ---- whether the words are others with one bit set

pub is_next_yes : (n : ℕ) (a b : List ℕ) (j : ℕ) → AreWords n a → AreWords n b → j < n → ((k : ℕ) → k < length a → get_or a k 0 ≡ get_or (with_bit b j) k 0) → members_of n a ≡ with_number j (members_of n b)
is_next_yes n a b j one other h alike =
    ap (members_of n) (same_number_lists a (with_bit b j) (one.long ∙ sym (AreWords-with n b j other h).long) alike) ∙ members-with n b j other h

pub is_next_no : (n : ℕ) (a b : List ℕ) (j k : ℕ) → AreWords n a → AreWords n b → j < n → (get_or a k 0 ≡ get_or (with_bit b j) k 0 → ⊥) → members_of n a ≡ with_number j (members_of n b) → ⊥
is_next_no n a b j k one other h differ same =
    differ (ap (λ ws. get_or ws k 0) (words_are_fixed n a (with_bit b j) one (AreWords-with n b j other h) (same ∙ sym (members-with n b j other h))))

-- ---- the first bit that is not set

-- what is left of the bits that are not set, from a place on
rest_bit : (w f i : ℕ) → w < 2 ^ 64 → f + i < 64 → bit_at ((2 ^ 64 - 1 - w) / 2 ^ f) i ≡ 1 - bit_at w (f + i)
rest_bit w f i h below = ap (λ q. q % 2) (shr-shr (2 ^ 64 - 1 - w) f i) ∙ bit_at_not w64 w (f + i) h below

pub none_clear : (w f i : ℕ) → w < 2 ^ 64 → (2 ^ 64 - 1 - w) / 2 ^ f ≡ 0 → f ≤ i → i < 64 → bit_at w i ≡ 1
none_clear w f i h none low high =
    let place : f + (i - f) ≡ i = omega (arith, low) in
    let is : bit_at ((2 ^ 64 - 1 - w) / 2 ^ f) (i - f) ≡ 1 - bit_at w (f + (i - f)) = rest_bit w f (i - f) h (omega (arith, low, high)) in
    let zero : bit_at ((2 ^ 64 - 1 - w) / 2 ^ f) (i - f) ≡ 0 = ap (λ q. bit_at q (i - f)) none ∙ bit_at-zero (i - f) in
    let own : bit_at w (f + (i - f)) ≡ bit_at w i = ap (bit_at w) place in
    omega (arith, is, zero, own, bit_at-lt w i)

pub first_clear : (w f : ℕ) → w < 2 ^ 64 → f < 64 → ((2 ^ 64 - 1 - w) / 2 ^ f ≡ 0 → ⊥) →
    (f + trailing_zeros w64 ((2 ^ 64 - 1 - w) / 2 ^ f) < 64)
    × (bit_at w (f + trailing_zeros w64 ((2 ^ 64 - 1 - w) / 2 ^ f)) ≡ 0)
    × ((i : ℕ) → f ≤ i → i < f + trailing_zeros w64 ((2 ^ 64 - 1 - w) / 2 ^ f) → bit_at w i ≡ 1)
first_clear w f h small some = (within, clear, passed)
  where
    rest : ℕ
    rest = (2 ^ 64 - 1 - w) / 2 ^ f

    t : ℕ
    t = trailing_zeros w64 rest

    less : rest ≤ 2 ^ 64 - 1 - w
    less = shr_le (2 ^ 64 - 1 - w) f

    lowest : (t < 64) × (bit_at rest t ≡ 1) × ((i : ℕ) → i < t → bit_at rest i ≡ 0)
    lowest = bit_at-trailing_zeros w64 rest (omega (arith, some)) (omega (arith, less))

    within : f + t < 64
    within = ⊎_elim (λ (y : f + t < 64). y)
        (λ (n : 64 ≤ f + t).
        let one : bit_at (2 ^ 64 - 1 - w) (f + t) ≡ 1 = sym (ap (λ q. q % 2) (shr-shr (2 ^ 64 - 1 - w) f t)) ∙ lowest.1 in
        let none : bit_at (2 ^ 64 - 1 - w) (f + t) ≡ 0 = bit_at_above (2 ^ 64 - 1 - w) 64 (f + t) (omega arith) n in
        absurd (omega (arith, one, none)))
        (cases_lt (f + t) 64)

    clear : bit_at w (f + t) ≡ 0
    clear = let is : bit_at rest t ≡ 1 - bit_at w (f + t) = rest_bit w f t h within in omega (arith, is, lowest.1, bit_at-lt w (f + t))

    passed : (i : ℕ) → f ≤ i → i < f + t → bit_at w i ≡ 1
    passed i low high =
        let place : f + (i - f) ≡ i = omega (arith, low) in
        let is : bit_at rest (i - f) ≡ 1 - bit_at w (f + (i - f)) = rest_bit w f (i - f) h (omega (arith, low, high, within)) in
        let zero : bit_at rest (i - f) ≡ 0 = lowest.2 (i - f) (omega (arith, low, high)) in
        let own : bit_at w (f + (i - f)) ≡ bit_at w i = ap (bit_at w) place in
        omega (arith, is, zero, own, bit_at-lt w i)

-- the bit of a number by its word
pub has_bit-at : (ws : List ℕ) (k i : ℕ) → i < 64 → has_bit ws (k * 64 + i) ≡ (bit_at (get_or ws k 0) i == 1)
has_bit-at ws k i h =
    let q : (k * 64 + i) / 64 ≡ k = omega (arith, h) in
    let r : (k * 64 + i) % 64 ≡ i = omega (arith, h) in
    ap₂ (λ u v. bit (get_or ws u 0) v) q r

-- ---- members left out word by word

-- where a keeper of a word stands: the members so far, those before, and the bits that are still to go
pub record IsKeeping (n place mask gone : ℕ) (old now : List ℕ) : Type 0 where
  pub range : gone < 2 ^ 64
  pub fewer : (j : ℕ) → is_member j now ≡ true → is_member j old ≡ true
  pub kept : (j : ℕ) → is_member j old ≡ true → (j / 64 ≡ place → bit_at mask (j % 64) ≡ 1) → is_member j now ≡ true
  pub due : (i : ℕ) → i < 64 → is_member (place * 64 + i) now ≡ true → bit_at mask i ≡ 0 → bit_at gone i ≡ 1
  pub there : (i : ℕ) → i < 64 → bit_at gone i ≡ 1 → (place * 64 + i < n) × (bit_at mask i ≡ 0)

-- a word without one of its bits
pub cleared : (x t : ℕ) → x < 2 ^ 64 → t < 64 → bit_at x t ≡ 1 → (bit_and x (bit_not w64 (1 * 2 ^ t % 2 ^ 64)) < x) × (bit_at (bit_and x (bit_not w64 (1 * 2 ^ t % 2 ^ 64))) t ≡ 0) × ((i : ℕ) → i < 64 → (i ≡ t → ⊥) → bit_at (bit_and x (bit_not w64 (1 * 2 ^ t % 2 ^ 64))) i ≡ bit_at x i)
cleared x t h below one = (less, same, λ i under other. bit_at_clear_other w64 x t below i under other)
  where
    y : ℕ
    y = bit_and x (bit_not w64 (1 * 2 ^ t % 2 ^ 64))

    same : bit_at y t ≡ 0
    same = bit_at_clear_same w64 x t below

    most : y ≤ x
    most = and_le_l x (bit_not w64 (1 * 2 ^ t % 2 ^ 64))

    less : y < x
    less = ⊎_elim (λ (s : y < x). s)
        (λ (m : x ≤ y).
        let e : y ≡ x = omega (arith, m, most) in
        let f : bit_at y t ≡ bit_at x t = ap (λ q. bit_at q t) e in
        absurd (omega (arith, f, same, one)))
        (cases_lt y x)

pub keeping_starts : (n : ℕ) (ws : List ℕ) (place mask v : ℕ) → AreWords n ws → place < length ws → mask < 2 ^ 64 → v ≡ get_or ws place v → IsKeeping n place mask (bit_and v (bit_not w64 mask)) (members_of n ws) (members_of n ws)
keeping_starts n ws place mask v are h small e = record {
  range = omega (arith, and_le_l v (bit_not w64 mask), value, are.in_range place);
  fewer = λ j there. there;
  kept = λ j there _. there;
  due = λ i below there zero.
      let one : bit_at v i ≡ 1 = bit_of i below there in
      let is : bit_at (bit_and v (bit_not w64 mask)) i ≡ min (bit_at v i) (1 - bit_at mask i) = left_bit v mask i small below in
      omega (arith, is, one, zero);
  there = λ i below one.
      let is : bit_at (bit_and v (bit_not w64 mask)) i ≡ min (bit_at v i) (1 - bit_at mask i) = left_bit v mask i small below in
      let own : bit_at v i ≡ 1 = omega (arith, is, one, bit_at-lt v i) in
      (inside i below own, omega (arith, is, one));
}
  where
    value : v ≡ get_or ws place 0
    value = e ∙ get_or_default_zero ws place v h

    has_at : (i : ℕ) → i < 64 → has_bit ws (place * 64 + i) ≡ (bit_at v i == 1)
    has_at i below = has_bit-at ws place i below ∙ ap (λ q. bit_at q i == 1) (sym value)

    inside : (i : ℕ) → i < 64 → bit_at v i ≡ 1 → place * 64 + i < n
    inside i below one = ⊎_elim (λ (s : place * 64 + i < n). s)
        (λ (far : n ≤ place * 64 + i). absurd (false≢true (sym (are.clean (place * 64 + i) far) ∙ has_at i below ∙ eq-eqb (bit_at v i) 1 one)))
        (cases_lt (place * 64 + i) n)

    bit_of : (i : ℕ) → i < 64 → is_member (place * 64 + i) (members_of n ws) ≡ true → bit_at v i ≡ 1
    bit_of i below there = ⊎_elim
        (λ (s : place * 64 + i < n). eqb-true (bit_at v i) 1 (sym (has_at i below) ∙ sym (is_member-members n ws (place * 64 + i) s) ∙ there))
        (λ (far : n ≤ place * 64 + i). absurd (false≢true (sym (beyond n ws (place * 64 + i) far) ∙ there)))
        (cases_lt (place * 64 + i) n)

and_right : (a b : Bool) → (a && b) ≡ true → b ≡ true
and_right a b e = (and_parts a b e).1

pub keeping_goes_on : (n place mask gone t : ℕ) (old now : List ℕ) → IsKeeping n place mask gone old now → t < 64 → bit_at gone t ≡ 1 →
    IsKeeping n place mask (bit_and gone (bit_not w64 (1 * 2 ^ t % 2 ^ 64))) old (without (place * 64 + t) now)
keeping_goes_on n place mask gone t old now is below one = record {
  range = omega (arith, less.0, is.range);
  fewer = λ j there. is.fewer j (and_right _ _ (sym (is_member-of_filter (λ k. not (place * 64 + t == k)) now j) ∙ there));
  kept = λ j there ok. is_member-of_filter (λ k. not (place * 64 + t == k)) now j ∙ and_from _ _ (ap not (ne_eqb (place * 64 + t) j (apart j ok))) (is.kept j there ok);
  due = λ i under there zero.
      let still : is_member (place * 64 + i) now ≡ true = and_right _ _ (sym (is_member-of_filter (λ k. not (place * 64 + t == k)) now (place * 64 + i)) ∙ there) in
      less.2 i under (differs i there) ∙ is.due i under still zero;
  there = λ i under bit. is.there i under (was i under bit (cases_eq i t));
}
  where
    less : (bit_and gone (bit_not w64 (1 * 2 ^ t % 2 ^ 64)) < gone) × (bit_at (bit_and gone (bit_not w64 (1 * 2 ^ t % 2 ^ 64))) t ≡ 0) × ((i : ℕ) → i < 64 → (i ≡ t → ⊥) → bit_at (bit_and gone (bit_not w64 (1 * 2 ^ t % 2 ^ 64))) i ≡ bit_at gone i)
    less = cleared gone t is.range below one

    apart : (j : ℕ) → (j / 64 ≡ place → bit_at mask (j % 64) ≡ 1) → place * 64 + t ≡ j → ⊥
    apart j ok e =
        let q : j / 64 ≡ place = omega (arith, e, below) in
        let r : j % 64 ≡ t = omega (arith, e, below) in
        let yes : bit_at mask t ≡ 1 = ap (bit_at mask) (sym r) ∙ ok q in
        let no : bit_at mask t ≡ 0 = (is.there t below one).1 in
        omega (arith, yes, no)

    differs : (i : ℕ) → is_member (place * 64 + i) (without (place * 64 + t) now) ≡ true → i ≡ t → ⊥
    differs i there e =
        let kept : not (place * 64 + t == (place * 64 + i)) ≡ true = (and_parts _ _ (sym (is_member-of_filter (λ k. not (place * 64 + t == k)) now (place * 64 + i)) ∙ there)).0 in
        false≢true (sym (ap not (eq-eqb (place * 64 + t) (place * 64 + i) (omega (arith, e)))) ∙ kept)

    was : (i : ℕ) → i < 64 → bit_at (bit_and gone (bit_not w64 (1 * 2 ^ t % 2 ^ 64))) i ≡ 1 → (i ≡ t) ⊎ (i ≢ t) → bit_at gone i ≡ 1
    was i under bit (inl e) = ap (bit_at gone) e ∙ one
    was i under bit (inr other) = sym (less.2 i under other) ∙ bit

pub keeping_ends : (n place mask : ℕ) (old now : List ℕ) → IsKeeping n place mask 0 old now → (j : ℕ) → is_member j now ≡ true → j / 64 ≡ place → bit_at mask (j % 64) ≡ 1
keeping_ends n place mask old now is j there e = ⊎_elim
    (λ (s : bit_at mask (j % 64) < 1).
    let at : place * 64 + j % 64 ≡ j = omega (arith, e) in
    let one : bit_at 0 (j % 64) ≡ 1 = is.due (j % 64) (small j) (ap (λ k. is_member k now) at ∙ there) (omega (arith, s)) in
    let zero : bit_at 0 (j % 64) ≡ 0 = bit_at-zero (j % 64) in
    absurd (omega (arith, one, zero)))
    (λ (s : 1 ≤ bit_at mask (j % 64)). omega (arith, s, bit_at-lt mask (j % 64)))
    (cases_lt (bit_at mask (j % 64)) 1)
