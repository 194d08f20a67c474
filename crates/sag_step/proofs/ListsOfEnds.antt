-- Lists of ends, item by item: what is kept of them, and such lists beside each other.
use Rattle.std.proofs.Common.{◌≡◌, ℕ, zero, suc, ◌+◌, ◌<◌, ◌≤◌, Bool, true, false, ◌&&◌, cond, List, [], ◌∷◌, ◌++◌, length, take, drop, set, Some, slice_get, refl, ap, sym, ◌∙◌, subst, arith, All, Ordering, Less, Equal, Greater}
use Rattle.std.specs.Prelude.{nat_lt, nat_eq, ◌==◌, ◌-◌, filter, not, slice_index}
use Rattle.std.specs.List.{list_all, range_with_len}
use Rattle.std.specs.Map.{keys_of}
use Rattle.std.specs.Ordering.{nat_cmp, MatchOrdering, match_ordering}
use Rattle.std.specs.BTreeMap.{insert_entry}
use Rattle.std.specs.Cmp.Lexicographic.{pointwise}
use Rattle.std.proofs.lemmas.Bool.{and_parts, and_from, and_left, or_parts, eq-eqb, eqb-false, ltb-true, ltb-false, lt-ltb, le-ltb, ne_eqb, not-true, not-false, false≢true}
use Rattle.std.proofs.lemmas.List.{append-nil, append_assoc, length-append, drop_all, drop-set-lt, take_more_set}
use Rattle.std.proofs.lemmas.Option.{slice_get_within}
use Rattle.std.proofs.lemmas.List.Elements.{All-cons, All-head, All-nil, All-tail}
use Rattle.std.proofs.lemmas.Cmp.{ranked}
use Rattle.job_sets.specs.Subset.{Subset, IsSubset, is_member, is_rising}
use Rattle.job_sets.proofs.Additions.{same_members}
use Rattle.job_sets.proofs.Members.{list_all-member, is_member-filter, is_member-from_filter, is_member-range}
use Rattle.job_model.specs.Table.{Table}
use Rattle.sag_time.specs.Interval.{Interval, covers}
use Rattle.lists.specs.Zipped.{zip_with}
use Rattle.start_windows.specs.Ends.{is_above}
use Rattle.sag_step.specs.State.{is_tracked, tracked_jobs}
use Rattle.sag_step.specs.Next.{still_tracked}
use Rattle.sag_step.specs.Widen.{end_hull, end_covers}
use Rattle.job_sets.proofs.Filters.{is_rising-filter}
use Rattle.lists.proofs.Elements.{drop_next}

-- ---- item by item

pub key_at : (es : List (ℕ × Interval)) (i : ℕ) (e : ℕ × Interval) → slice_get es i ≡ Some e → slice_index (keys_of es) i ≡ e.0
key_at [] i e here = cc
key_at (d ∷ ds) zero e here = let same : d ≡ e = cc in ap (λ (x : ℕ × Interval). x.0) same
key_at (d ∷ ds) (suc i) e here = key_at ds i e here

-- ---- rising numbers

-- in a rising list each number is above those before it
before_is_above : (xs : List ℕ) (y : ℕ) (zs : List ℕ) → is_rising (xs ++ y ∷ zs) ≡ true → list_all (λ x. nat_lt x y) xs ≡ true
before_is_above [] y zs rising = refl
before_is_above (x ∷ xs) y zs rising =
    let parts = and_parts (list_all (nat_lt x) (xs ++ y ∷ zs)) (is_rising (xs ++ y ∷ zs)) rising in
    and_from (nat_lt x y) (list_all (λ x. nat_lt x y) xs) (middle (nat_lt x) xs y zs parts.0) (before_is_above xs y zs parts.1)
  where
    middle : (p : ℕ → Bool) (xs : List ℕ) (y : ℕ) (zs : List ℕ) → list_all p (xs ++ y ∷ zs) ≡ true → p y ≡ true
    middle p [] y zs all = (and_parts (p y) (list_all p zs) all).0
    middle p (x ∷ xs) y zs all = middle p xs y zs (and_parts (p x) (list_all p (xs ++ y ∷ zs)) all).1

keys_of-append : (es fs : List (ℕ × Interval)) → keys_of (es ++ fs) ≡ keys_of es ++ keys_of fs
keys_of-append [] fs = refl
keys_of-append (e ∷ es) fs = ap (λ ks. e.0 ∷ ks) (keys_of-append es fs)

-- what comes next of a rising list is above what is there
pub is_above-next : (done : List (ℕ × Interval)) (e : ℕ × Interval) (rest whole : List (ℕ × Interval)) → done ++ e ∷ rest ≡ whole → is_rising (keys_of whole) ≡ true → is_above e.0 done ≡ true
is_above-next done e rest whole is rising =
    before_is_above (keys_of done) e.0 (keys_of rest) (ap is_rising (sym (keys_of-append done (e ∷ rest)) ∙ ap keys_of is) ∙ rising)

pub room-next : {X : Type 0} (done : List X) (x : X) (rest whole : List X) → done ++ x ∷ rest ≡ whole → length done < length whole
room-next done x rest whole is = omega (arith, ap length is, length-append done (x ∷ rest))

-- the item at a place has gone over
pub whole_next : {X : Type 0} (done xs whole : List X) (i : ℕ) (x : X) → slice_get xs i ≡ Some x → done ++ drop i xs ≡ whole → (done ++ x ∷ []) ++ drop (i + 1) xs ≡ whole
whole_next done xs whole i x here is = append_assoc done (x ∷ []) (drop (i + 1) xs) ∙ ap (λ ys. done ++ ys) (sym (drop_next xs i x here)) ∙ is

-- ---- what is kept

module _ (table : Table) (set : List ℕ) where
  abbrev still : List (ℕ × Interval) → List (ℕ × Interval)
  still = still_tracked table set

  still-first : (e : ℕ × Interval) (rest : List (ℕ × Interval)) → still (e ∷ []) ++ still rest ≡ still (e ∷ rest)
  still-first e rest =
      elim (is_tracked table set e.0) as (λ b. cond b (e ∷ []) [] ++ still rest ≡ cond b (e ∷ still rest) (still rest)) [ true ↦ refl | false ↦ refl ]

  still-tracked : (e : ℕ × Interval) (rest : List (ℕ × Interval)) → is_tracked table set e.0 ≡ true → still (e ∷ rest) ≡ e ∷ still rest
  still-tracked e rest tracked = ap (λ b. cond b (e ∷ still rest) (still rest)) tracked

  -- the next item, where the whole rises
  module _ (done : List (ℕ × Interval)) (e : ℕ × Interval) (rest whole : List (ℕ × Interval)) (is : done ++ still_tracked table set (e ∷ rest) ≡ whole) where
    pub kept-above : is_rising (keys_of whole) ≡ true → is_tracked table set e.0 ≡ true → is_above e.0 done ≡ true
    kept-above rising tracked = is_above-next done e (still rest) whole (ap (λ es. done ++ es) (sym (still-tracked e rest tracked)) ∙ is) rising

    pub kept-room : is_tracked table set e.0 ≡ true → length done < length whole
    kept-room tracked = room-next done e (still rest) whole (ap (λ es. done ++ es) (sym (still-tracked e rest tracked)) ∙ is)

    pub kept-next : (done ++ still_tracked table set (e ∷ [])) ++ still_tracked table set rest ≡ whole
    kept-next = append_assoc done (still (e ∷ [])) (still rest) ∙ ap (λ es. done ++ es) (still-first e rest) ∙ is

  pub length-still : (es : List (ℕ × Interval)) → length (still_tracked table set es) ≤ length es
  length-still [] = omega arith
  length-still (e ∷ es) =
      let rest = length-still es in
      elim (is_tracked table set e.0) as (λ b. length (cond b (e ∷ still es) (still es)) ≤ suc (length es)) [ true ↦ omega (arith, rest) | false ↦ omega (arith, rest) ]

length-insert_entry : (es : List (ℕ × Interval)) (j : ℕ) (v : Interval) → length (insert_entry nat_cmp es j v) ≤ length es + 1
length-insert_entry [] j v = omega arith
length-insert_entry (e ∷ es) j v =
    let rest = length-insert_entry es j v in
    elim (nat_cmp j e.0) as (λ o. length (match_ordering o ((j, v) ∷ e ∷ es) ((e.0, v) ∷ es) (e ∷ insert_entry nat_cmp es j v)) ≤ length (e ∷ es) + 1) [
      | Less ↦ omega arith
      | Equal ↦ omega arith
      | Greater ↦ omega (arith, rest)
    ]

pub length-kept : (table : Table) (set : List ℕ) (es : List (ℕ × Interval)) (j : ℕ) (v : Interval) → length (still_tracked table set (insert_entry nat_cmp es j v)) ≤ length es + 1
length-kept table set es j v = omega (arith, length-still table set (insert_entry nat_cmp es j v), length-insert_entry es j v)

insert_entry-before : (e : ℕ × Interval) (es : List (ℕ × Interval)) (j : ℕ) (v : Interval) → j < e.0 → insert_entry nat_cmp (e ∷ es) j v ≡ (j, v) ∷ e ∷ es
insert_entry-before e es j v less =
    ap (λ b. match_ordering (cond b Less (cond (j == e.0) Equal Greater)) ((j, v) ∷ e ∷ es) ((e.0, v) ∷ es) (e ∷ insert_entry nat_cmp es j v)) (lt-ltb j e.0 less)

insert_entry-after : (e : ℕ × Interval) (es : List (ℕ × Interval)) (j : ℕ) (v : Interval) → e.0 < j → insert_entry nat_cmp (e ∷ es) j v ≡ e ∷ insert_entry nat_cmp es j v
insert_entry-after e es j v less =
    ap (λ b. match_ordering (cond b Less (cond (j == e.0) Equal Greater)) ((j, v) ∷ e ∷ es) ((e.0, v) ∷ es) (e ∷ insert_entry nat_cmp es j v)) (le-ltb j e.0 (omega (arith, less)))
    ∙ ap (λ c. match_ordering (cond c Equal Greater) ((j, v) ∷ e ∷ es) ((e.0, v) ∷ es) (e ∷ insert_entry nat_cmp es j v)) (ne_eqb j e.0 (λ same. omega (arith, less, same)))

-- the entry in its place, where each entry and the new one has the property
pub All-insert_entry : (P : ℕ × Interval → Type 0) (es : List (ℕ × Interval)) (k : ℕ) (v : Interval) → All P es → P (k, v) → All P (insert_entry nat_cmp es k v)
All-insert_entry P [] k v all new = All-cons P (k, v) [] new (All-nil P)
All-insert_entry P (e ∷ es) k v all new =
    at (nat_cmp k e.0) (ranked k e.0 (nat_cmp k e.0) refl) (All-head P e es all) (All-tail P e es all) (All-insert_entry P es k v (All-tail P e es all) new)
  where
    at : (o : Ordering) → MatchOrdering o (k < e.0) (k ≡ e.0) (e.0 < k) → P e → All P es → All P (insert_entry nat_cmp es k v) →
        All P (match_ordering o ((k, v) ∷ e ∷ es) ((e.0, v) ∷ es) (e ∷ insert_entry nat_cmp es k v))
    at Less is first others rest = All-cons P (k, v) (e ∷ es) new (All-cons P e es first others)
    at Equal is first others rest = All-cons P (e.0, v) es (subst (λ n. P (n, v)) is new) others
    at Greater is first others rest = All-cons P e (insert_entry nat_cmp es k v) first rest

-- ---- two lists of the same jobs

module _ (es fs : List (ℕ × Interval)) (i : ℕ) (e f : ℕ × Interval) (here : slice_get es i ≡ Some e) (fellow : slice_get fs i ≡ Some f) (same : keys_of (drop i es) ≡ keys_of (drop i fs)) where
  both : e.0 ∷ keys_of (drop (i + 1) es) ≡ f.0 ∷ keys_of (drop (i + 1) fs)
  both = ap keys_of (sym (drop_next es i e here)) ∙ same ∙ ap keys_of (drop_next fs i f fellow)

  one_job : e.0 ≡ f.0
  one_job = let h : e.0 ∷ keys_of (drop (i + 1) es) ≡ f.0 ∷ keys_of (drop (i + 1) fs) = both in cc

  pub same_rest : keys_of (drop (i + 1) es) ≡ keys_of (drop (i + 1) fs)
  same_rest = let h : e.0 ∷ keys_of (drop (i + 1) es) ≡ f.0 ∷ keys_of (drop (i + 1) fs) = both in cc

  pub covers_next : pointwise end_covers (drop i es) (drop i fs) ≡ (covers e.1 f.1 && pointwise end_covers (drop (i + 1) es) (drop (i + 1) fs))
  covers_next =
      (λ k. pointwise end_covers (drop_next es i e here k) (drop_next fs i f fellow k))
      ∙ ap (λ b. (b && covers e.1 f.1) && pointwise end_covers (drop (i + 1) es) (drop (i + 1) fs)) (eq-eqb e.0 f.0 one_job)

  hull_next : zip_with end_hull (drop i es) (drop i fs) ≡ end_hull e f ∷ zip_with end_hull (drop (i + 1) es) (drop (i + 1) fs)
  hull_next = λ k. zip_with end_hull (drop_next es i e here k) (drop_next fs i f fellow k)

  -- the item at the place becomes the hull
  pub widened_next : (whole : List (ℕ × Interval)) → take i es ++ zip_with end_hull (drop i es) (drop i fs) ≡ whole →
      take (i + 1) (set es i (end_hull e f)) ++ zip_with end_hull (drop (i + 1) (set es i (end_hull e f))) (drop (i + 1) fs) ≡ whole
  widened_next whole is =
      let below : i < length es = slice_get_within es i e here in
      let rest : drop (i + 1) (set es i (end_hull e f)) ≡ drop (i + 1) es = drop-set-lt (i + 1) es i (end_hull e f) (omega arith) in
      (λ k. take_more_set es i (end_hull e f) below k ++ zip_with end_hull (rest k) (drop (i + 1) fs))
      ∙ append_assoc (take i es) (end_hull e f ∷ []) (zip_with end_hull (drop (i + 1) es) (drop (i + 1) fs))
      ∙ ap (λ xs. take i es ++ xs) (sym hull_next) ∙ is

-- ---- the job that waits for its place

module _ (table : Table) (set : List ℕ) (from : List (ℕ × Interval)) (j : ℕ) (v : Interval) where
  -- what is left to be kept: the items from a place on, with job j among them while it waits
  abbrev pub left_from : ℕ → Bool → List (ℕ × Interval)
  left_from i waits = cond waits (insert_entry nat_cmp (drop i from) j v) (drop i from)

  module _ (i : ℕ) (e : ℕ × Interval) (here : slice_get from i ≡ Some e) where
    pub new_rest : is_member j (keys_of (drop i from)) ≡ false → is_member j (keys_of (drop (i + 1) from)) ≡ false
    new_rest new = (or_parts (e.0 == j) (is_member j (keys_of (drop (i + 1) from))) (ap (λ xs. is_member j (keys_of xs)) (sym (drop_next from i e here)) ∙ new)).1

    left-after : (waits : Bool) → (waits && not (nat_lt e.0 j)) ≡ false → left_from i waits ≡ e ∷ left_from (i + 1) (waits && nat_lt e.0 j)
    left-after false later = drop_next from i e here
    left-after true later =
        let less = not-false (nat_lt e.0 j) later in
        ap (λ xs. insert_entry nat_cmp xs j v) (drop_next from i e here) ∙ insert_entry-after e (drop (i + 1) from) j v (ltb-true e.0 j less)
        ∙ ap (λ b. e ∷ left_from (i + 1) b) (sym less)

    left-before : (waits : Bool) → is_member j (keys_of (drop i from)) ≡ false → (waits && not (nat_lt e.0 j)) ≡ true → left_from i waits ≡ (j, v) ∷ e ∷ left_from (i + 1) (waits && nat_lt e.0 j)
    left-before false new first = absurd (false≢true first)
    left-before true new first =
        let not_less = not-true (nat_lt e.0 j) first in
        let parts = or_parts (e.0 == j) (is_member j (keys_of (drop (i + 1) from))) (ap (λ xs. is_member j (keys_of xs)) (sym (drop_next from i e here)) ∙ new) in
        let less : j < e.0 = omega (arith, ltb-false e.0 j not_less, eqb-false e.0 j parts.0) in
        ap (λ xs. insert_entry nat_cmp xs j v) (drop_next from i e here) ∙ insert_entry-before e (drop (i + 1) from) j v less
        ∙ ap (λ b. (j, v) ∷ e ∷ left_from (i + 1) b) (sym not_less)

    module _ (done whole : List (ℕ × Interval)) (waits : Bool) (new : is_member j (keys_of (drop i from)) ≡ false) (is : done ++ still_tracked table set (left_from i waits) ≡ whole) where
      -- where job j comes first
      pub first_left : (waits && not (nat_lt e.0 j)) ≡ true → done ++ still_tracked table set ((j, v) ∷ e ∷ left_from (i + 1) (waits && nat_lt e.0 j)) ≡ whole
      first_left first = ap (λ xs. done ++ still_tracked table set xs) (sym (left-before waits new first)) ∙ is

      -- once it is kept, if it comes first
      pub then_left :
          (done ++ cond (waits && not (nat_lt e.0 j)) (still_tracked table set ((j, v) ∷ [])) []) ++ still_tracked table set (e ∷ left_from (i + 1) (waits && nat_lt e.0 j)) ≡ whole
      then_left = at (waits && not (nat_lt e.0 j)) refl
        where
          at : (b : Bool) → (waits && not (nat_lt e.0 j)) ≡ b → (done ++ cond b (still_tracked table set ((j, v) ∷ [])) []) ++ still_tracked table set (e ∷ left_from (i + 1) (waits && nat_lt e.0 j)) ≡ whole
          at true first = kept-next table set done (j, v) (e ∷ left_from (i + 1) (waits && nat_lt e.0 j)) whole (first_left first)
          at false later =
              ap (λ xs. xs ++ still_tracked table set (e ∷ left_from (i + 1) (waits && nat_lt e.0 j))) (append-nil done)
              ∙ ap (λ xs. done ++ still_tracked table set xs) (sym (left-after waits later)) ∙ is

  -- at the end, where job j still waits
  pub last_left : (i : ℕ) (done whole : List (ℕ × Interval)) (waits : Bool) → waits ≡ true → length from ≤ i → done ++ still_tracked table set (left_from i waits) ≡ whole →
      done ++ still_tracked table set ((j, v) ∷ []) ≡ whole
  last_left i done whole waits still_waits past is =
      ap (λ xs. done ++ still_tracked table set (insert_entry nat_cmp xs j v)) (sym (drop_all i from past))
      ∙ ap (λ b. done ++ still_tracked table set (left_from i b)) (sym still_waits) ∙ is

-- ---- the tracked jobs, one after another

module _ (table : Table) (set : List ℕ) where
  abbrev pub is_tracked_member : ℕ → Bool
  is_tracked_member j = is_member j set && is_tracked table set j

  -- from a job on
  abbrev pub tracked_from : ℕ → ℕ → List ℕ
  tracked_from j n = filter is_tracked_member (range_with_len j (n - j))

  tracked_next : (j n : ℕ) → j < n → tracked_from j n ≡ cond (is_tracked_member j) (j ∷ tracked_from (j + 1) n) (tracked_from (j + 1) n)
  tracked_next j n below = let more : n - j ≡ suc (n - (j + 1)) = omega (arith, below) in ap (λ k. filter is_tracked_member (range_with_len j k)) more

  pub no_match : (es : List (ℕ × Interval)) (i j : ℕ) (rest : List ℕ) → (slice_get (keys_of es) i ≡ Some j → ⊥) → pointwise nat_eq (keys_of (drop i es)) (j ∷ rest) ≡ false
  no_match [] zero j rest missing = refl
  no_match [] (suc i) j rest missing = refl
  no_match (e ∷ es) zero j rest missing = and_left (e.0 == j) (pointwise nat_eq (keys_of es) rest) (ne_eqb e.0 j (λ same. missing (ap Some same)))
  no_match (e ∷ es) (suc i) j rest missing = no_match es i j rest missing

  pub match : (es : List (ℕ × Interval)) (i j : ℕ) (rest : List ℕ) → slice_get (keys_of es) i ≡ Some j →
      (i < length es) × (pointwise nat_eq (keys_of (drop i es)) (j ∷ rest) ≡ pointwise nat_eq (keys_of (drop (suc i) es)) rest)
  match [] i j rest here = cc
  match (e ∷ es) zero j rest here = let same : e.0 ≡ j = cc in (omega arith, ap (λ b. b && pointwise nat_eq (keys_of es) rest) (eq-eqb e.0 j same))
  match (e ∷ es) (suc i) j rest here = let more = match es i j rest here in (omega (arith, more.0), more.1)

  module _ (es : List (ℕ × Interval)) (i j n : ℕ) (below : j < n) where
    -- a tracked job that is not listed
    pub unlisted : is_tracked_member j ≡ true → (slice_get (keys_of es) i ≡ Some j → ⊥) → pointwise nat_eq (keys_of (drop i es)) (tracked_from j n) ≡ false
    unlisted tracked missing =
        ap (pointwise nat_eq (keys_of (drop i es))) (tracked_next j n below ∙ ap (λ b. cond b (j ∷ tracked_from (j + 1) n) (tracked_from (j + 1) n)) tracked)
        ∙ no_match es i j (tracked_from (j + 1) n) missing

    -- one that is
    pub listed : is_tracked_member j ≡ true → slice_get (keys_of es) i ≡ Some j →
        (i + 1 ≤ length es) × (pointwise nat_eq (keys_of (drop i es)) (tracked_from j n) ≡ pointwise nat_eq (keys_of (drop (i + 1) es)) (tracked_from (j + 1) n))
    listed tracked here =
        let found = match es i j (tracked_from (j + 1) n) here in
        let next : suc i ≡ i + 1 = omega arith in (
          omega (arith, found.0),
          ap (pointwise nat_eq (keys_of (drop i es))) (tracked_next j n below ∙ ap (λ b. cond b (j ∷ tracked_from (j + 1) n) (tracked_from (j + 1) n)) tracked)
              ∙ found.1 ∙ ap (λ k. pointwise nat_eq (keys_of (drop k es)) (tracked_from (j + 1) n)) next,
        )

    pub untracked : is_tracked_member j ≡ false → pointwise nat_eq (keys_of (drop i es)) (tracked_from j n) ≡ pointwise nat_eq (keys_of (drop i es)) (tracked_from (j + 1) n)
    untracked not_tracked =
        ap (pointwise nat_eq (keys_of (drop i es))) (tracked_next j n below ∙ ap (λ b. cond b (j ∷ tracked_from (j + 1) n) (tracked_from (j + 1) n)) not_tracked)

pub is_rising-range : (a n : ℕ) → is_rising (range_with_len a n) ≡ true
is_rising-range a zero = refl
is_rising-range a (suc n) = and_from (list_all (nat_lt a) (range_with_len (a + 1) n)) (is_rising (range_with_len (a + 1) n)) (above (a + 1) n (omega arith)) (is_rising-range (a + 1) n)
  where
    above : (b n : ℕ) → a < b → list_all (nat_lt a) (range_with_len b n) ≡ true
    above b zero less = refl
    above b (suc n) less = and_from (nat_lt a b) (list_all (nat_lt a) (range_with_len (b + 1) n)) (lt-ltb a b less) (above (b + 1) n (omega (arith, less)))

-- the members of a set that pass, and the numbers below its size that are members and pass
pub tracked_from_zero : (table : Table) (s : Subset) → IsSubset s → tracked_jobs table s.members ≡ tracked_from table s.members 0 s.size
tracked_from_zero table s is =
    let p : ℕ → Bool = is_tracked table s.members in
    let q : ℕ → Bool = is_tracked_member table s.members in
    let count : s.size ≡ s.size - 0 = omega arith in
    same_members (filter p s.members) (filter q (range_with_len 0 s.size))
    (is_rising-filter p s.members is.rising) (is_rising-filter q (range_with_len 0 s.size) (is_rising-range 0 s.size))
    (λ k. same_answer (is_member k (filter p s.members)) (is_member k (filter q (range_with_len 0 s.size)))
    (λ there.
    let found = is_member-from_filter p s.members k there in
    let below : k < s.size = ltb-true k s.size (list_all-member (λ j. nat_lt j s.size) s.members k is.in_range found.1) in
    is_member-filter q (range_with_len 0 s.size) k (and_from (is_member k s.members) (p k) found.1 found.0) (is_member-range 0 s.size k (omega arith) (omega (arith, below))))
    (λ there.
    let found = and_parts (is_member k s.members) (p k) (is_member-from_filter q (range_with_len 0 s.size) k there).0 in
    is_member-filter p s.members k found.1 found.0))
    ∙ ap (λ n. filter q (range_with_len 0 n)) count
  where
    same_answer : (a b : Bool) → (a ≡ true → b ≡ true) → (b ≡ true → a ≡ true) → a ≡ b
    same_answer true b to from = sym (to refl)
    same_answer false true to from = from refl
    same_answer false false to from = refl
