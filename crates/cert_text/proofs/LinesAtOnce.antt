-- Whole edge and state lines, from their parts.
use Rattle.std.proofs.Common.{◌≡◌, ℕ, zero, suc, ◌+◌, ◌-◌, ◌<◌, ◌&&◌, nat_lt, Bool, true, false, List, [], ◌∷◌, ◌++◌, length, get_or}
use Rattle.std.proofs.Common.{take, drop, refl, sym, ap, subst, ◌∙◌, arith, codes, add-one, Ok}
use Rattle.std.proofs.Math.Seq.{take-add, take-suc}
use Rattle.std.specs.Prelude.{nat_eq}
use Rattle.std.specs.Cmp.Lexicographic.{pointwise}
use Rattle.std.specs.List.{starts_with}
use Rattle.std.proofs.lemmas.Bool.{eqb-true, lt-ltb}
use Rattle.std.proofs.lemmas.List.{take_all, length-drop}
use Rattle.cert_text.specs.declared.grammar.Grammar.{Grammar}
use Rattle.cert_text.specs.declared.line.Pair.{Pair}
use Rattle.cert_text.specs.declared.line.EndOf.{EndOf}
use Rattle.cert_text.specs.declared.line.CertLine.{CertLine}
use Rattle.cert_text.specs.declared.line.CertLine.TheVariants as line
use Rattle.cert_text.specs.declared.spot.Standing.{Standing}
use Rattle.cert_text.specs.declared.spot.Standing.TheVariants as standing
use Rattle.cert_text.specs.declared.spot.Draft.{Draft}
use Rattle.cert_text.specs.declared.spot.NumberAt.TheVariants as place
use Rattle.cert_text.specs.declared.spot.Spot.{Spot}
use Rattle.cert_text.specs.declared.spot.Spot.TheVariants as spot
use Rattle.cert_text.specs.Machine.{no_items, Step, On, Whole, is_digit, after_last, byte_step, byte_steps}
use Rattle.cert_text.specs.declared.feed.PieceEnd.{PieceEnd}
use Rattle.cert_text.specs.declared.feed.PieceEnd.TheVariants as piece_end
use Rattle.cert_text.specs.Kept.{DigitsLead, KeptSpot, TakesPiece}
use Rattle.cert_text.specs.WholeLines.{MayBegin, ReadsNumber, ReadsField, state_draft, ReadsPairs, ReadsEnds, ReadsLast, IsWholeLine}
use Rattle.cert_text.proofs.Digits.{chain, steps-append}
use Rattle.cert_text.proofs.SpellingsTaken.{bar_no_digit}
use Rattle.cert_text.proofs.Pieces.{one_more}

-- a line takes a byte at least
pub some_taken : (g : Grammar) (piece : List ℕ) (n : ℕ) (l : CertLine) → byte_steps g standing.Inside (On no_items spot.Start) (take n piece) ≡ Whole l → 0 < n
some_taken g piece zero l h = absurd cc
some_taken g piece (suc n) l h = omega arith

both_true : (x y : Bool) → (x && y) ≡ true → (x ≡ true) × (y ≡ true)
both_true true true h = (refl, refl)
both_true true false h = absurd cc
both_true false y h = absurd cc

same_items : (xs ys : List ℕ) → pointwise nat_eq xs ys ≡ true → xs ≡ ys
same_items [] [] h = refl
same_items [] (y ∷ ys) h = absurd cc
same_items (x ∷ xs) [] h = absurd cc
same_items (x ∷ xs) (y ∷ ys) h =
    let r = both_true (nat_eq x y) (pointwise nat_eq xs ys) h in
    ap (λ (n : ℕ). n ∷ xs) (eqb-true x y r.0) ∙ ap (λ (zs : List ℕ). y ∷ zs) (same_items xs ys r.1)

-- a piece that starts with a word
pub begins : (word piece : List ℕ) (r : Bool) → r ≡ starts_with nat_eq piece word → r ≡ true → take (length word) piece ≡ word
begins word piece r e t = sym (same_items word (take (length word) piece) (sym e ∙ t))

-- ---- numbers

pub reads_number : (piece : List ℕ) (from count n : ℕ) → from < length piece → is_digit (get_or piece from 0) ≡ true
    → DigitsLead (get_or piece from 0 - 48) (take count (take (length piece - (from + 1)) (drop (from + 1) piece))) n → ReadsNumber piece from (from + 1 + count) n
reads_number piece from count n lt digit leads = λ g s now d gap p may before.
    let b = get_or piece from 0 in
    let begun = On d (spot.Digits p (b - 48)) in
    let all : take (length piece - (from + 1)) (drop (from + 1) piece) ≡ drop (from + 1) piece =
    take_all (length piece - (from + 1)) (drop (from + 1) piece) (omega (arith, length-drop (from + 1) piece)) in
    let first : byte_step g s d gap b ≡ begun = may b digit ∙ rw digit refl in
    let rest : byte_steps g s begun (take count (drop (from + 1) piece)) ≡ On d (spot.Digits p n) =
    subst (λ (xs : List ℕ). byte_steps g s begun (take count xs) ≡ On d (spot.Digits p n)) all (leads g s d p) in
    ap (λ (xs : List ℕ). byte_steps g s now xs) (take-add (from + 1) count piece)
    ∙ chain g s now begun (On d (spot.Digits p n)) (take (from + 1) piece) (take count (drop (from + 1) piece)) (one_more g s now piece from d gap begun lt before first) rest

pub reads_field : (piece : List ℕ) (from to after n : ℕ) → to < length piece → get_or piece to 0 ≡ after → ReadsNumber piece from to n → ReadsField piece from (to + 1) after n
reads_field piece from to after n lt e reads = λ g s now d gap p may before.
    one_more g s now piece to d (spot.Digits p n) (byte_step g s d (spot.Digits p n) after) lt (reads g s now d gap p may before) (ap (byte_step g s d (spot.Digits p n)) e)

-- ---- an edge line

pub edge_whole : (g : Grammar) (piece : List ℕ) (a b c d e from job est lst to : ℕ) → take 5 piece ≡ codes "edge "
    → ReadsField piece 5 a 32 from → ReadsField piece a b 32 job → ReadsField piece b c 32 est → ReadsField piece c d 32 lst → ReadsField piece d e 10 to
    → byte_steps g standing.Inside (On no_items spot.Start) (take e piece) ≡ Whole (line.Edge from job est lst to)
edge_whole g piece a b c d e from job est lst to word r1 r2 r3 r4 r5 =
    let s = standing.Inside in
    let now = On no_items spot.Start in
    let h0 : byte_steps g s now (take 5 piece) ≡ On no_items (spot.Due place.EdgeFrom) = ap (λ (xs : List ℕ). byte_steps g s now xs) word in
    let h1 = r1 g s now no_items (spot.Due place.EdgeFrom) place.EdgeFrom (λ x i. refl) h0 in
    let h2 = r2 g s now no_items (spot.Due (place.EdgeJob from)) (place.EdgeJob from) (λ x i. refl) h1 in
    let h3 = r3 g s now no_items (spot.Due (place.EdgeEst from job)) (place.EdgeEst from job) (λ x i. refl) h2 in
    let h4 = r4 g s now no_items (spot.Due (place.EdgeLst from job est)) (place.EdgeLst from job est) (λ x i. refl) h3 in
    r5 g s now no_items (spot.Due (place.EdgeTo from job est lst)) (place.EdgeTo from job est lst) (λ x i. refl) h4

-- ---- the pairs of a state line

-- before the next pair
abbrev pub pair_gap : ℕ → ℕ → List Pair → Spot
pair_gap parent job [] = spot.Due (place.PairLo parent job)
pair_gap parent job (p ∷ ps) = spot.PairGap parent job

-- the pairs so far, and the space behind each
abbrev pub PairsSoFar : Grammar → List ℕ → ℕ → ℕ → List Pair → Type 0
PairsSoFar g piece from to pairs =
    (s : Standing) (now : Step) (parent job : ℕ) → byte_steps g s now (take from piece) ≡ On no_items (spot.Due (place.PairLo parent job))
    → byte_steps g s now (take to piece) ≡ On (state_draft pairs [] []) (pair_gap parent job pairs)

pair_may : (g : Grammar) (s : Standing) (parent job : ℕ) (ps : List Pair) → length ps < g.most_pairs
    → MayBegin g s (state_draft ps [] []) (pair_gap parent job ps) (place.PairLo parent job)
pair_may g s parent job [] lt = λ b h. refl
pair_may g s parent job (p ∷ ps) lt = λ b h.
    let e = bar_no_digit b h in
    let r : nat_lt (length (p ∷ ps)) g.most_pairs ≡ true = lt-ltb _ _ lt in
    rw (e, r) refl

gap_behind : (parent job : ℕ) (ps : List Pair) (p : Pair) → pair_gap parent job (ps ++ p ∷ []) ≡ spot.PairGap parent job
gap_behind parent job [] p = refl
gap_behind parent job (q ∷ ps) p = refl

pair_behind : (g : Grammar) (piece : List ℕ) (from at mid to lo hi : ℕ) (ps : List Pair) → length ps < g.most_pairs → PairsSoFar g piece from at ps
    → ReadsField piece at mid 58 lo → ReadsField piece mid to 32 hi
    → (s : Standing) (now : Step) (parent job : ℕ) → byte_steps g s now (take from piece) ≡ On no_items (spot.Due (place.PairLo parent job))
    → byte_steps g s now (take to piece) ≡ On (state_draft (ps ++ record { lo = lo; hi = hi } ∷ []) [] []) (spot.PairGap parent job)
pair_behind g piece from at mid to lo hi ps few so r1 r2 s now parent job before =
    let d = state_draft ps [] [] in
    let h1 = r1 g s now d (pair_gap parent job ps) (place.PairLo parent job) (pair_may g s parent job ps few) (so s now parent job before) in
    r2 g s now d (spot.Due (place.PairHi parent job lo)) (place.PairHi parent job lo) (λ b i. refl) h1

pub pairs_on : (g : Grammar) (piece : List ℕ) (from at mid to lo hi : ℕ) (ps : List Pair) → length ps < g.most_pairs → PairsSoFar g piece from at ps
    → ReadsField piece at mid 58 lo → ReadsField piece mid to 32 hi → PairsSoFar g piece from to (ps ++ record { lo = lo; hi = hi } ∷ [])
pairs_on g piece from at mid to lo hi ps few so r1 r2 = λ s now parent job before.
    let p : Pair = record { lo = lo; hi = hi } in
    pair_behind g piece from at mid to lo hi ps few so r1 r2 s now parent job before ∙ ap (On (state_draft (ps ++ p ∷ []) [] [])) (sym (gap_behind parent job ps p))

pub pairs_end : (g : Grammar) (piece : List ℕ) (from at mid to lo hi : ℕ) (ps : List Pair) → length ps < g.most_pairs → PairsSoFar g piece from at ps
    → ReadsField piece at mid 58 lo → ReadsField piece mid to 32 hi → to < length piece → get_or piece to 0 ≡ 124
    → ReadsPairs g piece from (to + 1) (ps ++ record { lo = lo; hi = hi } ∷ [])
pairs_end g piece from at mid to lo hi ps few so r1 r2 lt bar = λ s now parent job before.
    let d = state_draft (ps ++ record { lo = lo; hi = hi } ∷ []) [] [] in
    one_more g s now piece to d (spot.PairGap parent job) (On d (spot.Barred parent job)) lt (pair_behind g piece from at mid to lo hi ps few so r1 r2 s now parent job before)
    (ap (byte_step g s d (spot.PairGap parent job)) bar)

-- ---- the ends of a state line

-- the ends so far, and the space behind each
abbrev pub EndsSoFar : Grammar → List ℕ → ℕ → ℕ → List EndOf → Type 0
EndsSoFar g piece from to ends =
    (s : Standing) (now : Step) (pairs : List Pair) (parent job : ℕ)
    → byte_steps g s now (take from piece) ≡ On (state_draft pairs [] []) (spot.Barred parent job)
    → byte_steps g s now (take to piece) ≡ On (state_draft pairs ends []) (spot.EndGap parent job)

pub ends_begin : (g : Grammar) (piece : List ℕ) (from : ℕ) → g.has_last ≡ true → from < length piece → get_or piece from 0 ≡ 32 → EndsSoFar g piece from (from + 1) []
ends_begin g piece from has lt space = λ s now pairs parent job before.
    let d = state_draft pairs [] [] in
    one_more g s now piece from d (spot.Barred parent job) (On d (spot.EndGap parent job)) lt before (ap (byte_step g s d (spot.Barred parent job)) space ∙ rw has refl)

pub ends_on : (g : Grammar) (piece : List ℕ) (from at a b to job lo hi : ℕ) (es : List EndOf) → g.has_last ≡ true → length es < g.most_items → EndsSoFar g piece from at es
    → ReadsField piece at a 58 job → ReadsField piece a b 58 lo → ReadsField piece b to 32 hi → EndsSoFar g piece from to (es ++ record { job = job; lo = lo; hi = hi } ∷ [])
ends_on g piece from at a b to of lo hi es has few so r1 r2 r3 = λ s now pairs parent job before.
    let d = state_draft pairs es [] in
    let room : nat_lt (length es) g.most_items ≡ true = lt-ltb _ _ few in
    let may : MayBegin g s d (spot.EndGap parent job) (place.EndJob parent job) = λ x i. let e = bar_no_digit x i in rw (e, room) refl in
    let h1 = r1 g s now d (spot.EndGap parent job) (place.EndJob parent job) may (so s now pairs parent job before) in
    let h2 = r2 g s now d (spot.Due (place.EndLo parent job of)) (place.EndLo parent job of) (λ x i. refl) h1 in
    let h3 = r3 g s now d (spot.Due (place.EndHi parent job of lo)) (place.EndHi parent job of lo) (λ x i. refl) h2 in
    h3 ∙ rw has refl

pub ends_end : (g : Grammar) (piece : List ℕ) (from at : ℕ) (es : List EndOf) → EndsSoFar g piece from at es → at < length piece → get_or piece at 0 ≡ 124 → ReadsEnds g piece from (at + 1) es
ends_end g piece from at es so lt bar = λ s now pairs parent job before.
    let d = state_draft pairs es [] in
    one_more g s now piece at d (spot.EndGap parent job) (On d (spot.Closed parent job)) lt (so s now pairs parent job before) (ap (byte_step g s d (spot.EndGap parent job)) bar)

-- ---- the last jobs of a state line

one_byte : (g : Grammar) (s : Standing) (now : Step) (piece : List ℕ) (i b : ℕ) → i < length piece → get_or piece i 0 ≡ b
    → byte_steps g s now (take (i + 1) piece) ≡ byte_steps g s (byte_steps g s now (take i piece)) (b ∷ [])
one_byte g s now piece i b lt e =
    rw (add-one, take-suc piece i 0 lt) (steps-append g s now (take i piece) (get_or piece i 0 ∷ [])
    ∙ ap (λ (c : ℕ). byte_steps g s (byte_steps g s now (take i piece)) (c ∷ [])) e)

-- the last jobs so far, each still without the byte behind it
abbrev pub LastSoFar : Grammar → List ℕ → ℕ → ℕ → List ℕ → Type 0
LastSoFar g piece from to last =
    (s : Standing) (now : Step) (pairs : List Pair) (ends : List EndOf) (parent job : ℕ)
    → byte_steps g s now (take from piece) ≡ On (state_draft pairs ends []) (spot.Closed parent job)
    → (b : ℕ) → is_digit b ≡ false → byte_steps g s (byte_steps g s now (take to piece)) (b ∷ []) ≡ after_last g (state_draft pairs ends last) parent job b

pub last_begin : (g : Grammar) (piece : List ℕ) (from : ℕ) → LastSoFar g piece from from []
last_begin g piece from = λ s now pairs ends parent job before b h. ap (λ (m : Step). byte_steps g s m (b ∷ [])) before

pub last_on : (g : Grammar) (piece : List ℕ) (from at to n : ℕ) (ns : List ℕ) → length ns < g.most_items → LastSoFar g piece from at ns
    → at < length piece → get_or piece at 0 ≡ 32 → ReadsNumber piece (at + 1) to n → LastSoFar g piece from to (ns ++ n ∷ [])
last_on g piece from at to n ns few so lt space reads = λ s now pairs ends parent job before b h.
    let d = state_draft pairs ends ns in
    let room : nat_lt (length ns) g.most_items ≡ true = lt-ltb _ _ few in
    let due : byte_steps g s now (take (at + 1) piece) ≡ On d (spot.Due (place.LastJob parent job)) =
    one_byte g s now piece at 32 lt space ∙ so s now pairs ends parent job before 32 refl ∙ rw room refl in
    let read = reads g s now d (spot.Due (place.LastJob parent job)) (place.LastJob parent job) (λ x i. refl) due in
    ap (λ (m : Step). byte_steps g s m (b ∷ [])) read ∙ rw h refl

pub last_end : (g : Grammar) (piece : List ℕ) (from at : ℕ) (ns : List ℕ) → LastSoFar g piece from at ns → at < length piece → get_or piece at 0 ≡ 10 → ReadsLast g piece from (at + 1) ns
last_end g piece from at ns so lt lf = λ s now pairs ends parent job before.
    one_byte g s now piece at 10 lt lf ∙ so s now pairs ends parent job before 10 refl

-- ---- a state line

pub state_whole : (g : Grammar) (piece : List ℕ) (a b c d e parent job : ℕ) (pairs : List Pair) (ends : List EndOf) (last : List ℕ) → take 6 piece ≡ codes "state "
    → ReadsField piece 6 a 32 parent → ReadsField piece a b 32 job → ReadsPairs g piece b c pairs → ReadsEnds g piece c d ends → ReadsLast g piece d e last
    → byte_steps g standing.Inside (On no_items spot.Start) (take e piece) ≡ Whole (line.State parent job pairs ends last)
state_whole g piece a b c d e parent job pairs ends last word r1 r2 r3 r4 r5 =
    let s = standing.Inside in
    let now = On no_items spot.Start in
    let h0 : byte_steps g s now (take 6 piece) ≡ On no_items (spot.Due place.StateParent) = ap (λ (xs : List ℕ). byte_steps g s now xs) word in
    let h1 = r1 g s now no_items (spot.Due place.StateParent) place.StateParent (λ x i. refl) h0 in
    let h2 = r2 g s now no_items (spot.Due (place.StateJob parent)) (place.StateJob parent) (λ x i. refl) h1 in
    r5 s now pairs ends parent job (r4 s now pairs parent job (r3 s now parent job h2))

-- ---- a piece

pub whole_takes : (g : Grammar) (s : Standing) (d : Draft) (p : Spot) (piece : List ℕ) (end : PieceEnd) → s ≡ standing.Inside → p ≡ spot.Start → KeptSpot g d p
    → IsWholeLine g piece end → TakesPiece g s (On d p) piece (Ok end) d p
whole_takes g s d p piece (piece_end.Part n) es ep k h = absurd h
whole_takes g s d p piece (piece_end.Line n l) es ep k h =
    let none : d ≡ no_items = subst (λ (q : Spot). KeptSpot g d q) ep k in (
      h.0,
      h.1,
      ap (λ (q : Spot). byte_steps g s (On d q) (take n piece)) ep
          ∙ ap (λ (e : Draft). byte_steps g s (On e spot.Start) (take n piece)) none
          ∙ ap (λ (t : Standing). byte_steps g t (On no_items spot.Start) (take n piece)) es
          ∙ h.2,
      none,
      ep,
    )
