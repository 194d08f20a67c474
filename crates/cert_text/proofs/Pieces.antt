-- More bytes of a piece.
use Rattle.std.proofs.Common.{◌≡◌, ℕ, ◌+◌, ◌-◌, ◌<◌, ◌≤◌, ◌++◌, List, [], ◌∷◌, length, get_or, take, drop, refl, sym, subst, arith, add-one, Result, Ok, Err}
use Rattle.std.proofs.Math.Seq.{take-add, take-suc}
use Rattle.std.proofs.lemmas.List.{take_all, length-drop}
use Rattle.cert_text.specs.declared.grammar.Grammar.{Grammar}
use Rattle.cert_text.specs.declared.spot.Standing.{Standing}
use Rattle.cert_text.specs.declared.spot.Draft.{Draft}
use Rattle.cert_text.specs.declared.spot.Spot.{Spot}
use Rattle.cert_text.specs.declared.feed.PieceEnd.{PieceEnd}
use Rattle.cert_text.specs.declared.feed.PieceEnd.TheVariants as piece_end
use Rattle.cert_text.specs.declared.feed.LineFault.{LineFault}
use Rattle.cert_text.specs.declared.feed.LineFault.TheVariants as line_fault
use Rattle.cert_text.specs.Machine.{Step, On, Whole, Wrong, byte_step, byte_steps, shown}
use Rattle.cert_text.specs.Kept.{KeptSpot, MovesSpot, EndsPiece, TakesPiece, IsOn}
use Rattle.cert_text.proofs.Digits.{chain}
use Rattle.cert_text.proofs.ShownBytes.{Means, step_means}
use Rattle.cert_text.proofs.LineLengths.{steps_means}

pub one_more : (g : Grammar) (s : Standing) (now : Step) (piece : List ℕ) (i : ℕ) (d : Draft) (p : Spot) (next : Step) → i < length piece
    → byte_steps g s now (take i piece) ≡ On d p → byte_step g s d p (get_or piece i 0) ≡ next → byte_steps g s now (take (i + 1) piece) ≡ next
one_more g s now piece i d p next lt before e =
    rw (add-one, take-suc piece i 0 lt) (chain g s now (On d p) next (take i piece) (get_or piece i 0 ∷ []) before e)

pub kept_more : (g : Grammar) (room : 0 < g.most_pairs) (s : Standing) (d e : Draft) (p q : Spot) (b : ℕ) → KeptSpot g d p → byte_step g s d p b ≡ On e q → KeptSpot g e q
kept_more g room s d e p q b k h =
    let m = subst (λ (n : Step). Means g (shown g d p ++ b ∷ []) n) h (step_means g room s d p b k) in m.1

kept_on : (g : Grammar) (room : 0 < g.most_pairs) (s : Standing) (bytes : List ℕ) (d e : Draft) (p q : Spot) → KeptSpot g d p → byte_steps g s (On d p) bytes ≡ On e q → KeptSpot g e q
kept_on g room s bytes d e p q k h =
    let m = subst (λ (now : Step). Means g (shown g d p ++ bytes) now) h (steps_means g room s bytes (On d p) (shown g d p) (refl, k)) in m.1

-- a run of bytes behind the first ones
pub run_more : (g : Grammar) (room : 0 < g.most_pairs) (s : Standing) (now : Step) (piece : List ℕ) (i n : ℕ) (d : Draft) (p q : Spot)
    → byte_steps g s now (take i piece) ≡ On d p → KeptSpot g d p → MovesSpot s p (take n (take (length piece - i) (drop i piece))) q
    → (byte_steps g s now (take (i + n) piece) ≡ On d q) × KeptSpot g d q
run_more g room s now piece i n d p q before k leads =
    let all : take (length piece - i) (drop i piece) ≡ drop i piece = take_all (length piece - i) (drop i piece) (omega (arith, length-drop i piece)) in
    let h : byte_steps g s (On d p) (take n (drop i piece)) ≡ On d q = subst (λ (xs : List ℕ). byte_steps g s (On d p) (take n xs) ≡ On d q) all (leads g d k) in (
      rw (take-add i n piece) (chain g s now (On d p) (On d q) (take i piece) (take n (drop i piece)) before h),
      kept_on g room s (take n (drop i piece)) d d p q k h,
    )

-- all bytes of a piece
pub whole_piece : (g : Grammar) (s : Standing) (now next : Step) (piece : List ℕ) (i : ℕ) → length piece ≤ i → byte_steps g s now (take i piece) ≡ next → byte_steps g s now piece ≡ next
whole_piece g s now next piece i le h = subst (λ (xs : List ℕ). byte_steps g s now xs ≡ next) (take_all i piece le) h

-- the LF behind the first bytes
pub lf_takes : (g : Grammar) (s : Standing) (now : Step) (piece : List ℕ) (i : ℕ) (d e : Draft) (p q : Spot) (r : Result PieceEnd LineFault) → i < length piece
    → get_or piece i 0 ≡ 10 → byte_steps g s now (take i piece) ≡ On d p → EndsPiece (byte_step g s d p 10) i r e q → TakesPiece g s now piece r e q
lf_takes g s now piece i d e p q (Ok (piece_end.Part n)) lt lf before h = absurd h
lf_takes g s now piece i d e p q (Ok (piece_end.Line n l)) lt lf before h = (
  omega (arith, h.0),
  omega (arith, h.0, lt),
  rw h.0 (one_more g s now piece i d p (Whole l) lt before (rw lf h.1)),
  h.2,
  h.3,
)
lf_takes g s now piece i d e p q (Err (line_fault.Wrong j)) lt lf before h = (
  omega (arith, h.0, lt),
  rw h.0 (subst IsOn (sym before) tt),
  rw h.0 (one_more g s now piece i d p Wrong lt before (rw lf h.1)),
)
lf_takes g s now piece i d e p q (Err line_fault.Memory) lt lf before h = tt
