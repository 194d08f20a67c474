-- What writing piece by piece comes to.
use Rattle.std.proofs.Common.{◌≡◌, ℕ, ◌+◌, ◌≤◌, ◌++◌, List, [], length, take, sym, ap, ◌∙◌, arith, append_assoc, append-nil, length-append, drop, min, Option, Some, None, IfSome, IsSome, Result, Ok, Err, refl}
use Rattle.sag_edge.specs.Writing.{SeenSink, GrowsBy, GrowsByPrefix, StillTells, Puts}
use Rattle.sag_edge.specs.Causes.{Rose}
use Rattle.std.proofs.lemmas.Result.{on_ok_weaker, on_err_weaker}
use Rattle.std.proofs.lemmas.Grind.{common_steps}
use Rattle.std.proofs.lemmas.List.{take-append-drop, take-append-le, take_min}
use Rattle.std.proofs.Math.Seq.{take-append-add}

pub takes_none : (a : Option (List ℕ)) → GrowsBy a a []
takes_none None = tt
takes_none (Some x) = sym (append-nil x)

pub takes_more : (a b c : Option (List ℕ)) (x y : List ℕ) → GrowsBy a b x → GrowsBy b c y → GrowsBy a c (x ++ y)
takes_more a b None x y p q = tt
takes_more a None (Some z) x y p q = absurd q
takes_more None (Some w) (Some z) x y p q = absurd p
takes_more (Some v) (Some w) (Some z) x y p q = q ∙ ap (λ t. t ++ y) p ∙ append_assoc v x y

-- the first part of a list
pub front_of : (x y : List ℕ) → take (length x) (x ++ y) ≡ x
front_of x y = grind (arith, common_steps)

pub prefix_from_front : (a b : Option (List ℕ)) (x y : List ℕ) → GrowsBy a b x → GrowsByPrefix a b (x ++ y)
prefix_from_front a b x y p = (length x, rw front_of p)

-- one more write of a loop
pub writes_on : (a b c : Option (List ℕ)) (bytes rest later : List ℕ) (n : ℕ) → ((done : List ℕ) × (bytes ≡ done ++ rest) × GrowsBy a b done) → GrowsBy b c (take n rest) → later ≡ drop n rest → (done : List ℕ) × (bytes ≡ done ++ later) × GrowsBy a c done
writes_on a b c bytes rest later n (done, all, first) more e =
    (done ++ take n rest, all ∙ ap (λ t. done ++ t) (sym (take-append-drop n rest)) ∙ sym (append_assoc done (take n rest) (drop n rest)) ∙ ap (λ t. (done ++ take n rest) ++ t) (sym e), takes_more a b c done (take n rest) first more)

-- a write of a loop that failed
pub writes_off : (a b c : Option (List ℕ)) (bytes rest : List ℕ) → ((done : List ℕ) × (bytes ≡ done ++ rest) × GrowsBy a b done) → GrowsBy b c [] → GrowsByPrefix a c bytes
writes_off a b c bytes rest (done, all, first) more =
    rw all (prefix_from_front a c done rest (rw (← append-nil done) (takes_more a b c done [] first more)))

-- what is written after some bytes is a prefix of both
pub prefix_on : (a b c : Option (List ℕ)) (x y : List ℕ) → GrowsBy a b x → GrowsByPrefix b c y → GrowsByPrefix a c (x ++ y)
prefix_on a b c x y p (n, q) = (length x + n, rw take-append-add (takes_more a b c x (take n y) p q))

cut_front : (x y : List ℕ) (n : ℕ) → take (min n (length x)) (x ++ y) ≡ take n x
cut_front x y n = take-append-le (min n (length x)) x y (omega arith) ∙ take_min n x

-- a prefix of the first bytes is a prefix of all
pub prefix_more : (a b : Option (List ℕ)) (x y : List ℕ) → GrowsByPrefix a b x → GrowsByPrefix a b (x ++ y)
prefix_more a b x y (n, p) = (min n (length x), rw cut_front p)

take_all_of : (x : List ℕ) → take (length x) x ≡ x
take_all_of x = grind (arith, common_steps)

pub whole_prefix : (a b : Option (List ℕ)) (x : List ℕ) → GrowsBy a b x → GrowsByPrefix a b x
whole_prefix a b x p = (length x, rw take_all_of p)

pub none_prefix : (a b : Option (List ℕ)) (x : List ℕ) → GrowsBy a b [] → GrowsByPrefix a b x
none_prefix a b x p = (0, p)

-- a count that rose later on rose
pub rose_on : (a b c : ℕ) → a ≤ b → Rose b c → Rose a c
rose_on a b c l r = omega arith

told_none : IsSome {T = List ℕ} None → ⊥
told_none e = cc

tells_at : (a b c : Option (List ℕ)) (room : ℕ) (x y : List ℕ) → GrowsBy a b x → IfSome a (λ t. length t + length (x ++ y) ≤ room → IsSome b) → IfSome b (λ t. length t + length y ≤ room → IsSome c) → IfSome a (λ t. length t + length (x ++ y) ≤ room → IsSome c)
tells_at None b c room x y p one other = tt
tells_at (Some s) None c room x y p one other = λ h. absurd (told_none (one h))
tells_at (Some s) (Some t) c room x y p one other = λ h. other (omega (arith, ap length p, length-append s x, length-append x y, h))

tells_less : (a b : Option (List ℕ)) (room : ℕ) (x y : List ℕ) → IfSome a (λ t. length t + length x ≤ room → IsSome b) → IfSome a (λ t. length t + length (x ++ y) ≤ room → IsSome b)
tells_less None b room x y one = tt
tells_less (Some s) b room x y one = λ h. one (omega (arith, length-append x y, h))

-- a sink with room for all of the bytes tells them after the first ones, and then after the others
pub tells_on : (a b c : SeenSink) (x y : List ℕ) → GrowsBy a.taken b.taken x → StillTells a b (x ++ y) → StillTells b c y → StillTells a c (x ++ y)
tells_on a b c x y p one other = record {
  room = other.room ∙ one.room;
  tells = tells_at a.taken b.taken c.taken a.room x y p one.tells (rw one.room at other.tells);
}

-- a sink with room for more bytes has room for the first ones
pub tells_more : (a b : SeenSink) (x y : List ℕ) → StillTells a b x → StillTells a b (x ++ y)
tells_more a b x y one = record { room = one.room; tells = tells_less a.taken b.taken a.room x y one.tells }

-- the same in a loop, which has written the first ones
pub tells_still : (a b c : SeenSink) (bytes rest : List ℕ) → ((done : List ℕ) × (bytes ≡ done ++ rest) × GrowsBy a.taken b.taken done) → StillTells a b bytes → StillTells b c rest → StillTells a c bytes
tells_still a b c bytes rest (done, all, first) one other = rw all (tells_on a b c done rest first (rw all at one) other)

-- some bytes, and then others
pub puts_then : {T U E : Type 0} {a b c : SeenSink} {x y : List ℕ} {t : T} {r : Result U E} → Puts {T = T} {E = E} a b x (Ok t) → Puts b c y r → Puts a c (x ++ y) r
puts_then {a = a} {b = b} {c = c} {x = x} {y = y} {t = t} {r = r} d k = record {
  later = omega (arith, d.later, k.later);
  ok = on_ok_weaker r (λ h. takes_more a.taken b.taken c.taken x y d.ok h) k.ok;
  failed = on_err_weaker r (λ h. (rose_on a.faults b.faults c.faults d.later h.0, prefix_on a.taken b.taken c.taken x y d.ok h.1)) k.failed;
  tells = tells_on a b c x y d.ok (tells_more a b x y d.tells) k.tells;
}

-- some bytes on which the call failed
pub puts_halt : {T U E : Type 0} {a b : SeenSink} {x : List ℕ} {e : E} (y : List ℕ) → Puts {T = T} {E = E} a b x (Err e) → Puts {T = U} {E = E} a b (x ++ y) (Err e)
puts_halt {a = a} {b = b} {x = x} {e = e} y d = record {
  later = d.later;
  ok = tt;
  failed = (d.failed.0, prefix_more a.taken b.taken x y d.failed.1);
  tells = tells_more a b x y d.tells;
}

tells_some : (a : Option (List ℕ)) (room : ℕ) → IfSome a (λ t. length t + 0 ≤ room → IsSome a)
tells_some None room = tt
tells_some (Some s) room = λ h. refl

-- a sink that takes nothing tells what it told
pub tells_none : (a : SeenSink) → StillTells a a []
tells_none a = record { room = refl; tells = tells_some a.taken a.room }
