-- What follows of calls that follow plans.
use Rattle.std.proofs.Common.{◌≡◌, ℕ, ◌+◌, ◌<◌, ◌≤◌, inl, inr, List, length, replicate, refl, ap, ◌∙◌, arith, Option, Some, None, Result, Ok, Err, IfSome, nat_lt, cond}
use Rattle.std.proofs.lemmas.List.{length-replicate}
use Rattle.sag_edge.specs.Contents.{Contents, bytes_at}
use Rattle.sag_edge.specs.Reading.{SeenFiles}
use Rattle.sag_edge.proofs.WriteLemmas.{rose_on}
use Rattle.sag_texts.specs.declared.fault.FileKind.{FileKind}
use Rattle.sag_texts.specs.declared.fault.Fault.{Fault}
use Rattle.sag_texts.specs.declared.fault.Fault.TheVariants.{TooLong}
use Rattle.sag_engine.specs.declared.halt.Halt.{Halt}
use Rattle.sag_engine.specs.declared.halt.Halt.TheVariants.{Usage, Refused, Read, Write, Memory}
use Rattle.sag_engine.specs.Plan.{Plan, ◌>>=◌, ComesTo, ReadsNext, file_plan, judged}
use Rattle.sag_engine.specs.Plan.Plan.{Ends, Reads, Judges}
use Rattle.sag_engine.specs.RunEnds.{EndsBy, Follows, EndsJudging, Judged}

pub comes_then : {A B : Type 0} (p : Plan (Result A Fault)) (q : A → Plan (Result B Fault)) (m : Option Contents) (a : A) (w : Result B Fault) → ComesTo p m (Ok a) → ComesTo (q a) m w → ComesTo (p >>= q) m w
comes_then (Ends (Ok b)) q m a w h k = let e : b ≡ a = cc in rw e k
comes_then (Ends (Err f)) q m a w h k = absurd cc
comes_then (Reads kind name go) q m a w (bytes, t, h) k = (bytes, t, comes_then (go bytes) q m a w h k)
comes_then (Judges X Holds go) q m a w (x, t, h) k = (x, t, comes_then (go x) q m a w h k)

pub comes_refused : {A B : Type 0} (p : Plan (Result A Fault)) (q : A → Plan (Result B Fault)) (m : Option Contents) (f : Fault) → ComesTo p m (Err f) → ComesTo (p >>= q) m (Err f)
comes_refused (Ends (Ok b)) q m f h = absurd cc
comes_refused (Ends (Err g)) q m f h = let e : g ≡ f = cc in ap Err e
comes_refused (Reads kind name go) q m f (bytes, t, h) = (bytes, t, comes_refused (go bytes) q m f h)
comes_refused (Judges X Holds go) q m f (x, t, h) = (x, t, comes_refused (go x) q m f h)

pub reads_first : {A B : Type 0} (p : Plan (Result A Fault)) (q : A → Plan (Result B Fault)) (m : Option Contents) (k : FileKind) (n : List ℕ) → ReadsNext p m k n → ReadsNext (p >>= q) m k n
reads_first (Ends (Ok b)) q m k n h = absurd h
reads_first (Ends (Err g)) q m k n h = absurd h
reads_first (Reads kind name go) q m k n (inl h) = inl h
reads_first (Reads kind name go) q m k n (inr (bytes, t, h)) = inr (bytes, t, reads_first (go bytes) q m k n h)
reads_first (Judges X Holds go) q m k n (x, t, h) = (x, t, reads_first (go x) q m k n h)

pub reads_then : {A B : Type 0} (p : Plan (Result A Fault)) (q : A → Plan (Result B Fault)) (m : Option Contents) (a : A) (k : FileKind) (n : List ℕ) → ComesTo p m (Ok a) → ReadsNext (q a) m k n → ReadsNext (p >>= q) m k n
reads_then (Ends (Ok b)) q m a k n h r = let e : b ≡ a = cc in rw e r
reads_then (Ends (Err g)) q m a k n h r = absurd cc
reads_then (Reads kind name go) q m a k n (bytes, t, h) r = inr (bytes, t, reads_then (go bytes) q m a k n h r)
reads_then (Judges X Holds go) q m a k n (x, t, h) r = (x, t, reads_then (go x) q m a k n h r)

end_then : {T X U Y : Type 0} (view : T → X) (show : U → Y) (p : Plan (Result X Fault)) (q : X → Plan (Result Y Fault)) (a b c : SeenFiles) (t : T) (r : Result U Halt) → b.contents ≡ a.contents → a.faults ≤ b.faults → ComesTo p a.contents (Ok (view t)) → EndsBy show (q (view t)) b c r → EndsBy show (p >>= q) a c r
end_then view show p q a b c t (Ok u) e l h k = comes_then p q a.contents (view t) (Ok (show u)) h (rw e at k)
end_then view show p q a b c t (Err (Refused f)) e l h k = comes_then p q a.contents (view t) (Err f) h (rw e at k)
end_then view show p q a b c t (Err (Read kind)) e l h (rose, (name, blamed, reads)) =
    (rose_on a.faults b.faults c.faults l rose, (name, blamed, reads_then p q a.contents (view t) kind name h (rw e at reads)))
end_then view show p q a b c t (Err Usage) e l h k = absurd k
end_then view show p q a b c t (Err Write) e l h k = absurd k
end_then view show p q a b c t (Err Memory) e l h k = tt

-- a call that follows the rest of a plan, after one that followed its first part
pub follows_then : {T X U Y : Type 0} (view : T → X) (show : U → Y) (p : Plan (Result X Fault)) (q : X → Plan (Result Y Fault)) {a b c : SeenFiles} {t : T} {r : Result U Halt} → Follows view p a b (Ok t) → Follows show (q (view t)) b c r → Follows show (p >>= q) a c r
follows_then view show p q {a = a} {b = b} {c = c} {t = t} {r = r} f g = record {
  contents = g.contents ∙ f.contents;
  later = omega (arith, f.later, g.later);
  end = end_then view show p q a b c t r f.contents f.later f.end g.end;
}

end_halt : {T X U Y : Type 0} (view : T → X) (show : U → Y) (p : Plan (Result X Fault)) (q : X → Plan (Result Y Fault)) (a b : SeenFiles) (h : Halt) → EndsBy view p a b (Err h) → EndsBy show (p >>= q) a b (Err h)
end_halt view show p q a b (Refused f) k = comes_refused p q a.contents f k
end_halt view show p q a b (Read kind) (rose, (name, blamed, reads)) = (rose, (name, blamed, reads_first p q a.contents kind name reads))
end_halt view show p q a b Usage k = absurd k
end_halt view show p q a b Write k = absurd k
end_halt view show p q a b Memory k = tt

-- a call whose first part stopped
pub follows_halt : {T X U Y : Type 0} (view : T → X) (show : U → Y) (p : Plan (Result X Fault)) (q : X → Plan (Result Y Fault)) {a b : SeenFiles} {h : Halt} → Follows view p a b (Err h) → Follows show (p >>= q) a b (Err h)
follows_halt view show p q {a = a} {b = b} {h = h} f = record { contents = f.contents; later = f.later; end = end_halt view show p q a b h f.end }

-- a step that reads no file
pub follows_pure : {U Y : Type 0} (show : U → Y) (w : Result Y Fault) (a : SeenFiles) (r : Result U Halt) → EndsBy show (Ends w) a a r → Follows show (Ends w) a a r
follows_pure show w a r h = record { contents = refl; later = omega arith; end = h }

end_judged : {U Y : Type 0} (show : U → Y) (Holds : Result Y Fault → Type 0) (a : SeenFiles) (r : Result U Halt) → EndsJudging show Holds r → EndsBy show (judged Holds) a a r
end_judged show Holds a (Ok u) h = (Ok (show u), h, refl)
end_judged show Holds a (Err (Refused fault)) h = (Err fault, h, refl)
end_judged show Holds a (Err Memory) h = tt
end_judged show Holds a (Err Usage) h = absurd h
end_judged show Holds a (Err (Read kind)) h = absurd h
end_judged show Holds a (Err Write) h = absurd h

-- a step that judges what was read
pub follows_judged : {U Y : Type 0} (show : U → Y) (Holds : Result Y Fault → Type 0) {a : SeenFiles} {r : Result U Halt} → Judged show Holds r → Follows show (judged Holds) a a r
follows_judged show Holds {a = a} {r = r} h = record { contents = refl; later = omega arith; end = end_judged show Holds a r h.end }

is_long : (kind : FileKind) (bytes : List ℕ) (limit : ℕ) → limit < length bytes → ◌≡◌ {A = Result (List ℕ) Fault} (cond (nat_lt limit (length bytes)) (Err (TooLong kind)) (Ok bytes)) (Err (TooLong kind))
is_long kind bytes limit h = grind arith

-- a file that is too long
pub long_file : (m : Option Contents) (kind : FileKind) (name : List ℕ) (limit : ℕ) → IfSome m (λ m. limit < length (bytes_at m name)) → ComesTo (file_plan kind name limit) m (Err (TooLong kind))
long_file None kind name limit h = (replicate (limit + 1) 0, tt, is_long kind (replicate (limit + 1) 0) limit (omega (arith, length-replicate {A = ℕ} (limit + 1) 0)))
long_file (Some m) kind name limit h = (bytes_at m name, refl, is_long kind (bytes_at m name) limit h)

is_short : (kind : FileKind) (bytes : List ℕ) (limit : ℕ) → length bytes ≤ limit → ◌≡◌ {A = Result (List ℕ) Fault} (cond (nat_lt limit (length bytes)) (Err (TooLong kind)) (Ok bytes)) (Ok bytes)
is_short kind bytes limit h = grind arith

-- a file that is not too long
pub short_file : (m : Option Contents) (kind : FileKind) (name : List ℕ) (limit : ℕ) (bytes : List ℕ) → length bytes ≤ limit → IfSome m (λ m. bytes ≡ bytes_at m name) → ComesTo (file_plan kind name limit) m (Ok bytes)
short_file None kind name limit bytes few are = (bytes, tt, is_short kind bytes limit few)
short_file (Some m) kind name limit bytes few are = (bytes, are, is_short kind bytes limit few)

-- a plan of two parts comes to a value by one of its first part
pub comes_split : {A B : Type 0} (p : Plan (Result A Fault)) (q : A → Plan (Result B Fault)) (m : Option Contents) (w : B) → ComesTo (p >>= q) m (Ok w) → (a : A) × ComesTo p m (Ok a) × ComesTo (q a) m (Ok w)
comes_split (Ends (Ok a)) q m w h = (a, refl, h)
comes_split (Ends (Err fault)) q m w h = absurd cc
comes_split (Reads kind name go) q m w (bytes, t, h) =
    let s = comes_split (go bytes) q m w h in
    (s.0, (bytes, t, s.1), s.2)
comes_split (Judges X Holds go) q m w (x, t, h) =
    let s = comes_split (go x) q m w h in
    (s.0, (x, t, s.1), s.2)

-- what was judged is as the relation says
pub judged_so : {A : Type 0} (Holds : Result A Fault → Type 0) (m : Option Contents) (w : Result A Fault) → ComesTo (judged Holds) m w → Holds w
judged_so Holds m w (a, h, e) = rw (← e) h
