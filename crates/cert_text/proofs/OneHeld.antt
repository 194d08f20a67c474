-- After some bytes only one thing is held.
use Rattle.std.proofs.Common.{◌≡◌, ℕ, ◌+◌, Bool, List, [], ◌∷◌, ◌++◌, length, refl, sym, ap, subst, ◌∙◌, append_assoc}
use Rattle.std.specs.Prelude.{count_by}
use Rattle.cert_text.specs.declared.fault.FeedFault.TheVariants as fault
use Rattle.cert_text.specs.declared.grammar.Grammar.{Grammar}
use Rattle.cert_text.specs.Readable.{Readable, IsPrefix}
use Rattle.cert_text.specs.Taken.{is_lf, after_last_lf, HoldsOpen, HoldsFault, Held, Open, Fault, HoldsAfter}
use Rattle.cert_text.proofs.HoldsMore.{bool_is}

shorter : (g : Grammar) (xs ys : List ℕ) → IsPrefix g (xs ++ ys) → IsPrefix g xs
shorter g xs ys p = record { rest = ys ++ p.rest; lines = p.lines; readable = subst (λ (bs : List ℕ). Readable g bs p.lines) (append_assoc xs ys p.rest) p.readable }

head_of : List ℕ → ℕ → ℕ
head_of [] d = d
head_of (x ∷ xs) d = x

tail_of : List ℕ → List ℕ
tail_of [] = []
tail_of (x ∷ xs) = xs

head_is : (x y : ℕ) (xs ys : List ℕ) → x ∷ xs ≡ y ∷ ys → x ≡ y
unfolding head_of
head_is x y xs ys e = ap (λ (l : List ℕ). head_of l 0) e

tail_is : (x y : ℕ) (xs ys : List ℕ) → x ∷ xs ≡ y ∷ ys → xs ≡ ys
unfolding tail_of
tail_is x y xs ys e = ap tail_of e

-- two places in one list: the same, or one behind the other
data Places (f : List ℕ) (b : ℕ) (h : List ℕ) (c : ℕ) : Type 0 where
  Same : f ≡ h → Places f b h c
  Later : (more : List ℕ) → h ≡ (f ++ b ∷ []) ++ more → Places f b h c
  Sooner : (more : List ℕ) → f ≡ (h ++ c ∷ []) ++ more → Places f b h c

under : (x y : ℕ) (f h : List ℕ) (b c : ℕ) → x ≡ y → Places f b h c → Places (x ∷ f) b (y ∷ h) c
under x y f h b c e (Same s) = Same (ap (λ (n : ℕ). n ∷ f) e ∙ ap (λ (l : List ℕ). y ∷ l) s)
under x y f h b c e (Later more s) = Later more (ap (λ (n : ℕ). n ∷ h) (sym e) ∙ ap (λ (l : List ℕ). x ∷ l) s)
under x y f h b c e (Sooner more s) = Sooner more (ap (λ (n : ℕ). n ∷ f) e ∙ ap (λ (l : List ℕ). y ∷ l) s)

places : (f h : List ℕ) (b c : ℕ) (m n : List ℕ) → f ++ b ∷ m ≡ h ++ c ∷ n → Places f b h c
places [] [] b c m n e = Same refl
places [] (y ∷ h) b c m n e = Later h (ap (λ (k : ℕ). k ∷ h) (sym (head_is b y m (h ++ c ∷ n) e)))
places (x ∷ f) [] b c m n e = Sooner f (ap (λ (k : ℕ). k ∷ f) (head_is x c (f ++ b ∷ m) n e))
places (x ∷ f) (y ∷ h) b c m n e =
    under x y f h b c (head_is x y (f ++ b ∷ m) (h ++ c ∷ n) e) (places f h b c m n (tail_is x y (f ++ b ∷ m) (h ++ c ∷ n) e))

open_no_fault : (g : Grammar) (bytes rest : List ℕ) (lines line byte : ℕ) (ended : Bool) → HoldsOpen g bytes lines rest ended → HoldsFault g bytes line byte → ⊥
open_no_fault g bytes rest lines line byte ended o f =
    f.first (shorter g (f.front ++ f.bad ∷ []) f.more (subst (IsPrefix g) (f.are ∙ sym (append_assoc f.front (f.bad ∷ []) f.more)) o.prefix))

open_is : (g : Grammar) (bytes r q : List ℕ) (k n : ℕ) (v w : Bool) → HoldsOpen g bytes k r v → HoldsOpen g bytes n q w → Open k r v ≡ Open n q w
open_is g bytes r q k n v w a b =
    ap (λ (x : ℕ). Open x r v) (a.counted ∙ sym b.counted)
    ∙ ap (λ (x : List ℕ). Open n x v) (a.rest_is ∙ sym b.rest_is)
    ∙ ap (λ (x : Bool). Open n q x) (bool_is v w (λ h. b.end.1 (a.end.0 h)) (λ h. a.end.1 (b.end.0 h)))

same_front : (g : Grammar) (f h : List ℕ) (b c : ℕ) → IsPrefix g f → IsPrefix g h → (IsPrefix g (f ++ b ∷ []) → ⊥) → (IsPrefix g (h ++ c ∷ []) → ⊥) → Places f b h c → f ≡ h
same_front g f h b c p q none never (Same e) = e
same_front g f h b c p q none never (Later more e) = absurd (none (shorter g (f ++ b ∷ []) more (subst (IsPrefix g) e q)))
same_front g f h b c p q none never (Sooner more e) = absurd (never (shorter g (h ++ c ∷ []) more (subst (IsPrefix g) e p)))

fault_is : (g : Grammar) (bytes : List ℕ) (k i n j : ℕ) → HoldsFault g bytes k i → HoldsFault g bytes n j → Fault (fault.Text k i) ≡ Fault (fault.Text n j)
fault_is g bytes k i n j f h =
    let e = same_front g f.front h.front f.bad h.bad f.prefix h.prefix f.first h.first (places f.front h.front f.bad h.bad f.more h.more (sym f.are ∙ h.are)) in
    ap (λ (x : ℕ). Fault (fault.Text x i)) (f.at_line ∙ ap (λ (l : List ℕ). count_by is_lf l + 1) e ∙ sym h.at_line)
    ∙ ap (λ (x : ℕ). Fault (fault.Text n x)) (f.at_byte ∙ ap (λ (l : List ℕ). length (after_last_lf l) + 1) e ∙ sym h.at_byte)

-- After some bytes only one thing is held.
pub one_held : (g : Grammar) (bytes : List ℕ) (a b : Held) → HoldsAfter g bytes a → HoldsAfter g bytes b → a ≡ b
one_held g bytes (Open k r v) (Open n q w) a b = open_is g bytes r q k n v w a b
one_held g bytes (Open k r v) (Fault (fault.Text n j)) a b = absurd (open_no_fault g bytes r k n j v a b)
one_held g bytes (Open k r v) (Fault fault.Memory) a b = absurd b
one_held g bytes (Fault (fault.Text k i)) (Open n q w) a b = absurd (open_no_fault g bytes q n k i w b a)
one_held g bytes (Fault (fault.Text k i)) (Fault (fault.Text n j)) a b = fault_is g bytes k i n j a b
one_held g bytes (Fault (fault.Text k i)) (Fault fault.Memory) a b = absurd b
one_held g bytes (Fault fault.Memory) b c d = absurd c
