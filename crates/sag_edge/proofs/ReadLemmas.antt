-- What reading piece by piece comes to.
use Rattle.std.proofs.Common.{◌≡◌, ℕ, ◌+◌, ◌<◌, ◌≤◌, ◌++◌, List, [], ◌∷◌, zero, suc, length, take, drop, min, ◌-◌, length-drop, sym, ap, ◌∙◌, arith, append_assoc, append-nil, length-append, refl, Option, Some, None, IfSome}
use Rattle.std.proofs.lemmas.List.{take-append-drop, length-take-le, drop-drop}
use Rattle.std.specs.Io.KnownBytes.{Consumes, IsAtEnd}
use Rattle.std.specs.Option.{option_map}
use Rattle.sag_edge.specs.Contents.{Contents, bytes_at}
use Rattle.sag_edge.specs.Reading.{Splits, HasRead, SeenFiles, ReadsBytes, BeginsAt}

pub splits_first : (c : Option Contents) (name : List ℕ) → Splits c (option_map (λ m. bytes_at m name) c) name []
splits_first None name = tt
splits_first (Some m) name = refl

pub splits_more : (c : Option Contents) (l k : Option (List ℕ)) (name list given : List ℕ) → Splits c l name list → Consumes l k given → Splits c k name (list ++ given)
splits_more None l k name list given s g = tt
splits_more (Some m) None k name list given s g = absurd s
splits_more (Some m) (Some x) None name list given s g = absurd g
splits_more (Some m) (Some x) (Some y) name list given s g = s ∙ ap (λ t. list ++ t) g ∙ sym (append_assoc list given y)

pub splits_end : (c : Option Contents) (l : Option (List ℕ)) (name list : List ℕ) → Splits c l name list → IsAtEnd l → IfSome c (λ m. list ≡ bytes_at m name)
splits_end None l name list s e = tt
splits_end (Some m) None name list s e = absurd s
splits_end (Some m) (Some x) name list s e = sym (s ∙ ap (λ t. list ++ t) e ∙ append-nil list)

pub splits_long : (c : Option Contents) (l : Option (List ℕ)) (name list : List ℕ) (limit : ℕ) → Splits c l name list → limit < length list → IfSome c (λ m. limit < length (bytes_at m name))
splits_long None l name list limit s e = tt
splits_long (Some m) None name list limit s e = absurd s
splits_long (Some m) (Some x) name list limit s e = omega (arith, ap length s, length-append list x)

-- what was read grows by what a read gives
pub reads_on : (start old new : SeenFiles) (name list given : List ℕ) (room : ℕ) → HasRead start old name list → new.contents ≡ old.contents → old.faults ≤ new.faults → ReadsBytes old new given room → HasRead start new name (list ++ given)
reads_on start old new name list given room h same later g = record {
  contents = same ∙ h.contents;
  current = g.current ∙ h.current;
  blamed = g.blamed ∙ h.blamed;
  later = omega (arith, h.later, later);
  bytes = splits_more start.contents old.left new.left name list given h.bytes g.bytes;
}

pub begins : (old new : SeenFiles) (name : List ℕ) → new.contents ≡ old.contents → old.faults ≤ new.faults → BeginsAt old new name → HasRead old new name []
begins old new name same later b = record {
  contents = same;
  current = b.current;
  blamed = b.blamed;
  later = later;
  bytes = rw b.left (splits_first old.contents name);
}

length_take_low : (n : ℕ) (xs : List ℕ) → length (take n xs) ≤ n
length_take_low zero xs = omega arith
length_take_low (suc n) [] = omega arith
length_take_low (suc n) (x ∷ xs) = omega (arith, length_take_low n xs)

pub one_piece : (list into : List ℕ) (n most len : ℕ) → len ≡ length list → n ≤ most → length (list ++ take n into) ≤ len + most
one_piece list into n most len e h = omega (arith, length-append list (take n into), length_take_low n into)

empty_list : (xs : List ℕ) → length xs ≡ 0 → xs ≡ []
empty_list [] e = refl
empty_list (x ∷ xs) e = absurd (omega arith)

-- the bytes from a place on are those that are given and those from the next place on
pub next_bytes : (whole into : List ℕ) (place n : ℕ) → take n into ≡ take n (drop place whole) → drop place whole ≡ take n into ++ drop (place + n) whole
next_bytes whole into place n e =
    sym (take-append-drop n (drop place whole)) ∙ ap (λ t. t ++ drop n (drop place whole)) (sym e) ∙ ap (λ t. take n into ++ t) (drop-drop n place whole)

pub next_end : (whole into : List ℕ) (place n most : ℕ) → n ≡ min most (min (length whole - place) (length into)) → 1 ≤ most → take n into ≡ [] → 0 < length into → drop (place + n) whole ≡ []
next_end whole into place n most e goes none room =
    let len : length (take n into) ≡ n = length-take-le n into (omega arith) in
    let zero : n ≡ 0 = omega (arith, ap length none, len) in
    empty_list (drop (place + n) whole) (omega (arith, length-drop (place + n) whole))
