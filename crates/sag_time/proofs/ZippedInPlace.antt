-- A list of times of which one place after another becomes what f makes of it and its fellow in another list.
use Rattle.std.proofs.Common.{◌≡◌, ℕ, ◌+◌, ◌<◌, ◌++◌, ◌^◌, true, List, length, take, drop, set, ap, sym, ◌∙◌, arith, get_or}
use Rattle.std.specs.Prelude.{IsTrue}
use Rattle.sag_time.specs.Sorted.{is_sorted}
use Rattle.lists.specs.Zipped.{zip_with}
use Rattle.sag_time.proofs.WrittenBack.{kept}
use Rattle.sag_time.proofs.ZippedLists.{zipped_to, zipped_step, length-zip_with, zipped_all}

module _ (f : ℕ → ℕ → ℕ) (own fellows : List ℕ) (long : length own ≡ length fellows) where
  -- a turn, at place i
  pub zipped_turn : (i v y : ℕ) (times others lent now : List ℕ) → times ≡ own → others ≡ fellows → lent ≡ times → i < length lent →
      now ≡ zipped_to f i own fellows → y ≡ get_or others i y → v ≡ f (get_or now i 0) y → set now i v ≡ zipped_to f (i + 1) own fellows
  zipped_turn i v y times others lent now times_are others_are lent_is below so_far here made =
      zipped_step f i v y own fellows now so_far (here ∙ ap (λ xs. get_or xs i y) others_are) made (omega (arith, below, ap length (lent_is ∙ times_are))) long

  -- after the last turn the list keeps the rules
  pub zipped_keeps : ((xs ys : List ℕ) → is_sorted xs ≡ true → is_sorted ys ≡ true → is_sorted (zip_with f xs ys) ≡ true) →
      (i n : ℕ) (times others lent now : List ℕ) → times ≡ own → others ≡ fellows → lent ≡ times → i ≡ length lent → length now ≡ n →
      now ≡ zipped_to f i own fellows → is_sorted times ≡ true → is_sorted others ≡ true → length times < 2 ^ 16 →
      IsTrue (is_sorted (take n (now ++ drop (length now) times))) × (length (take n (now ++ drop (length now) times)) < 2 ^ 16)
  zipped_keeps stays i n times others lent now times_are others_are lent_is last size so_far sorted others_sorted few =
      let all : now ≡ zip_with f own fellows =
      so_far ∙ ap (λ k. zipped_to f k own fellows) (last ∙ ap length (lent_is ∙ times_are)) ∙ zipped_all f own fellows long in
      kept n now times (zip_with f own fellows) size all
      (stays own fellows (ap is_sorted (sym times_are) ∙ sorted) (ap is_sorted (sym others_are) ∙ others_sorted))
      (omega (arith, length-zip_with f own fellows long, ap length times_are, few))
