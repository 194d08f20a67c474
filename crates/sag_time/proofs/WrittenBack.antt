-- What a list of times keeps when its numbers are written in place.
use Rattle.std.proofs.Common.{◌≡◌, ℕ, ◌<◌, ◌++◌, ◌^◌, true, List, length, take, drop, ap, ◌∙◌, arith}
use Rattle.std.specs.Prelude.{IsTrue}
use Rattle.std.proofs.lemmas.List.{take_at}
use Rattle.sag_time.specs.Sorted.{is_sorted}

-- the numbers of a vector after all its places were written
pub kept : (n : ℕ) (written old xs : List ℕ) → length written ≡ n → written ≡ xs → is_sorted xs ≡ true → length xs < 2 ^ 16 →
    IsTrue (is_sorted (take n (written ++ drop (length written) old))) × (length (take n (written ++ drop (length written) old)) < 2 ^ 16)
kept n written old xs long is sorted few =
    let whole : take n (written ++ drop (length written) old) ≡ xs = take_at written (drop (length written) old) n long ∙ is in
    let same : length (take n (written ++ drop (length written) old)) ≡ length xs = ap length whole in
    (ap is_sorted whole ∙ sorted, omega (arith, same, few))
