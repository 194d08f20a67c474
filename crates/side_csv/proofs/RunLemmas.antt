-- What the rows of a recorded run keep.
use Rattle.std.proofs.Common.{◌≡◌, ◌==◌, ℕ, ◌+◌, ◌<◌, ◌≤◌, List, [], true, false, Bool, Option, None, Some, get_or, length, refl, ap, subst, arith, nat_lt}
use Rattle.std.specs.Prelude.{if◌then◌else◌, not}
use Rattle.std.proofs.lemmas.Bool.{ltb-false}
use Rattle.job_model.specs.Scenario.{cost_of}
use Rattle.job_model.specs.Table.{IsTable, Table}
use Rattle.run_meaning.specs.declared.places.Place.{Place}
use Rattle.run_meaning.specs.Ready.{no_place, start_of}
use Rattle.job_model.specs.declared.limits.TheConstants.{MOST_START}
use Rattle.side_csv.specs.declared.run.TheConstants.{MOST_CORE}
use Rattle.side_csv.specs.RowPerJob.{IsGood, KeepRules}
use Rattle.side_csv.specs.RunText.{core_in, finish_in, outside_in_run, place_in, start_in}
use Rattle.side_csv.proofs.ItemLemmas.{Given}
use Rattle.side_csv.proofs.RowLemmas.{inside-named}

none-of-three : (p q r : Bool) → ◌≡◌ {A = Option ℕ} (if p then Some 3 else if q then Some 4 else if r then Some 5 else None) None → (p ≡ false) × (r ≡ false)
none-of-three true q r e = cc
none-of-three false true r e = cc
none-of-three false false true e = cc
none-of-three false false false e = (refl, refl)

-- where no column is outside, the start and the core are within their limits
pub within-limits : (scenario : List (ℕ × ℕ)) (j : ℕ) (row : List ℕ) → outside_in_run scenario j row ≡ None → (start_in row ≤ MOST_START) × (core_in row ≤ MOST_CORE)
within-limits scenario j row inside =
    let both = none-of-three (nat_lt MOST_START (start_in row)) (not (finish_in row == start_in row + cost_of scenario j)) (nat_lt MOST_CORE (core_in row)) inside in
    (ltb-false MOST_START (start_in row) both.0, ltb-false MOST_CORE (core_in row) both.1)

-- each row's core is within its limit
pub core-within : (table : Table) (scenario : List (ℕ × ℕ)) (rows : List (List ℕ)) (k : ℕ) → KeepRules (outside_in_run scenario) table rows → k < length rows → core_in (get_or rows k []) ≤ MOST_CORE
core-within table scenario rows k kept below =
    let good : IsGood (outside_in_run scenario) table (get_or rows k []) = kept.each k [] below in
    (within-limits scenario good.job (get_or rows k []) good.inside).1

-- the starts that good rows give are within their limit
pub starts-within : (table : Table) → IsTable table → (scenario : List (ℕ × ℕ)) (rows : List (List ℕ)) (places : List Place) → KeepRules (outside_in_run scenario) table rows
    → Given place_in no_place table rows places (length table.jobs) → (j : ℕ) → j < length table.jobs → start_of places j ≤ MOST_START
starts-within table is_table scenario rows places kept given j below =
    let (k, row, there, is, gives) = given j below in
    let good : IsGood (outside_in_run scenario) table row = subst (IsGood (outside_in_run scenario) table) is (kept.each k row there) in
    let inside = inside-named (outside_in_run scenario) table is_table row j good gives.names in
    omega (arith, (within-limits scenario j row inside).0, ap (λ (p : Place). p.start) gives.item_is)
