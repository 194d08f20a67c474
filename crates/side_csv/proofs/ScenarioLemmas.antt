-- What the rows of a scenario file give is a scenario.
use Rattle.std.proofs.Common.{◌≡◌, ℕ, ◌≤◌, List, [], ◌∷◌, true, false, Bool, Option, None, Some, length, refl, arith, nat_lt, subst}
use Rattle.std.specs.Prelude.{◌||◌, find}
use Rattle.std.specs.Option.{option_map}
use Rattle.std.proofs.lemmas.Bool.{ltb-false, or_parts}
use Rattle.std.proofs.lemmas.Bool.Decides.{nat_tests}
use Rattle.job_model.specs.declared.job_row.Job.{Job}
use Rattle.job_model.specs.Scenario.{CanRunAs, Fits}
use Rattle.job_model.specs.Table.{IsTable, Table, job_at}
use Rattle.side_csv.specs.RowPerJob.{IsGood, KeepRules}
use Rattle.side_csv.specs.ScenarioText.{cost_in, first_outside, intervals, outside_in_scenario, release_in, values_in}
use Rattle.side_csv.proofs.ItemLemmas.{Given}
use Rattle.side_csv.proofs.RowLemmas.{inside-named}

-- nothing is found of two that both fail
nothing : {X Y : Type 0} (g : X → Y) (o : Option X) → option_map g o ≡ None → o ≡ None
nothing g None e = refl
nothing g (Some x) e = cc

none-found : {X : Type 0} (f : X → Bool) (x y : X) (p q : Bool) → f x ≡ p → f y ≡ q → find f (x ∷ y ∷ []) ≡ None → (p ≡ false) × (q ≡ false)
none-found f x y true q e e' none = let here : find f (x ∷ y ∷ []) ≡ Some x = rw e refl in cc
none-found f x y false true e e' none = let here : find f (x ∷ y ∷ []) ≡ Some y = rw (e, e') refl in cc
none-found f x y false false e e' none = (refl, refl)

-- where no column is outside, the job can be released and cost so
can-run : (a : Job) (row : List ℕ) → first_outside (intervals a row) ≡ None → CanRunAs a (release_in row) (cost_in row)
can-run a row inside =
    let f : ℕ × ℕ × ℕ × ℕ → Bool = λ c. nat_lt c.1 c.2 || nat_lt c.3 c.1 in
    let x : ℕ × ℕ × ℕ × ℕ = (3, release_in row, a.rmin, a.rmax) in
    let y : ℕ × ℕ × ℕ × ℕ = (4, cost_in row, a.cmin, a.cmax) in
    let both = none-found f x y (f x) (f y) refl refl (nothing (λ (c : ℕ × ℕ × ℕ × ℕ). c.0) (find f (x ∷ y ∷ [])) inside) in
    let release = or_parts (nat_lt (release_in row) a.rmin) (nat_lt a.rmax (release_in row)) both.0 in
    let cost = or_parts (nat_lt (cost_in row) a.cmin) (nat_lt a.cmax (cost_in row)) both.1 in
    record {
      not_before = ltb-false (release_in row) a.rmin release.0;
      not_after = ltb-false a.rmax (release_in row) release.1;
      at_least = ltb-false (cost_in row) a.cmin cost.0;
      at_most = ltb-false a.cmax (cost_in row) cost.1;
    }

-- the release and the cost of a job that can run so are not outside
pub none-outside : (a : Job) (row : List ℕ) → CanRunAs a (release_in row) (cost_in row) → first_outside (intervals a row) ≡ None
none-outside a row can =
    let one : nat_lt (release_in row) a.rmin ≡ false = not_below (release_in row) a.rmin can.not_before in
    let two : nat_lt a.rmax (release_in row) ≡ false = not_below a.rmax (release_in row) can.not_after in
    let three : nat_lt (cost_in row) a.cmin ≡ false = not_below (cost_in row) a.cmin can.at_least in
    let four : nat_lt a.cmax (cost_in row) ≡ false = not_below a.cmax (cost_in row) can.at_most in
    rw (one, two, three, four) refl
  where
    not_below : (m n : ℕ) → n ≤ m → nat_lt m n ≡ false
    not_below m n h = grind (arith, nat_tests)

-- the values that good rows give are a scenario of the table
pub fits-given : (table : Table) → IsTable table → (rows : List (List ℕ)) (values : List (ℕ × ℕ)) → KeepRules (outside_in_scenario table) table rows → length values ≡ length table.jobs
    → Given values_in (0, 0) table rows values (length table.jobs) → Fits table values
fits-given table is_table rows values kept one_each given = record {
  one_each = one_each;
  each = λ j below.
      let (k, row, there, is, gives) = given j below in
      let good : IsGood (outside_in_scenario table) table row = subst (IsGood (outside_in_scenario table) table) is (kept.each k row there) in
      let here = can-run (job_at table j) row (inside-named (outside_in_scenario table) table is_table row j good gives.names) in
      subst (λ (v : ℕ × ℕ). CanRunAs (job_at table j) v.0 v.1) gives.item_is here;
}
