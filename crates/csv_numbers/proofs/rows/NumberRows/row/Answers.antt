use Rattle.std.proofs.Common.{◌≡◌, ◌≤◌, ◌+◌, ◌*◌, ◌-◌, ◌∙◌, [], List, ℕ, ap, arith, drop, get_or, length, sym, take}
use Rattle.csv_numbers.proofs.FlatLemmas.{below-count, flat_rows-at, row-within}
use Rattle.csv_numbers.proofs.rows.NumberRows.row.Goals as goal

-- the row ends within the numbers
ends-within : (c : goal.After-as_slice-numbers) → c.args.place * c.self.inside.width + c.self.inside.width ≤ length c.as_slice-numbers.result.now
ends-within c =
    let long : length c.as_slice-numbers.result.now ≡ c.self.inside.count * c.self.inside.width = ap length c.as_slice-numbers.ensures.value ∙ c.self.invariant in
    omega (arith, long, row-within c.self.inside.width c.self.inside.count c.args.place (below-count c.self.inside.width c.self.inside.count c.self.inside.numbers.items c.args.self.now c.args.place c.self.view_is c.requires))

pub overflow_mul-start : goal.overflow_mul-start
overflow_mul-start c = omega (arith, ends-within c, c.as_slice-numbers.type_inv)

pub overflow_add-result : goal.overflow_add-result
overflow_add-result c = omega (arith, ends-within c, c.as_slice-numbers.type_inv)

pub offset_bounds-numbers-start : goal.offset_bounds-numbers-start
offset_bounds-numbers-start c = omega (arith, ends-within c, c.as_slice-numbers.type_inv)

pub slice_bounds-result-end : goal.slice_bounds-result-end
slice_bounds-result-end c = omega (arith, ends-within c)

pub returns : goal.returns
returns c =
    let width = c.self.inside.width in
    let start : ℕ = c.args.place * width in
    let long : start + width - start ≡ width = omega arith in
    let at = flat_rows-at width c.self.inside.count c.args.place c.self.inside.numbers.items (below-count width c.self.inside.count c.self.inside.numbers.items c.args.self.now c.args.place c.self.view_is c.requires) in
    ap (λ n. take n (drop start c.as_slice-numbers.result.now)) long
    ∙ ap (λ (l : List ℕ). take width (drop start l)) c.as_slice-numbers.ensures.value
    ∙ sym at
    ∙ ap (λ (l : List (List ℕ)). get_or l c.args.place []) c.self.view_is
