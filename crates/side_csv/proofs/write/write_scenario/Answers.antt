use Rattle.std.proofs.Common.{◌≡◌, ◌∙◌, ap, arith, length, map, sym, zero-add}
use Rattle.std.proofs.lemmas.List.FromFn.{map-range_with_len_more}
use Rattle.std.proofs.lemmas.Result.{IfOk-weaker}
use Rattle.csv_numbers.specs.Rows.{Rows}
use Rattle.lists.specs.Numbers.{numbers_below}
use Rattle.side_csv.specs.ScenarioRows.{scenario_row, scenario_rows}
use Rattle.side_csv.specs.ScenarioText.{ScenarioText}
use Rattle.side_csv.proofs.WriteLemmas.{scenario-given}
use Rattle.side_csv.proofs.write.write_scenario.Goals as goal

pub loop-no-preserved : goal.loop-no-preserved
loop-no-preserved c =
    rw (c.in_ok-push.ensures.items, c.loop-no.invariant, c.row_of.ensures)
    (sym (map-range_with_len_more (scenario_row c.args.table.now c.args.scenario.now) 0 c.loop-no.no c.loop-no.no (zero-add c.loop-no.no)))

-- the rows are those of all jobs
all-rows : (c : goal.After-drop-rows-2) → c.deref.result.now ≡ scenario_rows c.args.table.now c.args.scenario.now
all-rows c =
    let table = c.args.table.now in
    let last : c.loop-no.no ≡ length table.jobs = omega (arith, c.len-count.ensures.count, c.loop-no-test.false, c.loop-no.auto.no-end) in
    c.deref.ensures.value ∙ c.loop-no.invariant ∙ ap (λ n. map (scenario_row table c.args.scenario.now) (numbers_below n)) last

pub returns-clause-text : goal.returns-clause-text
returns-clause-text c = rw (all-rows c) at c.write_table.ensures.text

pub returns-clause-reads : goal.returns-clause-reads
returns-clause-reads c =
    let table = c.args.table.now in
    let scenario = c.args.scenario.now in
    IfOk-weaker c.write_table.result (λ text. Rows text.items 4 (scenario_rows table scenario)) (λ text. ScenarioText table text.items scenario)
    (λ text reads. scenario-given table c.len-count.ensures.table scenario c.requires text.items reads) (rw (all-rows c) at c.write_table.ensures.reads)
