-- The rows that a scenario is written as give it.
use Rattle.std.proofs.Common.{◌≡◌, ◌∙◌, ℕ, ◌<◌, List, [], length, get_or, refl, sym, ap, arith, zero-add}
use Rattle.std.proofs.lemmas.List.Elements.{All-from_get_or}
use Rattle.std.proofs.lemmas.List.FromFn.{get_or-map-range_with_len, length-map-range_with_len}
use Rattle.csv_numbers.specs.Rows.{Rows}
use Rattle.job_model.specs.Scenario.{Fits}
use Rattle.job_model.specs.Table.{IsTable, Table, job_at}
use Rattle.side_csv.specs.ScenarioRows.{scenario_row, scenario_rows}
use Rattle.side_csv.specs.RowPerJob.{IsGood, NamesJob, ids_of}
use Rattle.side_csv.specs.ScenarioText.{ScenarioText, outside_in_scenario}
use Rattle.side_csv.proofs.RowLemmas.{job-same}
use Rattle.side_csv.proofs.ScenarioLemmas.{none-outside}

-- the row at a job's number
row-at : (table : Table) (scenario : List (ℕ × ℕ)) (j : ℕ) (d : List ℕ) → j < length table.jobs → get_or (scenario_rows table scenario) j d ≡ scenario_row table scenario j
row-at table scenario j d below = get_or-map-range_with_len (scenario_row table scenario) 0 (length table.jobs) j j d below (zero-add j)

-- it names that job
names-at : (table : Table) (scenario : List (ℕ × ℕ)) (j : ℕ) → j < length table.jobs → NamesJob table (scenario_row table scenario j) j
names-at table scenario j below = record { is_job = below; ids_are = refl }

-- a text of these rows is one of the scenario
pub scenario-given : (table : Table) → IsTable table → (scenario : List (ℕ × ℕ)) → Fits table scenario → (bytes : List ℕ) → Rows bytes 4 (scenario_rows table scenario) → ScenarioText table bytes scenario
scenario-given table is_table scenario fits bytes reads =
    let rows : List (List ℕ) = scenario_rows table scenario in
    let count : length rows ≡ length table.jobs = length-map-range_with_len (scenario_row table scenario) 0 (length table.jobs) in
    record {
      rows = rows;
      rows_are = reads;
      kept = record {
        each = All-from_get_or (IsGood (outside_in_scenario table) table) rows [] (λ j there.
            let below : j < length table.jobs = omega (arith, there, count) in
            rw (row-at table scenario j [] below) (record { job = j; names = names-at table scenario j below; inside = none-outside (job_at table j) (scenario_row table scenario j) (fits.each j below) }));
        ids_differ = λ i j d less there same.
            let below : j < length table.jobs = omega (arith, there, count) in
            let ids = ap ids_of (sym (row-at table scenario i d (omega (arith, less, below)))) ∙ same ∙ ap ids_of (row-at table scenario j d below) in
            let one : i ≡ j = job-same table is_table i j (omega (arith, less, below)) below ids in
            absurd (omega (arith, less, one));
      };
      one_each = fits.one_each;
      given = λ j below.
          let row : List ℕ = scenario_row table scenario j in
          (j, row, omega (arith, below, count), row-at table scenario j row below, record { names = names-at table scenario j below; item_is = refl });
    }
