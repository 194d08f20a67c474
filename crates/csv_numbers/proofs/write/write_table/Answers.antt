use Rattle.std.proofs.Common.{◌≡◌, ◌<◌, ◌++◌, ◌∙◌, [], ℕ, List, ap, arith, get_or, length, map, subst, sym, take}
use Rattle.std.proofs.lemmas.List.{get_or_default, length-map, take_all}
use Rattle.std.proofs.lemmas.List.Elements.{All-more}
use Rattle.csv_numbers.specs.Rows.{Rows}
use Rattle.csv_numbers.specs.RowsText.{line_of, row_line, rows_text}
use Rattle.csv_numbers.proofs.LineLemmas.{some-plain, rows_text-more, rows_text-none}
use Rattle.csv_numbers.proofs.ReadBack.{IsRow, rows_text-reads}
use Rattle.csv_numbers.proofs.write.write_table.Goals as goal

pub loop-row-init : goal.loop-row-init
loop-row-init g c =
    let words : List (List ℕ) = map (λ w. w.now) c.args.heading.now in
    record {
      text = c.in_ok-put_words.ensures ∙ ap (λ (t : List ℕ). t ++ line_of words) c.new-text.ensures.items ∙ rows_text-none words;
      rows = λ k d lt. absurd (omega (arith, lt));
    }

pub loop-row-preserved : goal.loop-row-preserved
loop-row-preserved g c =
    let words : List (List ℕ) = map (λ w. w.now) c.args.heading.now in
    let rows : List (List ℕ) = c.args.rows.now in
    let i : ℕ = c.loop-row.row-index in
    let lt : i < length rows = omega (arith, c.loop-row-test.true) in
    let row : List ℕ = c.columns.result.now in
    let is : row ≡ get_or rows i [] = c.columns.ensures.numbers ∙ c.row-item.is ∙ get_or_default rows i c.row-item.result [] lt in
    let wide : length row ≡ length c.args.heading.now = c.columns.ensures.width ∙ sym c.requires.width in
    let fits : IsRow (length c.args.heading.now) row = record { width_is = wide; fit = c.put_numbers.ensures.fit } in
    record {
      text = c.in_ok-put_numbers.ensures.line ∙ ap (λ (t : List ℕ). t ++ row_line row) c.loop-row.invariant.text ∙ rows_text-more words rows i row lt is;
      rows = All-more (IsRow (length c.args.heading.now)) rows i [] lt c.loop-row.invariant.rows (subst (IsRow (length c.args.heading.now)) is fits);
    }

pub returns-clause-text : goal.returns-clause-text
returns-clause-text g c =
    c.loop-row.invariant.text ∙ ap (rows_text (map (λ w. w.now) c.args.heading.now)) (take_all c.loop-row.row-index c.args.rows.now (omega (arith, c.loop-row-test.false)))

pub returns-clause-reads : goal.returns-clause-reads
returns-clause-reads g c =
    let heading = c.args.heading.now in
    let words : List (List ℕ) = map (λ w. w.now) heading in
    let rows : List (List ℕ) = c.args.rows.now in
    let all : take c.loop-row.row-index rows ≡ rows = take_all c.loop-row.row-index rows (omega (arith, c.loop-row-test.false)) in
    let text : c.loop-row.text.items ≡ rows_text words rows = c.loop-row.invariant.text ∙ ap (rows_text words) all in
    let count : length words ≡ length heading = length-map heading (λ w. w.now) in
    let read : Rows (rows_text words rows) (length heading) rows =
    rows_text-reads (length heading) words rows c.requires.plain count (omega (arith, some-plain words c.requires.plain, count)) (rw all at c.loop-row.invariant.rows) in
    rw text (subst (λ (width : ℕ). Rows (rows_text words rows) width rows) c.requires.width read)
