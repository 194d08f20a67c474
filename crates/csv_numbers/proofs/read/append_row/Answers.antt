use Rattle.std.proofs.Common.{◌≡◌, ◌++◌, ◌∷◌, ◌∙◌, [], List, ℕ, take, ap, arith, rules, add-one, append_assoc}
use Rattle.std.proofs.lemmas.Slice.Zip.{all_zipped_more}
use Rattle.std.specs.Result.{is_ok}
use Rattle.std.specs.Prelude.{true}
use Rattle.csv.specs.Records.{fields_of}
use Rattle.csv_numbers.specs.Fields.{Spells, bare}
use Rattle.csv_numbers.proofs.RowLemmas.{bad-field, field-none, field-take}
use Rattle.csv_numbers.proofs.read.append_row.Goals as goal

pub unreachable-requires : goal.unreachable-requires
unreachable-requires c =
    let none = field-none (fields_of c.args.entry.now) c.columns.column (rw (c.in_default.is, c.from-in-columns.ensures) at c.get.ensures.value) in
    omega (arith, none)

pub returns-in-Err-NotNumber-clause-breaks : goal.returns-in-Err-NotNumber-clause-breaks
returns-in-Err-NotNumber-clause-breaks c =
    let here = rw (c.in-Some.is, c.from-in-columns.ensures) at c.get.ensures.value in
    bad-field _ c.args.width (fields_of c.args.entry.now) c.columns.column c.in-Some.field.now c.args.numbers.now.items c.columns.numbers.items
    (omega arith) (omega arith) here c.columns.invariant (rw c.in-Err-NotNumber.field-0-is at c.in-Err-NotNumber.ensures)

pub returns-in-Err-TooBig-clause-breaks : goal.returns-in-Err-TooBig-clause-breaks
returns-in-Err-TooBig-clause-breaks c =
    let here = rw (c.in-Some.is, c.from-in-columns.ensures) at c.get.ensures.value in
    bad-field _ c.args.width (fields_of c.args.entry.now) c.columns.column c.in-Some.field.now c.args.numbers.now.items c.columns.numbers.items
    (omega arith) (omega arith) here c.columns.invariant (rw c.in-Err-TooBig.field-0-is at c.in-Err-TooBig.ensures)

pub columns-preserved : goal.columns-preserved
columns-preserved c =
    let fields = fields_of c.args.entry.now in
    let column = c.columns.column in
    let so_far = c.columns.invariant in
    let here = rw (c.in-Some.is, c.from-in-columns.ensures) at c.get.ensures.value in
    let good : is_ok c.push.result ≡ true = search rules in
    let items = rw good at c.push.ensures.items in
    record {
      row = so_far.row ++ c.in-Ok.number ∷ [];
      reads = rw (add-one, field-take fields column c.in-Some.field.now here)
          (all_zipped_more (λ field n. Spells (bare field) n) (take column fields) so_far.row c.in-Some.field.now c.in-Ok.number so_far.reads c.in-Ok.ensures);
      appended = items ∙ ap (λ (l : List ℕ). l ++ c.in-Ok.number ∷ []) so_far.appended ∙ append_assoc c.args.numbers.now.items so_far.row (c.in-Ok.number ∷ []);
    }
