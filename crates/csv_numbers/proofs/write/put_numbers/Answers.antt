use Rattle.std.proofs.Common.{◌++◌, ◌∙◌, ℕ, List, ap₂, arith, refl}
use Rattle.std.specs.Prelude.{decimal}
use Rattle.std.proofs.lemmas.List.{get_or_default}
use Rattle.csv_numbers.specs.RowsText.{next_field}
use Rattle.csv_numbers.proofs.FieldsJoined.{joined_more}
use Rattle.csv_numbers.proofs.write.put_numbers.Goals as goal

pub loop-place-preserved : goal.loop-place-preserved
loop-place-preserved c =
    c.in_ok-put_field.ensures
    ∙ ap₂ (λ (text field : List ℕ). text ++ next_field c.loop-place.place field) c.loop-place.invariant (c.as_bytes.ensures.value ∙ c.format.ensures.text)
    ∙ joined_more decimal c.args.text.now.items c.args.numbers.now c.loop-place.place _ 0 (omega (arith, c.loop-place-test.true)) refl

pub returns-in_err-push-clause-fit : goal.returns-in_err-push-clause-fit
returns-in_err-push-clause-fit c = λ k d lt. omega (arith, get_or_default c.args.numbers.now k d 0 lt, c.type_inv.numbers k)

pub returns-clause-fit : goal.returns-clause-fit
returns-clause-fit c = λ k d lt. omega (arith, get_or_default c.args.numbers.now k d 0 lt, c.type_inv.numbers k)
