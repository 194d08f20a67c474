use Rattle.std.proofs.Common.{◌++◌, ◌∙◌, ℕ, List, ap₂, arith, refl}
use Rattle.std.specs.Borrow.{Bor}
use Rattle.csv_numbers.specs.RowsText.{next_field}
use Rattle.csv_numbers.proofs.FieldsJoined.{joined_more}
use Rattle.csv_numbers.proofs.write.put_words.Goals as goal

pub loop-place-preserved : goal.loop-place-preserved
loop-place-preserved c =
    c.in_ok-put_field.ensures
    ∙ ap₂ (λ (text field : List ℕ). text ++ next_field c.loop-place.place field) c.loop-place.invariant c.as_bytes.ensures.value
    ∙ joined_more (λ (w : Bor (List ℕ)). w.now) c.args.text.now.items c.args.words.now c.loop-place.place _ _ (omega (arith, c.loop-place-test.true)) refl
