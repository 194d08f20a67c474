use Rattle.sag_engine.proofs.ConvertLemmas.{conversion_ended, conversion_halt, conversion_wrong}
use Rattle.sag_engine.proofs.command_convert.convert_certificate.Goals as goal

pub returns-in-Ok-finish : goal.returns-in-Ok-finish
returns-in-Ok-finish g c =
    conversion_ended c.args.name _ _ c.new-conversion.result c.pour_file.new.taker c.new-conversion.ensures.fresh c.new-conversion.ensures.start
    c.in-Ok.ensures c.in-Ok-finish.text c.in-Ok-finish.ensures

pub returns-in-Err-Text : goal.returns-in-Err-Text
returns-in-Err-Text g c =
    rw c.new.ensures (conversion_wrong c.args.name _ _ c.new-conversion.result c.pour_file.new.taker c.new-conversion.ensures.fresh c.new-conversion.ensures.start
    c.in-Ok.ensures c.in-Err-Text.field-0 c.in-Err-Text.line c.in-Err-Text.byte c.in-Err-Text.field-0-is c.in-Err-Text.ensures)

pub returns-in-Err : goal.returns-in-Err
returns-in-Err g c = conversion_halt c.args.name _ _ _ _ c.in-Err.halt c.in-Err.ensures
