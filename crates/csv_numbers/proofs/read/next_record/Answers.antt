use Rattle.csv.specs.Records.{fields_of}
use Rattle.csv_numbers.proofs.RowLemmas.{gives-next}
use Rattle.csv_numbers.proofs.read.next_record.Goals as goal

pub returns-clause-gives : goal.returns-clause-gives
returns-clause-gives c bytes records given =
    gives-next bytes records c.args.reader.now c.read_byte_record.new.self c.in-Ok.found (fields_of c.read_byte_record.new.row) given
    (c.in-Ok.ensures.reads given.trims given.ready) (c.in-Ok.ensures.ready given.trims)
