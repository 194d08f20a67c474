use Rattle.std.proofs.Common.{◌∙◌}
use Rattle.csv_numbers.proofs.RowLemmas.{gives-none}
use Rattle.csv_numbers.proofs.read.reader_of.Goals as goal

pub returns : goal.returns
returns c =
    let fr = c.from_reader.ensures in
    let e = c.has_headers.ensures in
    let f = c.flexible.ensures in
    gives-none c.args.bytes.now c.from_reader.result (rw (f, e) at fr.trim ∙ c.new.ensures.trim) (rw (f, e) at fr.has_headers) fr.headers (rw (f, e) at fr.config ∙ c.new.ensures.config) fr.state fr.source
