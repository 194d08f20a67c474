use Rattle.std.proofs.Common.{◌∙◌, ap, length, sym}
use Rattle.csv_numbers.proofs.FlatLemmas.{length-flat_rows}
use Rattle.csv_numbers.proofs.rows.NumberRows.len.Goals as goal

pub returns : goal.returns
returns c = sym (length-flat_rows c.self.inside.width c.self.inside.count c.self.inside.numbers.items) ∙ ap length c.self.view_is
