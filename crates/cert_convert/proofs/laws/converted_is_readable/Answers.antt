use Rattle.cert_convert.proofs.ConvertedLemmas.{converted_is_readable}
use Rattle.cert_convert.proofs.laws.converted_is_readable.Goals as goal

pub returns : goal.returns
returns c = converted_is_readable c.old_lines_fit.ensures
