use Rattle.cert_text.proofs.ReaderClauses.{nothing_held}
use Rattle.cert_text.proofs.reader.CertReader.of_version.Goals as goal

pub returns-clause-start : goal.returns-clause-start
returns-clause-start c = nothing_held c.requires
