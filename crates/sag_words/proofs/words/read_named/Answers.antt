use Rattle.std.proofs.Common.{map, string_bytes}
use Rattle.sag_words.proofs.WordLemmas.{unknown_refused}
use Rattle.sag_words.proofs.words.read_named.Goals as goal

pub returns-in_default-clause-usage : goal.returns-in_default-clause-usage
returns-in_default-clause-usage c u =
    unknown_refused c.args.name.now (map string_bytes c.args.rest.now) c.in_default.not-analyse c.in_default.not-check c.in_default.not-replay c.in_default.not-attain c.in_default.not-report c.in_default.not-selftest c.in_default.not-convert c.in_default.not-audit c.in_default.not-unroll c.in_default.not-whatif c.in_default.not-gap
