use Rattle.std.proofs.Common.{codes, map, refl, string_bytes}
use Rattle.std.proofs.lemmas.Result.{err_from_is_err_and}
use Rattle.clap.specs.Words.{found_of}
use Rattle.sag_words.specs.Selftest.{selftest_app}
use Rattle.sag_words.specs.Words.{Asks}
use Rattle.sag_words.proofs.WordLemmas.{selftest_refused, value_read}
use Rattle.sag_words.proofs.selftest.read_selftest.Goals as goal

pub returns-in_err-matches-clause-usage : goal.returns-in_err-matches-clause-usage
returns-in_err-matches-clause-usage c =
    let fault = err_from_is_err_and c.from_residual.result c.from_residual.ensures.1 in
    rw (fault.1, fault.2) (λ u. selftest_refused (map string_bytes c.args.words.now) (λ number cores taken gives. c.in_err-matches.ensures.usage u taken))

pub returns-in_default-clause-usage : goal.returns-in_default-clause-usage
returns-in_default-clause-usage c u =
    let words = map string_bytes c.args.words.now in
    let read = value_read selftest_app words (found_of c.in_ok-matches.matches) (codes "NUMBER") c.get_str.result c.get_str.ensures c.in_ok-matches.ensures.reads in
    let refused = rw (c.in_default.is, read) at c.number_of.ensures in
    selftest_refused words (λ number cores taken gives. refused number gives.0)

pub returns-in_default-cores_of-clause-usage : goal.returns-in_default-cores_of-clause-usage
returns-in_default-cores_of-clause-usage c u =
    let words = map string_bytes c.args.words.now in
    let read = value_read selftest_app words (found_of c.in_ok-matches.matches) (codes "cores") c.get_str-2.result c.get_str-2.ensures c.in_ok-matches.ensures.reads in
    let refused = rw (c.in_default-cores_of.is, read) at c.cores_of.ensures in
    selftest_refused words (λ number cores taken gives. refused cores gives.1)

pub returns-clause-read : goal.returns-clause-read
unfolding Asks
returns-clause-read c =
    let words = map string_bytes c.args.words.now in
    let reads = c.in_ok-matches.ensures.reads in
    let found = found_of c.in_ok-matches.matches in
    let number_read = value_read selftest_app words found (codes "NUMBER") c.get_str.result c.get_str.ensures reads in
    let cores_read = value_read selftest_app words found (codes "cores") c.get_str-2.result c.get_str-2.ensures reads in
    (refl, c.in_ok-matches.ensures.takes, (rw number_read at c.in-Some.ensures, rw cores_read at c.in-Some-cores_of.ensures))
