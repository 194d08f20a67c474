use Rattle.std.proofs.Common.{◌≡◌, ◌∙◌, None, Some, ap, codes, map, refl, string_bytes, sym}
use Rattle.std.proofs.lemmas.Result.{err_from_is_err_and}
use Rattle.clap.specs.Words.{found_of}
use Rattle.sag_words.specs.Convert.{convert_app}
use Rattle.sag_words.specs.Words.{Asks}
use Rattle.sag_words.proofs.WordLemmas.{convert_refused, value_read}
use Rattle.sag_words.proofs.convert.read_convert.Goals as goal

pub returns-in_err-matches-clause-usage : goal.returns-in_err-matches-clause-usage
returns-in_err-matches-clause-usage c =
    let fault = err_from_is_err_and c.from_residual.result c.from_residual.ensures.1 in
    rw (fault.1, fault.2) (λ u. convert_refused (map string_bytes c.args.words.now) (λ cert taken gives. c.in_err-matches.ensures.usage u taken))

pub returns-in_default-clause-usage : goal.returns-in_default-clause-usage
returns-in_default-clause-usage c u =
    let words = map string_bytes c.args.words.now in
    let read = value_read convert_app words (found_of c.in_ok-matches.matches) (codes "CERT") c.get_str.result c.get_str.ensures c.in_ok-matches.ensures.reads in
    let missing = rw c.in_default.is at read in
    convert_refused words (λ cert taken gives. let none : None ≡ Some cert = missing ∙ gives in cc none)

pub returns-clause-read : goal.returns-clause-read
unfolding Asks
returns-clause-read c =
    let words = map string_bytes c.args.words.now in
    let reads = c.in_ok-matches.ensures.reads in
    let found = found_of c.in_ok-matches.matches in
    let cert_read = value_read convert_app words found (codes "CERT") c.get_str.result c.get_str.ensures reads in
    (refl, c.in_ok-matches.ensures.takes, sym (rw c.in-Some.is at cert_read) ∙ ap Some (sym c.in_ok-from_text.ensures))
