use Rattle.std.proofs.Common.{◌≡◌, ◌∙◌, None, Some, ap, codes, map, refl, string_bytes, sym}
use Rattle.std.proofs.lemmas.Result.{err_from_is_err_and}
use Rattle.clap.specs.Words.{found_of}
use Rattle.sag_words.specs.Unroll.{unroll_app}
use Rattle.sag_words.specs.Words.{Asks}
use Rattle.sag_words.proofs.WordLemmas.{unroll_refused, value_read}
use Rattle.sag_words.proofs.unroll.read_unroll.Goals as goal

pub returns-in_err-matches-clause-usage : goal.returns-in_err-matches-clause-usage
returns-in_err-matches-clause-usage c =
    let fault = err_from_is_err_and c.from_residual.result c.from_residual.ensures.1 in
    rw (fault.1, fault.2) (λ u. unroll_refused (map string_bytes c.args.words.now) (λ tasks horizon policy taken gives. c.in_err-matches.ensures.usage u taken))

pub returns-in_default-clause-usage : goal.returns-in_default-clause-usage
returns-in_default-clause-usage c u =
    let words = map string_bytes c.args.words.now in
    let read = value_read unroll_app words (found_of c.in_ok-matches.matches) (codes "TASKS") c.get_str.result c.get_str.ensures c.in_ok-matches.ensures.reads in
    let missing = rw c.in_default.is at read in
    unroll_refused words (λ tasks horizon policy taken gives. let none : None ≡ Some tasks = missing ∙ gives.0 in cc none)

pub returns-in_default-horizon_of-clause-usage : goal.returns-in_default-horizon_of-clause-usage
returns-in_default-horizon_of-clause-usage c u =
    let words = map string_bytes c.args.words.now in
    let read = value_read unroll_app words (found_of c.in_ok-matches.matches) (codes "HORIZON") c.get_str-2.result c.get_str-2.ensures c.in_ok-matches.ensures.reads in
    let refused = rw (c.in_default-horizon_of.is, read) at c.horizon_of.ensures in
    unroll_refused words (λ tasks horizon policy taken gives. refused horizon gives.1)

pub returns-in_default-policy_of-clause-usage : goal.returns-in_default-policy_of-clause-usage
returns-in_default-policy_of-clause-usage c u =
    let words = map string_bytes c.args.words.now in
    let read = value_read unroll_app words (found_of c.in_ok-matches.matches) (codes "POLICY") c.get_str-3.result c.get_str-3.ensures c.in_ok-matches.ensures.reads in
    let refused = rw (c.in_default-policy_of.is, read) at c.policy_of.ensures in
    unroll_refused words (λ tasks horizon policy taken gives. refused policy gives.2)

pub returns-clause-read : goal.returns-clause-read
unfolding Asks
returns-clause-read c =
    let words = map string_bytes c.args.words.now in
    let reads = c.in_ok-matches.ensures.reads in
    let found = found_of c.in_ok-matches.matches in
    let tasks_read = value_read unroll_app words found (codes "TASKS") c.get_str.result c.get_str.ensures reads in
    let horizon_read = value_read unroll_app words found (codes "HORIZON") c.get_str-2.result c.get_str-2.ensures reads in
    let policy_read = value_read unroll_app words found (codes "POLICY") c.get_str-3.result c.get_str-3.ensures reads in
    (refl, c.in_ok-matches.ensures.takes, (sym (rw c.in-Some.is at tasks_read) ∙ ap Some (sym c.in_ok-from_text.ensures), rw horizon_read at c.in-Some-horizon_of.ensures, rw policy_read at c.in-Some-policy_of.ensures))
