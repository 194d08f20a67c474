use Rattle.std.proofs.Common.{◌≡◌, ◌∙◌, None, Some, ap, codes, map, refl, string_bytes, sym}
use Rattle.std.proofs.lemmas.Result.{err_from_is_err_and}
use Rattle.clap.specs.Words.{found_of}
use Rattle.sag_words.specs.WhatIf.{whatif_app}
use Rattle.sag_words.specs.Words.{Asks}
use Rattle.sag_words.proofs.WordLemmas.{whatif_refused, value_read}
use Rattle.sag_words.proofs.what_if.read_what_if.Goals as goal

pub returns-in_err-matches-clause-usage : goal.returns-in_err-matches-clause-usage
returns-in_err-matches-clause-usage c =
    let fault = err_from_is_err_and c.from_residual.result c.from_residual.ensures.1 in
    rw (fault.1, fault.2) (λ u. whatif_refused (map string_bytes c.args.words.now) (λ jobs edits prec cores budget taken gives. c.in_err-matches.ensures.usage u taken))

pub returns-in_default-clause-usage : goal.returns-in_default-clause-usage
returns-in_default-clause-usage c u =
    let words = map string_bytes c.args.words.now in
    let read = value_read whatif_app words (found_of c.in_ok-matches.matches) (codes "JOBS") c.get_str.result c.get_str.ensures c.in_ok-matches.ensures.reads in
    let missing = rw c.in_default.is at read in
    whatif_refused words (λ jobs edits prec cores budget taken gives. let none : None ≡ Some jobs = missing ∙ gives.0 in cc none)

pub returns-in_default-get_str-clause-usage : goal.returns-in_default-get_str-clause-usage
returns-in_default-get_str-clause-usage c u =
    let words = map string_bytes c.args.words.now in
    let read = value_read whatif_app words (found_of c.in_ok-matches.matches) (codes "EDITS") c.get_str-2.result c.get_str-2.ensures c.in_ok-matches.ensures.reads in
    let missing = rw c.in_default-get_str.is at read in
    whatif_refused words (λ jobs edits prec cores budget taken gives. let none : None ≡ Some edits = missing ∙ gives.1 in cc none)

pub returns-in_default-cores_of-clause-usage : goal.returns-in_default-cores_of-clause-usage
returns-in_default-cores_of-clause-usage c u =
    let words = map string_bytes c.args.words.now in
    let read = value_read whatif_app words (found_of c.in_ok-matches.matches) (codes "cores") c.get_str-3.result c.get_str-3.ensures c.in_ok-matches.ensures.reads in
    let refused = rw (c.in_default-cores_of.is, read) at c.cores_of.ensures in
    whatif_refused words (λ jobs edits prec cores budget taken gives. refused cores gives.3)

pub returns-in_default-budget_of-clause-usage : goal.returns-in_default-budget_of-clause-usage
returns-in_default-budget_of-clause-usage c u =
    let words = map string_bytes c.args.words.now in
    let read = value_read whatif_app words (found_of c.in_ok-matches.matches) (codes "budget") c.get_str-4.result c.get_str-4.ensures c.in_ok-matches.ensures.reads in
    let refused = rw (c.in_default-budget_of.is, read) at c.budget_of.ensures in
    whatif_refused words (λ jobs edits prec cores budget taken gives. refused budget gives.4)

pub returns-clause-read : goal.returns-clause-read
unfolding Asks
returns-clause-read c =
    let words = map string_bytes c.args.words.now in
    let reads = c.in_ok-matches.ensures.reads in
    let found = found_of c.in_ok-matches.matches in
    let jobs_read = value_read whatif_app words found (codes "JOBS") c.get_str.result c.get_str.ensures reads in
    let edits_read = value_read whatif_app words found (codes "EDITS") c.get_str-2.result c.get_str-2.ensures reads in
    let cores_read = value_read whatif_app words found (codes "cores") c.get_str-3.result c.get_str-3.ensures reads in
    let budget_read = value_read whatif_app words found (codes "budget") c.get_str-4.result c.get_str-4.ensures reads in
    let prec_read = value_read whatif_app words found (codes "prec") c.get_str-5.result c.get_str-5.ensures reads in
    (refl, c.in_ok-matches.ensures.takes, (sym (rw c.in-Some.is at jobs_read) ∙ ap Some (sym c.in_ok-from_text.ensures), sym (rw c.in-Some-get_str.is at edits_read) ∙ ap Some (sym c.in_ok-from_text-2.ensures), sym prec_read ∙ sym c.in_ok-name_of.ensures, rw cores_read at c.in-Some-cores_of.ensures, rw budget_read at c.in-Some-budget_of.ensures))
