use Rattle.std.proofs.Common.{◌≡◌, sym, ap, ◌∙◌, refl}
use Rattle.std.proofs.lemmas.Bool.{false≢true}
use Rattle.sag_time.specs.Sorted.{is_sorted}
use Rattle.sag_time.proofs.SortedLists.{is_sorted-answer}
use Rattle.sag_time.proofs.avail.Avail.from_list.Goals as goal

pub returns-then-not-is_sorted-clause-sorted : goal.returns-then-not-is_sorted-clause-sorted
returns-then-not-is_sorted-clause-sorted c =
    let answer : c.is_sorted.result ≡ is_sorted c.args.list.items = is_sorted-answer _ _ c.is_sorted.ensures.cases ∙ ap is_sorted c.deref.ensures.value in
    (λ e. absurd (false≢true e), λ sorted. sym c.if-not-is_sorted.true ∙ answer ∙ sorted)

pub invariant_of-result : goal.invariant_of-result
invariant_of-result c =
    let answer : c.is_sorted.result ≡ is_sorted c.args.list.items = is_sorted-answer _ _ c.is_sorted.ensures.cases ∙ ap is_sorted c.deref.ensures.value in
    (sym answer ∙ c.if-not-is_sorted.false, c.requires)

pub returns-clause-sorted : goal.returns-clause-sorted
returns-clause-sorted c =
    let answer : c.is_sorted.result ≡ is_sorted c.args.list.items = is_sorted-answer _ _ c.is_sorted.ensures.cases ∙ ap is_sorted c.deref.ensures.value in
    (λ _. sym answer ∙ c.if-not-is_sorted.false, λ _. refl)
