use Rattle.std.proofs.Common.{◌≡◌, ◌/◌, ◌%◌, ◌<◌, ◌≤◌, ℕ, List, true, length, get_or, sym, ap, ◌∙◌, arith, ⊎_elim}
use Rattle.std.specs.Prelude.{◌==◌, nat_lt}
use Rattle.std.specs.Int.{bit_at}
use Rattle.std.proofs.lemmas.Bool.{cases_lt, eq-eqb, eqb-true, false≢true, ltb-true}
use Rattle.std.proofs.lemmas.Grind.{get_or_default_zero}
use Rattle.job_sets.specs.Subset.{Subset, IsSubset, common, is_member}
use Rattle.job_sets.specs.Words.{AreWords, has_bit, members_of}
use Rattle.job_sets.proofs.Additions.{same_members}
use Rattle.job_sets.proofs.Bits.{beyond, is_member-members}
use Rattle.job_sets.proofs.Members.{list_all-member}
use Rattle.job_sets.proofs.Subsets.{both_true}
use Rattle.job_sets.proofs.Filters.{is_member-of_filter, is_rising-filter}
use Rattle.job_sets.proofs.job_set.JobSet.keep_common.Goals as goal

-- a bit of a word is set exactly where the number is a member
by_word : (s : Subset) (n : ℕ) (ws : List ℕ) (k v j : ℕ) → record { size = n; members = members_of n ws } ≡ s → AreWords n ws → k < length ws → v ≡ get_or ws k v → j / 64 ≡ k → (is_member j s.members ≡ true → bit_at v (j % 64) ≡ 1) × (bit_at v (j % 64) ≡ 1 → is_member j s.members ≡ true)
by_word s n ws k v j view are h e at = (to, from)
  where
    members : members_of n ws ≡ s.members
    members = ap (λ (q : Subset). q.members) view

    bits : has_bit ws j ≡ (bit_at v (j % 64) == 1)
    bits = ap (λ q. bit_at (get_or ws q 0) (j % 64) == 1) at ∙ ap (λ q. bit_at q (j % 64) == 1) (sym (e ∙ get_or_default_zero ws k v h))

    to : is_member j s.members ≡ true → bit_at v (j % 64) ≡ 1
    to there = ⊎_elim
        (λ (y : j < n). eqb-true _ 1 (sym bits ∙ sym (is_member-members n ws j y) ∙ ap (is_member j) members ∙ there))
        (λ (far : n ≤ j). absurd (false≢true (sym (beyond n ws j far) ∙ ap (is_member j) members ∙ there)))
        (cases_lt j n)

    from : bit_at v (j % 64) ≡ 1 → is_member j s.members ≡ true
    from one = ⊎_elim
        (λ (y : j < n). ap (is_member j) (sym members) ∙ is_member-members n ws j y ∙ bits ∙ eq-eqb _ 1 one)
        (λ (far : n ≤ j). absurd (false≢true (sym (are.clean j far) ∙ bits ∙ eq-eqb _ 1 one)))
        (cases_lt j n)

pub loop-place-preserved : goal.loop-place-preserved
loop-place-preserved c =
    let within : c.loop-place.place < length c.other.inside.words.items = omega (arith, c.other.invariant.0.long, c.word_count-place-end.ensures, c.loop-place-test.true) in
    let word = λ (j : ℕ) (at : j / 64 ≡ c.loop-place.place). by_word c.args.other.now c.other.inside.size c.other.inside.words.items c.loop-place.place c.index.result.now j c.other.view_is c.other.invariant.0 within c.index.ensures at in
    let is = c.loop-place.invariant in
    let now = c.keep_word.ensures in (
      now.size ∙ is.0,
      λ j there. is.1 j (now.fewer j there),
      λ j there ok. now.kept j (is.2 j there (λ below. ok (omega (arith, below)))) (λ at. (word j at).0 (ok (omega (arith, at)))),
      λ j there below. ⊎_elim
          (λ (before : j / 64 < c.loop-place.place). is.3 j (now.fewer j there) before)
          (λ (here : c.loop-place.place ≤ j / 64). let at : j / 64 ≡ c.loop-place.place = omega (arith, here, below) in (word j at).1 (now.gone j there at))
          (cases_lt (j / 64) c.loop-place.place),
    )

pub returns : goal.returns
returns c =
    let is = c.loop-place.invariant in
    let before : IsSubset c.args.self.now = c.size-size.ensures.subset in
    let after : IsSubset c.loop-place.self = c.size-size-2.ensures.subset in
    let size : c.other.inside.size ≡ c.args.self.now.size = ap (λ (s : Subset). s.size) c.other.view_is ∙ sym c.requires in
    let passed = λ (k : ℕ) (there : is_member k c.args.self.now.members ≡ true).
    let below : k < c.args.self.now.size = ltb-true k c.args.self.now.size (list_all-member (λ j. nat_lt j c.args.self.now.size) c.args.self.now.members k before.in_range there) in
    let at : k / 64 < c.loop-place.place = omega (arith, below, size, c.word_count-place-end.ensures, c.loop-place-test.false) in at in (
      is.0,
      same_members c.loop-place.self.members (common c.args.self.now.members c.args.other.now.members) after.rising
          (is_rising-filter (λ k. is_member k c.args.other.now.members) c.args.self.now.members before.rising)
          (λ k. both_true (is_member k c.args.other.now.members) (is_member k c.args.self.now.members) (is_member k c.loop-place.self.members)
          (λ theirs own. is.2 k own (λ _. theirs))
          (λ there. (is.3 k there (passed k (is.1 k there)), is.1 k there))
          ∙ sym (is_member-of_filter (λ j. is_member j c.args.other.now.members) c.args.self.now.members k)),
    )
