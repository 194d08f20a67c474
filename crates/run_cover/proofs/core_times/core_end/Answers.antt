use Rattle.std.proofs.Common.{◌≡◌, ◌∙◌, ◌&&◌, ℕ, Bool, List, ap, arith, cond, filter, map, max, rules, sym}
use Rattle.std.specs.Prelude.{◌==◌}
use Rattle.job_sets.specs.Subset.{is_member}
use Rattle.job_sets.proofs.Filters.{filter-both}
use Rattle.lists.specs.Numbers.{greatest, numbers_below}
use Rattle.run_meaning.specs.Ready.{core_of, finish_of}
use Rattle.run_cover.proofs.SeenJobs.{greatest-more, seen-whole}
use Rattle.run_cover.proofs.core_times.core_end.Goals as goal
use Rattle.run_cover.proofs.core_times.core_end.Goals.{then-is_on, else-is_on}

pub loop-no-preserved : goal.loop-no-preserved
loop-no-preserved c =
    let f : ℕ → ℕ = finish_of c.args.scenario.now c.args.schedule.now in
    let p : ℕ → Bool = λ k. core_of c.args.schedule.now k == c.args.core && is_member k c.args.set.now.members in
    let k = c.loop-no.no in
    let before : ℕ = greatest (map f (filter p (numbers_below k))) in
    let more = greatest-more f p k in
    elim c.if-is_on.branch [
      | then-is_on w ↦
          let end : c.if-is_on.end ≡ max (f k) c.loop-no.end = search rules in
          end ∙ ap (max (f k)) c.loop-no.invariant ∙ sym (more ∙ ap (λ b. cond b (max (f k) before) before) (sym c.is_on.ensures ∙ w.if-is_on.true))
      | else-is_on w ↦ w.end-is ∙ c.loop-no.invariant ∙ sym (more ∙ ap (λ b. cond b (max (f k) before) before) (sym c.is_on.ensures ∙ w.if-is_on.false))
    ]

pub returns : goal.returns
returns c =
    let f : ℕ → ℕ = finish_of c.args.scenario.now c.args.schedule.now in
    let on : ℕ → Bool = λ k. core_of c.args.schedule.now k == c.args.core in
    let q : ℕ → Bool = λ k. is_member k c.args.set.now.members in
    let all : c.loop-no.no ≡ c.args.set.now.size = omega arith in
    c.loop-no.invariant ∙ ap (λ n. greatest (map f (filter (λ k. on k && q k) (numbers_below n)))) all
    ∙ ap (λ (xs : List ℕ). greatest (map f xs)) (sym (filter-both on q (numbers_below c.args.set.now.size)))
    ∙ ap (λ (xs : List ℕ). greatest (map f (filter on xs))) (seen-whole c.args.set.now c.size-no-end.ensures.subset)
