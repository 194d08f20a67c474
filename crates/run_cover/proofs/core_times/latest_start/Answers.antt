use Rattle.std.proofs.Common.{◌≡◌, ◌∙◌, ℕ, Bool, List, ap, arith, cond, filter, map, max, rules, sym}
use Rattle.job_sets.specs.Subset.{is_member}
use Rattle.lists.specs.Numbers.{greatest, numbers_below}
use Rattle.run_meaning.specs.Ready.{start_of}
use Rattle.run_cover.proofs.SeenJobs.{greatest-more, seen-whole}
use Rattle.run_cover.proofs.core_times.latest_start.Goals as goal
use Rattle.run_cover.proofs.core_times.latest_start.Goals.{then-has, else-has}

pub loop-no-preserved : goal.loop-no-preserved
loop-no-preserved c =
    let f : ℕ → ℕ = start_of c.args.schedule.now in
    let p : ℕ → Bool = λ k. is_member k c.args.set.now.members in
    let k = c.loop-no.no in
    let before : ℕ = greatest (map f (filter p (numbers_below k))) in
    let more = greatest-more f p k in
    elim c.if-has.branch [
      | then-has w ↦
          let start : c.if-has.start ≡ max (f k) c.loop-no.start = search rules in
          start ∙ ap (max (f k)) c.loop-no.invariant ∙ sym (more ∙ ap (λ b. cond b (max (f k) before) before) (sym c.has.ensures.member ∙ w.if-has.true))
      | else-has w ↦ w.start-is ∙ c.loop-no.invariant ∙ sym (more ∙ ap (λ b. cond b (max (f k) before) before) (sym c.has.ensures.member ∙ w.if-has.false))
    ]

pub returns-clause-start : goal.returns-clause-start
returns-clause-start c =
    let f : ℕ → ℕ = start_of c.args.schedule.now in
    let p : ℕ → Bool = λ k. is_member k c.args.set.now.members in
    let all : c.loop-no.no ≡ c.args.set.now.size = omega arith in
    c.loop-no.invariant ∙ ap (λ n. greatest (map f (filter p (numbers_below n)))) all ∙ ap (λ (xs : List ℕ). greatest (map f xs)) (seen-whole c.args.set.now c.size-no-end.ensures.subset)
