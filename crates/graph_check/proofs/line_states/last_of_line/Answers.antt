use Rattle.std.proofs.Common.{arith, ◌+◌, ◌∷◌, ◌++◌, [], List, ℕ, get_or, take, refl, sym, ap, ◌∙◌, subst, ◌≡◌, ◌≤◌, ◌<◌, true}
use Rattle.std.proofs.lemmas.List.{take_more}
use Rattle.std.proofs.lemmas.Bool.{ltb-true}
use Rattle.std.specs.List.{list_all}
use Rattle.std.specs.Prelude.{nat_lt}
use Rattle.job_sets.specs.Subset.{Subset}
use Rattle.graph_check.proofs.LastJobs.{above-before, all-below, below-more, past_last, past_last-more, subset-is, take-whole, with-more}
use Rattle.graph_check.proofs.line_states.last_of_line.Goals as goal

pub loop-number-init : goal.loop-number-init
loop-number-init c = record { last = subset-is c.in_ok-last.last c.args.size [] c.in_ok-last.ensures.empty.0 c.in_ok-last.ensures.empty.1; least = refl; below = refl; few = omega arith }

pub returns-then-number-least-clause-none : goal.returns-then-number-least-clause-none
returns-then-number-least-clause-none c subset =
    let above = above-before c.args.list.now c.loop-number.number-index c.loop-number-test.true subset.rising in
    let least = c.loop-number.invariant.least in
    absurd (omega arith)

pub returns-then-number-from-clause-none : goal.returns-then-number-from-clause-none
returns-then-number-from-clause-none c subset =
    let below : get_or c.args.list.now c.loop-number.number-index 0 < c.args.size =
    all-below c.args.list.now c.args.size c.loop-number.number-index c.loop-number-test.true subset.in_range in
    absurd (omega arith)

pub add-requires : goal.add-requires
add-requires c =
    let size : c.loop-number.last.size ≡ c.args.size = ap (λ (s : Subset). s.size) c.loop-number.invariant.last in
    omega arith

pub loop-number-preserved : goal.loop-number-preserved
loop-number-preserved c =
    let list = c.args.list.now in
    let i = c.loop-number.number-index in
    let x = get_or list i 0 in
    let more : take (i + 1) list ≡ take i list ++ x ∷ [] = take_more list i 0 c.loop-number-test.true in
    record {
      last = with-more list i x c.args.size c.loop-number.least c.loop-number.last c.add.new.self more c.loop-number.invariant.last c.loop-number.invariant.below
          c.if-number-least.false c.add.ensures.set.0 c.add.ensures.set.1;
      least = ap past_last more ∙ past_last-more (take i list) x;
      below = subst (λ ys. list_all (λ k. nat_lt k (x + 1)) ys ≡ true) (sym more) (below-more x c.loop-number.least (take i list) c.loop-number.invariant.below c.if-number-least.false);
      few = omega arith;
    }

pub returns-clause-last : goal.returns-clause-last
returns-clause-last c = c.loop-number.invariant.last ∙ ap (λ (xs : List ℕ). record { size = c.args.size; members = xs }) (take-whole c.args.list.now c.loop-number.number-index (omega arith))
