use Rattle.std.proofs.Common.{sym, ap, ◌∙◌}
use Rattle.state_merge.specs.SameSet.{numbers_of, sets_of}
use Rattle.sag_step.specs.State.{states_of}
use Rattle.state_merge.proofs.SetLemmas.{index-at}
use Rattle.state_merge.proofs.level_index.LevelIndex.same_set.Goals as goal

pub returns-in-Some : goal.returns-in-Some
unfolding numbers_of
returns-in-Some c =
    let x = c.self.inside in
    c.at.ensures ∙ index-at (sets_of (states_of x.states.items)) x.sets.keys x.numbers c.args.set.now c.in-Some.place c.self.invariant (sym c.in-Some.ensures.index)
    ∙ ap (numbers_of c.args.set.now) c.self.view_is

pub returns-in-None : goal.returns-in-None
unfolding numbers_of
returns-in-None c =
    sym (c.self.invariant.others c.args.set.now (sym c.in-None.ensures.index)) ∙ ap (numbers_of c.args.set.now) c.self.view_is
