use Rattle.std.proofs.Common.{◌≡◌, ◌+◌}
use Rattle.sag_step.specs.Group.{offers}
use Rattle.sag_step.specs.State.{states_of}
use Rattle.sag_step.specs.Offers.{offers_from}
use Rattle.graph_builder.specs.Filling.{FitsBudget, IsDraft, before_of, completed, first_over, level_of, no_level}
use Rattle.graph_builder.specs.Fit.{IsScratch, most_at}
use Rattle.graph_builder.proofs.filling.fill.Given as goal

-- what the offers of the later states make is what all make, and none so far was over the budget
abbrev pub invariant-loop-i : goal.invariant-loop-i
invariant-loop-i l =
    let level = states_of l.states in
    record {
      made : completed (level_of l.draft) (offers_from l.table level l.i) ≡ completed no_level (offers l.table level);
      over : first_over l.purse.budget (before_of l.purse) (level_of l.draft) (offers_from l.table level l.i)
          ≡ first_over l.purse.budget (before_of l.purse) no_level (offers l.table level);
      draft : IsDraft l.table l.cores (most_at (l.purse.level + 1)) l.draft;
      fits : FitsBudget l.purse (level_of l.draft);
      scratch : IsScratch l.table l.cores l.room.scratch;
    }
