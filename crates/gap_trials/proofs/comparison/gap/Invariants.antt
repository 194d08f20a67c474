use Rattle.gap_trials.specs.Steps.{HasTaken}
use Rattle.gap_trials.proofs.comparison.gap.Given as goal

abbrev pub invariant-loop-k : goal.invariant-loop-k
invariant-loop-k l = HasTaken l.table l.cores l.k l.gap
