use Rattle.std.proofs.Common.{rules, ℕ}
use borrow.Author.Tests.{tests}
use Rattle.std.specs.Prelude.{nat_le}
use Rattle.std.proofs.lemmas.Iterator.{YieldsList-from_slice}
use Rattle.std.proofs.lemmas.Iterator.Search.{all_from_yields_List}
use Rattle.sag_step.specs.declared.TheConstants.{MOST_TIME}
use Rattle.state_calls.proofs.sag_step_calls.shape.in_limit.Goals as goal

pub returns : goal.returns
returns c =
    all_from_yields_List (λ (t : ℕ). nat_le t MOST_TIME) c.all.new.self _ c.all.result c.all.ensures.ran (YieldsList-from_slice c.args.times.now cc) (λ x b q k. search (rules, tests))
