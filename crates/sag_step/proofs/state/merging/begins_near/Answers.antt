use Rattle.std.proofs.Common.{◌≡◌, ◌∙◌, rules, ℕ}
use borrow.Author.Tests.{tests}
use Rattle.std.specs.List.{list_all, zip}
use Rattle.std.proofs.lemmas.Iterator.{YieldsList-from_slice, YieldsList-from_zip}
use Rattle.std.proofs.lemmas.Iterator.Search.{all_from_yields_List}
use Rattle.sag_time.proofs.ZippedLists.{pointwise-from_zip}
use Rattle.sag_step.proofs.Touching.{begins_near}
use Rattle.sag_step.proofs.state.merging.begins_near.Goals as goal

pub returns : goal.returns
returns c =
    let pairs : c.all.result ≡ list_all (λ (e : ℕ × ℕ). begins_near e.0 e.1) (zip c.args.low.now c.args.high.now) =
    all_from_yields_List (λ (e : ℕ × ℕ). begins_near e.0 e.1) c.all.new.self _ c.all.result c.all.ensures.ran
    (YieldsList-from_zip (YieldsList-from_slice c.args.low.now cc) (YieldsList-from_slice c.args.high.now cc)) (λ x b q k. search (rules, tests)) in
    pairs ∙ pointwise-from_zip begins_near c.args.low.now c.args.high.now c.requires
