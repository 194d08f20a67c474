use Rattle.std.proofs.Common.{◌≡◌, ◌∙◌, rules, ℕ}
use borrow.Author.Tests.{tests}
use Rattle.std.specs.Prelude.{nat_le}
use Rattle.std.specs.List.{list_all, zip}
use Rattle.std.proofs.lemmas.Iterator.{YieldsList-from_slice, YieldsList-from_zip}
use Rattle.std.proofs.lemmas.Iterator.Search.{all_from_yields_List}
use Rattle.sag_time.proofs.ZippedLists.{pointwise-from_zip}
use Rattle.sag_time.proofs.avail.Avail.below.Goals as goal

pub returns-clause-below : goal.returns-clause-below
returns-clause-below c =
    let pairs : c.all.result ≡ list_all (λ (e : ℕ × ℕ). nat_le e.0 e.1) (zip c.args.self.now c.args.other.now) =
    all_from_yields_List (λ (e : ℕ × ℕ). nat_le e.0 e.1) c.all.new.self _ c.all.result c.all.ensures.ran
    (YieldsList-from_zip (YieldsList-from_slice c.args.self.now cc) (YieldsList-from_slice c.args.other.now cc)) (λ x b q k. search (rules, tests)) in
    pairs ∙ pointwise-from_zip nat_le c.args.self.now c.args.other.now c.requires
