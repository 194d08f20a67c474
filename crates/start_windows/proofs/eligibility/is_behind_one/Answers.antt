use Rattle.std.proofs.Common.{◌∙◌, sym, arith}
use Rattle.start_windows.proofs.Held.{same_numbers}
use Rattle.start_windows.proofs.eligibility.is_behind_one.Goals as goal

pub returns-then-eq : goal.returns-then-eq
returns-then-eq c = record {
  place = c.loop-other.other-index;
  one = c.other-item.result;
  there = omega arith;
  read = c.other-item.is;
  not_later = omega arith;
  same = sym c.preds.ensures.preds ∙ same_numbers c.preds.result.now c.preds-then-other-item.result.now (sym c.eq.ensures ∙ c.if-eq.true) ∙ c.preds-then-other-item.ensures.preds;
}
