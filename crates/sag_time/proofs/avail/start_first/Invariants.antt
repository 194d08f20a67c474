use Rattle.std.proofs.Common.{◌≡◌, ◌-◌, true, drop}
use Rattle.sag_time.specs.Sorted.{is_sorted, after_start}
use Rattle.sag_time.proofs.Carried.{carried}
use Rattle.sag_time.proofs.avail.start_first.Given as goal

abbrev pub invariant-loop-i : goal.invariant-loop-i
invariant-loop-i l = record {
  so_far : carried l.floor l.carry (l.i - 1) l.i l.times ≡ after_start l.floor l.end l.fn.times;
  others_sorted : is_sorted (drop l.i l.times) ≡ true;
}
