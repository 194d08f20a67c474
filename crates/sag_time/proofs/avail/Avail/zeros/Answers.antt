use Rattle.std.proofs.Common.{◌≡◌, ℕ, replicate, rules, arith}
use Rattle.std.proofs.lemmas.List.{length-replicate}
use Rattle.sag_time.proofs.SortedLists.{is_sorted-zeros}
use Rattle.sag_time.proofs.avail.Avail.zeros.Goals as goal

pub invariant_of-result : goal.invariant_of-result
invariant_of-result c =
    let items : c.in_ok-times.times.items ≡ replicate c.args.m 0 = search rules in
    rw items (is_sorted-zeros c.args.m, omega (arith, length-replicate {A = ℕ} c.args.m 0))
