use Rattle.std.proofs.Common.{arith, sym, subst}
use Rattle.sag_step.specs.declared.TheConstants.{MOST_TIME}
use Rattle.sag_step.specs.Shape.{IsUpTo}
use Rattle.graph_check.proofs.FoundStates.{finds-parts, no-low, no-high, no-ends, no-last, of-table, parts-are, up-to}
use Rattle.graph_check.proofs.line_states.state_of_line.Goals as goal

pub returns-in_default : goal.returns-in_default
returns-in_default c =
    no-low c.args.table.now c.args.cores c.args.set.members c.args.pairs.now c.args.ends.now c.args.last.now (rw c.in_default.is at c.in_ok-low.ensures.none)

pub returns-in_default-2 : goal.returns-in_default-2
returns-in_default-2 c =
    no-high c.args.table.now c.args.cores c.args.set.members c.args.pairs.now c.args.ends.now c.args.last.now (rw c.in_default-2.is at c.in_ok-high.ensures.none)

pub returns-in_default-3 : goal.returns-in_default-3
returns-in_default-3 c =
    let subset = of-table c.args.table.now c.args.set c.requires.size c.count-members.ensures.subset in
    no-ends c.args.table.now c.args.cores c.args.set.members c.args.pairs.now c.args.ends.now c.args.last.now subset
    (rw (c.in_default-3.is, c.len.ensures.count) at c.in_ok-ends.ensures.none)

pub returns-in_default-4 : goal.returns-in_default-4
returns-in_default-4 c =
    let subset = of-table c.args.table.now c.args.set c.requires.size c.count-members.ensures.subset in
    no-last c.args.table.now c.args.cores c.args.set.members c.args.pairs.now c.args.ends.now c.args.last.now subset
    (rw (c.in_default-4.is, c.len-2.ensures.count) at c.in_ok-last.ensures.none)

pub from_parts-requires-clause-in_limit : goal.from_parts-requires-clause-in_limit
from_parts-requires-clause-in_limit c =
    let are = parts-are c.args.table.now c.args.set c.in-Some-4.last c.in-Some.low c.in-Some-2.high c.in-Some-3.ends.items c.args.pairs.now c.args.ends.now c.args.last.now c.requires.size
    (rw c.in-Some.is at c.in_ok-low.ensures.times) (rw c.in-Some-2.is at c.in_ok-high.ensures.times) (rw c.in-Some-3.is at c.in_ok-ends.ensures.ends)
    (rw (c.in-Some-4.is, c.len-2.ensures.count) at c.in_ok-last.ensures.last) in
    subst (IsUpTo MOST_TIME) (sym are) (up-to c.args.table.now c.args.cores c.args.set.members c.args.pairs.now c.args.ends.now c.args.last.now MOST_TIME (omega arith) c.requires.pairs c.requires.ends)

pub returns : goal.returns
returns c =
    let are = parts-are c.args.table.now c.args.set c.in-Some-4.last c.in-Some.low c.in-Some-2.high c.in-Some-3.ends.items c.args.pairs.now c.args.ends.now c.args.last.now c.requires.size
    (rw c.in-Some.is at c.in_ok-low.ensures.times) (rw c.in-Some-2.is at c.in_ok-high.ensures.times) (rw c.in-Some-3.is at c.in_ok-ends.ensures.ends)
    (rw (c.in-Some-4.is, c.len-2.ensures.count) at c.in_ok-last.ensures.last) in
    let subset = of-table c.args.table.now c.args.set c.requires.size c.count-members.ensures.subset in
    finds-parts c.args.table.now c.args.cores c.args.set.members c.args.pairs.now c.args.ends.now c.args.last.now c.requires.cores subset c.requires.pairs c.requires.ends
    c.in-Some-3.ends.room _ are c.from_parts.result c.from_parts.ensures.parts c.from_parts.ensures.shaped
