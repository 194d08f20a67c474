use Rattle.std.proofs.Common.{◌≡◌, None, length, ap, sym, ◌∙◌, subst, arith}
use Rattle.job_sets.specs.Subset.{Subset, with_number}
use Rattle.sag_step.specs.declared.TheConstants.{MOST_TIME}
use Rattle.sag_step.specs.Shape.{IsUpTo}
use Rattle.graph_check.specs.Comings.{FindsState}
use Rattle.graph_check.specs.Entries.{state_from}
use Rattle.graph_check.proofs.StateChecks.{candidate-new, candidate-number}
use Rattle.graph_check.proofs.FoundStates.{finds-parts, no-low, no-high, no-ends, no-last, of-table, parts-are, up-to}
use Rattle.graph_check.proofs.line_states.child_of_line.Goals as goal

pub returns-in_default : goal.returns-in_default
returns-in_default c =
    let members : c.add.new.self.members ≡ with_number c.args.job c.args.parent.now.state.set.members = c.add.ensures.set.1 ∙ ap (λ (s : Subset). with_number c.args.job s.members) (c.in_ok-set.ensures.same ∙ c.set.ensures) in
    subst (λ xs. FindsState c.args.table.now c.args.cores (state_from c.args.table.now xs c.args.pairs.now c.args.ends.now c.args.last.now) None) members
    (no-low c.args.table.now c.args.cores c.add.new.self.members c.args.pairs.now c.args.ends.now c.args.last.now (rw c.in_default.is at c.in_ok-low.ensures.none))

pub returns-in_default-2 : goal.returns-in_default-2
returns-in_default-2 c =
    let members : c.add.new.self.members ≡ with_number c.args.job c.args.parent.now.state.set.members = c.add.ensures.set.1 ∙ ap (λ (s : Subset). with_number c.args.job s.members) (c.in_ok-set.ensures.same ∙ c.set.ensures) in
    subst (λ xs. FindsState c.args.table.now c.args.cores (state_from c.args.table.now xs c.args.pairs.now c.args.ends.now c.args.last.now) None) members
    (no-high c.args.table.now c.args.cores c.add.new.self.members c.args.pairs.now c.args.ends.now c.args.last.now (rw c.in_default-2.is at c.in_ok-high.ensures.none))

pub returns-in_default-3 : goal.returns-in_default-3
returns-in_default-3 c =
    let size : c.add.new.self.size ≡ length c.args.table.now.jobs = c.add.ensures.set.0 ∙ ap (λ (s : Subset). s.size) (c.in_ok-set.ensures.same ∙ c.set.ensures) ∙ c.requires.parent.of_table in
    let members : c.add.new.self.members ≡ with_number c.args.job c.args.parent.now.state.set.members = c.add.ensures.set.1 ∙ ap (λ (s : Subset). with_number c.args.job s.members) (c.in_ok-set.ensures.same ∙ c.set.ensures) in
    let subset = of-table c.args.table.now c.add.new.self size c.count-members.ensures.subset in
    subst (λ xs. FindsState c.args.table.now c.args.cores (state_from c.args.table.now xs c.args.pairs.now c.args.ends.now c.args.last.now) None) members
    (no-ends c.args.table.now c.args.cores c.add.new.self.members c.args.pairs.now c.args.ends.now c.args.last.now subset
    (rw (c.in_default-3.is, c.len.ensures.count) at c.in_ok-ends.ensures.none))

pub returns-in_default-4 : goal.returns-in_default-4
returns-in_default-4 c =
    let size : c.add.new.self.size ≡ length c.args.table.now.jobs = c.add.ensures.set.0 ∙ ap (λ (s : Subset). s.size) (c.in_ok-set.ensures.same ∙ c.set.ensures) ∙ c.requires.parent.of_table in
    let members : c.add.new.self.members ≡ with_number c.args.job c.args.parent.now.state.set.members = c.add.ensures.set.1 ∙ ap (λ (s : Subset). with_number c.args.job s.members) (c.in_ok-set.ensures.same ∙ c.set.ensures) in
    let subset = of-table c.args.table.now c.add.new.self size c.count-members.ensures.subset in
    subst (λ xs. FindsState c.args.table.now c.args.cores (state_from c.args.table.now xs c.args.pairs.now c.args.ends.now c.args.last.now) None) members
    (no-last c.args.table.now c.args.cores c.add.new.self.members c.args.pairs.now c.args.ends.now c.args.last.now subset
    (rw (c.in_default-4.is, c.len-2.ensures.count) at c.in_ok-last.ensures.none))

pub add-requires : goal.add-requires
add-requires c =
    let size : c.in_ok-set.set.size ≡ length c.args.table.now.jobs = ap (λ (s : Subset). s.size) (c.in_ok-set.ensures.same ∙ c.set.ensures) ∙ c.requires.parent.of_table in
    omega (arith, size, candidate-number c.args.table.now c.args.parent.now.state.set.members c.args.job c.requires.job)

pub child_from_parts-requires-clause-new : goal.child_from_parts-requires-clause-new
child_from_parts-requires-clause-new c = candidate-new c.args.table.now c.args.parent.now.state.set.members c.args.job c.requires.job

pub child_from_parts-requires-clause-child : goal.child_from_parts-requires-clause-child
child_from_parts-requires-clause-child c = c.add.ensures.set.1 ∙ ap (λ (s : Subset). with_number c.args.job s.members) (c.in_ok-set.ensures.same ∙ c.set.ensures)

pub child_from_parts-requires-clause-of_table : goal.child_from_parts-requires-clause-of_table
child_from_parts-requires-clause-of_table c = c.add.ensures.set.0 ∙ ap (λ (s : Subset). s.size) (c.in_ok-set.ensures.same ∙ c.set.ensures) ∙ c.requires.parent.of_table

pub child_from_parts-requires-clause-in_limit : goal.child_from_parts-requires-clause-in_limit
child_from_parts-requires-clause-in_limit c =
    let size : c.add.new.self.size ≡ length c.args.table.now.jobs = c.add.ensures.set.0 ∙ ap (λ (s : Subset). s.size) (c.in_ok-set.ensures.same ∙ c.set.ensures) ∙ c.requires.parent.of_table in
    let are = parts-are c.args.table.now c.add.new.self c.in-Some-4.last c.in-Some.low c.in-Some-2.high c.in-Some-3.ends.items c.args.pairs.now c.args.ends.now c.args.last.now size
    (rw c.in-Some.is at c.in_ok-low.ensures.times) (rw c.in-Some-2.is at c.in_ok-high.ensures.times) (rw c.in-Some-3.is at c.in_ok-ends.ensures.ends)
    (rw (c.in-Some-4.is, c.len-2.ensures.count) at c.in_ok-last.ensures.last) in
    subst (IsUpTo MOST_TIME) (sym are) (up-to c.args.table.now c.args.cores c.add.new.self.members c.args.pairs.now c.args.ends.now c.args.last.now MOST_TIME (omega arith) c.requires.pairs c.requires.ends)

pub returns : goal.returns
returns c =
    let size : c.add.new.self.size ≡ length c.args.table.now.jobs = c.add.ensures.set.0 ∙ ap (λ (s : Subset). s.size) (c.in_ok-set.ensures.same ∙ c.set.ensures) ∙ c.requires.parent.of_table in
    let members : c.add.new.self.members ≡ with_number c.args.job c.args.parent.now.state.set.members = c.add.ensures.set.1 ∙ ap (λ (s : Subset). with_number c.args.job s.members) (c.in_ok-set.ensures.same ∙ c.set.ensures) in
    let are = parts-are c.args.table.now c.add.new.self c.in-Some-4.last c.in-Some.low c.in-Some-2.high c.in-Some-3.ends.items c.args.pairs.now c.args.ends.now c.args.last.now size
    (rw c.in-Some.is at c.in_ok-low.ensures.times) (rw c.in-Some-2.is at c.in_ok-high.ensures.times) (rw c.in-Some-3.is at c.in_ok-ends.ensures.ends)
    (rw (c.in-Some-4.is, c.len-2.ensures.count) at c.in_ok-last.ensures.last) in
    let subset = of-table c.args.table.now c.add.new.self size c.count-members.ensures.subset in
    subst (λ xs. FindsState c.args.table.now c.args.cores (state_from c.args.table.now xs c.args.pairs.now c.args.ends.now c.args.last.now) c.child_from_parts.result) members
    (finds-parts c.args.table.now c.args.cores c.add.new.self.members c.args.pairs.now c.args.ends.now c.args.last.now c.requires.parent.some_core subset c.requires.pairs c.requires.ends
    c.in-Some-3.ends.room _ are c.child_from_parts.result c.child_from_parts.ensures.parts c.child_from_parts.ensures.shaped)
