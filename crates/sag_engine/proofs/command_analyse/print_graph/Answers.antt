use Rattle.std.proofs.Common.{◌≡◌, ◌+◌, ◌<◌, ap, arith, length, subst, sym}
use Rattle.std.proofs.lemmas.Result.{err_from_is_err_and}
use Rattle.job_model.specs.Table.{Table}
use Rattle.graph_builder.specs.Standing.{Standing, builder_at}
use Rattle.sag_engine.proofs.AnalyseLemmas.{Printing, ends_done, ends_spent, first_printed, halts_at_once, halts_between, halts_in_first, halts_in_head, halts_in_next, next_printed, stands_last}
use Rattle.sag_engine.proofs.command_analyse.print_graph.Goals as goal

pub returns-in_default : goal.returns-in_default
returns-in_default g c = halts_at_once _ _ _ _

pub returns-in_err-print_head : goal.returns-in_err-print_head
returns-in_err-print_head g c =
    let p = err_from_is_err_and c.from_residual.result c.from_residual.ensures.1 in
    rw (p.1, p.2) (halts_in_head c.in-Ok.ensures c.in_err-print_head.ensures.head)

pub returns-in_err-print_level : goal.returns-in_err-print_level
returns-in_err-print_level g c =
    let p = err_from_is_err_and c.from_residual-in_err-print_level.result c.from_residual-in_err-print_level.ensures.1 in
    rw (p.1, p.2) (halts_in_first c.in-Ok.ensures c.in_ok-print_head.ensures.head c.in_err-print_level.ensures)

pub loop-went-init : goal.loop-went-init
loop-went-init g c = first_printed c.in-Ok.ensures c.in_ok-print_head.ensures.standing c.in_ok-print_head.ensures.head c.in_ok-print_level.ensures

pub print_tail-requires : goal.print_tail-requires
print_tail-requires g c =
    let stay : c.next_level.new.self ≡ c.loop-went.builder = rw c.if-not-went.true at c.in-Ok-next_level.ensures.up in
    subst (λ (s : Standing). s.level ≡ length s.table.jobs) (sym stay)
    (stands_last c.loop-went.builder c.loop-went.invariant.stands c.in-Ok-next_level.went c.if-not-went.true c.in-Ok-next_level.ensures.last)

pub returns-then-not-went : goal.returns-then-not-went
returns-then-not-went g c =
    let stay : c.next_level.new.self ≡ c.loop-went.builder = rw c.if-not-went.true at c.in-Ok-next_level.ensures.up in
    let last = stands_last c.loop-went.builder c.loop-went.invariant.stands c.in-Ok-next_level.went c.if-not-went.true c.in-Ok-next_level.ensures.last in
    ends_done (subst (λ s. Printing c.args.table.now c.args.cores c.args.budget s (g.O.Sink.seen c.args.out.now) (g.O.Sink.seen c.loop-went.out)) (sym stay) c.loop-went.invariant)
    c.whole_graph_is_within.ensures (subst (λ (s : Standing). s.level ≡ length s.table.jobs) (sym stay) last) c.print_tail.ensures

pub loop-went-smaller : goal.loop-went-smaller
loop-went-smaller g c =
    let up : c.next_level.new.self ≡ builder_at c.loop-went.builder.table c.loop-went.builder.cores c.loop-went.builder.budget (c.loop-went.builder.level + 1) =
    rw c.if-not-went.false at c.in-Ok-next_level.ensures.up in
    let level : c.next_level.new.self.level ≡ c.loop-went.builder.level + 1 = ap (λ (s : Standing). s.level) up in
    let less : c.loop-went.builder.level < length c.loop-went.builder.table.jobs = c.in-Ok-next_level.ensures.last.0 c.if-not-went.false in
    let count : length c.loop-went.builder.table.jobs ≡ length c.args.table.now.jobs = ap (λ (t : Table). length t.jobs) c.loop-went.invariant.table_is in
    omega (arith, level, less, count)

pub loop-went-preserved : goal.loop-went-preserved
loop-went-preserved g c =
    let up : c.next_level.new.self ≡ builder_at c.loop-went.builder.table c.loop-went.builder.cores c.loop-went.builder.budget (c.loop-went.builder.level + 1) =
    rw c.if-not-went.false at c.in-Ok-next_level.ensures.up in
    next_printed c.loop-went.invariant up c.in-Ok-next_level.ensures.standing c.in_ok-print_level-in-Ok-next_level.ensures

pub returns-in_err-print_level-in-Ok-next_level : goal.returns-in_err-print_level-in-Ok-next_level
returns-in_err-print_level-in-Ok-next_level g c =
    let up : c.next_level.new.self ≡ builder_at c.loop-went.builder.table c.loop-went.builder.cores c.loop-went.builder.budget (c.loop-went.builder.level + 1) =
    rw c.if-not-went.false at c.in-Ok-next_level.ensures.up in
    let p = err_from_is_err_and c.from_residual-in_err-print_level-in-Ok-next_level.result c.from_residual-in_err-print_level-in-Ok-next_level.ensures.1 in
    rw (p.1, p.2) (halts_in_next c.loop-went.invariant up c.in-Ok-next_level.ensures.standing c.in_err-print_level-in-Ok-next_level.ensures)

pub returns-in-Err-Spent : goal.returns-in-Err-Spent
returns-in-Err-Spent g c =
    let spent = rw c.in-Err-Spent.field-0-is at c.in-Err-Spent.ensures.spent in
    ends_spent c.loop-went.invariant spent c.close.ensures.writes (rw c.from-level.ensures at c.close.ensures.conclusion)

pub returns-in-Err-Memory : goal.returns-in-Err-Memory
returns-in-Err-Memory g c = halts_between c.loop-went.invariant
