use Rattle.std.proofs.Common.{[]}
use Rattle.std.proofs.lemmas.Result.{err_from_is_err_and}
use Rattle.csv.specs.Records.{fields_of}
use Rattle.csv_numbers.specs.declared.fault.CsvFault.TheVariants as fault
use Rattle.csv_numbers.proofs.RowLemmas.{rows-all, rows-bad, rows-begin, rows-more-read, rows-wide}
use Rattle.csv_numbers.proofs.RowsAgree.{rows_agree}
use Rattle.csv_numbers.proofs.RowsKeepRules.{rows_keep_rules}
use Rattle.csv_numbers.proofs.read.read_numbers.Goals as goal

pub returns-then-not-branch-clause-fault : goal.returns-then-not-branch-clause-fault
returns-then-not-branch-clause-fault c =
    let none = c.if-not-branch.true in
    rw none at (c.in_ok-next_record.ensures.gives c.args.bytes.now [] c.reader_of-reader.ensures)

pub returns-then-not-branch-clause-refused : goal.returns-then-not-branch-clause-refused
returns-then-not-branch-clause-refused c other list reads = rows_keep_rules c.args.bytes.now c.args.width list reads fault.NoHeading other (returns-then-not-branch-clause-fault c)

pub loop-count-init : goal.loop-count-init
loop-count-init c =
    let some = c.if-not-branch.false in
    let given = rw some at (c.in_ok-next_record.ensures.gives c.args.bytes.now [] c.reader_of-reader.ensures) in
    rw c.new-numbers.ensures.items (rows-begin c.args.bytes.now c.args.width c.next_record.new.reader (fields_of c.next_record.new.entry) given)

pub returns-then-not-branch-2-clause-rows : goal.returns-then-not-branch-2-clause-rows
returns-then-not-branch-2-clause-rows c =
    let u = c.loop-count.invariant in
    let none = c.if-not-branch-2.true in
    let all = rw none at (c.in_ok-next_record-2.ensures.gives c.args.bytes.now _ u.given) in
    rw (c.new.ensures, c.from.ensures) (rows-all c.args.bytes.now c.args.width c.loop-count.count c.loop-count.reader c.loop-count.numbers.items u all)

pub returns-then-not-branch-2-clause-only : goal.returns-then-not-branch-2-clause-only
returns-then-not-branch-2-clause-only c list reads = rows_agree c.args.bytes.now c.args.width c.new.result list (returns-then-not-branch-2-clause-rows c) reads

pub returns-then-not-branch-2-clause-wide : goal.returns-then-not-branch-2-clause-wide
returns-then-not-branch-2-clause-wide c =
    let rows = returns-then-not-branch-2-clause-rows c in
    rows-wide c.args.width rows.rows c.new.result rows.numbers_are

pub returns-in_err-append_row-clause-fault : goal.returns-in_err-append_row-clause-fault
returns-in_err-append_row-clause-fault c =
    let p = err_from_is_err_and c.from_residual-in_err-append_row.result c.from_residual-in_err-append_row.ensures.1 in
    let u = c.loop-count.invariant in
    let some = c.if-not-branch-2.false in
    let given = rw some at (c.in_ok-next_record-2.ensures.gives c.args.bytes.now _ u.given) in
    rw (p.1, p.2) (rows-bad c.args.bytes.now c.args.width c.loop-count.count c.loop-count.reader c.next_record-in-loop-count.new.reader c.loop-count.numbers.items (fields_of c.next_record-in-loop-count.new.entry)
    c.in_err-append_row.field-0.0 u given c.in_err-append_row.ensures.breaks c.in_err-append_row.ensures.names)

pub returns-in_err-append_row-clause-refused : goal.returns-in_err-append_row-clause-refused
returns-in_err-append_row-clause-refused c =
    let p = err_from_is_err_and c.from_residual-in_err-append_row.result c.from_residual-in_err-append_row.ensures.1 in
    let first = rw (p.1, p.2) at (returns-in_err-append_row-clause-fault c) in
    rw (p.1, p.2) (λ other list reads. rows_keep_rules c.args.bytes.now c.args.width list reads c.in_err-append_row.field-0.0 other first)

pub loop-count-preserved : goal.loop-count-preserved
loop-count-preserved c =
    let u = c.loop-count.invariant in
    let some = c.if-not-branch-2.false in
    let given = rw some at (c.in_ok-next_record-2.ensures.gives c.args.bytes.now _ u.given) in
    rows-more-read c.args.bytes.now c.args.width c.loop-count.count c.loop-count.reader c.next_record-in-loop-count.new.reader c.loop-count.numbers.items c.append_row.new.numbers.items
    (fields_of c.next_record-in-loop-count.new.entry) u given c.in_ok-append_row.ensures.read
