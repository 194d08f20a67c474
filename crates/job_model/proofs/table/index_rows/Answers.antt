use Rattle.std.proofs.Common.{◌∙◌, take, get_or, sym, arith, rules, refl, true, false}
use Rattle.std.proofs.lemmas.List.{length-take-le, take_more}
use Rattle.std.proofs.lemmas.Result.{err_from_is_err_and}
use Rattle.job_model.specs.Table.{no_job}
use Rattle.job_model.proofs.TableLemmas.{IsTable-empty, Inserts, id-added, id-repeats, reached}
use Rattle.job_model.proofs.table.index_rows.Goals as goal

pub loop-i-init : goal.loop-i-init
loop-i-init c = record { table = IsTable-empty; ids = search rules }

pub returns-in_err-check_row-clause-fault : goal.returns-in_err-check_row-clause-fault
returns-in_err-check_row-clause-fault c =
    let p = err_from_is_err_and c.from_residual.result c.from_residual.ensures.1 in
    let here = reached c.args.rows.now c.loop-i.i no_job (omega arith) (omega arith) c.loop-i.invariant.table in
    rw (p.1, p.2) (c.in_err-check_row.ensures.fault c.args.rows.now here refl)

pub returns-then-not-is_new-clause-fault : goal.returns-then-not-is_new-clause-fault
returns-then-not-is_new-clause-fault c =
    let rows = c.args.rows.now in
    let i = c.loop-i.i in
    let place = c.in-Ok-insert_full.place in
    let at = c.in-Ok-insert_full.ensures in
    let here = reached rows i no_job (omega arith) (omega arith) c.loop-i.invariant.table in
    let inserts : Inserts (take i rows) (get_or rows i no_job) c.loop-i.ids.keys c.insert_full.new.self.keys place false = record {
      ids = c.loop-i.invariant.ids;
      added = sym c.if-not-is_new.true ∙ at.added;
      keys_are = at.keys;
      stored = at.stored;
    } in
    let repeats = id-repeats (take i rows) (get_or rows i no_job) c.loop-i.ids.keys c.insert_full.new.self.keys place inserts in
    (here, c.in_ok-check_row.ensures.job, place, repeats.0, refl, repeats.1)

pub loop-i-preserved : goal.loop-i-preserved
loop-i-preserved c =
    let rows = c.args.rows.now in
    let i = c.loop-i.i in
    let place = c.in-Ok-insert_full.place in
    let at = c.in-Ok-insert_full.ensures in
    let inserts : Inserts (take i rows) (get_or rows i no_job) c.loop-i.ids.keys c.insert_full.new.self.keys place true = record {
      ids = c.loop-i.invariant.ids;
      added = sym c.if-not-is_new.false ∙ at.added;
      keys_are = at.keys;
      stored = at.stored;
    } in
    let few = length-take-le i rows (omega arith) in
    let next = id-added (take i rows) (get_or rows i no_job) c.loop-i.ids.keys c.insert_full.new.self.keys place inserts (omega (arith, few)) c.loop-i.invariant.table c.in_ok-check_row.ensures.job in
    let more = take_more rows i no_job (omega arith) in
    record { table = rw more next.0; ids = rw more next.1 }
