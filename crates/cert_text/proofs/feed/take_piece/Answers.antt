use Rattle.std.proofs.Common.{◌+◌, arith, refl, subst, sym, get_or}
use Rattle.cert_text.specs.Machine.{On, Wrong}
use Rattle.cert_text.specs.Kept.{IsOn}
use Rattle.cert_text.proofs.Pieces.{one_more, kept_more, run_more, lf_takes, whole_piece}
use Rattle.cert_text.proofs.feed.take_piece.Goals as goal
use Rattle.cert_text.proofs.feed.take_piece.Goals.{else-loop-at-test, then-loop-at-test+then-at-piece}

pub take_lf-requires-clause-kept : goal.take_lf-requires-clause-kept
take_lf-requires-clause-kept c =
    let r = run_more c.args.grammar c.requires.some c.args.standing (On c.args.draft.now c.args.spot.now) c.args.piece.now
    c.loop-at.at c.take_run-at.result c.loop-at.draft c.loop-at.spot c.take_run-at.new.spot
    c.loop-at.invariant.1 c.loop-at.invariant.2 c.take_run-at.ensures.leads in
    r.1

pub returns-then-byte-eq10 : goal.returns-then-byte-eq10
returns-then-byte-eq10 c =
    let r = run_more c.args.grammar c.requires.some c.args.standing (On c.args.draft.now c.args.spot.now) c.args.piece.now
    c.loop-at.at c.take_run-at.result c.loop-at.draft c.loop-at.spot c.take_run-at.new.spot
    c.loop-at.invariant.1 c.loop-at.invariant.2 c.take_run-at.ensures.leads in
    lf_takes c.args.grammar c.args.standing (On c.args.draft.now c.args.spot.now) c.args.piece.now
    (c.loop-at.at + c.take_run-at.result) c.loop-at.draft c.take_lf.new.draft c.take_run-at.new.spot c.take_lf.new.spot c.take_lf.result
    (omega (arith, c.loop-at-test.true, c.take_run-at.ensures.within, c.if-at-piece.false)) (omega (arith, c.if-byte-eq10.true)) r.0 (c.take_lf.ensures c.args.standing)

pub on_byte-requires-clause-kept : goal.on_byte-requires-clause-kept
on_byte-requires-clause-kept c =
    let r = run_more c.args.grammar c.requires.some c.args.standing (On c.args.draft.now c.args.spot.now) c.args.piece.now
    c.loop-at.at c.take_run-at.result c.loop-at.draft c.loop-at.spot c.take_run-at.new.spot
    c.loop-at.invariant.1 c.loop-at.invariant.2 c.take_run-at.ensures.leads in
    r.1

pub loop-at-preserved : goal.loop-at-preserved
loop-at-preserved c =
    let r = run_more c.args.grammar c.requires.some c.args.standing (On c.args.draft.now c.args.spot.now) c.args.piece.now
    c.loop-at.at c.take_run-at.result c.loop-at.draft c.loop-at.spot c.take_run-at.new.spot
    c.loop-at.invariant.1 c.loop-at.invariant.2 c.take_run-at.ensures.leads in
    let i = c.loop-at.at + c.take_run-at.result in (
      omega (arith, c.loop-at-test.true, c.take_run-at.ensures.within, c.if-at-piece.false),
      one_more c.args.grammar c.args.standing (On c.args.draft.now c.args.spot.now) c.args.piece.now i c.loop-at.draft c.take_run-at.new.spot (On c.on_byte.new.draft c.on_byte.new.spot)
          (omega (arith, c.loop-at-test.true, c.take_run-at.ensures.within, c.if-at-piece.false)) r.0 c.in-Ok.ensures,
      kept_more c.args.grammar c.requires.some c.args.standing c.loop-at.draft c.on_byte.new.draft c.take_run-at.new.spot c.on_byte.new.spot (get_or c.args.piece.now i 0) r.1 c.in-Ok.ensures,
    )

pub returns-in-Err-Wrong : goal.returns-in-Err-Wrong
returns-in-Err-Wrong c =
    let r = run_more c.args.grammar c.requires.some c.args.standing (On c.args.draft.now c.args.spot.now) c.args.piece.now
    c.loop-at.at c.take_run-at.result c.loop-at.draft c.loop-at.spot c.take_run-at.new.spot
    c.loop-at.invariant.1 c.loop-at.invariant.2 c.take_run-at.ensures.leads in
    let e = rw c.in-Err-Wrong.field-0-is at c.in-Err-Wrong.ensures in
    let i = c.loop-at.at + c.take_run-at.result in (
      omega (arith, c.loop-at-test.true, c.take_run-at.ensures.within, c.if-at-piece.false),
      subst IsOn (sym r.0) tt,
      one_more c.args.grammar c.args.standing (On c.args.draft.now c.args.spot.now) c.args.piece.now i c.loop-at.draft c.take_run-at.new.spot Wrong
          (omega (arith, c.loop-at-test.true, c.take_run-at.ensures.within, c.if-at-piece.false)) r.0 e,
    )

pub returns : goal.returns
returns c =
    let g = c.args.grammar in
    let s = c.args.standing in
    let now = On c.args.draft.now c.args.spot.now in
    let piece = c.args.piece.now in
    elim c.loop-at-test.branch [
      | else-loop-at-test w ↦
          rw w.spot-is (refl, whole_piece g s now (On c.loop-at.draft c.loop-at.spot) piece c.loop-at.at (omega (arith, w.loop-at-test.false)) c.loop-at.invariant.1, c.loop-at.invariant.2)
      | then-loop-at-test+then-at-piece w ↦
          let r = run_more g c.requires.some s now piece c.loop-at.at
          w.take_run-at.result c.loop-at.draft c.loop-at.spot w.take_run-at.new.spot c.loop-at.invariant.1 c.loop-at.invariant.2 w.take_run-at.ensures.leads in
          rw w.spot-is (refl, whole_piece g s now (On c.loop-at.draft w.take_run-at.new.spot) piece (c.loop-at.at + w.take_run-at.result) (omega (arith, w.if-at-piece.true)) r.0, r.1)
    ]
