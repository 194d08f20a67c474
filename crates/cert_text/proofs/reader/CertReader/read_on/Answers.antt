use Rattle.std.proofs.Common.{◌+◌, arith}
use Rattle.cert_text.proofs.ReaderClauses.{part_takes, part_stands, part_short, line_takes, line_stands, line_fits, lines_more, none_kept, err_takes, err_place}
use Rattle.cert_text.proofs.reader.CertReader.read_on.Goals as goal

pub overflow_add-self : goal.overflow_add-self
overflow_add-self c =
    let r = c.self.inside in
    omega (
      arith,
      part_short c.self.invariant.3 r.lines r.ended r.draft c.take_piece.new.draft r.spot c.take_piece.new.spot r.at c.standing_behind.result c.args.piece.now c.in-Ok-Part.count
          c.self.invariant.0 c.standing_behind.ensures (rw c.in-Ok-Part.field-0-is at c.in-Ok-Part.ensures),
    )

pub invariant_of-self : goal.invariant_of-self
invariant_of-self c =
    let r = c.self.inside in (
      part_stands c.self.invariant.3 r.lines r.ended r.draft c.take_piece.new.draft r.spot c.take_piece.new.spot r.at c.standing_behind.result c.args.piece.now c.in-Ok-Part.count
          c.self.invariant.0 c.standing_behind.ensures (rw c.in-Ok-Part.field-0-is at c.in-Ok-Part.ensures),
      c.self.invariant.1,
      c.self.invariant.2,
      c.self.invariant.3,
    )

pub feed_fault-fault-requires-clause-place : goal.feed_fault-fault-requires-clause-place
feed_fault-fault-requires-clause-place c =
    let r = c.self.inside in
    err_place c.self.invariant.3 r.lines r.ended r.draft c.take_piece.new.draft r.spot c.take_piece.new.spot r.at c.standing_behind.result c.args.piece.now c.in-Err.fault
    c.self.invariant.0 c.standing_behind.ensures c.in-Err.ensures

pub returns-in-Ok-Part-clause-takes : goal.returns-in-Ok-Part-clause-takes
returns-in-Ok-Part-clause-takes c =
    let r = c.self.inside in
    part_takes c.self.invariant.3 c.args.self.now r.fault r.lines r.ended r.draft c.take_piece.new.draft r.spot c.take_piece.new.spot r.at r.waiting
    c.standing_behind.result c.args.piece.now c.in-Ok-Part.count
    c.self.view_is c.self.invariant.0 c.standing_behind.ensures (rw c.in-Ok-Part.field-0-is at c.in-Ok-Part.ensures)

pub returns-in-Ok-Line-clause-takes : goal.returns-in-Ok-Line-clause-takes
returns-in-Ok-Line-clause-takes c =
    let r = c.self.inside in
    line_takes c.self.invariant.3 c.args.self.now r.fault r.lines r.ended r.draft c.take_piece.new.draft r.spot c.take_piece.new.spot r.at r.waiting
    c.standing_behind.result c.args.piece.now c.in-Ok-Line.count c.in-Ok-Line.line c.is_end_line-self-inside.result
    c.self.view_is c.self.invariant.0 c.standing_behind.ensures c.is_end_line-self-inside.ensures (rw c.in-Ok-Line.field-0-is at c.in-Ok-Line.ensures)

pub returns-in-Err-clause-takes : goal.returns-in-Err-clause-takes
returns-in-Err-clause-takes c =
    let r = c.self.inside in
    rw c.feed_fault-fault.ensures
    (err_takes c.self.invariant.3 c.args.self.now r.fault r.lines r.ended r.draft c.take_piece.new.draft r.spot c.take_piece.new.spot r.at r.waiting
    c.standing_behind.result c.args.piece.now c.in-Err.fault
    c.self.view_is c.self.invariant.0 c.standing_behind.ensures c.in-Err.ensures)

pub invariant_of-self-in-Ok-Line : goal.invariant_of-self-in-Ok-Line
invariant_of-self-in-Ok-Line c =
    let r = c.self.inside in
    let t = rw c.in-Ok-Line.field-0-is at c.in-Ok-Line.ensures in (
      line_stands c.self.invariant.3 (r.lines + 1) c.is_end_line-self-inside.result r.draft c.take_piece.new.draft r.spot c.take_piece.new.spot
          c.standing_behind.result c.args.piece.now c.in-Ok-Line.count c.in-Ok-Line.line t,
      lines_more c.self.invariant.3 c.args.self.now r.fault r.lines r.ended r.draft r.spot r.waiting c.self.view_is
          (none_kept c.self.invariant.3 c.args.self.now r.fault r.lines r.ended r.draft r.spot r.waiting c.self.view_is c.requires.no_fault) c.requires.few_lines,
      line_fits c.self.invariant.3 r.lines r.ended r.draft c.take_piece.new.draft r.spot c.take_piece.new.spot r.at c.standing_behind.result c.args.piece.now c.in-Ok-Line.count c.in-Ok-Line.line
          c.self.invariant.0 c.standing_behind.ensures t,
      c.self.invariant.3,
    )
