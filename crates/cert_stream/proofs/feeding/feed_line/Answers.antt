use Rattle.std.proofs.Common.{◌++◌, ◌∷◌, [], length, subst, sym, arith}
use Rattle.std.proofs.lemmas.List.{take_all}
use Rattle.cert_stream.specs.Lines.{HasLines}
use Rattle.cert_stream.proofs.TakenLines.{line_piece, part_piece, went, wrong_at}
use Rattle.cert_stream.proofs.feeding.feed_line.Goals as goal

pub returns-in-Ok-take_line-clause-goes : goal.returns-in-Ok-take_line-clause-goes
returns-in-Ok-take_line-clause-goes g c =
    went g.T.TakeLine.grammar c.args.reader.now c.feed.new.self c.args.piece.now c.in-Ok.count c.requires.version c.requires.none c.in-Ok.ensures.kept c.in-Ok.ensures.takes c.requires.some

pub returns-in-None-clause-goes : goal.returns-in-None-clause-goes
returns-in-None-clause-goes g c =
    went g.T.TakeLine.grammar c.args.reader.now c.feed.new.self c.args.piece.now c.in-Ok.count c.requires.version c.requires.none c.in-Ok.ensures.kept c.in-Ok.ensures.takes c.requires.some

pub returns-in-Ok-take_line-clause-read : goal.returns-in-Ok-take_line-clause-read
returns-in-Ok-take_line-clause-read g c start bytes h = rw c.take.ensures.left (record {
  lines = h.lines ++ c.in-Some.line ∷ [];
  has = line_piece g.T.TakeLine.grammar c.args.reader.now c.feed.new.self bytes c.args.piece.now h.lines c.in-Ok.count c.in-Some.line h.has c.feed.ensures.same
      c.in-Ok.ensures.kept c.in-Ok.ensures.takes (sym c.in-Some.ensures.line);
  took = c.in-Ok-take_line.ensures.takes start h.lines h.took;
})

pub returns-in-None-clause-read : goal.returns-in-None-clause-read
returns-in-None-clause-read g c start bytes h = rw c.take.ensures.left (record {
  lines = h.lines;
  has = part_piece g.T.TakeLine.grammar c.args.reader.now c.feed.new.self bytes c.args.piece.now h.lines c.in-Ok.count h.has c.feed.ensures.same
      c.in-Ok.ensures.kept c.in-Ok.ensures.takes (sym c.in-None.ensures.line);
  took = h.took;
})

pub returns-in-Err-Text-clause-read : goal.returns-in-Err-Text-clause-read
returns-in-Err-Text-clause-read g c start bytes h = record {
  lines = h.lines;
  has = subst (λ xs. HasLines g.T.TakeLine.grammar (bytes ++ xs) c.feed.new.self h.lines) (sym (take_all (length c.args.piece.now) c.args.piece.now (omega arith)))
      (wrong_at g.T.TakeLine.grammar c.args.reader.now c.feed.new.self bytes c.args.piece.now h.lines c.in-Err-Text.field-0 _ _ c.in-Err-Text.field-0-is h.has c.feed.ensures.same c.in-Err-Text.ensures.kept c.in-Err-Text.ensures.takes);
  took = h.took;
}
