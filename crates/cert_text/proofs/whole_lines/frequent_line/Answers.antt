use Rattle.cert_text.proofs.whole_lines.frequent_line.Goals as goal

pub returns-then-piece-eq101 : goal.returns-then-piece-eq101
returns-then-piece-eq101 c = c.edge_line.ensures c.args.grammar
