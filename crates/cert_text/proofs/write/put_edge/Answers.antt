use Rattle.std.proofs.Common.{◌≡◌, ◌++◌, ◌∷◌, ℕ, List, [], append_assoc, codes, decimal}
use Rattle.std.proofs.lemmas.Result.{on_ok_weaker}
use Rattle.cert_text.specs.declared.line.CertLine.TheVariants as line
use Rattle.cert_text.specs.Grammar.{second_version}
use Rattle.cert_text.specs.Spelling.{line_text}
use Rattle.cert_text.proofs.write.put_edge.Goals as goal

-- the five numbers, one piece behind the other
edge_behind : (old front job window whole : List ℕ) (from j est lst to : ℕ) → front ≡ old ++ codes "edge " ++ decimal from ++ 32 ∷ [] → job ≡ front ++ decimal j ++ 32 ∷ []
    → window ≡ job ++ decimal est ++ 32 ∷ [] ++ decimal lst ++ 32 ∷ [] → whole ≡ window ++ decimal to ++ 10 ∷ []
    → whole ≡ old ++ line_text second_version (line.Edge from j est lst to)
edge_behind old front job window whole from j est lst to a b c d = rw (d, c, b, a) (simp append_assoc)

pub returns-clause-ok : goal.returns-clause-ok
returns-clause-ok c =
    on_ok_weaker c.put_closing.result
    (edge_behind c.args.into.now.items c.put_front.new.into.items c.put_spaced.new.into.items c.put_both.new.into.items c.put_closing.new.into.items
    c.args.from c.args.job c.args.est c.args.lst c.args.to
    c.in_ok-put_front.ensures.ok c.in_ok-put_spaced.ensures.ok c.in_ok-put_both.ensures.ok)
    c.put_closing.ensures.ok
