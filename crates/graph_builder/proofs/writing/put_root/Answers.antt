use Rattle.std.proofs.Common.{◌≡◌, ◌++◌, ◌∷◌, List, [], ap, map, sym, ◌∙◌}
use Rattle.cert_text.specs.declared.line.Pair.{Pair}
use Rattle.cert_text.specs.declared.line.CertLine.TheVariants as line
use Rattle.sag_step.specs.State.{SystemState}
use Rattle.sag_graph.specs.Lines.{pairs_of}
use Rattle.graph_builder.specs.Writing.{text_of}
use Rattle.graph_builder.proofs.FillLemmas.{on-ok}
use Rattle.graph_builder.proofs.LineLemmas.{state_alone}
use Rattle.graph_builder.proofs.TextLemmas.{text_behind}
use Rattle.graph_builder.proofs.writing.put_root.Goals as goal

pub returns-clause-ok : goal.returns-clause-ok
returns-clause-ok c =
    let into = c.args.into.now.items in
    let x = c.index-states-0.result in
    on-ok c.append_line-2.result
    (λ e.
    text_behind into c.append_line.new.into.items c.append_line-2.new.into.items (line.Level 0 1 ∷ []) (line.Root c.in_ok-pairs_of.field-0 ∷ []) c.in_ok-append_line.ensures.ok e
    ∙ ap (λ (ps : List Pair). into ++ text_of (line.Level 0 1 ∷ line.Root ps ∷ [])) c.in_ok-pairs_of.ensures
    ∙ ap (λ (ss : List SystemState). into ++ text_of (line.Level 0 1 ∷ map (λ s. line.Root (pairs_of s)) ss)) (sym (state_alone c.args.states.now x c.requires.one c.index-states-0.is)))
    c.append_line-2.ensures.ok
