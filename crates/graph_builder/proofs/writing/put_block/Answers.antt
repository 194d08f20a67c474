use Rattle.std.proofs.Common.{◌≡◌, ◌++◌, ◌∷◌, [], ap, length, refl, ◌∙◌}
use Rattle.cert_text.specs.declared.line.CertLine.TheVariants as line
use Rattle.sag_step.specs.State.{states_of}
use Rattle.graph_builder.specs.Writing.{edge_lines, state_lines, text_of}
use Rattle.graph_builder.proofs.FillLemmas.{on-ok}
use Rattle.graph_builder.proofs.LineLemmas.{block_is}
use Rattle.graph_builder.proofs.TextLemmas.{begins_both, begins_itself, begins_more, text_behind}
use Rattle.graph_builder.proofs.writing.put_block.Goals as goal

pub returns-clause-ok : goal.returns-clause-ok
returns-clause-ok c =
    let into = c.args.into.now.items in
    let states = states_of c.args.states.now in
    let edges = c.args.edges.now in
    let number : c.from.result ≡ c.args.level = cc in
    let head = line.Level c.from.result (length c.args.states.now) ∷ [] in
    on-ok c.write_edges.result
    (λ e.
    text_behind into c.write_states.new.into.items c.write_edges.new.into.items (head ++ state_lines edges 0 states) (edge_lines edges)
    (text_behind into c.append_line.new.into.items c.write_states.new.into.items head (state_lines edges 0 states) c.in_ok-append_line.ensures.ok c.in_ok-write_states.ensures.ok)
    e
    ∙ ap (λ ls. into ++ text_of ls) (block_is c.args.level c.from.result (length c.args.states.now) c.args.states.now edges c.requires.level number refl))
    c.write_edges.ensures.ok

pub returns-clause-begins : goal.returns-clause-begins
returns-clause-begins c =
    let into = c.args.into.now.items in
    begins_both into c.write_states.new.into.items c.write_edges.new.into.items
    (begins_both into c.append_line.new.into.items c.write_states.new.into.items
    (begins_more into into c.append_line.new.into.items _ (begins_itself into) c.in_ok-append_line.ensures.ok) c.write_states.ensures.begins)
    c.write_edges.ensures.begins
