use Rattle.std.proofs.Common.{◌≡◌, ◌++◌, ◌∷◌, [], ap, append_assoc, ◌∙◌}
use Rattle.cert_text.specs.declared.line.Mark.{Mark}
use Rattle.cert_text.specs.declared.line.CertLine.TheVariants as line
use Rattle.sag_graph.specs.Lines.{mark_of}
use Rattle.graph_builder.specs.Writing.{job_lines, text_of}
use Rattle.graph_builder.proofs.FillLemmas.{on-ok}
use Rattle.graph_builder.proofs.TextLemmas.{text_behind}
use Rattle.graph_builder.proofs.writing.put_tail.Goals as goal

pub returns-clause-ok : goal.returns-clause-ok
returns-clause-ok c =
    let into = c.args.into.now.items in
    let jobs = job_lines c.args.table.now 0 c.args.spans.now in
    let verdict = line.Verdict c.mark_of.result ∷ [] in
    on-ok c.append_line-2.result
    (λ e.
    text_behind into c.append_line.new.into.items c.append_line-2.new.into.items (jobs ++ verdict) (line.End ∷ [])
    (text_behind into c.write_jobs.new.into.items c.append_line.new.into.items jobs verdict c.in_ok-write_jobs.ensures.ok c.in_ok-append_line.ensures.ok)
    e
    ∙ ap (λ ls. into ++ text_of ls) (append_assoc jobs verdict (line.End ∷ []))
    ∙ ap (λ (m : Mark). into ++ text_of (jobs ++ line.Verdict m ∷ line.End ∷ [])) (c.mark_of.ensures ∙ ap mark_of c.are_in_time.ensures))
    c.append_line-2.ensures.ok
