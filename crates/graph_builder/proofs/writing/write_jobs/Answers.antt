use Rattle.std.proofs.Common.{◌≡◌, ◌<◌, ◌≤◌, ap, arith, get_or, length, ◌∙◌}
use Rattle.graph_builder.proofs.LineLemmas.{jobs_next, jobs_past}
use Rattle.graph_builder.proofs.TextLemmas.{begins_more, line_moved, lines_moved}
use Rattle.graph_builder.proofs.writing.write_jobs.Goals as goal

pub loop-j-preserved : goal.loop-j-preserved
loop-j-preserved c =
    let j = c.loop-j.j in
    let spans = c.args.spans.now in
    let o = c.index-spans-from.result in
    let from : c.from.result ≡ j = cc in
    let lt : j < length spans = omega (arith, c.loop-j-test.true, c.len-j-end.ensures.count, c.requires.count) in
    let now = c.in_ok-write_job.ensures.ok in
    record {
      lines = line_moved c.loop-j.into.items c.write_job.new.into.items _ _ _ _
          (jobs_next c.args.table.now spans j o c.known-span.result lt (c.index-spans-from.is ∙ ap (λ n. get_or spans n o) from) c.known-span.ensures) now c.loop-j.invariant.lines;
      begins = begins_more c.args.into.now.items c.loop-j.into.items c.write_job.new.into.items _ c.loop-j.invariant.begins now;
    }

pub returns-clause-ok : goal.returns-clause-ok
returns-clause-ok c =
    let past : length c.args.spans.now ≤ c.loop-j.j = omega (arith, c.loop-j-test.false, c.len-j-end.ensures.count, c.requires.count) in
    lines_moved c.loop-j.into.items _ _ (jobs_past c.args.table.now c.args.spans.now c.loop-j.j past) c.loop-j.invariant.lines
