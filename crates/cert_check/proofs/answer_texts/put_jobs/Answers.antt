use Rattle.std.proofs.Common.{◌≡◌, ◌∙◌, ◌<◌, ◌++◌, ap, arith, get_or, length}
use Rattle.graph_check.specs.Entries.{JobEntry}
use Rattle.graph_check.specs.Told.{entries_of}
use Rattle.cert_check.proofs.JobLines.{entry_is, lines_all, lines_on, verdict_on}
use Rattle.cert_check.proofs.answer_texts.put_jobs.Goals as goal

pub loop-at-preserved : goal.loop-at-preserved
loop-at-preserved c =
    let spans = c.args.yes.now.spans.items in
    let marks = c.args.yes.now.marks.items in
    let jobs = entries_of spans marks in
    let e : JobEntry = record { span = c.index.result.now; mark = c.index-mark.result.now } in
    let short : c.loop-at.at < length jobs = omega (arith, c.count_of-count.ensures.count, c.loop-at-test) in
    let here : get_or jobs c.loop-at.at e ≡ e =
    entry_is spans marks c.loop-at.at c.index.result.now c.index-mark.result.now (omega (arith, c.count_of-count.ensures.spans, c.loop-at-test))
    (omega (arith, c.count_of-count.ensures.marks, c.loop-at-test)) c.index.ensures c.index-mark.ensures in
    record {
      lines = lines_on c.args.table.now jobs c.loop-at.at e c.args.into.now.items c.loop-at.into.items c.put_job.new.into.items c.job.result.now short here c.job.ensures.job
          c.loop-at.invariant.lines c.in_ok-put_job.ensures;
      verdict = verdict_on jobs c.loop-at.at e c.loop-at.all_ok c.and_ok-all_ok.result short here c.loop-at.invariant.verdict c.and_ok-all_ok.ensures;
    }

pub returns-clause-lines : goal.returns-clause-lines
returns-clause-lines c =
    c.loop-at.invariant.lines
    ∙ ap (λ t. c.args.into.now.items ++ t) (lines_all c.args.table.now (entries_of c.args.yes.now.spans.items c.args.yes.now.marks.items) c.loop-at.at (omega (arith, c.count_of-count.ensures.count, c.loop-at-test.false)))
