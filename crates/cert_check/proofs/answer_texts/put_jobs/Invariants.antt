use Rattle.std.proofs.Common.{◌≡◌, ◌++◌, take}
use Rattle.std.specs.List.{enumerate_from, flat_map}
use Rattle.graph_check.specs.Told.{entries_of}
use Rattle.cert_check.specs.AnswerTexts.{job_text, are_all_ok}
use Rattle.cert_check.proofs.answer_texts.put_jobs.Given as goal

abbrev pub invariant-loop-at : goal.invariant-loop-at
invariant-loop-at l =
    let jobs = entries_of l.yes.spans.items l.yes.marks.items in
    record {
      lines : l.into.items ≡ l.fn.into.items ++ flat_map (job_text l.table) (take l.at (enumerate_from 0 jobs));
      verdict : l.all_ok ≡ are_all_ok (take l.at jobs);
    }
