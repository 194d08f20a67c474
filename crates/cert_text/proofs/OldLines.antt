-- A line of the old version is one of the new.
use Rattle.std.proofs.Common.{List, arith}
use Rattle.cert_text.specs.declared.line.Pair.{Pair}
use Rattle.cert_text.specs.declared.line.CertLine.{CertLine}
use Rattle.cert_text.specs.declared.line.CertLine.TheVariants as line
use Rattle.cert_text.specs.Grammar.{first_version, second_version}
use Rattle.cert_text.specs.Spelling.{FitsPairs, FitsLine}
use Rattle.cert_text.specs.Laws.{HasNoLast}
use Rattle.cert_text.proofs.SpellingsTaken.{none_left}

old_pairs_fit : (pairs : List Pair) → FitsPairs first_version pairs → FitsPairs second_version pairs
old_pairs_fit pairs f = record { some = f.some; few = omega (arith, f.few); each = f.each }

pub old_lines_fit : (l : CertLine) → FitsLine first_version l → FitsLine second_version l × HasNoLast l
old_lines_fit (line.Head jobs cores) f = (f, tt)
old_lines_fit (line.Level number count) f = (f, tt)
old_lines_fit (line.Root pairs) f = (old_pairs_fit pairs f, tt)
old_lines_fit (line.State parent job pairs ends last) f = (
  record {
    fit_parent = f.fit_parent;
    fit_job = f.fit_job;
    fit_pairs = old_pairs_fit pairs f.fit_pairs;
    few_ends = omega (arith, f.few_ends);
    each_end = f.each_end;
    few_last = omega (arith, f.few_last);
    each_last = f.each_last;
  },
  none_left last f.few_last,
)
old_lines_fit (line.Edge from job est lst to) f = (f, tt)
old_lines_fit (line.Job number lo hi mark) f = (f, tt)
old_lines_fit (line.Verdict mark) f = (f, tt)
old_lines_fit line.End f = (f, tt)
