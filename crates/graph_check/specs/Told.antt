-- What a yes tells of lines.
--     entries_of spans marks     intervals and marks of jobs, as entries
--     job_entry line             the interval and mark of a job line
--     job_entries lines          those of the job lines, in order
use Rattle.std.specs.Prelude.{List, filter_map, Option, Some, None}
use Rattle.lists.specs.Zipped.{zip_with}
use Rattle.sag_time.specs.Interval.{Interval}
use Rattle.cert_text.specs.declared.line.Mark.{Mark}
use Rattle.cert_text.specs.declared.line.CertLine.{CertLine}
use Rattle.cert_text.specs.declared.line.CertLine.TheVariants as line
use Rattle.graph_check.specs.Entries.{JobEntry}

-- the intervals and marks of jobs, as entries
abbrev pub entries_of : List Interval → List Mark → List JobEntry
entries_of spans marks = zip_with (λ span mark. record { span = span; mark = mark }) spans marks

-- the interval and mark of a job line
abbrev pub job_entry : CertLine → Option JobEntry
job_entry (line.Job number lo hi mark) = Some (record { span = record { lo = lo; hi = hi }; mark = mark })
job_entry other = None

-- the intervals and marks of the job lines, in order
abbrev pub job_entries : List CertLine → List JobEntry
job_entries lines = filter_map job_entry lines
