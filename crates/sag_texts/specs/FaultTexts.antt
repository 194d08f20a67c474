-- The texts that go to the error stream.
--   line              a line of these pieces
--   file_word         the word for a file
--   refusal           why a file is refused
--   row_refusal       why one of its rows is refused
--   field_refusal     why a field of a row is refused
--   repeat_refusal    a row is refused, since an earlier one has the same IDs
--   no_memory         want of memory
--   usage_text        how the program is called
--   spent_text        where the budget ended the work
--   csv_fault_text    why a file is no table of numbers
--   table_fault_text  why the rows of the job file are no job table
--   edge_fault_text   why the rows of the precedence file are no edges of a job table
--   side_fault_text   why a file beside the job file is refused
--   task_fault_text   why tasks are refused, or the jobs that they make
--   no_trial          there is no trial of a number
--   fault_text        the text of a fault
--   has_text          every fault has a text, but a job without a row, which is told by its IDs
--   HasText           the same as a fact
use Rattle.std.specs.Prelude.{ℕ, ◌++◌, Bool, IsTrue, List, [], ◌∷◌, codes, false, true}
use Rattle.std.specs.Fmt.{decimal}
use Rattle.std.specs.List.{concat}
use Rattle.csv_numbers.specs.declared.fault.CsvFault.{CsvFault}
use Rattle.csv_numbers.specs.declared.fault.CsvFault.TheVariants as csv
use Rattle.job_model.specs.declared.fault.TableFault.{TableFault}
use Rattle.job_model.specs.declared.fault.TableFault.TheVariants as table
use Rattle.job_model.specs.declared.fault.EdgeFault.{EdgeFault}
use Rattle.job_model.specs.declared.fault.EdgeFault.TheVariants as edge
use Rattle.side_csv.specs.declared.fault.SideFault.{SideFault}
use Rattle.side_csv.specs.declared.fault.SideFault.TheVariants as side
use Rattle.task_unroll.specs.declared.fault.TaskFault.{TaskFault}
use Rattle.task_unroll.specs.declared.fault.TaskFault.TheVariants as task
use Rattle.sag_texts.specs.declared.usage.TheConstants.{USAGE}
use Rattle.sag_texts.specs.declared.fault.FileKind.{FileKind}
use Rattle.sag_texts.specs.declared.fault.FileKind.TheVariants.{Jobs, Scenario, Precedence, Certificate, Run, Tasks, Edits}
use Rattle.sag_texts.specs.declared.fault.Fault.{Fault}
use Rattle.sag_texts.specs.declared.fault.Fault.TheVariants as fault

-- a line of these pieces
unfoldable pub line : List (List ℕ) → List ℕ
line pieces = concat pieces ++ 10 ∷ []

-- the word for a file
abbrev pub file_word : FileKind → List ℕ
file_word Jobs = codes "jobs"
file_word Scenario = codes "scenario"
file_word Precedence = codes "precedence"
file_word Certificate = codes "certificate"
file_word Run = codes "run"
file_word Tasks = codes "tasks"
file_word Edits = codes "edits"

-- why a file is refused
unfoldable pub refusal : FileKind → List (List ℕ) → List ℕ
refusal file why = line (codes "refused " ∷ file_word file ∷ why)

-- why one of its rows is refused
unfoldable pub row_refusal : FileKind → ℕ → List (List ℕ) → List ℕ
row_refusal file row why = refusal file (codes " row " ∷ decimal row ∷ why)

-- why a field of a row is refused
unfoldable pub field_refusal : FileKind → ℕ → ℕ → List ℕ → List ℕ
field_refusal file row column why = row_refusal file row (codes " column " ∷ decimal column ∷ why ∷ [])

-- a row is refused, since an earlier one has the same IDs
unfoldable pub repeat_refusal : FileKind → ℕ → ℕ → List ℕ
repeat_refusal file row earlier = row_refusal file row (codes " repeats row " ∷ decimal earlier ∷ [])

-- want of memory
unfoldable pub no_memory : List ℕ
no_memory = line (codes "no memory" ∷ [])

-- how the program is called
unfoldable pub usage_text : List ℕ
usage_text = USAGE.now

-- the budget ended the work at this level, with so many states and edges
unfoldable pub spent_text : ℕ → ℕ → ℕ → List ℕ
spent_text level states edges =
    line (codes "spent level " ∷ decimal level ∷ codes " states " ∷ decimal states ∷ codes " edges " ∷ decimal edges ∷ [])

-- why a file is no table of numbers
unfoldable pub csv_fault_text : FileKind → CsvFault → List ℕ
csv_fault_text file csv.NoHeading = refusal file (codes " no heading" ∷ [])
csv_fault_text file (csv.Width row fields) = row_refusal file row (codes " has " ∷ decimal fields ∷ codes " fields" ∷ [])
csv_fault_text file (csv.NotNumber row column) = field_refusal file row column (codes " is no number")
csv_fault_text file (csv.TooBig row column) = field_refusal file row column (codes " is above 18446744073709551615")
csv_fault_text file csv.Memory = no_memory

-- why the rows of the job file are no job table
unfoldable pub table_fault_text : TableFault → List ℕ
table_fault_text table.TooMany = refusal Jobs (codes " too many rows" ∷ [])
table_fault_text (table.OverLimit row column) = field_refusal Jobs row column (codes " is above the limit")
table_fault_text (table.SpanReversed row column) = field_refusal Jobs row column (codes " is above the next")
table_fault_text (table.ZeroCost row) = row_refusal Jobs row (codes " column 5 is 0" ∷ [])
table_fault_text (table.Twice row earlier) = repeat_refusal Jobs row earlier
table_fault_text table.Memory = no_memory

-- why the rows of the precedence file are no edges of a job table
unfoldable pub edge_fault_text : EdgeFault → List ℕ
edge_fault_text edge.TooManyEdges = refusal Precedence (codes " too many rows" ∷ [])
edge_fault_text (edge.SelfEdge row) = row_refusal Precedence row (codes " names one job twice" ∷ [])
edge_fault_text (edge.Cycle row) = row_refusal Precedence row (codes " closes a cycle" ∷ [])
edge_fault_text edge.Memory = no_memory

-- why a file beside the job file is refused
unfoldable pub side_fault_text : FileKind → SideFault → List ℕ
side_fault_text file (side.Csv fault) = csv_fault_text file fault
side_fault_text file (side.Unknown row column) = field_refusal file row column (codes " names no job")
side_fault_text file (side.Missing job) = []
side_fault_text file (side.Twice row earlier) = repeat_refusal file row earlier
side_fault_text file (side.Outside row column) = field_refusal file row column (codes " is outside")
side_fault_text file side.Memory = no_memory

-- why tasks are refused, or the jobs that they make
unfoldable pub task_fault_text : TaskFault → List ℕ
task_fault_text (task.Csv why) = csv_fault_text Tasks why
task_fault_text (task.OverLimit row column) = field_refusal Tasks row column (codes " is above the limit")
task_fault_text (task.ZeroPeriod row) = row_refusal Tasks row (codes " column 2 is 0" ∷ [])
task_fault_text (task.SpanReversed row) = row_refusal Tasks row (codes " column 5 is above the next" ∷ [])
task_fault_text (task.ZeroCost row) = row_refusal Tasks row (codes " column 5 is 0" ∷ [])
task_fault_text (task.Twice row earlier) = repeat_refusal Tasks row earlier
task_fault_text (task.Late row) = row_refusal Tasks row (codes " releases too late" ∷ [])
task_fault_text task.TooMany = refusal Tasks (codes " too many jobs" ∷ [])
task_fault_text task.Memory = no_memory

-- there is no trial of this number, which is above the greatest
unfoldable pub no_trial : ℕ → ℕ → List ℕ
no_trial trial most = line (codes "refused trial " ∷ decimal trial ∷ codes " is above " ∷ decimal most ∷ [])

-- the text of a fault
unfoldable pub fault_text : Fault → List ℕ
fault_text fault.Usage = usage_text
fault_text (fault.TooLong file) = refusal file (codes " file too long" ∷ [])
fault_text (fault.Csv file why) = csv_fault_text file why
fault_text (fault.Table why) = table_fault_text why
fault_text (fault.Edge why) = edge_fault_text why
fault_text (fault.Side file why) = side_fault_text file why
fault_text (fault.NoRow file task job) = refusal file (codes " has no row for job " ∷ decimal task ∷ codes " " ∷ decimal job ∷ [])
fault_text (fault.Text line byte) = refusal Certificate (codes " line " ∷ decimal line ∷ codes " byte " ∷ decimal byte ∷ [])
fault_text (fault.NoJob task job) = line (codes "refused job " ∷ decimal task ∷ codes " " ∷ decimal job ∷ codes " is not in the table" ∷ [])
fault_text (fault.Tasks why) = task_fault_text why
fault_text (fault.NoTrial trial most) = no_trial trial most
fault_text (fault.CannotRead file) = line (codes "cannot read " ∷ file_word file ∷ [])
fault_text fault.CannotWrite = line (codes "cannot write" ∷ [])
fault_text fault.NoMemory = no_memory

-- every fault has a text, but a job without a row, which is told by its IDs
abbrev pub has_text : Fault → Bool
has_text (fault.Side file (side.Missing job)) = false
has_text other = true

-- the same as a fact
abbrev pub HasText : Fault → Type 0
HasText fault = IsTrue (has_text fault)
