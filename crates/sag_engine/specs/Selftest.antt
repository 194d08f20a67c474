-- The command `selftest`.
--     selftest_table number m      the table that is generated for so many cores
--     is_timely table spans j      the interval of job j ends by its deadline
--     late_count table spans       how many jobs there are of which it does not
--     summary_of number m          the summary of its graph
--     summary_text                 how it is printed
--     selftest_plan                the work that it comes to: it reads no files
--     selftest_reply               what is printed, by the first offer that exceeds the budget, if there is one
--     reply_of_selftest            what is printed
use Rattle.std.specs.Prelude.{ℕ, ◌++◌, List, [], ◌∷◌, Bool, codes, decimal, filter, length, nat_lt, not, slice_index_or, unwrap_or, Option, None, Some, Result, Ok}
use Rattle.lists.specs.Numbers.{numbers_below}
use Rattle.sag_texts.specs.declared.fault.Fault.{Fault}
use Rattle.sag_time.specs.Interval.{Interval}
use Rattle.job_model.specs.Table.{Table}
use Rattle.graph_memory.specs.Held.{edges_in, states_in}
use Rattle.sag_graph.specs.Budget.{Spending, spent}
use Rattle.sag_graph.specs.Graph.{graph_of}
use Rattle.sag_graph.specs.Lines.{is_in_time, no_span}
use Rattle.workload_gen.specs.Workload.{generated}
use Rattle.sag_engine.specs.declared.conclusion.Conclusion.TheVariants.{Done, Spent}
use Rattle.sag_engine.specs.declared.command_selftest.Summary.{Summary}
use Rattle.sag_engine.specs.declared.command_selftest.TheConstants.{SELFTEST_BUDGET, SELFTEST_JOBS}
use Rattle.sag_engine.specs.Plan.{Plan}
use Rattle.sag_engine.specs.Plan.Plan.{Ends}
use Rattle.sag_engine.specs.Work.{Work, Reply}
use Rattle.sag_engine.specs.Work.Work.{Selftests}

-- the table that is generated from the number, with edges where there is more than one core
unfoldable pub selftest_table : ℕ → ℕ → Table
selftest_table number m = generated number SELFTEST_JOBS (nat_lt 1 m)

-- the interval of job j ends by its deadline, as its line in a certificate says
abbrev pub is_timely : Table → List (Option Interval) → ℕ → Bool
is_timely table spans j = is_in_time table (j, unwrap_or (slice_index_or spans j None) no_span)

-- how many jobs there are of which it does not
abbrev pub late_count : Table → List (Option Interval) → ℕ
late_count table spans = length (filter (λ j. not (is_timely table spans j)) (numbers_below (length table.jobs)))

-- the summary of the graph of a table that was generated from the number
abbrev pub summary_of : ℕ → Table → ℕ → Summary
summary_of number table m = record {
  number = number;
  cores = m;
  states = states_in (graph_of table m);
  edges = edges_in (graph_of table m);
  misses = late_count table (graph_of table m).spans;
}

-- its line
unfoldable pub summary_text : Summary → List ℕ
summary_text s =
    codes "selftest " ++ decimal s.number ++ codes " jobs " ++ decimal SELFTEST_JOBS ++ codes " cores " ++ decimal s.cores ++ codes " states " ++ decimal s.states
    ++ codes " edges " ++ decimal s.edges ++ codes " miss " ++ decimal s.misses ++ 10 ∷ []

-- It reads no files.
abbrev pub selftest_plan : ℕ → ℕ → Plan (Result Work Fault)
selftest_plan number m = Ends (Ok (Selftests number m))

-- The summary of the graph; where an offer exceeds the budget, nothing.
abbrev pub selftest_reply : ℕ → Table → ℕ → Option Spending → Reply
selftest_reply number table m None = record { conclusion = Done; bytes = summary_text (summary_of number table m) }
selftest_reply number table m (Some s) = record { conclusion = Spent s.level s.states s.edges; bytes = [] }

-- what is printed
abbrev pub reply_of_selftest : ℕ → ℕ → Reply
reply_of_selftest number m = selftest_reply number (selftest_table number m) m (spent (selftest_table number m) m SELFTEST_BUDGET)
