-- The command `selftest`: it reads no files, and has one reply, whatever files there are.
use Rattle.std.proofs.Common.{◌≡◌, ◌∙◌, ◌+◌, ◌∷◌, ℕ, Bool, IsTrue, List, [], None, Option, Some, Result, Ok, Err, ap, arith, cond, false, length, length-append, refl, subst, sym, true, ◌≤◌}
use Rattle.std.proofs.lemmas.List.Elements.{filter-append}
use Rattle.lists.proofs.Ranges.{numbers_more}
use Rattle.lists.specs.Numbers.{numbers_below}
use Rattle.std.specs.Prelude.{IfOk, filter, nat_lt, not}
use Rattle.std.proofs.lemmas.List.{length-map}
use Rattle.std.proofs.lemmas.List.FromFn.{length-range_with_len}
use Rattle.std.specs.Int.{from_bool}
use Rattle.sag_edge.specs.Contents.{Contents}
use Rattle.sag_texts.specs.declared.fault.Fault.{Fault}
use Rattle.sag_engine.specs.Selftest.{reply_of_selftest, selftest_plan, selftest_reply, selftest_table, summary_of, summary_text}
use Rattle.sag_engine.specs.Work.{Reply, Work}
use Rattle.sag_engine.specs.Work.Work.{Selftests}
use Rattle.sag_engine.specs.Commands.{Replies}
use Rattle.sag_engine.specs.RunEnds.{Gives, Prints, Runs, Writes}
use Rattle.sag_engine.specs.declared.command_selftest.Summary.{Summary}
use Rattle.sag_engine.specs.declared.conclusion.Conclusion.{Conclusion}
use Rattle.sag_engine.specs.declared.conclusion.Conclusion.TheVariants.{Done, Spent}
use Rattle.sag_engine.specs.declared.halt.Halt.{Halt}
use Rattle.job_model.specs.Table.{Table}
use Rattle.sag_edge.specs.Writing.{SeenSink}
use Rattle.sag_graph.specs.Budget.{spent}
use Rattle.sag_graph.specs.Graph.{graph_of}
use Rattle.sag_graph.specs.Spans.{edges_up_to, span_of, spans_by}
use Rattle.sag_edge.specs.Reading.{SeenFiles}
use Rattle.workload_gen.specs.Workload.{generated}
use Rattle.sag_engine.specs.declared.command_selftest.TheConstants.{SELFTEST_BUDGET, SELFTEST_JOBS}
use Rattle.sag_engine.proofs.PlanLemmas.{follows_pure}
use Rattle.sag_engine.proofs.PrintLemmas.{runs_then}
use Rattle.sag_words.specs.declared.command.Command.TheVariants as commands
use Rattle.sag_words.specs.Laws.{OneCommand}
use Rattle.sag_words.specs.Words.{WordsOf}
use Rattle.sag_engine.specs.Commands.{command_plan}
use Rattle.sag_engine.specs.Laws.{WordsSuffice}
use Rattle.sag_engine.specs.Plan.{ComesTo}
use Rattle.sag_engine.specs.Promises.{ComesOut, Outcome}
use Rattle.sag_engine.specs.Promises.Outcome.{NoCommand, Refusal, Output}
use Rattle.sag_engine.specs.RunEnds.{AsksNothing}
use Rattle.sag_engine.proofs.OnePlan.{IsOne, ends_one}

-- its words fix its work
pub selftest_one : (contents : Contents) (number cores : ℕ) → IsOne contents (selftest_plan number cores)
selftest_one contents number cores = ends_one contents (Ok (Selftests number cores))

-- what it gives, whatever files there are
pub selftest_gives : (m : Option Contents) (number cores : ℕ) (r : Reply) → Gives (selftest_plan number cores) m r → r ≡ reply_of_selftest number cores
selftest_gives m number cores r a =
    let works : ◌≡◌ {A = Result Work Fault} (Ok (Selftests number cores)) (Ok a.work) = a.comes in
    let work : a.work ≡ Selftests number cores = cc works in
    subst (λ w. Replies w r) work a.replies

-- its work has one reply
pub one_selftest_reply : (m : Option Contents) (number cores : ℕ) (r s : Reply)
    → Gives (selftest_plan number cores) m r → Gives (selftest_plan number cores) m s → r ≡ s
one_selftest_reply m number cores r s a b = selftest_gives m number cores r a ∙ sym (selftest_gives m number cores s b)

-- ---- what is counted

-- a graph has a place for each job's span
pub span_of_each : (table : Table) (m : ℕ) → length (graph_of table m).spans ≡ length table.jobs
unfolding spans_by
span_of_each table m =
    length-map (numbers_below (length table.jobs)) (span_of table (edges_up_to table m (length table.jobs))) ∙ length-range_with_len 0 (length table.jobs)

-- what counts is at most one
pub at_most_one : (b : Bool) (one : ℕ) → one ≡ from_bool (not b) → one ≤ 1
at_most_one true one is = omega (arith, is)
at_most_one false one is = omega (arith, is)

-- one more number, which counts where it does not pass a test
pub counted : (p : ℕ → Bool) (n : ℕ) (b : Bool) (one : ℕ) → b ≡ p n → one ≡ from_bool (not b)
    → length (filter (λ j. not (p j)) (numbers_below n)) + one ≡ length (filter (λ j. not (p j)) (numbers_below (n + 1)))
counted p n b one is one_is = sym more
  where
    q : ℕ → Bool
    q j = not (p j)

    last : (x : Bool) → length (cond x (n ∷ []) []) ≡ from_bool x
    last true = refl
    last false = refl

    more : length (filter q (numbers_below (n + 1))) ≡ length (filter q (numbers_below n)) + one
    more =
        ap (λ l. length (filter q l)) (numbers_more n) ∙ ap length (filter-append q (numbers_below n) (n ∷ []))
        ∙ length-append (filter q (numbers_below n)) (filter q (n ∷ []))
        ∙ ap (λ x. length (filter q (numbers_below n)) + x) (last (q n) ∙ ap (λ x. from_bool (not x)) (sym is) ∙ sym one_is)

-- ---- what is printed

module _ (number : ℕ) (table : Table) (m : ℕ) (budget : ℕ) {a b : SeenSink} {r : Result Conclusion Halt} where
  -- no offer exceeds the budget, and the summary was printed
  pub summary_printed : (summary : Summary) (text : List ℕ) → spent table m budget ≡ None → summary ≡ summary_of number table m → text ≡ summary_text summary
      → Prints (record { conclusion = Done; bytes = text }) a b r → Prints (selftest_reply number table m (spent table m budget)) a b r
  summary_printed summary text none summary_is text_is d =
      let same : text ≡ summary_text (summary_of number table m) = text_is ∙ ap summary_text summary_is in
      subst (λ o. Prints (selftest_reply number table m o) a b r) (sym none) (subst (λ t. Prints (record { conclusion = Done; bytes = t }) a b r) same d)

  -- an offer exceeds the budget, and nothing was printed
  pub summary_spent : (level states edges : ℕ) → spent table m budget ≡ Some (record { level = level; states = states; edges = edges }) → Writes [] a b r
      → IfOk r (λ told. (told ≡ Spent level states edges) × IsTrue b.finished) → Prints (selftest_reply number table m (spent table m budget)) a b r
  summary_spent level states edges is d told =
      subst (λ o. Prints (selftest_reply number table m o) a b r) (sym is) (record { writes = d; conclusion = told })

-- the summary of a generated table was printed, whatever files there are
pub selftest_runs : (number cores : ℕ) (table : Table) {a b : SeenSink} {r : Result Conclusion Halt} → table ≡ generated number SELFTEST_JOBS (nat_lt 1 cores)
    → Prints (selftest_reply number table cores (spent table cores SELFTEST_BUDGET)) a b r → (files : SeenFiles) → Runs (selftest_plan number cores) files files a b r
unfolding selftest_table
selftest_runs number cores table {a = a} {b = b} {r = r} is d files =
    runs_then (selftest_plan number cores) (Selftests number cores) (follows_pure (λ w. w) (Ok (Selftests number cores)) files (Ok (Selftests number cores)) refl) refl
    (subst (λ t. Prints (selftest_reply number t cores (spent t cores SELFTEST_BUDGET)) a b r) is d)

-- ---- words that need no files

nothing_comes : (words : List (List ℕ)) (m : Option Contents) (outcome : Outcome) → AsksNothing words → ComesOut words m outcome → outcome ≡ NoCommand
nothing_comes words m NoCommand none comes = refl
nothing_comes words m (Refusal fault) none (command, asked, comes) = absurd (none command asked)
nothing_comes words m (Output reply) none (command, asked, gives) = absurd (none command asked)

module _ (one_command : OneCommand) where
  selftest_comes : (words : List (List ℕ)) (number cores : ℕ) (m : Option Contents) (outcome : Outcome) → WordsOf words (commands.Selftest number cores)
      → ComesOut words m outcome → outcome ≡ Output (reply_of_selftest number cores)
  selftest_comes words number cores m NoCommand asked none = absurd (none (commands.Selftest number cores) asked)
  selftest_comes words number cores m (Refusal fault) asked (command, asked', comes) =
      let same = one_command words command (commands.Selftest number cores) asked' asked in
      let refused : ◌≡◌ {A = Result Work Fault} (Ok (Selftests number cores)) (Err fault) = subst (λ c. ComesTo (command_plan c) m (Err fault)) same comes in
      absurd (cc refused)
  selftest_comes words number cores m (Output reply) asked (command, asked', gives) =
      let same = one_command words command (commands.Selftest number cores) asked' asked in
      ap Output (selftest_gives m number cores reply (subst (λ c. Gives (command_plan c) m reply) same gives))

  pub words_suffice : WordsSuffice
  words_suffice = record { nothing = nothing_comes; selftest = selftest_comes }
