-- The command `analyse`: what its files come to, which it reads, and what it prints.
--     accepted_analysis               it comes to the graph of a table, on the cores and within the budget of the command
--     analyse_reads, analyse_one, one_analysis_reply     its files are those that its words name; they fix its work; its work has one reply
--     Printing                        what was printed while a builder stands at a level
--     first_printed, next_printed     the head line and level 0 were printed; one level more was
--     halts_ ..                       the printing stopped
--     ends_done, ends_spent           the printing ended
use Rattle.std.proofs.Common.{◌≡◌, ◌∙◌, ◌++◌, ◌+◌, ◌-◌, ◌<◌, ◌≤◌, ℕ, inl, inr, List, [], Option, None, Some, Result, Ok, Err, ap, arith, length, refl, sym, subst}
use Rattle.std.specs.Prelude.{◌↔◌, Bool, IfOk, IsTrue, false, find, nat_lt, true}
use Rattle.std.proofs.lemmas.Bool.{false≢true}
use Rattle.sag_edge.specs.Contents.{Contents}
use Rattle.sag_edge.specs.Writing.{SeenSink}
use Rattle.sag_texts.specs.declared.fault.FileKind.{FileKind}
use Rattle.sag_texts.specs.declared.fault.Fault.{Fault}
use Rattle.job_model.specs.Table.{Table, IsTable}
use Rattle.sag_graph.specs.Budget.{Spending, exceeds, spendings_at, spent}
use Rattle.sag_graph.specs.Lines.{head_lines, level_lines, tail_lines}
use Rattle.sag_graph.specs.CertificateText.{text_of_graph}
use Rattle.sag_graph.specs.Spans.{spans_up_to}
use Rattle.graph_builder.specs.declared.fault.LevelFault.TheVariants as fault
use Rattle.graph_builder.specs.Laws.{WholeGraphIsWithin}
use Rattle.graph_builder.specs.Standing.{IsSpentAfter, IsStanding, Standing, builder_at}
use Rattle.sag_engine.specs.declared.conclusion.Conclusion.{Conclusion}
use Rattle.sag_engine.specs.declared.conclusion.Conclusion.TheVariants.{Done, Spent}
use Rattle.sag_engine.specs.declared.halt.Halt.{Halt}
use Rattle.sag_engine.specs.declared.halt.Halt.TheVariants.{Memory}
use Rattle.sag_engine.specs.Plan.{ComesTo, ReadsNext}
use Rattle.sag_engine.specs.Plan.Plan.{Ends}
use Rattle.sag_engine.specs.Inputs.{table_plan}
use Rattle.sag_engine.specs.Work.{IsAmongFiles, Reply, Work}
use Rattle.sag_engine.specs.Work.Work.{Analyses}
use Rattle.sag_engine.specs.Analyse.{analyse_files, analyse_plan, analysis_reply, level_text, lines_text, text_up_to}
use Rattle.sag_engine.specs.Commands.{Replies}
use Rattle.sag_engine.specs.RunEnds.{Gives, Prints, Writes}
use Rattle.sag_engine.proofs.FileLemmas.{reads_split, table_reads}
use Rattle.sag_engine.proofs.FirstExcess.{above, below, beyond}
use Rattle.sag_engine.proofs.GraphText.{Begins, begins_on, text_begins, text_first, text_next, text_whole}
use Rattle.sag_engine.proofs.InputLemmas.{accepted_table}
use Rattle.sag_engine.proofs.OneInputs.{table_one}
use Rattle.sag_engine.proofs.OneJudgement.{FileLaws}
use Rattle.sag_engine.proofs.OnePlan.{IsOne, ends_one, then_one}
use Rattle.sag_engine.proofs.PlanLemmas.{comes_split}
use Rattle.sag_engine.proofs.PrintLemmas.{Wrote, prints_halt, writes_after, writes_all, writes_earlier, writes_no_more, writes_none, wrote, wrote_then}

-- what an analysis comes to: the graph of a table, on the cores and within the budget of the command
pub record AcceptedAnalysis (jobs : List ℕ) (prec : Option (List ℕ)) (cores budget : ℕ) (m : Option Contents) (work : Work) : Type 0 where
  pub table : Table
  pub comes : ComesTo (table_plan jobs prec) m (Ok table)
  pub is_table : IsTable table
  pub work_is : work ≡ Analyses table cores budget

pub accepted_analysis : (jobs : List ℕ) (prec : Option (List ℕ)) (cores budget : ℕ) (m : Option Contents) (work : Work)
    → ComesTo (analyse_plan jobs prec cores budget) m (Ok work) → AcceptedAnalysis jobs prec cores budget m work
accepted_analysis jobs prec cores budget m work h =
    let s = comes_split (table_plan jobs prec) _ m work h in
    record {
      table = s.0;
      comes = s.1;
      is_table = accepted_table jobs prec m s.0 s.1;
      work_is = let same : Analyses s.0 cores budget ≡ work = cc in sym same;
    }

-- the files that it reads are those that its words name
pub analyse_reads : (jobs : List ℕ) (prec : Option (List ℕ)) (cores budget : ℕ) (m : Option Contents) (k : FileKind) (n : List ℕ)
    → ReadsNext (analyse_plan jobs prec cores budget) m k n → IsAmongFiles (analyse_files jobs prec) k n
analyse_reads jobs prec cores budget m k n h =
    elim (reads_split (table_plan jobs prec) (λ table. Ends (Ok (Analyses table cores budget))) m k n h) [
      | inl x ↦ table_reads jobs prec m k n x
      | inr x ↦ absurd x.1
    ]

-- its files fix its work, or its refusal
pub analyse_one : FileLaws → (contents : Contents) (jobs : List ℕ) (prec : Option (List ℕ)) (cores budget : ℕ) → IsOne contents (analyse_plan jobs prec cores budget)
analyse_one laws contents jobs prec cores budget = then_one contents (table_plan jobs prec) _ (table_one laws contents jobs prec)
    (λ table comes. ends_one contents (Ok (Analyses table cores budget)))

-- its work has one reply
pub one_analysis_reply : FileLaws → (contents : Contents) (jobs : List ℕ) (prec : Option (List ℕ)) (cores budget : ℕ) (r s : Reply)
    → Gives (analyse_plan jobs prec cores budget) (Some contents) r → Gives (analyse_plan jobs prec cores budget) (Some contents) s → r ≡ s
one_analysis_reply laws contents jobs prec cores budget r s a b =
    let works : ◌≡◌ {A = Result Work Fault} (Ok b.work) (Ok a.work) = (analyse_one laws contents jobs prec cores budget).one (Ok b.work) (Ok a.work) b.comes a.comes in
    let work : b.work ≡ a.work = cc works in
    let accepted = accepted_analysis jobs prec cores budget (Some contents) a.work a.comes in
    let is = subst (λ w. Replies w r) accepted.work_is a.replies in
    let is' = subst (λ w. Replies w s) (work ∙ accepted.work_is) b.replies in
    is ∙ sym is'

-- what is printed for the graph of a table
abbrev pub reply_for : Table → ℕ → ℕ → Reply
reply_for table m budget = analysis_reply table m (spent table m budget)

-- It begins with the text down to each level up to which no offer exceeds the budget.
reply_begins : (table : Table) (m budget k : ℕ) → k ≤ length table.jobs → ((j : ℕ) → j < k → find (exceeds budget) (spendings_at table m j) ≡ None)
    → (first : Option Spending) → spent table m budget ≡ first → Begins (text_up_to table m k) (analysis_reply table m first).bytes
reply_begins table m budget k le none None is =
    let whole : Begins (text_up_to table m (length table.jobs)) (analysis_reply table m None).bytes =
    record { rest = lines_text (tail_lines table (spans_up_to table m (length table.jobs))); is = text_whole table m } in
    begins_on (text_begins table m k (length table.jobs) le) whole
reply_begins table m budget k le none (Some x) is = text_begins table m k (x.level - 1) (omega (arith, beyond table m budget k x none is))

-- what was printed while a builder of the table's graph stands at a level: the text down to this level
pub record Printing (table : Table) (m budget : ℕ) (s : Standing) (old new : SeenSink) : Type 0 where
  pub table_is : s.table ≡ table
  pub cores_are : s.cores ≡ m
  pub budget_is : s.budget ≡ budget
  pub stands : IsStanding s
  pub printed : Wrote (text_up_to table m s.level) old new

-- the text down to its level begins what is printed
begins_here : (table : Table) (m budget : ℕ) (s : Standing) → s.table ≡ table → s.cores ≡ m → s.budget ≡ budget → IsStanding s
    → Begins (text_up_to table m s.level) (reply_for table m budget).bytes
begins_here table m budget s table_is cores_are budget_is stands =
    let own = reply_begins s.table s.cores s.budget s.level stands.is_level stands.within (spent s.table s.cores s.budget) refl in
    let at_table = subst (λ t. Begins (text_up_to t s.cores s.level) (reply_for t s.cores s.budget).bytes) table_is own in
    let at_cores = subst (λ c. Begins (text_up_to table c s.level) (reply_for table c s.budget).bytes) cores_are at_table in
    subst (λ b. Begins (text_up_to table m s.level) (reply_for table m b).bytes) budget_is at_cores

-- The printing stopped on the first ones of the bytes down to a level.
halts_in : {T : Type 0} {a b : SeenSink} {x : List ℕ} {reply : Reply} {h : Halt} → Begins x reply.bytes → Writes {T = T} x a b (Err h) → Prints reply a b (Err h)
halts_in {a = a} {b = b} {h = h} begins d = prints_halt (subst (λ z. Writes {T = Conclusion} z a b (Err h)) (sym begins.is) (writes_earlier begins.rest d))

-- the text that a builder makes of its level
pub level_written : {now made before : List ℕ} (s : Standing) → IsStanding s → now ≡ made
    → made ≡ before ++ lines_text (level_lines (s.level, record { states = s.states; edges = s.edges })) → before ≡ [] → now ≡ level_text s.table s.cores s.level
unfolding level_text
level_written s stands now_is made_is none =
    now_is ∙ made_is ∙ ap (λ t. t ++ lines_text (level_lines (s.level, record { states = s.states; edges = s.edges }))) none
    ∙ ap (λ (x : Standing). lines_text (level_lines (s.level, record { states = x.states; edges = x.edges }))) stands.of_graph

-- No builder was made.
pub halts_at_once : (table : Table) (m budget : ℕ) (a : SeenSink) → Prints (reply_for table m budget) a a (Err Memory)
halts_at_once table m budget a = prints_halt (writes_none a (reply_for table m budget).bytes)

-- A builder that goes on no more stands at the last level.
pub stands_last : (s : Standing) → IsStanding s → (went : Bool) → went ≡ false → (IsTrue went ↔ (s.level < length s.table.jobs)) → s.level ≡ length s.table.jobs
stands_last s stands went is_not last = at (nat_lt s.level (length s.table.jobs)) refl
  where
    at : (b : Bool) → nat_lt s.level (length s.table.jobs) ≡ b → s.level ≡ length s.table.jobs
    at true less = let yes : IsTrue went = last.1 (below s.level (length s.table.jobs) less) in absurd (false≢true (sym is_not ∙ yes))
    at false less = let le : length s.table.jobs ≤ s.level = above s.level (length s.table.jobs) less in omega (arith, le, stands.is_level)

-- the head line and level 0 begin what is printed
first_begins : (table : Table) (m budget : ℕ) → Begins (lines_text (head_lines table m) ++ level_text table m 0) (reply_for table m budget).bytes
first_begins table m budget =
    let first = reply_begins table m budget 0 (omega arith) (λ j lt. absurd (omega (arith, lt))) (spent table m budget) refl in
    subst (λ t. Begins t (reply_for table m budget).bytes) (text_first table m) first

module _ {table : Table} {m budget : ℕ} {s : Standing} (at_root : s ≡ builder_at table m budget 0) where
  root_head : lines_text (head_lines s.table s.cores) ≡ lines_text (head_lines table m)
  root_head = ap (λ (x : Standing). lines_text (head_lines x.table x.cores)) at_root

  root_text : level_text s.table s.cores s.level ≡ level_text table m 0
  root_text = ap (λ (x : Standing). level_text x.table x.cores x.level) at_root

  -- the head line, as it was printed
  root_wrote : {T : Type 0} {t : T} {a b : SeenSink} → Writes {T = T} (lines_text (head_lines s.table s.cores)) a b (Ok t) → Wrote (lines_text (head_lines table m)) a b
  root_wrote {T = T} {t = t} {a = a} {b = b} head = wrote (subst (λ x. Writes {T = T} x a b (Ok t)) root_head head)

  -- the printing stopped on the head line
  pub halts_in_head : {T : Type 0} {h : Halt} {a b : SeenSink} → Writes {T = T} (lines_text (head_lines s.table s.cores)) a b (Err h) → Prints (reply_for table m budget) a b (Err h)
  halts_in_head {T = T} {h = h} {a = a} {b = b} d =
      let head : Begins (lines_text (head_lines table m)) (lines_text (head_lines table m) ++ level_text table m 0) = record { rest = level_text table m 0; is = refl } in
      halts_in (begins_on head (first_begins table m budget)) (subst (λ x. Writes {T = T} x a b (Err h)) root_head d)

  -- it stopped on level 0
  pub halts_in_first : {T U : Type 0} {t : T} {h : Halt} {a b c : SeenSink} → Writes {T = T} (lines_text (head_lines s.table s.cores)) a b (Ok t)
      → Writes {T = U} (level_text s.table s.cores s.level) b c (Err h) → Prints (reply_for table m budget) a c (Err h)
  halts_in_first {U = U} {h = h} {b = b} {c = c} head d =
      halts_in (first_begins table m budget) (writes_after (root_wrote head) (subst (λ x. Writes {T = U} x b c (Err h)) root_text d))

  -- level 0 was printed
  pub first_printed : {T U : Type 0} {t : T} {u : U} {a b c : SeenSink} → IsStanding s → Writes {T = T} (lines_text (head_lines s.table s.cores)) a b (Ok t)
      → Writes {T = U} (level_text s.table s.cores s.level) b c (Ok u) → Printing table m budget s a c
  first_printed {U = U} {u = u} {a = a} {b = b} {c = c} stands head d =
      let first = wrote (subst (λ x. Writes {T = U} x b c (Ok u)) root_text d) in
      let text = subst (λ x. Wrote x a c) (sym (text_first table m)) (wrote_then (root_wrote head) first) in
      record {
        table_is = ap (λ (x : Standing). x.table) at_root;
        cores_are = ap (λ (x : Standing). x.cores) at_root;
        budget_is = ap (λ (x : Standing). x.budget) at_root;
        stands = stands;
        printed = subst (λ k. Wrote (text_up_to table m k) a c) (sym (ap (λ (x : Standing). x.level) at_root)) text;
      }

module _ {table : Table} {m budget : ℕ} {s : Standing} {a b : SeenSink} (before : Printing table m budget s a b) where
  -- memory ran out before the next level was there
  pub halts_between : Prints (reply_for table m budget) a b (Err Memory)
  halts_between =
      let begins = begins_here table m budget s before.table_is before.cores_are before.budget_is before.stands in
      prints_halt (subst (λ z. Writes {T = Conclusion} z a b (Err Memory)) (sym begins.is) (writes_no_more begins.rest before.printed))

  -- The budget is spent at an offer that leads to the next level: what was printed is all.
  pub ends_spent : {c : SeenSink} {level states edges : ℕ} {r : Result Conclusion Halt} → IsSpentAfter s (fault.Spent level states edges) → Writes [] b c r
      → IfOk r (λ told. (told ≡ Spent level states edges) × IsTrue c.finished) → Prints (reply_for table m budget) a c r
  ends_spent {c = c} {level = level} {states = states} {edges = edges} {r = r} is d told =
      let at_table = subst (λ t. spent t s.cores s.budget ≡ Some (record { level = level; states = states; edges = edges })) before.table_is is.1 in
      let at_cores = subst (λ n. spent table n s.budget ≡ Some (record { level = level; states = states; edges = edges })) before.cores_are at_table in
      let first : spent table m budget ≡ Some (record { level = level; states = states; edges = edges }) =
      subst (λ n. spent table m n ≡ Some (record { level = level; states = states; edges = edges })) before.budget_is at_cores in
      let own : s.level ≡ level - 1 = omega (arith, is.0) in
      let text = subst (λ k. Wrote (text_up_to table m k) a b) own before.printed in
      subst (λ o. Prints (analysis_reply table m o) a c r) (sym first) (record { writes = writes_all text d; conclusion = told })

  module _ {next : Standing} (is : next ≡ builder_at s.table s.cores s.budget (s.level + 1)) (stands : IsStanding next) where
    next_table : next.table ≡ table
    next_table = ap (λ (x : Standing). x.table) is ∙ before.table_is

    next_cores : next.cores ≡ m
    next_cores = ap (λ (x : Standing). x.cores) is ∙ before.cores_are

    next_budget : next.budget ≡ budget
    next_budget = ap (λ (x : Standing). x.budget) is ∙ before.budget_is

    next_text : text_up_to table m s.level ++ level_text next.table next.cores next.level ≡ text_up_to table m next.level
    next_text =
        let level : next.level ≡ s.level + 1 = ap (λ (x : Standing). x.level) is in
        ap (λ t. text_up_to table m s.level ++ level_text t next.cores next.level) next_table
        ∙ ap (λ c. text_up_to table m s.level ++ level_text table c next.level) next_cores
        ∙ ap (λ k. text_up_to table m s.level ++ level_text table m k) level
        ∙ sym (text_next table m s.level)
        ∙ ap (text_up_to table m) (sym level)

    module _ {c : SeenSink} {T : Type 0} where
      -- the next level was printed
      pub next_printed : {t : T} → Writes {T = T} (level_text next.table next.cores next.level) b c (Ok t) → Printing table m budget next a c
      next_printed d = record {
        table_is = next_table;
        cores_are = next_cores;
        budget_is = next_budget;
        stands = stands;
        printed = subst (λ x. Wrote x a c) next_text (wrote_then before.printed (wrote d));
      }

      -- the printing stopped on the next level
      pub halts_in_next : {h : Halt} → Writes {T = T} (level_text next.table next.cores next.level) b c (Err h) → Prints (reply_for table m budget) a c (Err h)
      halts_in_next {h = h} d =
          halts_in (begins_here table m budget next next_table next_cores next_budget stands)
          (subst (λ x. Writes {T = T} x a c (Err h)) next_text (writes_after before.printed d))

  -- It stands at the last level: what stands behind it was printed.
  pub ends_done : WholeGraphIsWithin → s.level ≡ length s.table.jobs → {c : SeenSink} {r : Result Conclusion Halt}
      → Prints (record { conclusion = Done; bytes = lines_text (tail_lines s.table s.spans) }) b c r → Prints (reply_for table m budget) a c r
  ends_done within last {c = c} {r = r} d =
      let at_table = subst (λ t. spent t s.cores s.budget ≡ None) before.table_is (within s before.stands last) in
      let at_cores = subst (λ n. spent table n s.budget ≡ None) before.cores_are at_table in
      let none : spent table m budget ≡ None = subst (λ n. spent table m n ≡ None) before.budget_is at_cores in
      subst (λ o. Prints (analysis_reply table m o) a c r) (sym none)
      (record { writes = subst (λ z. Writes z a c r) whole (writes_after before.printed d.writes); conclusion = d.conclusion })
    where
      level : s.level ≡ length table.jobs
      level = last ∙ ap (λ (t : Table). length t.jobs) before.table_is

      spans : s.spans ≡ spans_up_to table m (length table.jobs)
      spans = ap (λ (x : Standing). x.spans) before.stands.of_graph ∙ ap (λ t. spans_up_to t s.cores s.level) before.table_is
          ∙ ap (λ n. spans_up_to table n s.level) before.cores_are ∙ ap (spans_up_to table m) level

      whole : text_up_to table m s.level ++ lines_text (tail_lines s.table s.spans) ≡ text_of_graph table m
      whole = ap (λ k. text_up_to table m k ++ lines_text (tail_lines s.table s.spans)) level
          ∙ ap (λ t. text_up_to table m (length table.jobs) ++ lines_text (tail_lines t s.spans)) before.table_is
          ∙ ap (λ x. text_up_to table m (length table.jobs) ++ lines_text (tail_lines table x)) spans
          ∙ sym (text_whole table m)
