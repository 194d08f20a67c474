-- What each progress of a level keeps, and where in a certificate the next line stands.
use Rattle.std.proofs.Common.{◌≡◌, ℕ, ◌<◌, ◌≤◌, length, refl, sym, ◌∙◌, arith, ⊎_elim}
use Rattle.std.proofs.lemmas.Bool.{cond-true, cond-false, lt-ltb, le-ltb, cases_lt}
use Rattle.std.proofs.lemmas.List.{length_push}
use Rattle.job_model.specs.Table.{Table}
use Rattle.sag_step.specs.Offers.{offers}
use Rattle.graph_check.specs.declared.due.Due.TheVariants as due
use Rattle.graph_check.specs.Entries.{JobEntry}
use Rattle.graph_check.specs.Certificate.{StateEntry, EdgeEntry}
use Rattle.graph_check.specs.Valid.{entry_state}
use Rattle.graph_check.specs.Progress.{Progress, due_in_level, due_at_end}
use Rattle.graph_check.proofs.PassedLines.{with_state, with_edge, with_level, with_job}

module _ (table : Table) where
  -- What each progress of a level keeps, from the root line to the verdict.
  pub record IsConsistent (r : Progress) : Type 0 where
    pub due_is : r.due ≡ due_in_level table r
    pub behind_head : 1 < r.lines
    pub states_in : length r.states ≤ r.count
    pub edges_in : r.edges ≤ length (offers table r.before)
    pub levels_in : r.level ≤ length table.jobs
    pub jobs_in : length r.jobs ≤ length table.jobs

  pub record IsBehindEdges (r : Progress) : Type 0 where
    pub states : r.count ≤ length r.states
    pub edges : length (offers table r.before) ≤ r.edges

  pub record IsBehindLevels (r : Progress) : Type 0 where
    pub states : r.count ≤ length r.states
    pub edges : length (offers table r.before) ≤ r.edges
    pub levels : length table.jobs ≤ r.level

  -- where in the certificate the next line stands
  pub data Stage (r : Progress) : Type 0 where
    InStates : r.due ≡ due.State → length r.states < r.count → Stage r
    InEdges : r.due ≡ due.Edge → r.count ≤ length r.states → r.edges < length (offers table r.before) → Stage r
    AtLevel : r.due ≡ due.Level → IsBehindEdges r → r.level < length table.jobs → Stage r
    InJobs : r.due ≡ due.Job → IsBehindLevels r → length r.jobs < length table.jobs → Stage r
    AtVerdict : r.due ≡ due.Verdict → IsBehindLevels r → length table.jobs ≤ length r.jobs → Stage r

  pub due-states : (r : Progress) → length r.states < r.count → due_in_level table r ≡ due.State
  due-states r more = cond-true _ _ _ (lt-ltb (length r.states) r.count more)

  pub due-edges : (r : Progress) → r.count ≤ length r.states → r.edges < length (offers table r.before) → due_in_level table r ≡ due.Edge
  due-edges r states more = cond-false _ _ _ (le-ltb (length r.states) r.count states) ∙ cond-true _ _ _ (lt-ltb r.edges (length (offers table r.before)) more)

  pub due-level : (r : Progress) → IsBehindEdges r → r.level < length table.jobs → due_in_level table r ≡ due.Level
  due-level r behind more =
      cond-false _ _ _ (le-ltb (length r.states) r.count behind.states)
      ∙ cond-false _ _ _ (le-ltb r.edges (length (offers table r.before)) behind.edges)
      ∙ cond-true _ _ _ (lt-ltb r.level (length table.jobs) more)

  pub due-end : (r : Progress) → IsBehindLevels r → due_in_level table r ≡ due_at_end table r
  due-end r behind =
      cond-false _ _ _ (le-ltb (length r.states) r.count behind.states)
      ∙ cond-false _ _ _ (le-ltb r.edges (length (offers table r.before)) behind.edges)
      ∙ cond-false _ _ _ (le-ltb r.level (length table.jobs) behind.levels)

  pub due-job : (r : Progress) → IsBehindLevels r → length r.jobs < length table.jobs → due_in_level table r ≡ due.Job
  due-job r behind more = due-end r behind ∙ cond-true _ _ _ (lt-ltb (length r.jobs) (length table.jobs) more)

  pub due-verdict : (r : Progress) → IsBehindLevels r → length table.jobs ≤ length r.jobs → due_in_level table r ≡ due.Verdict
  due-verdict r behind all = due-end r behind ∙ cond-false _ _ _ (le-ltb (length r.jobs) (length table.jobs) all)

  stage-behind_levels : (r : Progress) → IsConsistent r → IsBehindLevels r → Stage r
  stage-behind_levels r ok behind = ⊎_elim
      (λ (more : length r.jobs < length table.jobs). InJobs (ok.due_is ∙ due-job r behind more) behind more)
      (λ (all : length table.jobs ≤ length r.jobs). AtVerdict (ok.due_is ∙ due-verdict r behind all) behind all)
      (cases_lt (length r.jobs) (length table.jobs))

  stage-behind_edges : (r : Progress) → IsConsistent r → IsBehindEdges r → Stage r
  stage-behind_edges r ok behind = ⊎_elim
      (λ (more : r.level < length table.jobs). AtLevel (ok.due_is ∙ due-level r behind more) behind more)
      (λ (levels : length table.jobs ≤ r.level). stage-behind_levels r ok (record { states = behind.states; edges = behind.edges; levels = levels }))
      (cases_lt r.level (length table.jobs))

  pub stage : (r : Progress) → IsConsistent r → Stage r
  stage r ok = ⊎_elim
      (λ (more : length r.states < r.count). InStates (ok.due_is ∙ due-states r more) more)
      (λ (states : r.count ≤ length r.states). ⊎_elim
      (λ (more : r.edges < length (offers table r.before)). InEdges (ok.due_is ∙ due-edges r states more) states more)
      (λ (edges : length (offers table r.before) ≤ r.edges). stage-behind_edges r ok (record { states = states; edges = edges }))
      (cases_lt r.edges (length (offers table r.before))))
      (cases_lt (length r.states) r.count)

  -- ---- the next progress keeps it

  pub state_consistent : (r : Progress) (e : StateEntry) → IsConsistent r → length r.states < r.count → IsConsistent (with_state table r e)
  state_consistent r e ok more = record {
    due_is = refl;
    behind_head = omega (arith, ok.behind_head);
    states_in = omega (arith, length_push r.states (entry_state table r.before e), more);
    edges_in = ok.edges_in;
    levels_in = ok.levels_in;
    jobs_in = ok.jobs_in;
  }

  pub edge_consistent : (r : Progress) (e : EdgeEntry) → IsConsistent r → r.edges < length (offers table r.before) → IsConsistent (with_edge table r e)
  edge_consistent r e ok more = record {
    due_is = refl;
    behind_head = omega (arith, ok.behind_head);
    states_in = ok.states_in;
    edges_in = omega (arith, more);
    levels_in = ok.levels_in;
    jobs_in = ok.jobs_in;
  }

  pub level_consistent : (r : Progress) (count : ℕ) → IsConsistent r → r.level < length table.jobs → IsConsistent (with_level table r count)
  level_consistent r count ok more = record {
    due_is = refl;
    behind_head = omega (arith, ok.behind_head);
    states_in = omega arith;
    edges_in = omega arith;
    levels_in = omega (arith, more);
    jobs_in = ok.jobs_in;
  }

  pub job_consistent : (r : Progress) (s : JobEntry) → IsConsistent r → IsBehindLevels r → length r.jobs < length table.jobs → IsConsistent (with_job table r s)
  job_consistent r s ok behind more = record {
    due_is = sym (due-end (with_job table r s) (record { states = behind.states; edges = behind.edges; levels = behind.levels }));
    behind_head = omega (arith, ok.behind_head);
    states_in = ok.states_in;
    edges_in = ok.edges_in;
    levels_in = ok.levels_in;
    jobs_in = omega (arith, length_push r.jobs s, more);
  }
