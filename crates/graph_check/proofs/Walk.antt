-- All lines pass, and no other is due, exactly where they are the rest of a certificate.
use Rattle.std.proofs.Common.{◌≡◌, ℕ, ◌+◌, ◌<◌, ◌≤◌, List, [], ◌∷◌, ◌++◌, length, refl, sym, ap, ◌∙◌, subst, arith, append-nil, append_assoc, Some}
use Rattle.std.specs.Prelude.{slice_get}
use Rattle.std.specs.List.{list_all}
use Rattle.std.proofs.lemmas.List.{length_push}
use Rattle.job_model.specs.Table.{Table}
use Rattle.sag_step.specs.Offers.{Offer, offers}
use Rattle.cert_text.specs.declared.line.Mark.{Mark}
use Rattle.cert_text.specs.declared.line.CertLine.{CertLine}
use Rattle.cert_text.specs.declared.line.CertLine.TheVariants as line
use Rattle.graph_check.specs.declared.due.Due.TheVariants as due
use Rattle.graph_check.specs.Entries.{JobEntry, is_ok_mark}
use Rattle.graph_check.specs.Certificate.{StateEntry, EdgeEntry, Block, state_line, edge_line, job_line}
use Rattle.graph_check.specs.Progress.{Progress}
use Rattle.lists.proofs.Elements.{element, cons-parts, zip-some, zip-none}
use Rattle.graph_check.proofs.Steps.{Leaves, leaves-from_step, leaves-from_line, leaves-after_line, passes-first}
use Rattle.graph_check.proofs.PassedLines.{with_state, with_edge, with_level, with_job, with_verdict, with_end, NamesState, FitsOffer, IsFitJob, state_passes, edge_passes, level_passes, job_passes, verdict_passes, end_passes, state-passed, edge-passed, level-passed, job-passed, verdict-passed, end-passed, nothing-passes}
use Rattle.graph_check.proofs.Stages.{IsConsistent, IsBehindEdges, IsBehindLevels, Stage, stage, due-states, due-edges, due-level, due-job, due-verdict, state_consistent, edge_consistent, level_consistent, job_consistent}
use Rattle.graph_check.proofs.Stages.Stage.{InStates, InEdges, AtLevel, InJobs, AtVerdict}
use Rattle.graph_check.proofs.LinesLeft.{part_lines, block-first, some_lines, Completes, Rest, state_done, edge_done, level_done, job_done, all_done, state_to_come, edge_to_come, level_to_come, job_to_come, verdict_to_come}

module _ (table : Table) (m : ℕ) where
  -- nothing is due, and these jobs are kept
  abbrev pub Ended : List JobEntry → Progress → Type 0
  Ended jobs q = (q.due ≡ due.Nothing) × (q.jobs ≡ jobs)

  last_lines : (r : Progress) (verdict : Mark) → r.due ≡ due.Verdict → is_ok_mark verdict ≡ list_all (λ s. is_ok_mark s.mark) r.jobs →
      Leaves table m (Ended r.jobs) r (line.Verdict verdict ∷ line.End ∷ [])
  last_lines r verdict verdict_due is =
      let next = with_verdict table m r in
      leaves-from_step table m (Ended r.jobs) r next (line.Verdict verdict) (line.End ∷ []) (verdict_passes table m r verdict verdict_due is)
      (leaves-from_step table m (Ended r.jobs) next (with_end table m next) line.End [] (end_passes table m next refl) (refl, refl))

  behind-edges : (r : Progress) (blocks : List Block) (spans : List JobEntry) (verdict : Mark) → Completes table m r [] [] blocks spans verdict → IsBehindEdges table r
  behind-edges r blocks spans verdict c = record {
    states = omega (arith, c.count);
    edges = zip-none (FitsOffer table m (r.states ++ [])) (offers table r.before) r.edges c.follow.0;
  }

  behind-levels : (r : Progress) (spans : List JobEntry) (verdict : Mark) → Completes table m r [] [] [] spans verdict → IsBehindLevels table r
  behind-levels r spans verdict c =
      let edges = behind-edges r [] spans verdict c in
      record { states = edges.states; edges = edges.edges; levels = omega (arith, c.levels) }

  -- The rest of a certificate passes.
  pub ends : (lines : List CertLine) (r : Progress) (states : List StateEntry) (edges : List EdgeEntry) (blocks : List Block) (spans : List JobEntry) (verdict : Mark) →
      IsConsistent table r → lines ≡ part_lines r.level (length r.jobs) states edges blocks spans verdict → Completes table m r states edges blocks spans verdict →
      Leaves table m (Ended (r.jobs ++ spans)) r lines
  ends [] r states edges blocks spans verdict ok are c = absurd (some_lines r.level (length r.jobs) states edges blocks spans verdict are)
  ends (l ∷ ls) r (e ∷ es) edges blocks spans verdict ok are c =
      let P = Ended (r.jobs ++ spans) in
      let parts = cons-parts l (state_line e) ls (part_lines r.level (length r.jobs) es edges blocks spans verdict) are in
      let more : length r.states < r.count = omega (arith, c.count) in
      let passes = state_passes table m r e (ok.due_is ∙ due-states table r more) c.named.0 in
      let later =
      ends ls (with_state table r e) es edges blocks spans verdict (state_consistent table r e ok more) parts.1 (state_done table m r e es edges blocks spans verdict c) in
      leaves-from_line table m P r (with_state table r e) l (state_line e) ls parts.0 passes later
  ends (l ∷ ls) r [] (e ∷ es) blocks spans verdict ok are c =
      let parts = cons-parts l (edge_line e) ls (part_lines r.level (length r.jobs) [] es blocks spans verdict) are in
      let P = Ended (r.jobs ++ spans) in
      let within = zip-some (FitsOffer table m (r.states ++ [])) e es (offers table r.before) r.edges c.follow.0 in
      let found = element (offers table r.before) r.edges within in
      let done = edge_done table m r found.0 e es blocks spans verdict found.1 c in
      let full : r.count ≤ length r.states = omega (arith, c.count) in
      let passes = edge_passes table m r found.0 e (ok.due_is ∙ due-edges table r full within) found.1 done.0 in
      let later = ends ls (with_edge table r e) [] es blocks spans verdict (edge_consistent table r e ok within) parts.1 done.1 in
      leaves-from_line table m P r (with_edge table r e) l (edge_line e) ls parts.0 passes later
  ends (l ∷ ls) r [] [] (b ∷ bs) spans verdict ok are c =
      let P = Ended (r.jobs ++ spans) in
      let count = length b.states in
      let behind = part_lines (r.level + 1) (length r.jobs) b.states b.edges bs spans verdict in
      let parts = cons-parts l (line.Level (r.level + 1) count) ls behind (are ∙ block-first r.level (length r.jobs) b bs spans verdict) in
      let more : r.level < length table.jobs = omega (arith, c.levels) in
      let passes = level_passes table m r count (ok.due_is ∙ due-level table r (behind-edges r (b ∷ bs) spans verdict c) more) ok.behind_head in
      let later =
      ends ls (with_level table r count) b.states b.edges bs spans verdict (level_consistent table r count ok more) parts.1 (level_done table m r b bs spans verdict c) in
      leaves-from_line table m P r (with_level table r count) l (line.Level (r.level + 1) count) ls parts.0 passes later
  ends (l ∷ ls) r [] [] [] (s ∷ ss) verdict ok are c =
      let P = Ended (r.jobs ++ s ∷ ss) in
      let next = with_job table r s in
      let behind = behind-levels r (s ∷ ss) verdict c in
      let more : length r.jobs < length table.jobs = omega (arith, c.job_count) in
      let done = job_done table m r s ss verdict c in
      let parts = cons-parts l (job_line (length r.jobs, s)) ls (part_lines r.level (length r.jobs + 1) [] [] [] ss verdict) are in
      let ls_are : ls ≡ part_lines r.level (length next.jobs) [] [] [] ss verdict =
      parts.1 ∙ ap (λ k. part_lines r.level k [] [] [] ss verdict) (sym (length_push r.jobs s)) in
      let passes = job_passes table m r s (ok.due_is ∙ due-job table r behind more) done.0 in
      let later = ends ls next [] [] [] ss verdict (job_consistent table r s ok behind more) ls_are done.1 in
      let right : Leaves table m P next ls = subst (λ jobs. Leaves table m (Ended jobs) next ls) (append_assoc r.jobs (s ∷ []) ss) later in
      leaves-from_line table m P r next l (job_line (length r.jobs, s)) ls parts.0 passes right
  ends (l ∷ ls) r [] [] [] [] verdict ok are c =
      let all : length table.jobs ≤ length r.jobs = omega (arith, c.job_count) in
      let last = last_lines r verdict (ok.due_is ∙ due-verdict table r (behind-levels r [] verdict c) all) (all_done table m r verdict c) in
      subst (λ jobs. Leaves table m (Ended jobs) r (l ∷ ls)) (sym (append-nil r.jobs)) (subst (Leaves table m (Ended r.jobs) r) (sym are) last)

  -- ---- and what passes is the rest of a certificate

  -- no line is due
  abbrev pub IsOver : Progress → Type 0
  IsOver q = q.due ≡ due.Nothing

  state_back : (r : Progress) (e : StateEntry) (l : CertLine) (ls : List CertLine) → l ≡ state_line e → NamesState table m r.before e →
      Rest table m (with_state table r e) ls → Rest table m r (l ∷ ls)
  state_back r e l ls l_is names later = record {
    states = e ∷ later.states;
    edges = later.edges;
    blocks = later.blocks;
    spans = later.spans;
    verdict = later.verdict;
    lines_are = λ i. l_is i ∷ later.lines_are i;
    completes = state_to_come table m r e later.states later.edges later.blocks later.spans later.verdict names later.completes;
  }

  edge_back : (r : Progress) (o : Offer) (e : EdgeEntry) (l : CertLine) (ls : List CertLine) → r.count ≤ length r.states → slice_get (offers table r.before) r.edges ≡ Some o →
      l ≡ edge_line e → FitsOffer table m r.states e o → Rest table m (with_edge table r e) ls → Rest table m r (l ∷ ls)
  edge_back r o e l ls full is l_is fits later = at later.states later.lines_are later.completes
    where
      at : (states : List StateEntry) → ls ≡ part_lines r.level (length r.jobs) states later.edges later.blocks later.spans later.verdict →
          Completes table m (with_edge table r e) states later.edges later.blocks later.spans later.verdict → Rest table m r (l ∷ ls)
      at [] are c = record {
        states = [];
        edges = e ∷ later.edges;
        blocks = later.blocks;
        spans = later.spans;
        verdict = later.verdict;
        lines_are = λ i. l_is i ∷ are i;
        completes = edge_to_come table m r o e later.edges later.blocks later.spans later.verdict is fits c;
      }
      at (x ∷ xs) are c = absurd (omega (arith, full, c.count))

  level_back : (r : Progress) (count : ℕ) (l : CertLine) (ls : List CertLine) → IsConsistent table r → IsBehindEdges table r → l ≡ line.Level (r.level + 1) count →
      Rest table m (with_level table r count) ls → Rest table m r (l ∷ ls)
  level_back r count l ls ok behind l_is later =
      let b : Block = record { states = later.states; edges = later.edges } in
      let count_is : count ≡ length later.states = omega (arith, later.completes.count) in
      let c = subst (λ k. Completes table m (with_level table r k) later.states later.edges later.blocks later.spans later.verdict) count_is later.completes in
      let first_is : l ≡ line.Level (r.level + 1) (length later.states) = l_is ∙ ap (line.Level (r.level + 1)) count_is in
      let full : r.count ≡ length r.states = omega (arith, behind.states, ok.states_in) in
      record {
        states = [];
        edges = [];
        blocks = b ∷ later.blocks;
        spans = later.spans;
        verdict = later.verdict;
        lines_are = (λ i. first_is i ∷ later.lines_are i) ∙ sym (block-first r.level (length r.jobs) b later.blocks later.spans later.verdict);
        completes = level_to_come table m r b later.blocks later.spans later.verdict full behind.edges c;
      }

  job_back : (r : Progress) (s : JobEntry) (l : CertLine) (ls : List CertLine) → IsBehindLevels table r → l ≡ job_line (length r.jobs, s) →
      IsFitJob table m r.hulls (length r.jobs, s) →
      Rest table m (with_job table r s) ls → Rest table m r (l ∷ ls)
  job_back r s l ls behind l_is fit later = at later.states later.edges later.blocks later.lines_are later.completes
    where
      at : (states : List StateEntry) (edges : List EdgeEntry) (blocks : List Block) →
          ls ≡ part_lines r.level (length (r.jobs ++ s ∷ [])) states edges blocks later.spans later.verdict →
          Completes table m (with_job table r s) states edges blocks later.spans later.verdict → Rest table m r (l ∷ ls)
      at [] [] [] are c =
          let ls_are : ls ≡ part_lines r.level (length r.jobs + 1) [] [] [] later.spans later.verdict =
          are ∙ ap (λ k. part_lines r.level k [] [] [] later.spans later.verdict) (length_push r.jobs s) in
          record {
            states = [];
            edges = [];
            blocks = [];
            spans = s ∷ later.spans;
            verdict = later.verdict;
            lines_are = λ i. l_is i ∷ ls_are i;
            completes = job_to_come table m r s later.spans later.verdict fit c;
          }
      at [] [] (b ∷ bs) are c = absurd (omega (arith, behind.levels, c.levels))
      at [] (e ∷ es) blocks are c =
          let within = zip-some (FitsOffer table m (r.states ++ [])) e es (offers table r.before) r.edges c.follow.0 in
          absurd (omega (arith, behind.edges, within))
      at (x ∷ xs) edges blocks are c = absurd (omega (arith, behind.states, c.count))

  -- behind the verdict the end line comes, and no other
  verdict_back : (r : Progress) (verdict : Mark) (l : CertLine) (ls : List CertLine) → IsConsistent table r → IsBehindLevels table r → length table.jobs ≤ length r.jobs →
      l ≡ line.Verdict verdict →
      is_ok_mark verdict ≡ list_all (λ s. is_ok_mark s.mark) r.jobs → ls ≡ line.End ∷ [] → Rest table m r (l ∷ ls)
  verdict_back r verdict l ls ok behind all l_is is ls_are =
      let full : r.count ≡ length r.states = omega (arith, behind.states, ok.states_in) in
      let levels : r.level ≡ length table.jobs = omega (arith, behind.levels, ok.levels_in) in
      let jobs : length r.jobs ≡ length table.jobs = omega (arith, all, ok.jobs_in) in
      record {
        states = [];
        edges = [];
        blocks = [];
        spans = [];
        verdict = verdict;
        lines_are = λ i. l_is i ∷ ls_are i;
        completes = verdict_to_come table m r verdict full behind.edges levels jobs is;
      }

  nothing_behind : (r : Progress) (lines : List CertLine) → r.due ≡ due.Nothing → Leaves table m IsOver r lines → lines ≡ []
  nothing_behind r [] nothing leaves = refl
  nothing_behind r (l ∷ ls) nothing leaves =
      absurd (nothing-passes table m r l (rw nothing at (passes-first table m IsOver r l ls leaves)))

  only_end : (r : Progress) (lines : List CertLine) → r.due ≡ due.End → Leaves table m IsOver r lines → lines ≡ line.End ∷ []
  only_end r [] end_due leaves = cc (end_due, leaves)
  only_end r (l ∷ ls) end_due leaves =
      let l_is : l ≡ line.End = end-passed table m r l (rw end_due at (passes-first table m IsOver r l ls leaves)) in
      let next = with_end table m r in
      let later = leaves-after_line table m IsOver r next l line.End ls l_is (end_passes table m r end_due) leaves in
      let ls_are : ls ≡ [] = nothing_behind next ls refl later in
      λ i. l_is i ∷ ls_are i

  some_due : (r : Progress) → Stage table r → r.due ≡ due.Nothing → ⊥
  some_due r (InStates is more) over = cc (is, over)
  some_due r (InEdges is states more) over = cc (is, over)
  some_due r (AtLevel is behind more) over = cc (is, over)
  some_due r (InJobs is behind more) over = cc (is, over)
  some_due r (AtVerdict is behind all) over = cc (is, over)

  first_back : (r : Progress) (l : CertLine) (ls : List CertLine) → IsConsistent table r → Stage table r →
      ((next : Progress) → IsConsistent table next → Leaves table m IsOver next ls → Rest table m next ls) → Leaves table m IsOver r (l ∷ ls) → Rest table m r (l ∷ ls)
  first_back r l ls ok (InStates is more) later leaves =
      let got = state-passed table m r l (rw is at (passes-first table m IsOver r l ls leaves)) in
      let next = with_state table r got.0 in
      let behind = leaves-after_line table m IsOver r next l (state_line got.0) ls got.1 (state_passes table m r got.0 is got.2) leaves in
      state_back r got.0 l ls got.1 got.2 (later next (state_consistent table r got.0 ok more) behind)
  first_back r l ls ok (InEdges is states more) later leaves =
      let found = element (offers table r.before) r.edges more in
      let got = edge-passed table m r found.0 l found.1 (rw is at (passes-first table m IsOver r l ls leaves)) in
      let next = with_edge table r got.0 in
      let behind = leaves-after_line table m IsOver r next l (edge_line got.0) ls got.1 (edge_passes table m r found.0 got.0 is found.1 got.2) leaves in
      edge_back r found.0 got.0 l ls states found.1 got.1 got.2 (later next (edge_consistent table r got.0 ok more) behind)
  first_back r l ls ok (AtLevel is edges more) later leaves =
      let got = level-passed table m r l ok.behind_head (rw is at (passes-first table m IsOver r l ls leaves)) in
      let next = with_level table r got.0 in
      let behind = leaves-after_line table m IsOver r next l (line.Level (r.level + 1) got.0) ls got.1 (level_passes table m r got.0 is ok.behind_head) leaves in
      level_back r got.0 l ls ok edges got.1 (later next (level_consistent table r got.0 ok more) behind)
  first_back r l ls ok (InJobs is levels more) later leaves =
      let got = job-passed table m r l (rw is at (passes-first table m IsOver r l ls leaves)) in
      let next = with_job table r got.0 in
      let behind = leaves-after_line table m IsOver r next l (job_line (length r.jobs, got.0)) ls got.1 (job_passes table m r got.0 is got.2) leaves in
      job_back r got.0 l ls levels got.1 got.2 (later next (job_consistent table r got.0 ok levels more) behind)
  first_back r l ls ok (AtVerdict is levels all) later leaves =
      let got = verdict-passed table m r l (rw is at (passes-first table m IsOver r l ls leaves)) in
      let next = with_verdict table m r in
      let behind = leaves-after_line table m IsOver r next l (line.Verdict got.0) ls got.1 (verdict_passes table m r got.0 is got.2) leaves in
      verdict_back r got.0 l ls ok levels all got.1 got.2 (only_end next ls refl behind)

  -- What passes to the end is the rest of a certificate.
  pub rest : (lines : List CertLine) (r : Progress) → IsConsistent table r → Leaves table m IsOver r lines → Rest table m r lines
  rest [] r ok leaves = absurd (some_due r (stage table r ok) leaves)
  rest (l ∷ ls) r ok leaves = first_back r l ls ok (stage table r ok) (rest ls) leaves
