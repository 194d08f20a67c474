-- The lines that complete a progress: the rest of a certificate.
use Rattle.std.proofs.Common.{◌≡◌, ℕ, ◌+◌, ◌≤◌, List, [], ◌∷◌, ◌++◌, map, length, drop, sym, ap, ◌∙◌, subst, arith, append-nil, append_assoc, length-append, Option, Some}
use Rattle.std.specs.Prelude.{flat_map, slice_get}
use Rattle.std.specs.List.{AllByRecursion, AllZip, enumerate_from, fold, list_all}
use Rattle.std.proofs.lemmas.List.{drop_more, drop_all, length_push}
use Rattle.std.proofs.lemmas.Option.{slice_get_within, get_or_from_slice_get}
use Rattle.job_model.specs.Table.{Table}
use Rattle.sag_time.specs.Interval.{Interval}
use Rattle.sag_step.specs.State.{SystemState}
use Rattle.sag_step.specs.Next.{finish_interval}
use Rattle.sag_step.specs.Offers.{Offer, offers}
use Rattle.cert_text.specs.declared.line.Mark.{Mark}
use Rattle.cert_text.specs.declared.line.CertLine.{CertLine}
use Rattle.cert_text.specs.declared.line.CertLine.TheVariants as line
use Rattle.graph_check.specs.Entries.{JobEntry, is_ok_mark}
use Rattle.graph_check.specs.Certificate.{StateEntry, EdgeEntry, Block, state_line, edge_line, job_line, block_lines}
use Rattle.graph_check.specs.Valid.{entry_state, block_states}
use Rattle.graph_check.specs.Progress.{Progress}
use Rattle.graph_check.specs.Kept.{hulls_with}
use Rattle.graph_check.proofs.PassedLines.{with_state, with_edge, with_level, with_job, NamesState, FitsOffer, IsFitJob}

-- the lines of states and edges of a level, of the levels above it, and of jobs from this number on
abbrev pub part_lines : ℕ → ℕ → List StateEntry → List EdgeEntry → List Block → List JobEntry → Mark → List CertLine
part_lines level number states edges blocks spans verdict =
    map state_line states
    ++ (map edge_line edges
    ++ (flat_map block_lines (enumerate_from (level + 1) blocks)
    ++ (map job_line (enumerate_from number spans)
    ++ (line.Verdict verdict ∷ line.End ∷ []))))

-- the lines of a level begin with its own
pub block-first : (level number : ℕ) (b : Block) (bs : List Block) (spans : List JobEntry) (verdict : Mark) →
    part_lines level number [] [] (b ∷ bs) spans verdict ≡ line.Level (level + 1) (length b.states) ∷ part_lines (level + 1) number b.states b.edges bs spans verdict
block-first level number b bs spans verdict = simp append_assoc

pub some_lines : (level number : ℕ) (states : List StateEntry) (edges : List EdgeEntry) (blocks : List Block) (spans : List JobEntry) (verdict : Mark) →
    [] ≡ part_lines level number states edges blocks spans verdict → ⊥
some_lines level number states edges blocks spans verdict are =
    let long : 0 ≡ length (part_lines level number states edges blocks spans verdict) = ap length are in
    omega (arith, simp length-append at long)

abbrev pub edges_of : List EdgeEntry → List Block → List EdgeEntry
edges_of edges blocks = edges ++ flat_map (λ b. b.edges) blocks

module _ (table : Table) where
  -- the hulls with more edges
  abbrev pub hulls_over : List (Option Interval) → List EdgeEntry → List (Option Interval)
  hulls_over hulls edges = fold (λ h e. hulls_with h e.job (finish_interval table e.job e.window)) hulls edges

module _ (table : Table) (m : ℕ) where
  -- ---- blocks, as the checker judges them

  pub record IsRightBlock (before : List SystemState) (block : Block) : Type 0 where
    pub named : AllByRecursion (NamesState table m before) block.states
    pub led : AllZip (FitsOffer table m (block_states table before block)) block.edges (offers table before)

  abbrev pub AreRightBlocks : List SystemState → List Block → Type 0
  AreRightBlocks before [] = Unit {0}
  AreRightBlocks before (b ∷ bs) = IsRightBlock before b × AreRightBlocks (block_states table before b) bs

  -- the edges after so many into these states, and the blocks above
  abbrev Follow : List SystemState → ℕ → List EdgeEntry → List Block → List SystemState → Type 0
  Follow before done edges blocks states = AllZip (FitsOffer table m states) edges (drop done (offers table before)) × AreRightBlocks states blocks

  -- What is still to come completes what was read.
  pub record Completes (r : Progress) (states : List StateEntry) (edges : List EdgeEntry) (blocks : List Block) (spans : List JobEntry) (verdict : Mark) : Type 0 where
    pub count : length r.states + length states ≡ r.count
    pub named : AllByRecursion (NamesState table m r.before) states
    pub follow : Follow r.before r.edges edges blocks (r.states ++ map (entry_state table r.before) states)
    pub levels : r.level + length blocks ≡ length table.jobs
    pub job_count : length r.jobs + length spans ≡ length table.jobs
    pub jobs : AllByRecursion (IsFitJob table m (hulls_over table r.hulls (edges_of edges blocks))) (enumerate_from (length r.jobs) spans)
    pub verdict_is : is_ok_mark verdict ≡ list_all (λ s. is_ok_mark s.mark) (r.jobs ++ spans)

  -- The lines complete what was read.
  pub record Rest (r : Progress) (lines : List CertLine) : Type 0 where
    pub states : List StateEntry
    pub edges : List EdgeEntry
    pub blocks : List Block
    pub spans : List JobEntry
    pub verdict : Mark
    pub lines_are : lines ≡ part_lines r.level (length r.jobs) states edges blocks spans verdict
    pub completes : Completes r states edges blocks spans verdict

  -- ---- one line less to come

  pub state_done : (r : Progress) (e : StateEntry) (es : List StateEntry) (edges : List EdgeEntry) (blocks : List Block) (spans : List JobEntry) (verdict : Mark) →
      Completes r (e ∷ es) edges blocks spans verdict → Completes (with_state table r e) es edges blocks spans verdict
  state_done r e es edges blocks spans verdict c =
      let x = entry_state table r.before e in
      record {
        count = omega (arith, length_push r.states x, c.count);
        named = c.named.1;
        follow = subst (Follow r.before r.edges edges blocks) (sym (append_assoc r.states (x ∷ []) (map (entry_state table r.before) es))) c.follow;
        levels = c.levels;
        job_count = c.job_count;
        jobs = c.jobs;
        verdict_is = c.verdict_is;
      }

  pub state_to_come : (r : Progress) (e : StateEntry) (es : List StateEntry) (edges : List EdgeEntry) (blocks : List Block) (spans : List JobEntry) (verdict : Mark) →
      NamesState table m r.before e → Completes (with_state table r e) es edges blocks spans verdict → Completes r (e ∷ es) edges blocks spans verdict
  state_to_come r e es edges blocks spans verdict names c =
      let x = entry_state table r.before e in
      record {
        count = omega (arith, length_push r.states x, c.count);
        named = (names, c.named);
        follow = subst (Follow r.before r.edges edges blocks) (append_assoc r.states (x ∷ []) (map (entry_state table r.before) es)) c.follow;
        levels = c.levels;
        job_count = c.job_count;
        jobs = c.jobs;
        verdict_is = c.verdict_is;
      }

  -- the offer whose turn it is
  drop-at : (os : List Offer) (k : ℕ) (o : Offer) → slice_get os k ≡ Some o → drop k os ≡ o ∷ drop (k + 1) os
  drop-at os k o is = drop_more os k o (slice_get_within os k o is) ∙ ap (λ x. x ∷ drop (k + 1) os) (get_or_from_slice_get os k o o is)

  pub edge_done : (r : Progress) (o : Offer) (e : EdgeEntry) (es : List EdgeEntry) (blocks : List Block) (spans : List JobEntry) (verdict : Mark) →
      slice_get (offers table r.before) r.edges ≡ Some o → Completes r [] (e ∷ es) blocks spans verdict →
      FitsOffer table m r.states e o × Completes (with_edge table r e) [] es blocks spans verdict
  edge_done r o e es blocks spans verdict is c =
      let led = subst (AllZip (FitsOffer table m (r.states ++ [])) (e ∷ es)) (drop-at (offers table r.before) r.edges o is) c.follow.0 in (
        subst (λ s. FitsOffer table m s e o) (append-nil r.states) led.0,
        record {
          count = c.count;
          named = tt;
          follow = (led.1, c.follow.1);
          levels = c.levels;
          job_count = c.job_count;
          jobs = c.jobs;
          verdict_is = c.verdict_is;
        },
      )

  pub edge_to_come : (r : Progress) (o : Offer) (e : EdgeEntry) (es : List EdgeEntry) (blocks : List Block) (spans : List JobEntry) (verdict : Mark) →
      slice_get (offers table r.before) r.edges ≡ Some o → FitsOffer table m r.states e o → Completes (with_edge table r e) [] es blocks spans verdict →
      Completes r [] (e ∷ es) blocks spans verdict
  edge_to_come r o e es blocks spans verdict is fits c =
      let first = subst (λ s. FitsOffer table m s e o) (sym (append-nil r.states)) fits in
      record {
        count = c.count;
        named = tt;
        follow = (subst (AllZip (FitsOffer table m (r.states ++ [])) (e ∷ es)) (sym (drop-at (offers table r.before) r.edges o is)) (first, c.follow.0), c.follow.1);
        levels = c.levels;
        job_count = c.job_count;
        jobs = c.jobs;
        verdict_is = c.verdict_is;
      }

  pub level_done : (r : Progress) (b : Block) (bs : List Block) (spans : List JobEntry) (verdict : Mark) →
      Completes r [] [] (b ∷ bs) spans verdict → Completes (with_level table r (length b.states)) b.states b.edges bs spans verdict
  level_done r b bs spans verdict c =
      let right = subst (λ s. AreRightBlocks s (b ∷ bs)) (append-nil r.states) c.follow.1 in
      record {
        count = omega arith;
        named = right.0.named;
        follow = (right.0.led, right.1);
        levels = omega (arith, c.levels);
        job_count = c.job_count;
        jobs = c.jobs;
        verdict_is = c.verdict_is;
      }

  pub level_to_come : (r : Progress) (b : Block) (bs : List Block) (spans : List JobEntry) (verdict : Mark) →
      r.count ≡ length r.states → length (offers table r.before) ≤ r.edges → Completes (with_level table r (length b.states)) b.states b.edges bs spans verdict →
      Completes r [] [] (b ∷ bs) spans verdict
  level_to_come r b bs spans verdict states edges c =
      let right : AreRightBlocks r.states (b ∷ bs) = (record { named = c.named; led = c.follow.0 }, c.follow.1) in
      record {
        count = omega (arith, states);
        named = tt;
        follow = (
          subst (AllZip (FitsOffer table m (r.states ++ [])) []) (sym (drop_all r.edges (offers table r.before) edges)) tt,
          subst (λ s. AreRightBlocks s (b ∷ bs)) (sym (append-nil r.states)) right,
        );
        levels = omega (arith, c.levels);
        job_count = c.job_count;
        jobs = c.jobs;
        verdict_is = c.verdict_is;
      }

  abbrev Fit : Progress → ℕ → List JobEntry → Type 0
  Fit r number spans = AllByRecursion (IsFitJob table m (hulls_over table r.hulls [])) (enumerate_from number spans)

  pub job_done : (r : Progress) (s : JobEntry) (ss : List JobEntry) (verdict : Mark) →
      Completes r [] [] [] (s ∷ ss) verdict → IsFitJob table m r.hulls (length r.jobs, s) × Completes (with_job table r s) [] [] [] ss verdict
  job_done r s ss verdict c = (
    c.jobs.0,
    record {
      count = c.count;
      named = tt;
      follow = c.follow;
      levels = c.levels;
      job_count = omega (arith, length_push r.jobs s, c.job_count);
      jobs = subst (λ k. Fit r k ss) (sym (length_push r.jobs s)) c.jobs.1;
      verdict_is = c.verdict_is ∙ ap (list_all (λ s. is_ok_mark s.mark)) (sym (append_assoc r.jobs (s ∷ []) ss));
    },
  )

  pub job_to_come : (r : Progress) (s : JobEntry) (ss : List JobEntry) (verdict : Mark) →
      IsFitJob table m r.hulls (length r.jobs, s) → Completes (with_job table r s) [] [] [] ss verdict → Completes r [] [] [] (s ∷ ss) verdict
  job_to_come r s ss verdict fit c = record {
    count = c.count;
    named = tt;
    follow = c.follow;
    levels = c.levels;
    job_count = omega (arith, length_push r.jobs s, c.job_count);
    jobs = (fit, subst (λ k. Fit r k ss) (length_push r.jobs s) c.jobs);
    verdict_is = c.verdict_is ∙ ap (list_all (λ s. is_ok_mark s.mark)) (append_assoc r.jobs (s ∷ []) ss);
  }

  pub all_done : (r : Progress) (verdict : Mark) → Completes r [] [] [] [] verdict → is_ok_mark verdict ≡ list_all (λ s. is_ok_mark s.mark) r.jobs
  all_done r verdict c = c.verdict_is ∙ ap (list_all (λ s. is_ok_mark s.mark)) (append-nil r.jobs)

  pub verdict_to_come : (r : Progress) (verdict : Mark) → r.count ≡ length r.states → length (offers table r.before) ≤ r.edges → r.level ≡ length table.jobs →
      length r.jobs ≡ length table.jobs → is_ok_mark verdict ≡ list_all (λ s. is_ok_mark s.mark) r.jobs → Completes r [] [] [] [] verdict
  verdict_to_come r verdict states edges levels jobs is = record {
    count = omega (arith, states);
    named = tt;
    follow = (subst (AllZip (FitsOffer table m (r.states ++ [])) []) (sym (drop_all r.edges (offers table r.before) edges)) tt, tt);
    levels = omega (arith, levels);
    job_count = omega (arith, jobs);
    jobs = tt;
    verdict_is = is ∙ ap (list_all (λ s. is_ok_mark s.mark)) (sym (append-nil r.jobs));
  }
