-- A walk back from a job along its predecessors, with the path of the jobs that it is at.
use Rattle.std.proofs.Common.{◌≡◌, ◌≢◌, ℕ, zero, suc, ◌+◌, ◌-◌, ◌<◌, ◌≤◌, ◌⊎◌, inl, inr, List, [], ◌∷◌, ◌++◌, length, get_or, set, cond, refl, sym, ap, subst, ◌∙◌, arith}
use Rattle.std.specs.Prelude.{Contains}
use Rattle.std.proofs.lemmas.Bool.{cases_eq, cases_order}
use Rattle.std.proofs.lemmas.List.{get_or-set_other, get_or-set_same, get_or_append_left, get_or_default, get_or_past, get_or_push, length_push}
use Rattle.std.proofs.lemmas.List.Elements.{All-contains}
use Rattle.std.proofs.lemmas.List.Sums.{sum_by-set}
use Rattle.job_model.specs.declared.walk_back.Behind.TheVariants as behind
use Rattle.job_model.specs.declared.walk_back.Mark.{Mark}
use Rattle.job_model.specs.declared.walk_back.Mark.TheVariants as mark
use Rattle.job_model.specs.declared.walk_back.Visit.{Visit}
use Rattle.job_model.specs.Cycles.{HoldsCycle}
use Rattle.job_model.specs.Marks.{AreFinished, AreGrounded, Finds, IsPath, is_unseen, mark_at, no_visit, unseen, visit_at}
use Rattle.job_model.specs.Neighbours.{JoinJobs, sources}
use Rattle.job_model.specs.Table.{Walk}
use Rattle.job_model.proofs.WalkLemmas.{edge-from_source, source-from_edge, walk-last, walk_round}

-- the mark of one job is written
module _ (marks : List Mark) (job : ℕ) (m : Mark) (is_job : job < length marks) where
  abbrev marked : List Mark
  marked = set marks job m

  mark_here : (i : ℕ) → i ≡ job → mark_at marked i ≡ m
  mark_here i e = rw e (get_or-set_same marks job m mark.Unseen is_job)

  mark_elsewhere : (i : ℕ) → i ≢ job → mark_at marked i ≡ mark_at marks i
  mark_elsewhere i differ = get_or-set_other marks job i m mark.Unseen differ

  unseen_marked : (before after : ℕ) → cond (is_unseen (mark_at marks job)) 1 0 ≡ before → cond (is_unseen m) 1 0 ≡ after → unseen marked + before ≡ unseen marks + after
  unseen_marked before after b a = rw (← b, ← a) (sum_by-set (λ x. cond (is_unseen x) 1 0) marks job m mark.Unseen is_job)

  -- another mark was one before, or is the new one
  marked_as : (i : ℕ) (x : Mark) → mark_at marked i ≡ x → m ≢ x → (i ≢ job) × (mark_at marks i ≡ x)
  marked_as i x is differ = by (cases_eq i job)
    where
      by : (i ≡ job) ⊎ (i ≢ job) → (i ≢ job) × (mark_at marks i ≡ x)
      by (inl e) = absurd (differ (sym (mark_here i e) ∙ is))
      by (inr e) = (e, sym (mark_elsewhere i e) ∙ is)

  -- where the job had another mark, that of the others is kept
  kept_mark : (i : ℕ) (x : Mark) → mark_at marks i ≡ x → mark_at marks job ≢ x → mark_at marked i ≡ x
  kept_mark i x is differ = mark_elsewhere i (λ e. differ (sym (ap (mark_at marks) e) ∙ is)) ∙ is

pub unseen_on_path : mark.Unseen ≢ mark.OnPath
unseen_on_path e = cc

unseen_finished : mark.Unseen ≢ mark.Finished
unseen_finished e = cc

finished_on_path : mark.Finished ≢ mark.OnPath
finished_on_path e = cc

on_path_finished : mark.OnPath ≢ mark.Finished
on_path_finished e = cc

pub finished_unseen : mark.Finished ≢ mark.Unseen
finished_unseen e = cc

pub on_path_unseen : mark.OnPath ≢ mark.Unseen
on_path_unseen e = cc

-- a job with another mark than unseen is in range
pub in_range : (marks : List Mark) (i : ℕ) (x : Mark) → mark_at marks i ≡ x → mark.Unseen ≢ x → i < length marks
in_range marks i x is differ = by (cases_order i (length marks))
  where
    past : length marks ≤ i → i < length marks
    past le = absurd (differ (sym (get_or_past marks i mark.Unseen le) ∙ is))

    by : (i ≡ length marks) ⊎ ((i < length marks) ⊎ (length marks < i)) → i < length marks
    by (inl e) = past (omega (arith, e))
    by (inr (inl less)) = less
    by (inr (inr more)) = past (omega (arith, more))

-- the places of a path and of one job more
module _ (path : List Visit) (visit : Visit) where
  abbrev longer : List Visit
  longer = path ++ visit ∷ []

  visit_before : (p : ℕ) → p < length path → visit_at longer p ≡ visit_at path p
  visit_before p below = get_or_append_left path (visit ∷ []) no_visit p below

  visit_last : (p : ℕ) → p ≡ length path → visit_at longer p ≡ visit
  visit_last p e = get_or_push path visit no_visit p (sym e)

  last_or_before : (p : ℕ) → p < length longer → (p ≡ length path) ⊎ (p < length path)
  last_or_before p below = by (cases_order p (length path))
    where
      by : (p ≡ length path) ⊎ ((p < length path) ⊎ (length path < p)) → (p ≡ length path) ⊎ (p < length path)
      by (inl e) = inl e
      by (inr (inl less)) = inr less
      by (inr (inr more)) = absurd (omega (arith, more, below, length_push path visit))

  -- what holds of the jobs of the path, and of the last
  each_visit : (P : Visit → Type 0) → ((p : ℕ) → p < length path → P (visit_at path p)) → P visit → (p : ℕ) → p < length longer → P (visit_at longer p)
  each_visit P before last p below = by (last_or_before p below)
    where
      by : (p ≡ length path) ⊎ (p < length path) → P (visit_at longer p)
      by (inl e) = subst P (sym (visit_last p e)) last
      by (inr less) = subst P (sym (visit_before p less)) (before p less)

module _ (edges : List (ℕ × ℕ)) (marks : List Mark) where
  -- a walk along the path
  walk_along : (path : List Visit) → IsPath edges marks path → (p d : ℕ) → p + d < length path → Walk edges (visit_at path (p + d)).job (visit_at path p).job d
  walk_along path is p zero below = ap (λ n. (visit_at path n).job) (omega arith)
  walk_along path is p (suc d) below =
      let one_more : p + d + 1 ≡ p + suc d = omega arith in
      let edge = rw one_more at (is.linked (p + d) (omega (arith, below))) in
      ((visit_at path (p + d)).job, edge, walk_along path is p d (omega (arith, below)))

  module _ (rest : List Visit) (visit : Visit) (is : IsPath edges marks (rest ++ visit ∷ [])) where
    here : mark_at marks visit.job ≡ mark.OnPath
    here = subst (λ (v : Visit). mark_at marks v.job ≡ mark.OnPath) (visit_last rest visit (length rest) refl) (is.own (length rest) (omega (arith, length_push rest visit)))

    -- the job of the visit is in range, and so many predecessors of it are finished
    pub visit_in_range : visit.job < length marks
    visit_in_range = in_range marks visit.job mark.OnPath here unseen_on_path

    pub visit_passed : AreFinished edges marks visit.job visit.passed
    visit_passed = subst (λ (v : Visit). AreFinished edges marks v.job v.passed) (visit_last rest visit (length rest) refl) (is.passed (length rest) (omega (arith, length_push rest visit)))

    -- a predecessor on the path closes a cycle
    pub HoldsCycle-behind : Finds edges marks visit.job behind.OnPath → HoldsCycle edges
    HoldsCycle-behind (before, edge, on) =
        let (p, below, at) = is.all before on in
        let d = length rest - p in
        let whole : p + d ≡ length rest = omega (arith, below, length_push rest visit) in
        let walk = walk_along (rest ++ visit ∷ []) is p d (omega (arith, length_push rest visit)) in
        let last = subst (λ n. Walk edges (visit_at (rest ++ visit ∷ []) n).job (visit_at (rest ++ visit ∷ []) p).job d) whole walk in
        let from = subst (λ (v : Visit). Walk edges v.job (visit_at (rest ++ visit ∷ []) p).job d) (visit_last rest visit (length rest) refl) last in
        record { job = before; further = d; walk = (visit.job, edge, subst (λ j. Walk edges visit.job j d) at from) }

    -- the jobs before the last are others
    others : (p : ℕ) → p < length rest → (visit_at rest p).job ≢ visit.job
    others p below =
        subst (λ (v : Visit). v.job ≢ visit.job) (visit_before rest visit p below)
        (subst (λ (v : Visit). (visit_at (rest ++ visit ∷ []) p).job ≢ v.job) (visit_last rest visit (length rest) refl) (is.once p (length rest) below (omega (arith, length_push rest visit))))

    before_own : (p : ℕ) → p < length rest → mark_at marks (visit_at rest p).job ≡ mark.OnPath
    before_own p below = subst (λ (v : Visit). mark_at marks v.job ≡ mark.OnPath) (visit_before rest visit p below) (is.own p (omega (arith, below, length_push rest visit)))

    before_once : (p q : ℕ) → p < q → q < length rest → (visit_at rest p).job ≢ (visit_at rest q).job
    before_once p q less below =
        subst (λ (v : Visit). v.job ≢ (visit_at rest q).job) (visit_before rest visit p (omega (arith, less, below)))
        (subst (λ (v : Visit). (visit_at (rest ++ visit ∷ []) p).job ≢ v.job) (visit_before rest visit q below) (is.once p q less (omega (arith, below, length_push rest visit))))

    before_passed : (p : ℕ) → p < length rest → AreFinished edges marks (visit_at rest p).job (visit_at rest p).passed
    before_passed p below = subst (λ (v : Visit). AreFinished edges marks v.job v.passed) (visit_before rest visit p below) (is.passed p (omega (arith, below, length_push rest visit)))

    before_linked : (p : ℕ) → p + 1 < length rest → Contains edges ((visit_at rest (p + 1)).job, (visit_at rest p).job)
    before_linked p below =
        subst (λ (v : Visit). Contains edges (v.job, (visit_at rest p).job)) (visit_before rest visit (p + 1) below)
        (subst (λ (v : Visit). Contains edges ((visit_at (rest ++ visit ∷ []) (p + 1)).job, v.job)) (visit_before rest visit p (omega (arith, below))) (is.linked p (omega (arith, below, length_push rest visit))))

    -- all predecessors of the last job are finished, and it is too
    module _ (all : AreFinished edges marks visit.job (length (sources edges visit.job))) where
      abbrev after : List Mark
      after = set marks visit.job mark.Finished

      still_finished : (i : ℕ) → mark_at marks i ≡ mark.Finished → mark_at after i ≡ mark.Finished
      still_finished i e = kept_mark marks visit.job mark.Finished visit_in_range i mark.Finished e (λ f. on_path_finished (sym here ∙ f))

      -- a walk to a predecessor of the job, and then the edge
      through : (i n : ℕ) → Walk edges i visit.job n → n ≤ suc is.grounded.most
      through i zero w = omega arith
      through i (suc n) w =
          let last = walk-last edges i visit.job n w in
          let source = source-from_edge edges last.0 visit.job last.2 in
          let read : get_or (sources edges visit.job) source.0 0 ≡ last.0 = get_or_default (sources edges visit.job) source.0 0 last.0 source.1 ∙ source.2 in
          let finished = rw read at (all source.0 source.1) in
          omega (arith, is.grounded.bound last.0 finished i n last.1)

      bound : (j : ℕ) → mark_at after j ≡ mark.Finished → (j ≡ visit.job) ⊎ (j ≢ visit.job) → (i n : ℕ) → Walk edges i j n → n ≤ suc is.grounded.most
      bound j e (inl same) i n w = through i n (rw same at w)
      bound j e (inr differ) i n w = omega (arith, is.grounded.bound j (sym (mark_elsewhere marks visit.job mark.Finished visit_in_range j differ) ∙ e) i n w)

      found_before : (i : ℕ) → i ≢ visit.job → (p : ℕ) × (p < length (rest ++ visit ∷ [])) × ((visit_at (rest ++ visit ∷ []) p).job ≡ i) → (p : ℕ) × (p < length rest) × ((visit_at rest p).job ≡ i)
      found_before i differ (p, below, at) = by (last_or_before rest visit p below)
        where
          by : (p ≡ length rest) ⊎ (p < length rest) → (p : ℕ) × (p < length rest) × ((visit_at rest p).job ≡ i)
          by (inl e) = absurd (differ (sym at ∙ ap (λ (v : Visit). v.job) (visit_last rest visit p e)))
          by (inr less) = (p, less, sym (ap (λ (v : Visit). v.job) (visit_before rest visit p less)) ∙ at)

      pub IsPath-finished : IsPath edges after rest
      IsPath-finished = record {
        own = λ p below. mark_elsewhere marks visit.job mark.Finished visit_in_range (visit_at rest p).job (others p below) ∙ before_own p below;
        all = λ i e.
            let was = marked_as marks visit.job mark.Finished visit_in_range i mark.OnPath e finished_on_path in
            found_before i was.0 (is.all i was.1);
        once = before_once;
        passed = λ p below k less. still_finished (get_or (sources edges (visit_at rest p).job) k 0) (before_passed p below k less);
        linked = before_linked;
        grounded = record { most = suc is.grounded.most; bound = λ j e. bound j e (cases_eq j visit.job) };
      }

    -- more predecessors of the last job are finished
    pub IsPath-passed : (count : ℕ) → AreFinished edges marks visit.job count → IsPath edges marks (rest ++ record { job = visit.job; passed = count } ∷ [])
    IsPath-passed count finished = record {
      own = each_visit rest next (λ v. mark_at marks v.job ≡ mark.OnPath) before_own here;
      all = λ i e. let (p, below, at) = is.all i e in (p, omega (arith, below, long), same p below ∙ at);
      once = λ p q less below differ. is.once p q less (omega (arith, below, long)) (sym (same p (omega (arith, less, below, long))) ∙ differ ∙ same q (omega (arith, below, long)));
      passed = each_visit rest next (λ v. AreFinished edges marks v.job v.passed) before_passed finished;
      linked = λ p below.
          subst (λ j. Contains edges (j, (visit_at (rest ++ next ∷ []) p).job)) (sym (same (p + 1) (omega (arith, below, long))))
          (subst (λ j. Contains edges ((visit_at (rest ++ visit ∷ []) (p + 1)).job, j)) (sym (same p (omega (arith, below, long)))) (is.linked p (omega (arith, below, long))));
      grounded = is.grounded;
    }
      where
        next : Visit
        next = record { job = visit.job; passed = count }

        long : length (rest ++ record { job = visit.job; passed = count } ∷ []) ≡ length (rest ++ visit ∷ [])
        long = length_push rest (record { job = visit.job; passed = count }) ∙ sym (length_push rest visit)

        same : (p : ℕ) → p < length (rest ++ visit ∷ []) → (visit_at (rest ++ record { job = visit.job; passed = count } ∷ []) p).job ≡ (visit_at (rest ++ visit ∷ []) p).job
        same p below = by (last_or_before rest visit p below)
          where
            by : (p ≡ length rest) ⊎ (p < length rest) → (visit_at (rest ++ record { job = visit.job; passed = count } ∷ []) p).job ≡ (visit_at (rest ++ visit ∷ []) p).job
            by (inl e) = ap (λ (v : Visit). v.job) (visit_last rest (record { job = visit.job; passed = count }) p e) ∙ sym (ap (λ (v : Visit). v.job) (visit_last rest visit p e))
            by (inr less) = ap (λ (v : Visit). v.job) (visit_before rest (record { job = visit.job; passed = count }) p less ∙ sym (visit_before rest visit p less))

  -- an unseen job joins the path, behind the last
  module _ (path : List Visit) (is : IsPath edges marks path) (job : ℕ) (is_job : job < length marks) (fresh : mark_at marks job ≡ mark.Unseen)
      (edge : (p : ℕ) → p + 1 ≡ length path → Contains edges (job, (visit_at path p).job)) where
    abbrev entered : List Mark
    entered = set marks job mark.OnPath

    abbrev entry : Visit
    entry = record { job = job; passed = 0 }

    still : (i : ℕ) (x : Mark) → mark_at marks i ≡ x → mark.Unseen ≢ x → mark_at entered i ≡ x
    still i x e differ = kept_mark marks job mark.OnPath is_job i x e (λ f. differ (sym fresh ∙ f))

    newly : (p : ℕ) → p < length path → (visit_at path p).job ≢ job
    newly p below e = unseen_on_path (sym fresh ∙ sym (ap (mark_at marks) e) ∙ is.own p below)

    entered_all : (i : ℕ) → mark_at entered i ≡ mark.OnPath → (i ≡ job) ⊎ (i ≢ job) → (p : ℕ) × (p < length (path ++ entry ∷ [])) × ((visit_at (path ++ entry ∷ []) p).job ≡ i)
    entered_all i e (inl same) = (length path, omega (arith, length_push path entry), ap (λ (v : Visit). v.job) (visit_last path entry (length path) refl) ∙ sym same)
    entered_all i e (inr differ) =
        let (p, below, at) = is.all i (sym (mark_elsewhere marks job mark.OnPath is_job i differ) ∙ e) in
        (p, omega (arith, below, length_push path entry), ap (λ (v : Visit). v.job) (visit_before path entry p below) ∙ at)

    entered_once : (p q : ℕ) → p < q → (q ≡ length path) ⊎ (q < length path) → (visit_at (path ++ entry ∷ []) p).job ≢ (visit_at (path ++ entry ∷ []) q).job
    entered_once p q less (inl e) same =
        newly p (omega (arith, less, e)) (ap (λ (v : Visit). v.job) (sym (visit_before path entry p (omega (arith, less, e)))) ∙ same ∙ ap (λ (v : Visit). v.job) (visit_last path entry q e))
    entered_once p q less (inr below) same =
        is.once p q less below (ap (λ (v : Visit). v.job) (sym (visit_before path entry p (omega (arith, less, below)))) ∙ same ∙ ap (λ (v : Visit). v.job) (visit_before path entry q below))

    entered_linked : (p : ℕ) → (p + 1 ≡ length path) ⊎ (p + 1 < length path) → Contains edges ((visit_at (path ++ entry ∷ []) (p + 1)).job, (visit_at (path ++ entry ∷ []) p).job)
    entered_linked p (inl e) =
        subst (λ (v : Visit). Contains edges (v.job, (visit_at (path ++ entry ∷ []) p).job)) (sym (visit_last path entry (p + 1) e))
        (subst (λ (v : Visit). Contains edges (job, v.job)) (sym (visit_before path entry p (omega (arith, e)))) (edge p e))
    entered_linked p (inr below) =
        subst (λ (v : Visit). Contains edges (v.job, (visit_at (path ++ entry ∷ []) p).job)) (sym (visit_before path entry (p + 1) below))
        (subst (λ (v : Visit). Contains edges ((visit_at path (p + 1)).job, v.job)) (sym (visit_before path entry p (omega (arith, below)))) (is.linked p below))

    pub IsPath-entered : IsPath edges entered (path ++ entry ∷ [])
    IsPath-entered = record {
      own = each_visit path entry (λ v. mark_at entered v.job ≡ mark.OnPath) (λ p below. still (visit_at path p).job mark.OnPath (is.own p below) unseen_on_path)
          (mark_here marks job mark.OnPath is_job job refl);
      all = λ i e. entered_all i e (cases_eq i job);
      once = λ p q less below. entered_once p q less (last_or_before path entry q below);
      passed = each_visit path entry (λ v. AreFinished edges entered v.job v.passed)
          (λ p below k less. still (get_or (sources edges (visit_at path p).job) k 0) mark.Finished (is.passed p below k less) unseen_finished)
          (λ k less. absurd (omega (arith, less)));
      linked = λ p below. entered_linked p (last_or_before path entry (p + 1) below);
      grounded = record {
        most = is.grounded.most;
        bound = λ j e. is.grounded.bound j (marked_as marks job mark.OnPath is_job j mark.Finished e on_path_finished).1;
      };
    }

-- the walk goes on to an unseen predecessor of the last job
module _ (edges : List (ℕ × ℕ)) (marks : List Mark) (rest : List Visit) (visit : Visit) (is : IsPath edges marks (rest ++ visit ∷ []))
    (count : ℕ) (finished : AreFinished edges marks visit.job count) (before : ℕ) (is_job : before < length marks) (fresh : mark_at marks before ≡ mark.Unseen)
    (edge : Contains edges (before, visit.job)) where
  abbrev passed_on : List Visit
  passed_on = rest ++ record { job = visit.job; passed = count } ∷ []

  pub IsPath-next : IsPath edges (set marks before mark.OnPath) (passed_on ++ record { job = before; passed = 0 } ∷ [])
  IsPath-next = IsPath-entered edges marks passed_on (IsPath-passed edges marks rest visit is count finished) before is_job fresh
      (λ p e. subst (λ (v : Visit). Contains edges (before, v.job)) (sym (visit_last rest (record { job = visit.job; passed = count }) p (omega (arith, e, length_push rest (record { job = visit.job; passed = count }))))) edge)

pub fewer_next : (marks : List Mark) (job : ℕ) → job < length marks → mark_at marks job ≡ mark.Unseen → unseen (set marks job mark.OnPath) + 1 ≡ unseen marks
fewer_next marks job is_job fresh = omega (arith, unseen_marked marks job mark.OnPath is_job 1 0 (ap (λ m. cond (is_unseen m) 1 0) fresh) refl)

-- what a mark that is written keeps
module _ (marks : List Mark) (job : ℕ) (is_job : job < length marks) where
  pub met_marked : (m : Mark) → m ≢ mark.Unseen → (i : ℕ) → mark_at marks i ≢ mark.Unseen → mark_at (set marks job m) i ≢ mark.Unseen
  met_marked m seen i met e = met (marked_as marks job m is_job i mark.Unseen e seen).1

  pub kept_finished : (i : ℕ) → mark_at marks i ≡ mark.Finished → mark_at (set marks job mark.Finished) i ≡ mark.Finished
  kept_finished i e = by (cases_eq i job)
    where
      by : (i ≡ job) ⊎ (i ≢ job) → mark_at (set marks job mark.Finished) i ≡ mark.Finished
      by (inl same) = mark_here marks job mark.Finished is_job i same
      by (inr differ) = mark_elsewhere marks job mark.Finished is_job i differ ∙ e

  pub kept_entered : mark_at marks job ≡ mark.Unseen → (i : ℕ) → mark_at marks i ≡ mark.Finished → mark_at (set marks job mark.OnPath) i ≡ mark.Finished
  kept_entered fresh i e = kept_mark marks job mark.OnPath is_job i mark.Finished e (λ f. unseen_finished (sym fresh ∙ f))

-- the job of the edge is in range
pub before_in_range : (edges : List (ℕ × ℕ)) (count before job : ℕ) → JoinJobs count edges → Contains edges (before, job) → before < count
before_in_range edges count before job joined edge = (All-contains (λ e. (e.0 < count) × (e.1 < count)) edges (before, job) joined edge).0

-- no more are unseen once a job is finished
pub unseen-finished : (marks : List Mark) (job : ℕ) → job < length marks → unseen (set marks job mark.Finished) ≤ unseen marks
unseen-finished marks job is_job = by (cond (is_unseen (mark_at marks job)) 1 0) refl
  where
    by : (b : ℕ) → cond (is_unseen (mark_at marks job)) 1 0 ≡ b → unseen (set marks job mark.Finished) ≤ unseen marks
    by b e = omega (arith, unseen_marked marks job mark.Finished is_job b 0 e refl)

-- a job of the list waits for the other
pub edge-before : (edges : List (ℕ × ℕ)) (items : List ℕ) (job k before : ℕ) → items ≡ sources edges job → k < length items → before ≡ get_or items k before → Contains edges (before, job)
edge-before edges items job k before same below is = edge-from_source edges before job (k, rw same at below, sym (rw same at is))

-- where all jobs are finished, no walk leads from a job back to itself
pub no_cycle-finished : (edges : List (ℕ × ℕ)) (marks : List Mark) (count : ℕ) → JoinJobs count edges → ((j : ℕ) → j < count → mark_at marks j ≡ mark.Finished) → AreGrounded edges marks → ¬ HoldsCycle edges
no_cycle-finished edges marks count joined finished grounded h =
    let joins = All-contains (λ e. (e.0 < count) × (e.1 < count)) edges (h.job, h.walk.0) joined h.walk.1 in
    let round = walk_round edges h.job h.further h.walk (suc grounded.most) in
    omega (arith, round.1, grounded.bound h.job (finished h.job joins.0) h.job round.0 round.2)
