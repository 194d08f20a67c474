-- What a line says that passes its checks, by the kind of line that is due.
use Rattle.std.proofs.Common.{◌≡◌, ℕ, suc, ◌+◌, ◌<◌, ◌≤◌, Bool, true, false, cond, List, [], ◌∷◌, ◌++◌, length, refl, sym, ap, ◌∙◌, subst, arith, Option, Some, None, Ok}
use Rattle.std.specs.Prelude.{IsTrue, IsSomeAnd, nat_eq, nat_lt, nat_le, slice_get, ◌↔◌}
use Rattle.std.specs.Bool.{beq}
use Rattle.std.specs.Option.{option_map_or}
use Rattle.std.specs.List.{AllByRecursion, list_all}
use Rattle.std.proofs.lemmas.Bool.{and_parts, eqb-true, eq-eqb, leb-true, le-leb, lt-ltb}
use Rattle.job_model.specs.Table.{Table, job_at}
use Rattle.sag_time.specs.Interval.{Interval}
use Rattle.start_windows.specs.Window.{is_candidate}
use Rattle.sag_step.specs.State.{SystemState}
use Rattle.sag_step.specs.Next.{finish_interval}
use Rattle.sag_step.specs.Widen.{widens}
use Rattle.sag_step.specs.Shape.{HasShape, has_shape}
use Rattle.sag_step.specs.Offers.{Offer, offers}
use Rattle.cert_text.specs.declared.line.Mark.{Mark}
use Rattle.cert_text.specs.declared.line.CertLine.{CertLine}
use Rattle.cert_text.specs.declared.line.CertLine.TheVariants as line
use Rattle.graph_check.specs.declared.clause.Clause.{Clause}
use Rattle.graph_check.specs.declared.due.Due.TheVariants as due
use Rattle.graph_check.specs.Entries.{JobEntry, is_ok_mark}
use Rattle.graph_check.specs.Certificate.{StateEntry, EdgeEntry, state_line, edge_line, job_line}
use Rattle.graph_check.specs.Valid.{NamesCandidate, entry_state, LeadsToWider, edge_choice, offer_choice, IsMarkedRight}
use Rattle.graph_check.specs.Progress.{Progress, due_in_level, due_at_end}
use Rattle.graph_check.specs.Checks.{Checks, first_broken, child, covers_hull, state_checks, edge_checks, due_checks}
use Rattle.graph_check.specs.Kept.{hulls_with, with_line}
use Rattle.sag_step.proofs.ShapeTest.{has_shape-from, HasShape-from_test}

-- ---- checks

by_first : (b : Bool) (clause : Clause) (o : Option Clause) → cond b o (Some clause) ≡ None → (b ≡ true) × (o ≡ None)
by_first true clause o e = (refl, e)
by_first false clause o e = cc

-- where no check is broken, each has passed
pub passes-each : (checks : Checks) → first_broken checks ≡ None → AllByRecursion (λ c. c.1 ≡ true) checks
passes-each [] e = tt
passes-each (c ∷ checks) e =
    let parts = by_first c.1 c.0 (first_broken checks) e in
    (parts.0, passes-each checks parts.1)

some-true : {X : Type 0} (P : X → Bool) (o : Option X) → option_map_or P o false ≡ true → IsSomeAnd o (λ x. IsTrue (P x))
some-true P None e = cc
some-true P (Some x) e = e

true-some : {X : Type 0} (P : X → Bool) (o : Option X) → IsSomeAnd o (λ x. IsTrue (P x)) → option_map_or P o false ≡ true
true-some P None e = absurd e
true-some P (Some x) e = e

same-both : (a b : Bool) → beq a b ≡ true → a ≡ b
same-both true true e = refl
same-both true false e = cc
same-both false true e = cc
same-both false false e = refl

beq-refl : (a : Bool) → beq a a ≡ true
beq-refl true = refl
beq-refl false = refl

-- ---- progresses on the way

module _ (table : Table) where
  abbrev pub settled : Progress → Progress
  settled next = record next { due = due_in_level table next }

  abbrev pub with_state : Progress → StateEntry → Progress
  with_state r e = settled (record r { lines = r.lines + 1; states = r.states ++ entry_state table r.before e ∷ [] })

  abbrev pub with_edge : Progress → EdgeEntry → Progress
  with_edge r e = settled (record r { lines = r.lines + 1; edges = r.edges + 1; hulls = hulls_with r.hulls e.job (finish_interval table e.job e.window) })

  abbrev with_numbered : Progress → ℕ → ℕ → Progress
  with_numbered r number count = settled (record r { lines = r.lines + 1; level = number; count = count; before = r.states; states = []; edges = 0 })

  abbrev pub with_level : Progress → ℕ → Progress
  with_level r count = with_numbered r (r.level + 1) count

  abbrev pub with_job : Progress → JobEntry → Progress
  with_job r s =
      let next = record r { lines = r.lines + 1; jobs = r.jobs ++ s ∷ [] } in
      record next { due = due_at_end table next }

module _ (table : Table) (m : ℕ) where
  -- ---- a state line

  -- K4 and K5
  pub record NamesState (before : List SystemState) (e : StateEntry) : Type 0 where
    pub candidate : NamesCandidate table before e
    pub shape : HasShape table m (entry_state table before e)

  named : (r : Progress) (o : Option SystemState) (e : StateEntry) → slice_get r.before e.parent ≡ o → first_broken (state_checks table m o e.job e.pairs e.ends e.last) ≡ None →
      NamesState r.before e
  named r None e is passes = cc
  named r (Some parent) e is passes =
      let each = passes-each (state_checks table m (Some parent) e.job e.pairs e.ends e.last) passes in
      record {
        candidate = rw is each.0;
        shape = rw is (HasShape-from_test table m (child table parent e.job e.pairs e.ends e.last) each.1.0);
      }

  pub state-passed : (r : Progress) (l : CertLine) → first_broken (due_checks table m r due.State l) ≡ None → (e : StateEntry) × (l ≡ state_line e) × NamesState r.before e
  state-passed r (line.State parent job pairs ends last) passes =
      let e : StateEntry = record { parent = parent; job = job; pairs = pairs; ends = ends; last = last } in
      (e, refl, named r (slice_get r.before parent) e refl passes)
  state-passed r other passes = cc

  state_at : (r : Progress) (e : StateEntry) (o : Option SystemState) → slice_get r.before e.parent ≡ o → r.due ≡ due.State → NamesState r.before e →
      with_line table m (Ok r) (state_line e) ≡ Ok (with_state table r e)
  state_at r e None is state_due names = absurd (rw is at names.candidate)
  state_at r e (Some parent) is state_due names =
      let candidate : is_candidate table parent.set.members e.job ≡ true = rw is at names.candidate in
      let shape : has_shape table m (child table parent e.job e.pairs e.ends e.last) ≡ true =
      has_shape-from table m (child table parent e.job e.pairs e.ends e.last) (rw is at names.shape) in
      rw (state_due, is, candidate, shape) refl

  pub state_passes : (r : Progress) (e : StateEntry) → r.due ≡ due.State → NamesState r.before e → with_line table m (Ok r) (state_line e) ≡ Ok (with_state table r e)
  state_passes r e state_due names = state_at r e (slice_get r.before e.parent) refl state_due names

  -- ---- an edge line

  -- K6 to K8
  pub record FitsOffer (states : List SystemState) (e : EdgeEntry) (o : Offer) : Type 0 where
    pub choice : edge_choice e ≡ offer_choice o
    pub window : e.window ≡ o.window
    pub target : LeadsToWider states e o

  pub edge-passed : (r : Progress) (o : Offer) (l : CertLine) → slice_get (offers table r.before) r.edges ≡ Some o → first_broken (due_checks table m r due.Edge l) ≡ None →
      (e : EdgeEntry) × (l ≡ edge_line e) × FitsOffer r.states e o
  edge-passed r o (line.Edge from job est lst to) is passes =
      let e : EdgeEntry = record { from = from; job = job; window = record { est = est; lst = lst }; to = to } in
      let each = passes-each (edge_checks r.states (Some o) from job est lst to) (rw is at passes) in
      let choice = and_parts (nat_eq from o.from) (nat_eq job o.job) each.0 in
      let window = and_parts (nat_eq est o.window.est) (nat_eq lst o.window.lst) each.1.0 in
      let from_is : from ≡ o.from = eqb-true from o.from choice.0 in
      let job_is : job ≡ o.job = eqb-true job o.job choice.1 in
      let est_is : est ≡ o.window.est = eqb-true est o.window.est window.0 in
      let lst_is : lst ≡ o.window.lst = eqb-true lst o.window.lst window.1 in
      let fits : FitsOffer r.states e o = record {
        choice = λ i. (from_is i, job_is i);
        window = λ i. record { est = est_is i; lst = lst_is i };
        target = some-true (λ s. widens s o.next) (slice_get r.states to) each.1.1.0;
      } in
      (e, refl, fits)
  edge-passed r o other is passes = cc

  pub edge_passes : (r : Progress) (o : Offer) (e : EdgeEntry) → r.due ≡ due.Edge → slice_get (offers table r.before) r.edges ≡ Some o → FitsOffer r.states e o →
      with_line table m (Ok r) (edge_line e) ≡ Ok (with_edge table r e)
  edge_passes r o e edge_due is fits =
      let choice : (nat_eq e.from o.from ≡ true) × (nat_eq e.job o.job ≡ true) =
      (eq-eqb e.from o.from (ap (λ c. c.0) fits.choice), eq-eqb e.job o.job (ap (λ c. c.1) fits.choice)) in
      let est : nat_eq e.window.est o.window.est ≡ true = eq-eqb e.window.est o.window.est (ap (λ w. w.est) fits.window) in
      let lst : nat_eq e.window.lst o.window.lst ≡ true = eq-eqb e.window.lst o.window.lst (ap (λ w. w.lst) fits.window) in
      let target : option_map_or (λ s. widens s o.next) (slice_get r.states e.to) false ≡ true = true-some (λ s. widens s o.next) (slice_get r.states e.to) fits.target in
      rw (edge_due, is, choice.0, choice.1, est, lst, target) refl

  -- ---- a level line

  pub level-passed : (r : Progress) (l : CertLine) → 1 < r.lines → first_broken (due_checks table m r due.Level l) ≡ None → (count : ℕ) × (l ≡ line.Level (r.level + 1) count)
  level-passed r (line.Level number count) behind passes =
      let each = passes-each (due_checks table m r due.Level (line.Level number count)) passes in
      let late : nat_eq r.lines 1 ≡ false = search (arith, behind) in
      let number_is : number ≡ r.level + 1 = rw late at (eqb-true number (cond (nat_eq r.lines 1) 0 (r.level + 1)) each.0) in
      (count, ap (λ n. line.Level n count) number_is)
  level-passed r other behind passes = cc

  level_at : (r : Progress) (k count : ℕ) → r.due ≡ due.Level → 1 < r.lines → suc k ≡ r.level + 1 →
      with_line table m (Ok r) (line.Level (suc k) count) ≡ Ok (with_numbered table r (suc k) count)
  level_at r k count level_due behind is =
      let late : nat_eq r.lines 1 ≡ false = search (arith, behind) in
      let right : nat_eq (suc k) (r.level + 1) ≡ true = eq-eqb (suc k) (r.level + 1) is in
      let above : nat_lt 0 (suc k) ≡ true = lt-ltb 0 (suc k) (omega arith) in
      rw (level_due, late, right, above) refl

  pub level_passes : (r : Progress) (count : ℕ) → r.due ≡ due.Level → 1 < r.lines → with_line table m (Ok r) (line.Level (r.level + 1) count) ≡ Ok (with_level table r count)
  level_passes r count level_due behind =
      let is : suc r.level ≡ r.level + 1 = omega arith in
      subst (λ n. with_line table m (Ok r) (line.Level n count) ≡ Ok (with_numbered table r n count)) is (level_at r r.level count level_due behind is)

  -- ---- a job line

  -- K9 and K10 of a job with its number
  pub record IsFitJob (hulls : List (Option Interval)) (s : ℕ × JobEntry) : Type 0 where
    pub in_order : s.1.span.lo ≤ s.1.span.hi
    pub covers : IsTrue (covers_hull hulls s.0 s.1.span)
    pub mark : IsMarkedRight table s

  marked : (mark : Mark) (hi deadline : ℕ) → beq (is_ok_mark mark) (nat_le hi deadline) ≡ true → IsTrue (is_ok_mark mark) ↔ (hi ≤ deadline)
  marked mark hi deadline e =
      let same = same-both (is_ok_mark mark) (nat_le hi deadline) e in
      (λ ok. leb-true hi deadline (sym same ∙ ok), λ below. same ∙ le-leb hi deadline below)

  pub job-passed : (r : Progress) (l : CertLine) → first_broken (due_checks table m r due.Job l) ≡ None →
      (s : JobEntry) × (l ≡ job_line (length r.jobs, s)) × IsFitJob r.hulls (length r.jobs, s)
  job-passed r (line.Job number lo hi mark) passes =
      let each = passes-each (due_checks table m r due.Job (line.Job number lo hi mark)) passes in
      let s : JobEntry = record { span = record { lo = lo; hi = hi }; mark = mark } in
      let number_is : number ≡ length r.jobs = eqb-true number (length r.jobs) each.0 in
      let span = and_parts (nat_le lo hi) (covers_hull r.hulls number s.span) each.1.0 in
      let fit : IsFitJob r.hulls (number, s) = record {
        in_order = leb-true lo hi span.0;
        covers = span.1;
        mark = marked mark hi (job_at table number).deadline each.1.1.0;
      } in
      (s, ap (λ n. line.Job n lo hi mark) number_is, subst (λ n. IsFitJob r.hulls (n, s)) number_is fit)
  job-passed r other passes = cc

  unmarked : (mark : Mark) (hi deadline : ℕ) → IsTrue (is_ok_mark mark) ↔ (hi ≤ deadline) → beq (is_ok_mark mark) (nat_le hi deadline) ≡ true
  unmarked mark hi deadline e =
      let same : is_ok_mark mark ≡ nat_le hi deadline = grind (arith, e.0, e.1, leb-true, le-leb) in
      rw same (beq-refl (nat_le hi deadline))

  pub job_passes : (r : Progress) (s : JobEntry) → r.due ≡ due.Job → IsFitJob r.hulls (length r.jobs, s) →
      with_line table m (Ok r) (job_line (length r.jobs, s)) ≡ Ok (with_job table r s)
  job_passes r s job_due fit =
      let number : nat_eq (length r.jobs) (length r.jobs) ≡ true = eq-eqb (length r.jobs) (length r.jobs) refl in
      let in_order : nat_le s.span.lo s.span.hi ≡ true = le-leb s.span.lo s.span.hi fit.in_order in
      let mark = unmarked s.mark s.span.hi (job_at table (length r.jobs)).deadline fit.mark in
      rw (job_due, number, in_order, fit.covers, mark) refl

  -- ---- the verdict

  pub verdict-passed : (r : Progress) (l : CertLine) → first_broken (due_checks table m r due.Verdict l) ≡ None →
      (mark : Mark) × (l ≡ line.Verdict mark) × (is_ok_mark mark ≡ list_all (λ s. is_ok_mark s.mark) r.jobs)
  verdict-passed r (line.Verdict mark) passes =
      let each = passes-each (due_checks table m r due.Verdict (line.Verdict mark)) passes in
      (mark, refl, same-both (is_ok_mark mark) (list_all (λ s. is_ok_mark s.mark) r.jobs) each.0)
  verdict-passed r other passes = cc

  -- what is kept after it
  abbrev pub with_verdict : Progress → Progress
  with_verdict r = record r { lines = r.lines + 1; due = due.End }

  pub verdict_passes : (r : Progress) (mark : Mark) → r.due ≡ due.Verdict → is_ok_mark mark ≡ list_all (λ s. is_ok_mark s.mark) r.jobs →
      with_line table m (Ok r) (line.Verdict mark) ≡ Ok (with_verdict r)
  verdict_passes r mark verdict_due is =
      let same : beq (is_ok_mark mark) (list_all (λ s. is_ok_mark s.mark) r.jobs) ≡ true = rw is (beq-refl (list_all (λ s. is_ok_mark s.mark) r.jobs)) in
      rw (verdict_due, same) refl

  -- ---- the end line

  pub end-passed : (r : Progress) (l : CertLine) → first_broken (due_checks table m r due.End l) ≡ None → l ≡ line.End
  end-passed r line.End passes = refl
  end-passed r other passes = cc

  abbrev pub with_end : Progress → Progress
  with_end r = record r { lines = r.lines + 1; due = due.Nothing }

  pub end_passes : (r : Progress) → r.due ≡ due.End → with_line table m (Ok r) line.End ≡ Ok (with_end r)
  end_passes r end_due = rw end_due refl

  pub nothing-passes : (r : Progress) (l : CertLine) → first_broken (due_checks table m r due.Nothing l) ≡ None → ⊥
  nothing-passes r l passes = at l passes
    where
      at : (l : CertLine) → first_broken (due_checks table m r due.Nothing l) ≡ None → ⊥
      at line.End passes = cc
      at other passes = cc
