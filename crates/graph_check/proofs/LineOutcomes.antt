-- What comes of a line, by its checks and by the progress after it.
use Rattle.std.proofs.Common.{◌≡◌, ℕ, zero, suc, ◌+◌, ◌<◌, ◌≤◌, Bool, true, false, List, [], ◌∷◌, ◌++◌, length, Option, Some, None, Result, Ok, Err, refl, ap, sym, ◌∙◌, subst, arith}
use Rattle.std.specs.Prelude.{◌==◌, slice_get, is_some, IsSome, IfErr, OnOk}
use Rattle.std.specs.Option.{option_map, option_map_or}
use Rattle.std.proofs.lemmas.Bool.{lt-ltb, le-ltb}
use Rattle.std.proofs.lemmas.Option.{slice_get_within}
use Rattle.job_model.specs.Table.{Table}
use Rattle.sag_step.specs.State.{SystemState}
use Rattle.sag_step.specs.Offers.{Offer, offers}
use Rattle.cert_text.specs.declared.line.CertLine.{CertLine}
use Rattle.cert_text.specs.declared.line.CertLine.TheVariants as line
use Rattle.graph_check.specs.declared.clause.Clause.{Clause}
use Rattle.graph_check.specs.declared.due.Due.{Due}
use Rattle.graph_check.specs.declared.due.Due.TheVariants as due
use Rattle.graph_check.specs.declared.answer.Broken.{Broken}
use Rattle.graph_check.specs.declared.answer.Broken.TheVariants as broken
use Rattle.graph_check.specs.Progress.{Progress, due_at_end, due_in_level}
use Rattle.graph_check.specs.Checks.{child, first_broken, due_checks, is_behind_block}
use Rattle.graph_check.specs.Kept.{after_line, hulls_with}
use Rattle.sag_step.specs.Next.{finish_interval}
use Rattle.cert_text.specs.declared.line.Mark.{Mark}
use Rattle.graph_check.specs.Entries.{JobEntry, root_from, state_from}
use Rattle.cert_text.specs.declared.line.Pair.{Pair}
use Rattle.cert_text.specs.declared.line.EndOf.{EndOf}
use Rattle.job_sets.specs.Subset.{with_number}
use Rattle.start_windows.specs.Window.{is_candidate}
use Rattle.graph_check.specs.declared.turn.Turn.{Turn}
use Rattle.graph_check.specs.Turns.{offer_at, turn_of}
use Rattle.graph_check.specs.Comings.{Comes, HeldProgress, IfClause, StepsOn, due_for, child_members, has_candidate, turn_clause, with_due}
use Rattle.lists.proofs.Orderings.{true≢false}

-- ---- a line of another kind than is due

pub turn-breaks : (table : Table) (m : ℕ) (r : Progress) (d : Due) (l : CertLine) → (d ≡ due_for l → ⊥) → first_broken (due_checks table m r d l) ≡ Some (turn_clause r d (due_for l))
turn-breaks table m r due.Head (line.Head jobs cores) other_kind = absurd (other_kind refl)
turn-breaks table m r due.Head other other_kind = refl
turn-breaks table m r due.Level (line.Level number count) other_kind = absurd (other_kind refl)
turn-breaks table m r due.Level other other_kind = refl
turn-breaks table m r due.Root (line.Root pairs) other_kind = absurd (other_kind refl)
turn-breaks table m r due.Root other other_kind = refl
turn-breaks table m r due.State (line.State parent job pairs ends last) other_kind = absurd (other_kind refl)
turn-breaks table m r due.State other other_kind = refl
turn-breaks table m r due.Edge (line.Edge from job est lst to) other_kind = absurd (other_kind refl)
turn-breaks table m r due.Edge other other_kind = refl
turn-breaks table m r due.Job (line.Job number lo hi mark) other_kind = absurd (other_kind refl)
turn-breaks table m r due.Job other other_kind = refl
turn-breaks table m r due.Verdict (line.Verdict mark) other_kind = absurd (other_kind refl)
turn-breaks table m r due.Verdict other other_kind = refl
turn-breaks table m r due.End line.End other_kind = absurd (other_kind refl)
turn-breaks table m r due.End other other_kind = refl
turn-breaks table m r due.Nothing (line.Edge from job est lst to) other_kind = refl
turn-breaks table m r due.Nothing (line.Head jobs cores) other_kind = refl
turn-breaks table m r due.Nothing (line.Level number count) other_kind = refl
turn-breaks table m r due.Nothing (line.Root pairs) other_kind = refl
turn-breaks table m r due.Nothing (line.State parent job pairs ends last) other_kind = refl
turn-breaks table m r due.Nothing (line.Job number lo hi mark) other_kind = refl
turn-breaks table m r due.Nothing (line.Verdict mark) other_kind = refl
turn-breaks table m r due.Nothing line.End other_kind = refl

-- ---- what comes of a line

module _ (old : HeldProgress) (d : Due) (l : CertLine) (is_due : old.progress.due ≡ d) where
  pub comes-err : (e : Broken) (new : Progress) → IfClause (λ clause. first_broken (due_checks old.table old.cores old.progress d l) ≡ Some clause) e →
      Comes old.table old.cores old.progress l (Err e) new
  unfolding Comes
  comes-err (broken.Clause clause) new breaks = rw is_due breaks
  comes-err broken.Memory new breaks = tt

  pub comes-broken : (clause : Clause) (new : Progress) → Some clause ≡ first_broken (due_checks old.table old.cores old.progress d l) →
      Comes old.table old.cores old.progress l (Err (broken.Clause clause)) new
  comes-broken clause new breaks = comes-err (broken.Clause clause) new (sym breaks)

  pub comes-taken : (h : HeldProgress) (new : Progress) → h ≡ old → None ≡ first_broken (due_checks old.table old.cores old.progress d l) → new ≡ after_line h.table h.progress l →
      Comes old.table old.cores old.progress l (Ok (tt {0})) new
  unfolding Comes
  comes-taken h new is passes after = (rw is_due (sym passes), after ∙ ap (λ (k : HeldProgress). after_line k.table k.progress l) is)

  pub comes-whole : (result : Result Unit Broken) (new want : HeldProgress) → first_broken (due_checks old.table old.cores old.progress d l) ≡ None →
      OnOk result (new ≡ want) → IfErr result (λ e. e ≡ broken.Memory) → want.progress ≡ after_line old.table old.progress l →
      Comes old.table old.cores old.progress l result new.progress
  unfolding Comes
  comes-whole (Ok u) new want passes is memory after = (rw is_due passes, ap (λ (k : HeldProgress). k.progress) is ∙ after)
  comes-whole (Err e) new want passes is memory after = subst (λ x. Comes old.table old.cores old.progress l (Err x) new.progress) (sym memory) tt

-- the line of level 0
pub after-first : (table : Table) (r : Progress) (number count : ℕ) → number ≡ 0 → record r { due = due.Root; count = count } ≡ after_line table r (line.Level number count)
after-first table r number count is = rw is refl

-- a line above level 0
pub after-level : (table : Table) (r : Progress) (number count : ℕ) → (number ≡ 0 → ⊥) →
    record (record r { level = number; count = count; before = r.states; states = []; edges = 0 })
    { due = due_in_level table (record r { level = number; count = count; before = r.states; states = []; edges = 0 }) }
    ≡ after_line table r (line.Level number count)
after-level table r zero count other_kind = absurd (other_kind refl)
after-level table r (suc k) count above = refl

-- the number of lines is not changed but by the step
after-lines : (table : Table) (r : Progress) (l : CertLine) → (after_line table r l).lines ≡ r.lines
after-lines table r (line.Head jobs cores) = refl
after-lines table r (line.Level zero count) = refl
after-lines table r (line.Level (suc k) count) = refl
after-lines table r (line.Root pairs) = refl
after-lines table r (line.State parent job pairs ends last) = refl
after-lines table r (line.Edge from job est lst to) = refl
after-lines table r (line.Job number lo hi mark) = refl
after-lines table r (line.Verdict mark) = refl
after-lines table r line.End = refl

-- and that of edges grows by one at most
after-edges : (table : Table) (r : Progress) (l : CertLine) → (after_line table r l).edges ≤ r.edges + 1
after-edges table r (line.Head jobs cores) = omega arith
after-edges table r (line.Level zero count) = omega arith
after-edges table r (line.Level (suc k) count) = omega arith
after-edges table r (line.Root pairs) = omega arith
after-edges table r (line.State parent job pairs ends last) = omega arith
after-edges table r (line.Edge from job est lst to) = omega arith
after-edges table r (line.Job number lo hi mark) = omega arith
after-edges table r (line.Verdict mark) = omega arith
after-edges table r line.End = omega arith

module _ (table : Table) (m : ℕ) (r : Progress) (l : CertLine) (mid : Progress) where
  pub steps-on : (u : Unit {0}) → Comes table m r l (Ok u) mid → StepsOn table m r l (Ok u) (record mid { lines = mid.lines + 1 })
  unfolding Comes StepsOn
  steps-on u comes = rw (comes.0, comes.1) (ap (λ n. Ok (record (after_line table r l) { lines = n + 1 })) (sym (after-lines table r l)))

  pub few-edges : (u : Unit {0}) → Comes table m r l (Ok u) mid → r.edges ≤ r.lines → mid.edges ≤ mid.lines + 1
  unfolding Comes
  few-edges u comes few =
      let edges : (after_line table r l).edges ≤ r.edges + 1 = after-edges table r l in
      let lines : (after_line table r l).lines ≡ r.lines = after-lines table r l in
      subst (λ (q : Progress). q.edges ≤ q.lines + 1) (sym comes.1) (omega arith)

  pub lines-kept : (u : Unit {0}) → Comes table m r l (Ok u) mid → mid.lines ≡ r.lines
  unfolding Comes
  lines-kept u comes = ap (λ (q : Progress). q.lines) comes.1 ∙ after-lines table r l

  pub steps-broken : (e : Broken) (new : Progress) → Comes table m r l (Err e) mid → StepsOn table m r l (Err e) new
  unfolding Comes StepsOn
  steps-broken (broken.Clause clause) new comes = rw comes refl
  steps-broken broken.Memory new comes = tt

-- ---- which line is due

module _ (table : Table) (r : Progress) where
  pub due-is-state : length r.states < r.count → due.State ≡ due_in_level table r
  due-is-state few = rw (lt-ltb (length r.states) r.count few) refl

  pub due-is-edge : r.count ≤ length r.states → r.edges < length (offers table r.before) → due.Edge ≡ due_in_level table r
  due-is-edge all left = rw (le-ltb (length r.states) r.count all, lt-ltb r.edges (length (offers table r.before)) left) refl

  pub due-is-level : r.count ≤ length r.states → length (offers table r.before) ≤ r.edges → r.level < length table.jobs → due.Level ≡ due_in_level table r
  due-is-level all none more =
      rw (le-ltb (length r.states) r.count all, le-ltb r.edges (length (offers table r.before)) none, lt-ltb r.level (length table.jobs) more) refl

  pub due-is-end : (d : Due) → r.count ≤ length r.states → length (offers table r.before) ≤ r.edges → length table.jobs ≤ r.level → d ≡ due_at_end table r → d ≡ due_in_level table r
  due-is-end d all none over is =
      rw (le-ltb (length r.states) r.count all, le-ltb r.edges (length (offers table r.before)) none, le-ltb r.level (length table.jobs) over) is

  left-some : (o : Option Offer) → slice_get (offers table r.before) r.edges ≡ o → IsSome o → r.edges < length (offers table r.before)
  left-some None e some = absurd (cc)
  left-some (Some x) e some = slice_get_within (offers table r.before) r.edges x e

  none-past : {A : Type 0} (xs : List A) (k : ℕ) → slice_get xs k ≡ None → length xs ≤ k
  none-past [] k e = omega arith
  none-past (x ∷ xs) zero e = absurd (cc)
  none-past (x ∷ xs) (suc k) e = let rest = none-past xs k e in omega arith

  -- the walk tells whether an offer is left
  pub left-by-turn : (m : ℕ) → IsSome (offer_at (record { table = table; cores = m; level = r.before; passed = r.edges })) → r.edges < length (offers table r.before)
  unfolding offer_at
  left-by-turn m some = left-some (slice_get (offers table r.before) r.edges) refl some

  pub none-by-turn : (m : ℕ) → offer_at (record { table = table; cores = m; level = r.before; passed = r.edges }) ≡ None → length (offers table r.before) ≤ r.edges
  unfolding offer_at
  none-by-turn m none = none-past (offers table r.before) r.edges none

pub some-turn : (o : Option Offer) (t : Option Turn) → t ≡ option_map turn_of o → is_some t ≡ true → IsSome o
some-turn None t e some = absurd (let f = ap is_some e in cc)
some-turn (Some x) t e some = refl

pub no-turn-left : (o : Option Offer) (t : Option Turn) → t ≡ option_map turn_of o → is_some t ≡ false → o ≡ None
no-turn-left None t e none = refl
no-turn-left (Some x) t e none = absurd (let f = ap is_some e in cc)

pub due-is-job : (table : Table) (r : Progress) → length r.jobs < length table.jobs → due.Job ≡ due_at_end table r
due-is-job table r few = rw (lt-ltb (length r.jobs) (length table.jobs) few) refl

pub due-is-verdict : (table : Table) (r : Progress) → length table.jobs ≤ length r.jobs → due.Verdict ≡ due_at_end table r
due-is-verdict table r all = rw (le-ltb (length r.jobs) (length table.jobs) all) refl

pub behind-job : (r : Progress) (d : Due) (b : Bool) → d ≡ due.Job → 0 < r.level → b ≡ (length r.jobs == 0) → b ≡ is_behind_block r d
behind-job r d b is above empty = rw (is, lt-ltb 0 r.level above) empty

-- an edge line that passes
pub after-edge : (old mid wide : HeldProgress) (from job est lst to : ℕ) → mid ≡ old →
    wide ≡ record mid { progress = record mid.progress { hulls = hulls_with mid.progress.hulls job (finish_interval mid.table job (record { est = est; lst = lst })) } } →
    with_due wide.table (record wide.progress { edges = wide.progress.edges + 1 }) ≡ after_line old.table old.progress (line.Edge from job est lst to)
after-edge old mid wide from job est lst to same widened =
    ap (λ (k : HeldProgress). with_due k.table (record k.progress { edges = k.progress.edges + 1 })) widened
    ∙ ap (λ (k : HeldProgress). after_line k.table k.progress (line.Edge from job est lst to)) same

-- a job line that passes
pub after-job : (table : Table) (r : Progress) (jobs : List JobEntry) (d : Due) (number lo hi : ℕ) (mark : Mark) →
    jobs ≡ r.jobs ++ record { span = record { lo = lo; hi = hi }; mark = mark } ∷ [] → d ≡ due_at_end table (record r { jobs = jobs }) →
    record r { due = d; jobs = jobs } ≡ after_line table r (line.Job number lo hi mark)
after-job table r jobs d number lo hi mark are is = rw (is, are) refl

-- a line of another kind, as the code finds it
pub other-turn : (table : Table) (m : ℕ) (r new : Progress) (l : CertLine) (kind : Due) (same : Bool) (clause : Clause) {d : Due} → kind ≡ due_for l → (d ≡ kind → same ≡ true) → same ≡ false → d ≡ r.due →
    clause ≡ turn_clause r r.due kind → Comes table m r l (Err (broken.Clause clause)) new
unfolding Comes
other-turn table m r new l kind same clause is_kind told other is_due is =
    turn-breaks table m r r.due l (λ e. true≢false (sym (told (is_due ∙ e ∙ sym is_kind)) ∙ other)) ∙ ap (λ k. Some (turn_clause r r.due k)) (sym is_kind) ∙ ap (λ k. Some k) (sym is)

-- a root line that passes
pub after-root : (h old : HeldProgress) (cleared : List SystemState) (s : SystemState) (pairs : List Pair) → h ≡ old → cleared ≡ [] → s ≡ root_from old.table pairs →
    with_due h.table (record h.progress { states = cleared ++ s ∷ [] }) ≡ after_line old.table old.progress (line.Root pairs)
after-root h old cleared s pairs is none s_is =
    ap (λ (k : HeldProgress). with_due k.table (record k.progress { states = cleared ++ s ∷ [] })) is
    ∙ ap (λ xs. with_due old.table (record old.progress { states = xs ++ s ∷ [] })) none
    ∙ ap (λ x. with_due old.table (record old.progress { states = x ∷ [] })) s_is

-- a state line that passes
only-child : (table : Table) (o : Option SystemState) (job : ℕ) (pairs : List Pair) (ends : List EndOf) (last : List ℕ) → option_map_or (λ p. is_candidate table p.set.members job) o false ≡ true →
    state_from table (option_map_or (λ p. with_number job p.set.members) o []) pairs ends last ∷ [] ≡ option_map_or (λ p. child table p job pairs ends last ∷ []) o []
only-child table None job pairs ends last e = absurd (cc)
only-child table (Some p) job pairs ends last e = refl

pub after-state : (table : Table) (r : Progress) (parent job : ℕ) (pairs : List Pair) (ends : List EndOf) (last : List ℕ) (s : SystemState) → s ≡ state_from table (child_members r.before parent job) pairs ends last →
    has_candidate table r.before parent job ≡ true → with_due table (record r { states = r.states ++ s ∷ [] }) ≡ after_line table r (line.State parent job pairs ends last)
after-state table r parent job pairs ends last s is candidate =
    ap (λ xs. with_due table (record r { states = r.states ++ xs })) (ap (λ x. x ∷ []) is ∙ only-child table (slice_get r.before parent) job pairs ends last candidate)
