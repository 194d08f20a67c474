-- What a state line breaks: K4 where its parent has no such candidate, and K5 where its state has not the shape of one.
use Rattle.std.proofs.Common.{◌≡◌, ℕ, ◌<◌, ◌≤◌, Bool, true, false, ◌&&◌, List, [], length, Option, Some, None, refl, ap, sym, ◌∙◌, subst}
use Rattle.std.specs.Prelude.{nat_lt, not, slice_get}
use Rattle.std.specs.List.{list_all}
use Rattle.std.specs.Option.{option_map_or}
use Rattle.std.proofs.lemmas.Bool.{and_parts, le-ltb, ltb-true}
use Rattle.job_sets.specs.Subset.{Subset, is_member, with_number}
use Rattle.job_model.specs.Table.{Table, predecessors}
use Rattle.start_windows.specs.Window.{is_candidate}
use Rattle.start_windows.specs.Eligible.{IsFront}
use Rattle.start_windows.specs.Laws.{FrontsAreHandedDown}
use Rattle.sag_step.specs.State.{SystemState, HeldState}
use Rattle.sag_step.specs.Shape.{IsState, has_shape}
use Rattle.cert_text.specs.declared.line.Pair.{Pair}
use Rattle.cert_text.specs.declared.line.EndOf.{EndOf}
use Rattle.graph_check.specs.declared.clause.Clause.{Clause}
use Rattle.graph_check.specs.declared.level_state.LevelState.{LevelState}
use Rattle.graph_check.specs.declared.clause.Clause.TheVariants.{K4, K5}
use Rattle.graph_check.specs.Entries.{state_from}
use Rattle.graph_check.specs.Checks.{first_broken, state_checks}
use Rattle.graph_check.specs.Turns.{IsFit, IsLevelState}
use Rattle.graph_check.specs.Comings.{FindsState, HeldProgress, IsOrigin, child_members, has_candidate}

-- ---- the parent, and the job that is added

module _ (h old : HeldProgress) (is : h ≡ old) (parent job : ℕ) where
  abbrev has : Bool → HeldProgress → Type 0
  has b k = has_candidate k.table k.progress.before parent job ≡ b

  pub no-parent : slice_get h.progress.before parent ≡ None → has_candidate old.table old.progress.before parent job ≡ false
  no-parent none = subst (has false) is (rw none refl)

  pub no-candidate : (p : SystemState) → slice_get h.progress.before parent ≡ Some p → is_candidate h.table p.set.members job ≡ false →
      has_candidate old.table old.progress.before parent job ≡ false
  no-candidate p some never = subst (has false) is (rw some never)

  pub no-job : (p : SystemState) → slice_get h.progress.before parent ≡ Some p → length h.table.jobs ≤ job → has_candidate old.table old.progress.before parent job ≡ false
  no-job p some past = no-candidate p some (rw (le-ltb job (length h.table.jobs) past) refl)

  pub origin-is : (p : LevelState) (number : ℕ) → slice_get h.progress.before parent ≡ Some p.state.state → IsLevelState h.table h.cores p → number ≡ job →
      is_candidate h.table p.state.state.set.members number ≡ true → IsOrigin old.table old.cores old.progress.before parent job p number
  origin-is p number some fit same candidate =
      subst (λ (k : HeldProgress). IsOrigin k.table k.cores k.progress.before parent job p number) is (record { there = some; level_state = fit; same_job = same; candidate = candidate })

-- ---- a candidate

module _ (table : Table) (set : List ℕ) (j : ℕ) (candidate : is_candidate table set j ≡ true) where
  own : nat_lt j (length table.jobs) && not (is_member j set) ≡ true
  own = (and_parts (nat_lt j (length table.jobs) && not (is_member j set)) (list_all (λ i. is_member i set) (predecessors table j)) candidate).0

  pub candidate-number : j < length table.jobs
  candidate-number = ltb-true j (length table.jobs) (and_parts (nat_lt j (length table.jobs)) (not (is_member j set)) own).0

  pub candidate-new : is_member j set ≡ false
  candidate-new = by (is_member j set) (and_parts (nat_lt j (length table.jobs)) (not (is_member j set)) own).1
    where
      by : (b : Bool) → not b ≡ true → b ≡ false
      by true never = sym never
      by false e = refl

-- ---- the checks

module _ (table : Table) (m : ℕ) (before : List SystemState) (parent job : ℕ) (pairs : List Pair) (ends : List EndOf) (last : List ℕ) where
  abbrev checked : Option Clause
  checked = first_broken (state_checks table m (slice_get before parent) job pairs ends last)

  abbrev wanted : SystemState
  wanted = state_from table (child_members before parent job) pairs ends last

  k4-by : (o : Option SystemState) → option_map_or (λ p. is_candidate table p.set.members job) o false ≡ false → first_broken (state_checks table m o job pairs ends last) ≡ Some K4
  k4-by None e = refl
  k4-by (Some p) e = rw e refl

  k5-by : (o : Option SystemState) → option_map_or (λ p. is_candidate table p.set.members job) o false ≡ true →
      has_shape table m (state_from table (option_map_or (λ p. with_number job p.set.members) o []) pairs ends last) ≡ false →
      first_broken (state_checks table m o job pairs ends last) ≡ Some K5
  k5-by None e never = absurd (cc)
  k5-by (Some p) e never = rw (e, never) refl

  passes-by : (o : Option SystemState) → option_map_or (λ p. is_candidate table p.set.members job) o false ≡ true →
      has_shape table m (state_from table (option_map_or (λ p. with_number job p.set.members) o []) pairs ends last) ≡ true →
      first_broken (state_checks table m o job pairs ends last) ≡ None
  passes-by None e shape = absurd (cc)
  passes-by (Some p) e shape = rw (e, shape) refl

  pub no-child : has_candidate table before parent job ≡ false → checked ≡ Some K4
  no-child never = k4-by (slice_get before parent) never

  -- what is told of the state that a line gives
  pub record IsChild (held : HeldState) : Type 0 where
    pub is_state : held.state ≡ wanted
    pub candidate : has_candidate table before parent job ≡ true
    pub fit : IsFit table m held.state
    pub passes : checked ≡ None

  module _ (from : LevelState) (number : ℕ) (origin : IsOrigin table m before parent job from number) where
    abbrev state : SystemState
    state = from.state.state

    own-candidate : has_candidate table before parent job ≡ true
    own-candidate = rw origin.there (subst (λ j. is_candidate table state.set.members j ≡ true) origin.same_job origin.candidate)

    pub own-members : with_number number state.set.members ≡ child_members before parent job
    own-members = rw origin.there (ap (λ j. with_number j state.set.members) origin.same_job)

    pub child-k5 : FindsState table m wanted None → checked ≡ Some K5
    unfolding FindsState
    child-k5 never = k5-by (slice_get before parent) own-candidate never

    pub is-child : (held : HeldState) → FindsState table m wanted (Some held) → IsChild held
    unfolding FindsState
    is-child held given = record {
      is_state = given.is_state;
      candidate = own-candidate;
      fit = subst (IsFit table m) (sym given.is_state) given.fit;
      passes = passes-by (slice_get before parent) own-candidate given.shape;
    }

-- by a table, a number of cores and jobs that are equal
pub finds-same : (table other : Table) (m n : ℕ) (members jobs : List ℕ) (pairs : List Pair) (ends : List EndOf) (last : List ℕ) (found : Option HeldState) → other ≡ table → n ≡ m → members ≡ jobs →
    FindsState other n (state_from other members pairs ends last) found → FindsState table m (state_from table jobs pairs ends last) found
finds-same table other m n members jobs pairs ends last found same cores are given = rw (← same, ← cores, ← are) given

pub tested : (result b : Bool) (table' table : Table) (set' set : Subset) (job' job : ℕ) → result ≡ is_candidate table' set'.members job' → result ≡ b →
    table' ≡ table → set' ≡ set → job' ≡ job → is_candidate table set.members job ≡ b
tested result b table' table set' set job' job is test same_table same_set same_job = rw (← same_table, ← same_set, ← same_job) (sym is ∙ test)

-- what child_of_line found of a line, over a table and a number of cores that are those of the progress
module _ (h : HeldProgress) (table : Table) (m : ℕ) (same : table ≡ h.table) (cores : m ≡ h.cores)
    (parent job : ℕ) (pairs : List Pair) (ends : List EndOf) (last : List ℕ)
    (from : LevelState) (number : ℕ) (origin : IsOrigin h.table h.cores h.progress.before parent job from number) where
  abbrev parent_state : SystemState
  parent_state = from.state.state

  pub origin-state : IsState table m parent_state
  origin-state = subst (λ t. IsState t m parent_state) (sym same) (subst (λ n. IsState h.table n parent_state) (sym cores) origin.level_state.fit.is_state)

  pub origin-candidate : is_candidate table parent_state.set.members number ≡ true
  origin-candidate = subst (λ t. is_candidate t parent_state.set.members number ≡ true) (sym same) origin.candidate

  of-progress : (found : Option HeldState) → FindsState table m (state_from table (with_number number parent_state.set.members) pairs ends last) found →
      FindsState h.table h.cores (state_from h.table (child_members h.progress.before parent job) pairs ends last) found
  of-progress found given =
      finds-same h.table table h.cores m (with_number number parent_state.set.members) (child_members h.progress.before parent job) pairs ends last found same cores
      (own-members h.table h.cores h.progress.before parent job pairs ends last from number origin) given

  pub child-none : (found : Option HeldState) → found ≡ None →
      FindsState table m (state_from table (with_number number parent_state.set.members) pairs ends last) found → checked h.table h.cores h.progress.before parent job pairs ends last ≡ Some K5
  child-none found is given =
      child-k5 h.table h.cores h.progress.before parent job pairs ends last from number origin
      (subst (FindsState h.table h.cores (state_from h.table (child_members h.progress.before parent job) pairs ends last)) is (of-progress found given))

  pub child-found : (found : Option HeldState) (held : HeldState) → found ≡ Some held →
      FindsState table m (state_from table (with_number number parent_state.set.members) pairs ends last) found → IsChild h.table h.cores h.progress.before parent job pairs ends last held
  child-found found held is given =
      is-child h.table h.cores h.progress.before parent job pairs ends last from number origin held
      (subst (FindsState h.table h.cores (state_from h.table (child_members h.progress.before parent job) pairs ends last)) is (of-progress found given))

  -- the front of the parent is one of the child, and so is one that is found from there
  pub child-front : FrontsAreHandedDown → (held : HeldState) → IsChild h.table h.cores h.progress.before parent job pairs ends last held → IsFront table held.state.set.members from.front
  child-front fronts held child =
      subst (λ t. IsFront t held.state.set.members from.front) (sym same)
      (subst (λ xs. IsFront h.table xs from.front)
      (own-members h.table h.cores h.progress.before parent job pairs ends last from number origin ∙ sym (ap (λ (s : SystemState). s.set.members) child.is_state))
      (fronts.kept h.table parent_state.set.members from.front number origin.level_state.front))

  pub child-size : (held : HeldState) → IsChild h.table h.cores h.progress.before parent job pairs ends last held → held.state.set.size ≡ length table.jobs
  child-size held child = child.fit.is_state.of_table ∙ ap (λ (t : Table). length t.jobs) (sym same)
