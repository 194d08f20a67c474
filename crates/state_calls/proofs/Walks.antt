-- States that some steps from the root lead to.
use Rattle.std.proofs.Common.{◌≡◌, ℕ, zero, suc, true, ◌+◌, ◌*◌, ◌<◌, ◌≤◌, length, replicate, Option, refl, ap, sym, subst, ◌∙◌, arith}
use Rattle.std.specs.Prelude.{Some, nat_le}
use Rattle.std.specs.List.{list_all}
use Rattle.std.proofs.lemmas.Bool.{and_from, le-leb}
use Rattle.job_sets.specs.Subset.{Subset}
use Rattle.job_model.specs.declared.limits.TheConstants.{MOST_ARRIVAL, MOST_COST}
use Rattle.job_model.specs.Table.{Table, IsTable}
use Rattle.sag_time.specs.Interval.{Interval}
use Rattle.start_windows.specs.declared.StartWindow.{StartWindow}
use Rattle.start_windows.specs.Ends.{HeldEnds}
use Rattle.start_windows.specs.Window.{start_window}
use Rattle.sag_step.specs.declared.TheConstants.{MOST_STEP_TIME, MOST_TIME}
use Rattle.sag_step.specs.State.{SystemState, HeldState, root, first_core, state_window}
use Rattle.sag_step.specs.Shape.{IsState, IsUpTo, Shaped}
use Rattle.sag_step.specs.Next.{next}
use Rattle.sag_step.proofs.NextStates.{IsUpTo-weaker, next_is_state, next_is_up_to}
use Rattle.sag_step.specs.Laws.{RootIsShaped}

-- what k steps from the root keep
pub record IsReached (table : Table) (m k : ℕ) (state : SystemState) : Type 0 where
  pub is_state : IsState table m state
  pub within : IsUpTo (MOST_ARRIVAL + k * MOST_COST) state

zeros-up_to : (limit m : ℕ) → list_all (λ t. nat_le t limit) (replicate m 0) ≡ true
zeros-up_to limit zero = refl
zeros-up_to limit (suc m) = and_from (nat_le 0 limit) (list_all (λ t. nat_le t limit) (replicate m 0)) (le-leb 0 limit (omega arith)) (zeros-up_to limit m)

module _ (table : Table) (m : ℕ) where
  pub IsReached-root : RootIsShaped → (held : HeldState) (room : ℕ) → held ≡ record { state = root table m; room = room } → 0 < m → IsReached table m 0 held.state
  IsReached-root root_is_shaped held room is some = subst (λ (h : HeldState). IsReached table m 0 h.state) (sym is) (record {
    is_state = (root_is_shaped table m some).is_state;
    within = record { low = zeros-up_to MOST_ARRIVAL m; high = zeros-up_to MOST_ARRIVAL m; ends = refl };
  })

  -- the room that a step needs
  pub scratch_room : (held : HeldState) → held ≡ record { state = root table m; room = length table.jobs } → held.room ≡ length table.jobs
  scratch_room held is = ap (λ (h : HeldState). h.room) is

  module _ (k : ℕ) (state : SystemState) (reached : IsReached table m k state) where
    pub IsReached-next : (j : ℕ) (window : StartWindow) → IsTable table → state_window table state j ≡ Some window → IsReached table m (k + 1) (next table state j window)
    IsReached-next j window is_table eligible =
        let more : MOST_ARRIVAL + k * MOST_COST + MOST_COST ≡ MOST_ARRIVAL + (k + 1) * MOST_COST = omega arith in
        record {
          is_state = next_is_state table m state j window is_table reached.is_state eligible;
          within =
              subst (λ n. IsUpTo n (next table state j window)) more
              (next_is_up_to table state j window (MOST_ARRIVAL + k * MOST_COST) is_table reached.within (omega arith) eligible);
        }

    pub leaves_room : k ≤ 3 → IsUpTo MOST_STEP_TIME state
    leaves_room few = IsUpTo-weaker (MOST_ARRIVAL + k * MOST_COST) MOST_STEP_TIME state (omega (arith, few)) reached.within

    pub Shaped-reached : k ≤ 3 → Shaped table m state
    Shaped-reached few = record {
      is_state = reached.is_state;
      in_limit = IsUpTo-weaker MOST_STEP_TIME MOST_TIME state (omega arith) (leaves_room few);
    }

    -- a state on as many cores
    pub on_its_cores : (other : SystemState) → IsState table m other → IsState table (length state.low) other
    on_its_cores other is_state = subst (λ n. IsState table n other) (sym reached.is_state.shape.low_count) is_state

-- the window that is found by what a state hands out
pub state_window-from : (table : Table) (state : SystemState) (room j : ℕ) (window : StartWindow) (set : Subset) (ends : HeldEnds) (first : Interval) (found : Option StartWindow) →
    set ≡ state.set → ends ≡ record { items = state.ends; room = room } → first ≡ first_core state →
    found ≡ start_window table set.members ends.items first j → found ≡ Some window → state_window table state j ≡ Some window
state_window-from table state room j window set ends first found of_set of_ends of_first is some =
    sym (λ i. start_window table ((of_set i).members) ((of_ends i).items) (of_first i) j) ∙ sym is ∙ some
