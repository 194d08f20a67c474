-- The hulls with one more edge, as they stand in memory.
use Rattle.std.proofs.Common.{◌≡◌, ℕ, ◌+◌, ◌<◌, ◌≤◌, List, get_or, set, length, Option, Some, refl, ap, sym, ◌∙◌, subst}
use Rattle.std.specs.Option.{option_map_or}
use Rattle.std.proofs.lemmas.List.Elements.{All-get_or}
use Rattle.std.proofs.lemmas.Option.{slice_get_read}
use Rattle.job_model.specs.declared.job_row.Job.{Job}
use Rattle.job_model.specs.declared.limits.TheConstants.{MOST_COST}
use Rattle.job_model.specs.Table.{Table, IsTable, IsJob, job_at, no_job}
use Rattle.sag_time.specs.Interval.{Interval, hull}
use Rattle.start_windows.specs.declared.StartWindow.{StartWindow}
use Rattle.sag_step.specs.Next.{finish_interval}
use Rattle.graph_check.specs.Kept.{hulls_with}
use Rattle.graph_check.specs.Comings.{HeldProgress}

interval-is : (a : Interval) (lo hi : ℕ) → a.lo ≡ lo → a.hi ≡ hi → a ≡ record { lo = lo; hi = hi }
interval-is a lo hi low high = rw (← low, ← high) refl

-- when the job finishes
pub finish-is : (table : Table) (job est lst : ℕ) (work : Job) (finish : Interval) → work ≡ job_at table job → finish.lo ≡ est + work.cmin → finish.hi ≡ lst + work.cmax →
    finish ≡ finish_interval table job (record { est = est; lst = lst })
finish-is table job est lst work finish is low high =
    interval-is finish (est + (job_at table job).cmin) (lst + (job_at table job).cmax) (low ∙ ap (λ (w : Job). est + w.cmin) is) (high ∙ ap (λ (w : Job). lst + w.cmax) is)

pub hulls-set : (hulls : List (Option Interval)) (job : ℕ) (finish wide : Interval) (others : Option Interval) → job < length hulls → others ≡ get_or hulls job others →
    wide ≡ option_map_or (hull finish) others finish → set hulls job (Some wide) ≡ hulls_with hulls job finish
hulls-set hulls job finish wide others lt is wide_is =
    rw (slice_get_read hulls (length hulls) job others refl lt is) (ap (λ w. set hulls job (Some w)) wide_is)

pub widened : (h old : HeldProgress) → h ≡ old → (hulls : List (Option Interval)) (job : ℕ) (window : StartWindow) → hulls ≡ hulls_with h.progress.hulls job (finish_interval h.table job window) →
    ◌≡◌ {A = HeldProgress} (record h { progress = record h.progress { hulls = hulls } })
    (record old { progress = record old.progress { hulls = hulls_with old.progress.hulls job (finish_interval old.table job window) } })
widened h old is hulls job window are =
    ap (λ hs. record h { progress = record h.progress { hulls = hs } }) are
    ∙ ap (λ (k : HeldProgress). record k { progress = record k.progress { hulls = hulls_with k.progress.hulls job (finish_interval k.table job window) } }) is

-- the costs of a job are few
pub record AreCosts (work : Job) : Type 0 where
  pub order : work.cmin ≤ work.cmax
  pub few : work.cmax ≤ MOST_COST

pub are-costs : (table : Table) (job : ℕ) (work : Job) → IsTable table → job < length table.jobs → work ≡ job_at table job → AreCosts work
are-costs table job work is_table lt is =
    let a = All-get_or IsJob table.jobs job no_job lt is_table.jobs in
    subst AreCosts (sym is) (record { order = a.costs; few = a.cost_limit })
