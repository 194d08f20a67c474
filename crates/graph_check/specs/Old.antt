-- Valid certificates of the old version, whose states know no last jobs.
--     old_next table state j window     the state once job j has started in its window
--     old_widens a b                    the sets are equal, and all that is possible by b is possible by a
--     LeadsToOldWider table             an edge leads to a state that widens the next state of its offer
--     ListsNoLast block                   no state of the level lists a last job
--     OldValid table m lines            the lines are those of a certificate without last jobs that keeps the clauses by these
use Rattle.std.specs.Prelude.{◌≡◌, ℕ, ◌&&◌, Bool, List, [], nat_le, slice_get, IsSomeAnd, IsTrue}
use Rattle.std.specs.Cmp.Lexicographic.{pointwise}
use Rattle.std.specs.List.{AllByRecursion}
use Rattle.std.specs.Ordering.{nat_cmp}
use Rattle.std.specs.BTreeMap.{insert_entry}
use Rattle.job_sets.specs.Subset.{with_number}
use Rattle.job_model.specs.Table.{Table}
use Rattle.sag_time.specs.Sorted.{after_start}
use Rattle.start_windows.specs.declared.StartWindow.{StartWindow}
use Rattle.sag_step.specs.State.{SystemState}
use Rattle.sag_step.specs.Next.{finish_interval, still_tracked}
use Rattle.sag_step.specs.Widen.{same_set, end_covers}
use Rattle.sag_step.specs.Offers.{Offer}
use Rattle.cert_text.specs.declared.line.CertLine.{CertLine}
use Rattle.graph_check.specs.Certificate.{Block, Certificate, EdgeEntry, lines_of}
use Rattle.graph_check.specs.Valid.{KeepsBy}

-- Job j takes the core that is free first. It is the next to start, so no core is free for another job before.
abbrev pub old_next : Table → SystemState → ℕ → StartWindow → SystemState
old_next table state j window =
    let finish = finish_interval table j window in
    let set = with_number j state.set.members in
    record {
      set = record { size = state.set.size; members = set };
      low = after_start window.est finish.lo state.low;
      high = after_start window.est finish.hi state.high;
      ends = still_tracked table set (insert_entry nat_cmp state.ends j finish);
      last = record { size = state.last.size; members = [] };
    }

-- The sets are equal, and each interval of b, of availability or of an end, is in that of a.
abbrev pub old_widens : SystemState → SystemState → Bool
old_widens a b = same_set a.set b.set && pointwise nat_le a.low b.low && pointwise nat_le b.high a.high && pointwise end_covers a.ends b.ends

-- The edge leads to a state of the level that widens what follows from its offer's state in the level before.
abbrev pub LeadsToOldWider : Table → List SystemState → List SystemState → EdgeEntry → Offer → Type 0
LeadsToOldWider table before states edge offer =
    IsSomeAnd (slice_get before offer.from) (λ from.
    IsSomeAnd (slice_get states edge.to) (λ to. IsTrue (old_widens to (old_next table from offer.job offer.window))))

-- no state of the level lists a last job
abbrev pub ListsNoLast : Block → Type 0
ListsNoLast block = AllByRecursion (λ s. s.last ≡ []) block.states

-- The lines are those of a certificate without last jobs that keeps the clauses by the old steps.
pub record OldValid (table : Table) (m : ℕ) (lines : List CertLine) : Type 0 where
  pub certificate : Certificate
  pub in_order : lines ≡ lines_of certificate
  pub no_last : AllByRecursion ListsNoLast certificate.blocks
  pub keeps : KeepsBy old_widens (LeadsToOldWider table) table m certificate
