-- What a root line breaks: K5 where its state has not the shape of one, and K3 where it does not widen the root.
use Rattle.std.proofs.Common.{◌≡◌, ℕ, true, false, List, Option, Some, None, refl, sym, subst}
use Rattle.job_model.specs.Table.{Table}
use Rattle.sag_step.specs.State.{SystemState, HeldState, root}
use Rattle.sag_step.specs.Widen.{widens}
use Rattle.cert_text.specs.declared.line.Pair.{Pair}
use Rattle.cert_text.specs.declared.line.CertLine.TheVariants as line
use Rattle.graph_check.specs.declared.clause.Clause.{Clause}
use Rattle.graph_check.specs.declared.clause.Clause.TheVariants.{K3, K5}
use Rattle.graph_check.specs.declared.due.Due.TheVariants as due
use Rattle.graph_check.specs.Entries.{root_from}
use Rattle.graph_check.specs.Progress.{Progress}
use Rattle.graph_check.specs.Checks.{first_broken, due_checks}
use Rattle.graph_check.specs.Turns.{IsFit}
use Rattle.graph_check.specs.Comings.{FindsState}

module _ (table : Table) (m : ℕ) (r : Progress) (pairs : List Pair) where
  abbrev checked : Option Clause
  checked = first_broken (due_checks table m r due.Root (line.Root pairs))

  pub root-k5 : FindsState table m (root_from table pairs) None → checked ≡ Some K5
  unfolding FindsState
  root-k5 never = rw never refl

  -- the state that was found
  pub record IsRoot (held : HeldState) : Type 0 where
    pub is_state : held.state ≡ root_from table pairs
    pub fit : IsFit table m held.state
    pub narrow : (other : SystemState) → other ≡ root table m → widens held.state other ≡ false → checked ≡ Some K3
    pub wide : (other : SystemState) → other ≡ root table m → widens held.state other ≡ true → checked ≡ None

  pub is-root : (held : HeldState) → FindsState table m (root_from table pairs) (Some held) → IsRoot held
  unfolding FindsState
  is-root held given = record {
    is_state = given.is_state;
    fit = subst (IsFit table m) (sym given.is_state) given.fit;
    narrow = λ other is no_wider. rw given.shape (rw (subst (λ (s : SystemState). widens s (root table m) ≡ false) given.is_state (subst (λ (o : SystemState). widens held.state o ≡ false) is no_wider)) refl);
    wide = λ other is wider. rw given.shape (rw (subst (λ (s : SystemState). widens s (root table m) ≡ true) given.is_state (subst (λ (o : SystemState). widens held.state o ≡ true) is wider)) refl);
  }
