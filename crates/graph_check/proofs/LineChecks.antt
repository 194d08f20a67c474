-- What a job line, a verdict line and an edge line break, by the tests of the code.
use Rattle.std.proofs.Common.{◌≡◌, ℕ, ◌<◌, ◌≤◌, Bool, true, false, ◌&&◌, List, length, Option, Some, None, refl, ap, sym, ◌∙◌, subst, inl, inr}
use Rattle.std.specs.Prelude.{nat_le, slice_get, IfSome, IsNone, IsSome, ◌==◌, ◌↔◌, if◌then◌else◌}
use Rattle.std.specs.Bool.{beq}
use Rattle.std.specs.List.{list_all}
use Rattle.std.specs.Option.{option_map}
use Rattle.std.proofs.lemmas.Bool.{eq-eqb, ne_eqb, le-leb, lt-leb, cases_lt}
use Rattle.job_model.specs.Table.{Table, job_at}
use Rattle.sag_time.specs.Interval.{Interval}
use Rattle.sag_step.specs.State.{SystemState}
use Rattle.sag_step.specs.Widen.{widens}
use Rattle.sag_step.specs.Offers.{Offer, offers}
use Rattle.cert_text.specs.declared.line.Mark.{Mark}
use Rattle.graph_check.specs.declared.clause.Clause.{Clause}
use Rattle.graph_check.specs.declared.clause.Clause.TheVariants.{K2, K6, K7, K8, K9, K10, K11}
use Rattle.graph_check.specs.declared.turn.Turn.{Turn}
use Rattle.graph_check.specs.Entries.{JobEntry, is_ok_mark}
use Rattle.graph_check.specs.Progress.{Progress}
use Rattle.graph_check.specs.Checks.{covers_hull, edge_checks, first_broken, job_checks}
use Rattle.graph_check.specs.Turns.{HeldTurns, offer_at, turn_of}
use Rattle.graph_check.specs.Comings.{HeldProgress, edge_offer}

some-is-no-none : (o : Option Interval) (span : Interval) → o ≡ Some span → IsNone o → ⊥
some-is-no-none o span is never = let f = subst IsNone is never in cc

-- ---- spans

pub span-is : (a : Interval) (lo hi : ℕ) → a.lo ≡ lo → a.hi ≡ hi → a ≡ record { lo = lo; hi = hi }
span-is a lo hi low high = rw (← low, ← high) refl

pub span-order : (o : Option Interval) (span : Interval) (lo hi : ℕ) → o ≡ Some span → IsNone o ↔ hi < lo → lo ≤ hi
span-order o span lo hi is none =
    elim (cases_lt hi lo) [ inl reversed ↦ absurd (let never = none.1 reversed in some-is-no-none o span is never) | inr order ↦ order ]

-- ---- a job line

module _ (table : Table) (r : Progress) (number lo hi : ℕ) (mark : Mark) where
  abbrev told : Option Clause
  told = first_broken (job_checks table r number (record { lo = lo; hi = hi }) mark)

  pub job-k2 : (number ≡ length r.jobs → ⊥) → Some K2 ≡ told
  job-k2 other = rw (ne_eqb number (length r.jobs) other) refl

  pub job-k9-order : number ≡ length r.jobs → hi < lo → Some K9 ≡ told
  job-k9-order is reversed = rw (eq-eqb number (length r.jobs) is, lt-leb lo hi reversed) refl

  pub job-k9-hull : number ≡ length r.jobs → lo ≤ hi → covers_hull r.hulls number (record { lo = lo; hi = hi }) ≡ false → Some K9 ≡ told
  job-k9-hull is order outside = rw (eq-eqb number (length r.jobs) is, le-leb lo hi order, outside) refl

  pub job-k10 : number ≡ length r.jobs → lo ≤ hi → covers_hull r.hulls number (record { lo = lo; hi = hi }) ≡ true →
      beq (is_ok_mark mark) (nat_le hi (job_at table number).deadline) ≡ false → Some K10 ≡ told
  job-k10 is order covered wrong = rw (eq-eqb number (length r.jobs) is, le-leb lo hi order, covered, wrong) refl

  pub job-passes : number ≡ length r.jobs → lo ≤ hi → covers_hull r.hulls number (record { lo = lo; hi = hi }) ≡ true →
      beq (is_ok_mark mark) (nat_le hi (job_at table number).deadline) ≡ true → None ≡ told
  job-passes is order covered right = rw (eq-eqb number (length r.jobs) is, le-leb lo hi order, covered, right) refl

-- the mark against the deadline, as the code compares them
pub marked-as : (b : Bool) (mark : Mark) (hi number : ℕ) (ok : Bool) (deadline : ℕ) (same : Bool) (table' table : Table) → ok ≡ is_ok_mark mark →
    deadline ≡ (job_at table' number).deadline → same ≡ beq ok (nat_le hi deadline) → table' ≡ table → same ≡ b → beq (is_ok_mark mark) (nat_le hi (job_at table number).deadline) ≡ b
marked-as b mark hi number ok deadline same table' table ok_is deadline_is same_is table_is is = rw (← ok_is, ← table_is, ← deadline_is) (sym same_is ∙ is)

-- ---- a verdict line

pub verdict-as : (b : Bool) (mark : Mark) (jobs : List JobEntry) (ok all same : Bool) → ok ≡ is_ok_mark mark → all ≡ list_all (λ s. is_ok_mark s.mark) jobs → same ≡ beq ok all → same ≡ b →
    beq (is_ok_mark mark) (list_all (λ s. is_ok_mark s.mark) jobs) ≡ b
verdict-as b mark jobs ok all same ok_is all_is same_is is = rw (← ok_is, ← all_is) (sym same_is ∙ is)

pub verdict-k11 : (b : Bool) → b ≡ false → Some K11 ≡ if b then None else Some K11
verdict-k11 b is = rw is refl

pub verdict-passes : (b : Bool) → b ≡ true → None ≡ if b then None else Some K11
verdict-passes b is = rw is refl

-- ---- an edge line

pub edge-offer-is : (h : HeldProgress) → edge_offer h ≡ slice_get (offers h.table h.progress.before) h.progress.edges
unfolding edge_offer
edge-offer-is h = refl

pub edge-offer-at : (h : HeldProgress) → edge_offer h ≡ offer_at (record { table = h.table; cores = h.cores; level = h.progress.before; passed = h.progress.edges })
unfolding edge_offer offer_at
edge-offer-at h = refl

-- by an offer that is told
pub record IsTold (o : Option Offer) (turn : Turn) : Type 0 where
  pub offer : Offer
  pub is : o ≡ Some offer
  pub named : turn ≡ turn_of offer

pub is-told : (o : Option Offer) (turn : Turn) → Some turn ≡ option_map turn_of o → IsTold o turn
is-told None turn e = absurd (cc)
is-told (Some x) turn e = record { offer = x; is = refl; named = cc }

none-told : (o : Option Offer) → None ≡ option_map turn_of o → o ≡ None
none-told None e = refl
none-told (Some x) e = absurd (cc)

module _ (h : HeldProgress) (from job est lst to : ℕ) where
  abbrev edge-told : Option Offer → Option Clause
  edge-told o = first_broken (edge_checks h.progress.states o from job est lst to)

  abbrev walk : HeldTurns
  walk = record { table = h.table; cores = h.cores; level = h.progress.before; passed = h.progress.edges }

  pub edge-none : None ≡ option_map turn_of (offer_at walk) → Some K6 ≡ edge-told (edge_offer h)
  edge-none none = ap edge-told (sym (edge-offer-at h ∙ none-told (offer_at walk) none))

  module _ (turn : Turn) (told_turn : Some turn ≡ option_map turn_of (offer_at walk)) where
    pub there : IsTold (offer_at walk) turn
    there = is-told (offer_at walk) turn told_turn

    by-offer : (clause : Option Clause) → clause ≡ edge-told (Some there.offer) → clause ≡ edge-told (edge_offer h)
    by-offer clause e = e ∙ ap edge-told (sym (edge-offer-at h ∙ there.is))

    pub edge-left : IsSome (edge_offer h)
    edge-left = subst IsSome (sym (edge-offer-at h ∙ there.is)) refl

    pub edge-walk-left : IsSome (offer_at walk)
    edge-walk-left = subst IsSome (sym there.is) refl

    pub edge-k6 : (from == turn.from) && (job == turn.job) ≡ false → Some K6 ≡ edge-told (edge_offer h)
    edge-k6 other = by-offer (Some K6) (let e = subst (λ (t : Turn). (from == t.from) && (job == t.job) ≡ false) there.named other in rw e refl)

    module _ (same : (from == turn.from) && (job == turn.job) ≡ true) where
      same-offer : (from == there.offer.from) && (job == there.offer.job) ≡ true
      same-offer = subst (λ (t : Turn). (from == t.from) && (job == t.job) ≡ true) there.named same

      pub edge-k7 : (est == turn.window.est) && (lst == turn.window.lst) ≡ false → Some K7 ≡ edge-told (edge_offer h)
      edge-k7 other = by-offer (Some K7) (let e = subst (λ (t : Turn). (est == t.window.est) && (lst == t.window.lst) ≡ false) there.named other in rw (same-offer, e) refl)

      module _ (same_window : (est == turn.window.est) && (lst == turn.window.lst) ≡ true) where
        same-offer-window : (est == there.offer.window.est) && (lst == there.offer.window.lst) ≡ true
        same-offer-window = subst (λ (t : Turn). (est == t.window.est) && (lst == t.window.lst) ≡ true) there.named same_window

        pub edge-k8-none : slice_get h.progress.states to ≡ None → Some K8 ≡ edge-told (edge_offer h)
        edge-k8-none none = by-offer (Some K8) (rw (same-offer, same-offer-window, none) refl)

        -- what the walk says of the state
        pub walk-says : (s : SystemState) (b : Bool) → IfSome (offer_at walk) (λ offer. b ≡ widens s offer.next) → widens s there.offer.next ≡ b
        walk-says s b says = sym (subst (λ o. IfSome o (λ offer. b ≡ widens s offer.next)) there.is says)

        pub edge-k8 : (s : SystemState) → slice_get h.progress.states to ≡ Some s → widens s there.offer.next ≡ false → Some K8 ≡ edge-told (edge_offer h)
        edge-k8 s is narrow = by-offer (Some K8) (rw (same-offer, same-offer-window, is, narrow) refl)

        pub edge-passes : (s : SystemState) → slice_get h.progress.states to ≡ Some s → widens s there.offer.next ≡ true → None ≡ edge-told (edge_offer h)
        edge-passes s is wide = by-offer None (rw (same-offer, same-offer-window, is, wide) refl)
