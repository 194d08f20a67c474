-- A plan whose parts each come to one value comes to one value, over known files.
use Rattle.std.proofs.Common.{◌≡◌, ◌∙◌, ℕ, ◌⊎◌, inl, inr, List, Option, Some, Result, Ok, Err, refl, sym, ap, subst, cond, length, nat_lt}
use Rattle.sag_edge.specs.Contents.{Contents}
use Rattle.sag_texts.specs.declared.fault.FileKind.{FileKind}
use Rattle.sag_texts.specs.declared.fault.Fault.{Fault}
use Rattle.sag_texts.specs.declared.fault.Fault.TheVariants.{TooLong}
use Rattle.sag_engine.specs.Plan.{Plan, ◌>>=◌, ComesTo, file_plan, judged}
use Rattle.sag_engine.specs.Plan.Plan.{Ends, Reads, Judges}
use Rattle.sag_engine.proofs.PlanLemmas.{judged_so}

-- over these files the plan comes to one value
pub record IsOne {V : Type 0} (contents : Contents) (plan : Plan V) : Type 0 where
  pub one : (v w : V) → ComesTo plan (Some contents) v → ComesTo plan (Some contents) w → v ≡ w

pub ends_one : {V : Type 0} (contents : Contents) (v : V) → IsOne contents (Ends v)
ends_one contents v = record { one = λ a b is is'. sym is ∙ is' }

pub judged_one : {A : Type 0} (contents : Contents) (Holds : Result A Fault → Type 0) → ((v w : Result A Fault) → Holds v → Holds w → v ≡ w) → IsOne contents (judged Holds)
judged_one contents Holds same = record {
  one = λ v w comes comes'. same v w (judged_so Holds (Some contents) v comes) (judged_so Holds (Some contents) w comes');
}

pub file_one : (contents : Contents) (kind : FileKind) (name : List ℕ) (limit : ℕ) → IsOne contents (file_plan kind name limit)
file_one contents kind name limit = record {
  one = λ v w (bytes, is, ends) (bytes', is', ends').
      sym ends ∙ ap (λ b. cond (nat_lt limit (length b)) (Err (TooLong kind)) (Ok b)) (is ∙ sym is') ∙ ends';
}

-- how a plan of two parts ends: its first part refuses, or comes to a value and what follows ends
pub record Refused {A B : Type 0} (p : Plan (Result A Fault)) (m : Option Contents) (w : Result B Fault) : Type 0 where
  pub refusal : Fault
  pub comes : ComesTo p m (Err refusal)
  pub is : w ≡ Err refusal

pub record GoesOn {A B : Type 0} (p : Plan (Result A Fault)) (q : A → Plan (Result B Fault)) (m : Option Contents) (w : Result B Fault) : Type 0 where
  pub value : A
  pub comes : ComesTo p m (Ok value)
  pub ends : ComesTo (q value) m w

two_parts : {A B : Type 0} (p : Plan (Result A Fault)) (q : A → Plan (Result B Fault)) (m : Option Contents) (w : Result B Fault) → ComesTo (p >>= q) m w → Refused p m w ⊎ GoesOn p q m w
two_parts (Ends (Ok a)) q m w h = inr (record { value = a; comes = refl; ends = h })
two_parts (Ends (Err fault)) q m w h = inl (record { refusal = fault; comes = refl; is = sym h })
two_parts (Reads kind name go) q m w (bytes, t, h) = elim (two_parts (go bytes) q m w h) [
  | inl r ↦ inl (record { refusal = r.refusal; comes = (bytes, t, r.comes); is = r.is })
  | inr g ↦ inr (record { value = g.value; comes = (bytes, t, g.comes); ends = g.ends })
]
two_parts (Judges X Holds go) q m w (x, t, h) = elim (two_parts (go x) q m w h) [
  | inl r ↦ inl (record { refusal = r.refusal; comes = (x, t, r.comes); is = r.is })
  | inr g ↦ inr (record { value = g.value; comes = (x, t, g.comes); ends = g.ends })
]

module _ {A B : Type 0} (contents : Contents) (p : Plan (Result A Fault)) (q : A → Plan (Result B Fault)) (first : IsOne contents p)
    (rest : (a : A) → ComesTo p (Some contents) (Ok a) → IsOne contents (q a)) where
  both_refused : (v w : Result B Fault) → Refused p (Some contents) v → Refused p (Some contents) w → v ≡ w
  both_refused v w a b =
      let same : ◌≡◌ {A = Result A Fault} (Err a.refusal) (Err b.refusal) = first.one (Err a.refusal) (Err b.refusal) a.comes b.comes in
      let fault : a.refusal ≡ b.refusal = cc same in
      a.is ∙ ap Err fault ∙ sym b.is

  not_both : (v w : Result B Fault) → Refused p (Some contents) v → GoesOn p q (Some contents) w → ⊥
  not_both v w a b =
      let same : ◌≡◌ {A = Result A Fault} (Err a.refusal) (Ok b.value) = first.one (Err a.refusal) (Ok b.value) a.comes b.comes in
      cc same

  both_go_on : (v w : Result B Fault) → GoesOn p q (Some contents) v → GoesOn p q (Some contents) w → v ≡ w
  both_go_on v w a b =
      let same : ◌≡◌ {A = Result A Fault} (Ok a.value) (Ok b.value) = first.one (Ok a.value) (Ok b.value) a.comes b.comes in
      let value : b.value ≡ a.value = cc same in
      (rest a.value a.comes).one v w a.ends (subst (λ x. ComesTo (q x) (Some contents) w) value b.ends)

  one_end : (v w : Result B Fault) → Refused p (Some contents) v ⊎ GoesOn p q (Some contents) v → Refused p (Some contents) w ⊎ GoesOn p q (Some contents) w → v ≡ w
  one_end v w (inl a) (inl b) = both_refused v w a b
  one_end v w (inl a) (inr b) = absurd (not_both v w a b)
  one_end v w (inr a) (inl b) = absurd (not_both w v b a)
  one_end v w (inr a) (inr b) = both_go_on v w a b

  pub then_one : IsOne contents (p >>= q)
  then_one = record { one = λ v w comes comes'. one_end v w (two_parts p q (Some contents) v comes) (two_parts p q (Some contents) w comes') }
