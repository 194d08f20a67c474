use Rattle.std.proofs.Common.{arith, sym, ◌∙◌, length, ◌≡◌, subst, ◌++◌, ◌∷◌, [], false}
use Rattle.std.specs.Prelude.{IfOk, OnOk, Result, Ok, Err, is_err}
use Rattle.state_merge.specs.Index.{IsIndex}
use Rattle.state_merge.specs.SameSet.{sets_of}
use Rattle.sag_step.specs.State.{states_of}
use Rattle.state_merge.proofs.SetLemmas.{index-count, index-put, index-new, new-key, sets-count}
use Rattle.state_merge.proofs.level_index.note.Goals as goal

pub put-requires : goal.put-requires
put-requires c = omega (arith, c.in-Some.ensures.within, index-count (sets_of (states_of c.args.states.now)) c.args.sets.now.keys c.args.numbers.now c.requires.index)

-- what follows from an answer Ok
on-ok : {T E P Q : Type 0} (r : Result T E) → (P → Q) → OnOk r P → OnOk r Q
on-ok (Ok x) f p = f p
on-ok (Err x) f p = p

if-ok : {T E : Type 0} {P : T → Type 0} {Q : Type 0} (r : Result T E) → is_err r ≡ false → ((x : T) → P x → Q) → IfOk r P → Q
if-ok (Ok x) e f p = f x p
if-ok (Err x) e f p = absurd (cc)

pub returns-in-Some-clause-index : goal.returns-in-Some-clause-index
returns-in-Some-clause-index c =
    let sets = sets_of (states_of c.args.states.now) in
    let count : c.args.no ≡ length sets = c.requires.number ∙ sym (sets-count c.args.states.now) in
    on-ok c.put.result
    (λ e. subst (IsIndex (sets ++ c.args.set.now ∷ []) c.args.sets.now.keys) (sym e)
    (index-put sets c.args.sets.now.keys c.args.numbers.now c.args.set.now c.args.no c.in-Some.place c.requires.index count c.len-count.ensures.unique (sym c.in-Some.ensures.index)))
    c.put.ensures.ok

pub returns-else-is_err-clause-index : goal.returns-else-is_err-clause-index
returns-else-is_err-clause-index c =
    let sets = sets_of (states_of c.args.states.now) in
    let count : c.args.no ≡ length sets = c.requires.number ∙ sym (sets-count c.args.states.now) in
    let keys : c.insert.new.self.keys ≡ c.args.sets.now.keys ++ c.args.set.now ∷ [] =
    if-ok c.insert.result (sym c.if-is_err.ensures.value) (λ r e. new-key c.args.set.now c.in_ok-key-in-None.key c.args.sets.now.keys c.insert.new.self.keys c.in_ok-key-in-None.ensures.same (sym c.in-None.ensures.index) e)
    c.insert.ensures.keys in
    rw (keys, c.in_ok-begin-in-None.ensures.ok)
    (index-new sets c.args.sets.now.keys c.args.numbers.now c.args.set.now c.args.no c.requires.index count (sym c.in-None.ensures.index))
