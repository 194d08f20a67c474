-- The machine takes each line's spelling to its end.
use Rattle.std.proofs.Common.{◌≡◌, ℕ, ◌+◌, ◌<◌, ◌≤◌, ◌==◌, nat_lt, Bool, true, false, cond, List, [], ◌∷◌}
use Rattle.std.proofs.Common.{◌++◌, length, refl, sym, ap, subst, ◌∙◌, inl, inr, append_assoc, append-nil, arith, codes, length-append}
use Rattle.std.specs.Prelude.{decimal}
use Rattle.std.specs.List.{flat_map, AllByRecursion}
use Rattle.std.proofs.lemmas.Bool.{ne_eqb, lt-ltb, eq-eqb}
use Rattle.cert_text.specs.declared.line.Pair.{Pair}
use Rattle.cert_text.specs.declared.line.EndOf.{EndOf}
use Rattle.cert_text.specs.declared.line.Mark.{Mark}
use Rattle.cert_text.specs.declared.line.Mark.TheVariants as mark
use Rattle.cert_text.specs.declared.line.CertLine.{CertLine}
use Rattle.cert_text.specs.declared.line.CertLine.TheVariants as line
use Rattle.cert_text.specs.declared.grammar.Grammar.{Grammar}
use Rattle.cert_text.specs.declared.spot.Standing.{Standing}
use Rattle.cert_text.specs.declared.spot.Standing.TheVariants as standing
use Rattle.cert_text.specs.declared.spot.Word.TheVariants as word
use Rattle.cert_text.specs.declared.spot.NumberAt.{NumberAt}
use Rattle.cert_text.specs.declared.spot.NumberAt.TheVariants as place
use Rattle.cert_text.specs.declared.spot.Marked.{Marked}
use Rattle.cert_text.specs.declared.spot.Marked.TheVariants as marked
use Rattle.cert_text.specs.declared.spot.Spot.{Spot}
use Rattle.cert_text.specs.declared.spot.Spot.TheVariants as spot
use Rattle.cert_text.specs.Grammar.{IsCertNumber}
use Rattle.cert_text.specs.Spelling.{FitsPair, FitsEnd, FitsPairs, FitsState, line_text, head_word, mark_text}
use Rattle.cert_text.specs.Spelling.{pair_item_text, end_item_text, last_item_text, state_front, state_pairs, state_ends, state_last}
use Rattle.cert_text.specs.Machine.{Draft, no_items, Step, On, Whole, Wrong, is_digit, first_digit, add_pair, add_end, add_last, after_ends, after_last, marked_line, byte_step, byte_steps}
use Rattle.cert_text.proofs.Digits.{cases_bool, digit-true, chain, number}

-- a number and the byte behind it
pub field : (g : Grammar) (s : Standing) (d : Draft) (p : NumberAt) (n : ℕ) (after : ℕ) (now next : Step) (text : List ℕ) → IsCertNumber n
    → byte_steps g s now text ≡ On d (spot.Due p) → byte_steps g s (On d (spot.Digits p n)) (after ∷ []) ≡ next
    → byte_steps g s now (text ++ decimal n ++ after ∷ []) ≡ next
field g s d p n after now next text fits before behind =
    chain g s now (On d (spot.Digits p n)) next (text ++ decimal n) (after ∷ [])
    (chain g s now (On d (spot.Due p)) (On d (spot.Digits p n)) text (decimal n) before (number g s d (spot.Due p) p n fits (λ b h. refl))) behind

head_begun : (g : Grammar) → byte_steps g standing.First (On no_items spot.Start) (head_word g) ≡ On no_items (spot.Due place.HeadJobs)
head_begun g =
    let v : (g.version == g.version) ≡ true = eq-eqb g.version g.version refl in
    chain g standing.First (On no_items spot.Start) (On no_items (spot.InWord word.Head 8)) (On no_items (spot.Due place.HeadJobs)) (codes "sagcert ") (g.version ∷ 32 ∷ []) refl
    (ap (λ (b : Bool). byte_steps g standing.First (cond b (On no_items (spot.InWord word.Head 9)) Wrong) (32 ∷ [])) v)

pub mark_read : (g : Grammar) (s : Standing) (d : Draft) (to : Marked) (m : Mark) → byte_steps g s (On d (spot.MarkDue to)) (mark_text m) ≡ Whole (marked_line to m)
mark_read g s d to mark.Ok = refl
mark_read g s d to mark.Miss = refl

abbrev TakesSpelling : Grammar → Standing → CertLine → Type 0
TakesSpelling g s l = byte_steps g s (On no_items spot.Start) (line_text g l) ≡ Whole l

pub head_taken : (g : Grammar) (jobs cores : ℕ) → IsCertNumber jobs → IsCertNumber cores → TakesSpelling g standing.First (line.Head jobs cores)
head_taken g jobs cores a b =
    let w : byte_steps g standing.First (On no_items spot.Start) (head_word g) ≡ On no_items (spot.Due place.HeadJobs) = head_begun g in
    field g standing.First no_items (place.HeadCores jobs) cores 10 (On no_items spot.Start) (Whole (line.Head jobs cores)) (head_word g ++ decimal jobs ++ 32 ∷ []) b
    (field g standing.First no_items place.HeadJobs jobs 32 (On no_items spot.Start) (On no_items (spot.Due (place.HeadCores jobs))) (head_word g) a w refl)
    refl

pub level_taken : (g : Grammar) (number count : ℕ) → IsCertNumber number → IsCertNumber count → TakesSpelling g standing.Inside (line.Level number count)
level_taken g number count a b =
    let s = standing.Inside in let now = On no_items spot.Start in let at = λ (p : NumberAt). On no_items (spot.Due p) in
    field g s no_items (place.LevelCount number) count 10 now (Whole (line.Level number count)) (codes "level " ++ decimal number ++ 32 ∷ []) b
    (field g s no_items place.LevelNumber number 32 now (at (place.LevelCount number)) (codes "level ") a refl refl)
    refl

pub edge_taken : (g : Grammar) (from job est lst to : ℕ) → IsCertNumber from → IsCertNumber job → IsCertNumber est → IsCertNumber lst → IsCertNumber to
    → TakesSpelling g standing.Inside (line.Edge from job est lst to)
edge_taken g from job est lst to a b c d e =
    let s = standing.Inside in let now = On no_items spot.Start in let at = λ (p : NumberAt). On no_items (spot.Due p) in
    let t1 = codes "edge " in let t2 = t1 ++ decimal from ++ 32 ∷ [] in let t3 = t2 ++ decimal job ++ 32 ∷ [] in let t4 = t3 ++ decimal est ++ 32 ∷ [] in let t5 = t4 ++ decimal lst ++ 32 ∷ [] in
    field g s no_items (place.EdgeTo from job est lst) to 10 now (Whole (line.Edge from job est lst to)) t5 e
    (field g s no_items (place.EdgeLst from job est) lst 32 now (at (place.EdgeTo from job est lst)) t4 d
    (field g s no_items (place.EdgeEst from job) est 32 now (at (place.EdgeLst from job est)) t3 c
    (field g s no_items (place.EdgeJob from) job 32 now (at (place.EdgeEst from job)) t2 b
    (field g s no_items place.EdgeFrom from 32 now (at (place.EdgeJob from)) t1 a refl refl) refl) refl) refl) refl

pub job_taken : (g : Grammar) (n lo hi : ℕ) (m : Mark) → IsCertNumber n → IsCertNumber lo → IsCertNumber hi → TakesSpelling g standing.Inside (line.Job n lo hi m)
job_taken g n lo hi m a b c =
    let s = standing.Inside in let now = On no_items spot.Start in let at = λ (p : NumberAt). On no_items (spot.Due p) in
    let t1 = codes "job " in let t2 = t1 ++ decimal n ++ 32 ∷ [] in let t3 = t2 ++ decimal lo ++ 32 ∷ [] in let t4 = t3 ++ decimal hi ++ 32 ∷ [] in
    chain g s now (On no_items (spot.MarkDue (marked.Job n lo hi))) (Whole (line.Job n lo hi m)) t4 (mark_text m)
    (field g s no_items (place.JobHi n lo) hi 32 now (On no_items (spot.MarkDue (marked.Job n lo hi))) t3 c
    (field g s no_items (place.JobLo n) lo 32 now (at (place.JobHi n lo)) t2 b
    (field g s no_items place.JobNumber n 32 now (at (place.JobLo n)) t1 a refl refl) refl) refl)
    (mark_read g s no_items (marked.Job n lo hi) m)

pub verdict_taken : (g : Grammar) (m : Mark) → TakesSpelling g standing.Inside (line.Verdict m)
verdict_taken g m =
    chain g standing.Inside (On no_items spot.Start) (On no_items (spot.MarkDue marked.Verdict))
    (Whole (line.Verdict m)) (codes "verdict ") (mark_text m) refl (mark_read g standing.Inside no_items marked.Verdict m)

pub end_taken : (g : Grammar) → TakesSpelling g standing.Inside line.End
end_taken g = refl

-- ---- pairs

-- a pair behind a spot that a space leads to
pub pair_read : (g : Grammar) (s : Standing) (now : Step) (d : Draft) (gap : Spot) (low high : NumberAt) (p : Pair) → FitsPair p
    → byte_steps g s now (32 ∷ []) ≡ On d gap
    → ((b : ℕ) → is_digit b ≡ true → byte_step g s d gap b ≡ first_digit d low b)
    → byte_step g s d (spot.Digits low p.lo) 58 ≡ On d (spot.Due high)
    → byte_steps g s now (pair_item_text p) ≡ On d (spot.Digits high p.hi)
pair_read g s now d gap low high p fits space first colon =
    chain g s now (On d (spot.Due high)) (On d (spot.Digits high p.hi)) (32 ∷ [] ++ decimal p.lo ++ 58 ∷ []) (decimal p.hi)
    (chain g s now (On d (spot.Digits low p.lo)) (On d (spot.Due high)) (32 ∷ [] ++ decimal p.lo) (58 ∷ [])
    (chain g s now (On d gap) (On d (spot.Digits low p.lo)) (32 ∷ []) (decimal p.lo) space (number g s d gap low p.lo fits.0 first))
    colon)
    (number g s d (spot.Due high) high p.hi fits.1 (λ b h. refl))

root_pairs : (g : Grammar) (ps : List Pair) (d : Draft) (p : Pair) → length d.pairs + 1 + length ps ≤ g.most_pairs → AllByRecursion FitsPair ps
    → byte_steps g standing.Inside (On d (spot.Digits (place.RootHi p.lo) p.hi)) (flat_map pair_item_text ps ++ 10 ∷ []) ≡ Whole (line.Root (d.pairs ++ p ∷ [] ++ ps))
root_pairs g [] d p few fits = ap (λ (qs : List Pair). Whole (line.Root qs)) (sym (append-nil (d.pairs ++ p ∷ [])))
root_pairs g (q ∷ qs) d p few fits =
    let s = standing.Inside in
    let now = On d (spot.Digits (place.RootHi p.lo) p.hi) in
    let e = add_pair d p in
    let room : nat_lt (length (d.pairs ++ p ∷ [])) g.most_pairs ≡ true = lt-ltb _ _ (omega (arith, length-append d.pairs (p ∷ []))) in
    let space : byte_steps g s now (32 ∷ []) ≡ On e (spot.Due place.RootLo) = rw room refl in
    let one = pair_read g s now e (spot.Due place.RootLo) place.RootLo (place.RootHi q.lo) q fits.0 space (λ b h. refl) refl in
    let more = root_pairs g qs e q (omega (arith, length-append d.pairs (p ∷ []))) fits.1 in
    ap (λ (t : List ℕ). byte_steps g s now t) (append_assoc (pair_item_text q) (flat_map pair_item_text qs) (10 ∷ []))
    ∙ chain g s now (On e (spot.Digits (place.RootHi q.lo) q.hi)) (Whole (line.Root (d.pairs ++ p ∷ [] ++ q ∷ [] ++ qs))) (pair_item_text q) (flat_map pair_item_text qs ++ 10 ∷ []) one more
    ∙ ap (λ (rs : List Pair). Whole (line.Root rs)) (append_assoc (d.pairs ++ p ∷ []) (q ∷ []) qs)

pub root_taken : (g : Grammar) (ps : List Pair) → FitsPairs g ps → TakesSpelling g standing.Inside (line.Root ps)
root_taken g [] fits = absurd (omega (arith, fits.some))
root_taken g (p ∷ ps) fits =
    let s = standing.Inside in
    let now = On no_items spot.Start in
    let behind = On no_items (spot.InWord word.Root 4) in
    let one = pair_read g s behind no_items (spot.Due place.RootLo) place.RootLo (place.RootHi p.lo) p fits.each.0 refl (λ b h. refl) refl in
    let more = root_pairs g ps no_items p (omega (arith, fits.few)) fits.each.1 in
    ap (λ (t : List ℕ). byte_steps g s now t) (append_assoc (codes "root") (pair_item_text p ++ flat_map pair_item_text ps)
    (10 ∷ []) ∙ ap (λ (t : List ℕ). codes "root" ++ t) (append_assoc (pair_item_text p) (flat_map pair_item_text ps) (10 ∷ [])))
    ∙ chain g s now behind (Whole (line.Root (p ∷ ps))) (codes "root") (pair_item_text p ++ (flat_map pair_item_text ps ++ 10 ∷ [])) refl
    (chain g s behind (On no_items (spot.Digits (place.RootHi p.lo) p.hi)) (Whole (line.Root (p ∷ ps))) (pair_item_text p) (flat_map pair_item_text ps ++ 10 ∷ []) one more)

-- ---- states

-- a spot of a state line, with the items so far, that waits for what may follow a pair, or an end, or a number of the last part
abbrev pub BehindPairs : Grammar → Draft → ℕ → ℕ → Step → Type 0
BehindPairs g d parent job now = byte_steps g standing.Inside now (32 ∷ []) ≡ On d (spot.PairGap parent job)

abbrev pub BehindEnds : Grammar → Draft → ℕ → ℕ → Step → Type 0
BehindEnds g d parent job now = (b : ℕ) → is_digit b ≡ false → byte_steps g standing.Inside now (b ∷ []) ≡ after_ends g d parent job b

abbrev pub BehindLast : Grammar → Draft → ℕ → ℕ → Step → Type 0
BehindLast g d parent job now = (b : ℕ) → is_digit b ≡ false → byte_steps g standing.Inside now (b ∷ []) ≡ after_last g d parent job b

-- what reading items leads to
pub record Comes (P : Step → Type 0) (g : Grammar) (now : Step) (text : List ℕ) : Type 0 where
  pub then : Step
  pub led : byte_steps g standing.Inside now text ≡ then
  pub so : P then

pub bar_no_digit : (b : ℕ) → is_digit b ≡ true → (b == 124) ≡ false
bar_no_digit b h = let r = digit-true b h in ne_eqb b 124 (λ e. omega (arith, e, r.1))

gap_first : (g : Grammar) (d : Draft) (parent job : ℕ) → length d.pairs < g.most_pairs → (b : ℕ) → is_digit b ≡ true
    → byte_step g standing.Inside d (spot.PairGap parent job) b ≡ first_digit d (place.PairLo parent job) b
gap_first g d parent job room b h =
    let e = bar_no_digit b h in
    let r : nat_lt (length d.pairs) g.most_pairs ≡ true = lt-ltb _ _ room in
    rw (e, r) refl

pairs_come : (g : Grammar) (parent job : ℕ) (ps : List Pair) (d : Draft) (now : Step) → length d.pairs + length ps ≤ g.most_pairs → AllByRecursion FitsPair ps
    → BehindPairs g d parent job now → Comes (BehindPairs g (record { pairs = d.pairs ++ ps; ends = d.ends; last = d.last }) parent job) g now (flat_map pair_item_text ps)
pairs_come g parent job [] d now few fits h =
    record { then = now; led = refl; so = subst (λ (qs : List Pair). BehindPairs g (record { pairs = qs; ends = d.ends; last = d.last }) parent job now) (sym (append-nil d.pairs)) h }
pairs_come g parent job (q ∷ qs) d now few fits h =
    let s = standing.Inside in
    let one = pair_read g s now d (spot.PairGap parent job) (place.PairLo parent job) (place.PairHi parent job q.lo) q fits.0 h (gap_first g d parent job (omega (arith, few))) refl in
    let e = add_pair d q in
    let mid = On d (spot.Digits (place.PairHi parent job q.lo) q.hi) in
    let more = pairs_come g parent job qs e mid (omega (arith, few, length-append d.pairs (q ∷ []))) fits.1 refl in
    record {
      then = more.then;
      led = chain g s now mid more.then (pair_item_text q) (flat_map pair_item_text qs) one more.led;
      so = subst (λ (rs : List Pair). BehindPairs g (record { pairs = rs; ends = d.ends; last = d.last }) parent job more.then) (append_assoc d.pairs (q ∷ []) qs) more.so;
    }

-- what a space leads to, where an end may come
pub record EndMayBegin (g : Grammar) (now : Step) (d : Draft) (p : NumberAt) : Type 0 where
  pub gap : Spot
  pub space : byte_steps g standing.Inside now (32 ∷ []) ≡ On d gap
  pub first : (b : ℕ) → is_digit b ≡ true → byte_step g standing.Inside d gap b ≡ first_digit d p b

end_opens : (g : Grammar) (d : Draft) (parent job : ℕ) (now : Step) → length d.ends < g.most_items → BehindEnds g d parent job now → EndMayBegin g now d (place.EndJob parent job)
end_opens g d parent job now room h =
    let r : nat_lt (length d.ends) g.most_items ≡ true = lt-ltb _ _ room in
    elim (cases_bool g.has_last) [
      | inl has ↦ record { gap = spot.EndGap parent job; space = h 32 refl ∙ rw has refl; first = λ b i. let e = bar_no_digit b i in rw (e, r) refl }
      | inr lacks ↦ record { gap = spot.Due (place.EndJob parent job); space = h 32 refl ∙ rw (lacks, r) refl; first = λ b i. refl }
    ]

end_read : (g : Grammar) (now : Step) (d : Draft) (parent job : ℕ) (e : EndOf) → FitsEnd e → EndMayBegin g now d (place.EndJob parent job)
    → byte_steps g standing.Inside now (end_item_text e) ≡ On d (spot.Digits (place.EndHi parent job e.job e.lo) e.hi)
end_read g now d parent job e fits o =
    let s = standing.Inside in
    let at = λ (p : NumberAt). On d (spot.Due p) in
    let t1 = 32 ∷ [] ++ decimal e.job ++ 58 ∷ [] in
    let t2 = t1 ++ decimal e.lo ++ 58 ∷ [] in
    chain g s now (at (place.EndHi parent job e.job e.lo)) (On d (spot.Digits (place.EndHi parent job e.job e.lo) e.hi)) t2 (decimal e.hi)
    (field g s d (place.EndLo parent job e.job) e.lo 58 now (at (place.EndHi parent job e.job e.lo)) t1 fits.1
    (chain g s now (On d (spot.Digits (place.EndJob parent job) e.job)) (at (place.EndLo parent job e.job)) (32 ∷ [] ++ decimal e.job) (58 ∷ [])
    (chain g s now (On d o.gap) (On d (spot.Digits (place.EndJob parent job) e.job)) (32 ∷ []) (decimal e.job) o.space (number g s d o.gap (place.EndJob parent job) e.job fits.0 o.first))
    refl)
    refl)
    (number g s d (spot.Due (place.EndHi parent job e.job e.lo)) (place.EndHi parent job e.job e.lo) e.hi fits.2 (λ b h. refl))

ends_come : (g : Grammar) (parent job : ℕ) (es : List EndOf) (d : Draft) (now : Step) → length d.ends + length es ≤ g.most_items → AllByRecursion FitsEnd es
    → BehindEnds g d parent job now → Comes (BehindEnds g (record { pairs = d.pairs; ends = d.ends ++ es; last = d.last }) parent job) g now (flat_map end_item_text es)
ends_come g parent job [] d now few fits h =
    record { then = now; led = refl; so = subst (λ (qs : List EndOf). BehindEnds g (record { pairs = d.pairs; ends = qs; last = d.last }) parent job now) (sym (append-nil d.ends)) h }
ends_come g parent job (q ∷ qs) d now few fits h =
    let s = standing.Inside in
    let mid = On d (spot.Digits (place.EndHi parent job q.job q.lo) q.hi) in
    let one = end_read g now d parent job q fits.0 (end_opens g d parent job now (omega (arith, few)) h) in
    let behind : BehindEnds g (add_end d q) parent job mid = λ b i. rw i refl in
    let more = ends_come g parent job qs (add_end d q) mid (omega (arith, few, length-append d.ends (q ∷ []))) fits.1 behind in
    record {
      then = more.then;
      led = chain g s now mid more.then (end_item_text q) (flat_map end_item_text qs) one more.led;
      so = subst (λ (rs : List EndOf). BehindEnds g (record { pairs = d.pairs; ends = rs; last = d.last }) parent job more.then) (append_assoc d.ends (q ∷ []) qs) more.so;
    }

last_come : (g : Grammar) (parent job : ℕ) (ns : List ℕ) (d : Draft) (now : Step) → length d.last + length ns ≤ g.most_items → AllByRecursion IsCertNumber ns
    → BehindLast g d parent job now → Comes (BehindLast g (record { pairs = d.pairs; ends = d.ends; last = d.last ++ ns }) parent job) g now (flat_map last_item_text ns)
last_come g parent job [] d now few fits h =
    record { then = now; led = refl; so = subst (λ (qs : List ℕ). BehindLast g (record { pairs = d.pairs; ends = d.ends; last = qs }) parent job now) (sym (append-nil d.last)) h }
last_come g parent job (n ∷ ns) d now few fits h =
    let s = standing.Inside in
    let r : nat_lt (length d.last) g.most_items ≡ true = lt-ltb _ _ (omega (arith, few)) in
    let mid = On d (spot.Digits (place.LastJob parent job) n) in
    let space : byte_steps g s now (32 ∷ []) ≡ On d (spot.Due (place.LastJob parent job)) = h 32 refl ∙ rw r refl in
    let one : byte_steps g s now (last_item_text n) ≡ mid = chain g s now (On d (spot.Due (place.LastJob parent job))) mid
    (32 ∷ []) (decimal n) space (number g s d (spot.Due (place.LastJob parent job)) (place.LastJob parent job) n fits.0 (λ b i. refl)) in
    let behind : BehindLast g (add_last d n) parent job mid = λ b i. rw i refl in
    let more = last_come g parent job ns (add_last d n) mid (omega (arith, few, length-append d.last (n ∷ []))) fits.1 behind in
    record {
      then = more.then;
      led = chain g s now mid more.then (last_item_text n) (flat_map last_item_text ns) one more.led;
      so = subst (λ (rs : List ℕ). BehindLast g (record { pairs = d.pairs; ends = d.ends; last = rs }) parent job more.then) (append_assoc d.last (n ∷ []) ns) more.so;
    }

pub none_left : (ns : List ℕ) → length ns ≤ 0 → ns ≡ []
none_left [] h = refl
none_left (n ∷ ns) h = absurd (omega (arith, h))

-- the draft of a state line at its end
abbrev pub drafted : List Pair → List EndOf → List ℕ → Draft
drafted ps es ns = record { pairs = ps; ends = es; last = ns }

-- a state line up to the end of its first list of ends
state_begun : (g : Grammar) (parent job : ℕ) (ps : List Pair) (es : List EndOf) (last : List ℕ) → FitsState g parent job ps es last
    → Comes (BehindEnds g (drafted ps es []) parent job) g (On no_items spot.Start) (state_ends parent job ps es)
state_begun g parent job [] es last fits = absurd (omega (arith, fits.fit_pairs.some))
state_begun g parent job (p ∷ ps) es last fits =
    let s = standing.Inside in
    let now = On no_items spot.Start in
    let named = On no_items (spot.Digits (place.StateJob parent) job) in
    let front : byte_steps g s now (state_front parent job) ≡ named =
    chain g s now (On no_items (spot.Due (place.StateJob parent))) named (codes "state " ++ decimal parent ++ 32 ∷ []) (decimal job)
    (field g s no_items place.StateParent parent 32 now (On no_items (spot.Due (place.StateJob parent))) (codes "state ") fits.fit_parent refl refl)
    (number g s no_items (spot.Due (place.StateJob parent)) (place.StateJob parent) job fits.fit_job (λ b h. refl)) in
    let first = On no_items (spot.Digits (place.PairHi parent job p.lo) p.hi) in
    let one = pair_read g s named no_items (spot.Due (place.PairLo parent job)) (place.PairLo parent job) (place.PairHi parent job p.lo) p fits.fit_pairs.each.0 refl (λ b h. refl) refl in
    let pairs = pairs_come g parent job ps (add_pair no_items p) first (omega (arith, fits.fit_pairs.few)) fits.fit_pairs.each.1 refl in
    let d1 = drafted (p ∷ ps) [] [] in
    let barred = On d1 (spot.Barred parent job) in
    let ends = ends_come g parent job es d1 barred (omega (arith, fits.few_ends)) fits.each_end (λ b i. refl) in
    record {
      then = ends.then;
      led =
          chain g s now barred ends.then (state_pairs parent job (p ∷ ps) ++ 32 ∷ [] ++ 124 ∷ []) (flat_map end_item_text es)
          (chain g s now (On d1 (spot.PairGap parent job)) barred (state_pairs parent job (p ∷ ps) ++ 32 ∷ []) (124 ∷ [])
          (chain g s now pairs.then (On d1 (spot.PairGap parent job)) (state_pairs parent job (p ∷ ps)) (32 ∷ [])
          (chain g s now named pairs.then (state_front parent job) (flat_map pair_item_text (p ∷ ps)) front
          (chain g s named first pairs.then (pair_item_text p) (flat_map pair_item_text ps) one pairs.led))
          pairs.so)
          refl)
          ends.led;
      so = ends.so;
    }

pub state_taken : (g : Grammar) (parent job : ℕ) (ps : List Pair) (es : List EndOf) (last : List ℕ) → FitsState g parent job ps es last
    → TakesSpelling g standing.Inside (line.State parent job ps es last)
state_taken g parent job ps es last fits =
    let s = standing.Inside in
    let now = On no_items spot.Start in
    let b = state_begun g parent job ps es last fits in
    let whole = Whole (line.State parent job ps es last) in
    elim (cases_bool g.has_last) [
      | inl has ↦
          let few : length last ≤ g.most_items = subst (λ (h : Bool). length last ≤ cond h g.most_items 0) has fits.few_last in
          let d2 = drafted ps es [] in
          let closed = On d2 (spot.Closed parent job) in
          let l = last_come g parent job last d2 closed (omega (arith, few)) fits.each_last (λ c i. refl) in
          let space : byte_steps g s b.then (32 ∷ []) ≡ On d2 (spot.EndGap parent job) = b.so 32 refl ∙ rw has refl in
          let t = state_ends parent job ps es in
          let led : byte_steps g s now (state_last parent job ps es last ++ 10 ∷ []) ≡ whole =
          chain g s now l.then whole (state_last parent job ps es last) (10 ∷ [])
          (chain g s now closed l.then (t ++ 32 ∷ [] ++ 124 ∷ []) (flat_map last_item_text last)
          (chain g s now (On d2 (spot.EndGap parent job)) closed (t ++ 32 ∷ []) (124 ∷ [])
          (chain g s now b.then (On d2 (spot.EndGap parent job)) t (32 ∷ []) b.led space)
          refl)
          l.led)
          (l.so 10 refl) in
          subst (λ (h : Bool). byte_steps g s now (cond h (state_last parent job ps es last) t ++ 10 ∷ []) ≡ whole) (sym has) led
      | inr lacks ↦
          let none : last ≡ [] = none_left last (subst (λ (h : Bool). length last ≤ cond h g.most_items 0) lacks fits.few_last) in
          let t = state_ends parent job ps es in
          let end : byte_steps g s b.then (10 ∷ []) ≡ Whole (line.State parent job ps es []) = b.so 10 refl ∙ rw lacks refl in
          let led : byte_steps g s now (t ++ 10 ∷ []) ≡ whole =
          chain g s now b.then whole t (10 ∷ []) b.led (end ∙ ap (λ (ns : List ℕ). Whole (line.State parent job ps es ns)) (sym none)) in
          subst (λ (h : Bool). byte_steps g s now (cond h (state_last parent job ps es last) t ++ 10 ∷ []) ≡ whole) (sym lacks) led
    ]
