-- What the machine has taken is the text that its spot shows, and a whole line is its spelling.
use Rattle.std.proofs.Common.{◌≡◌, ℕ, ◌+◌, ◌-◌, ◌*◌, ◌<◌, ◌≤◌, ◌==◌, nat_le, nat_lt, Bool, true, false, cond, List, []}
use Rattle.std.proofs.Common.{◌∷◌, ◌++◌, length, get_or, take, refl, sym, ap, subst, ◌∙◌, append_assoc, append-nil, arith, codes, length-append, add-one, lit<}
use Rattle.std.specs.Prelude.{decimal}
use Rattle.std.specs.List.{flat_map, AllByRecursion}
use Rattle.std.proofs.lemmas.Bool.{eqb-true, eqb-false, ltb-true, leb-true}
use Rattle.std.proofs.lemmas.List.{take_all}
use Rattle.std.proofs.lemmas.List.Concat.{flat_map-append}
use Rattle.std.proofs.Math.Seq.{take-suc}
use Rattle.cert_text.specs.declared.line.Pair.{Pair}
use Rattle.cert_text.specs.declared.line.EndOf.{EndOf}
use Rattle.cert_text.specs.declared.line.Mark.{Mark}
use Rattle.cert_text.specs.declared.line.Mark.TheVariants as mark
use Rattle.cert_text.specs.declared.line.CertLine.TheVariants as line
use Rattle.cert_text.specs.declared.grammar.Grammar.{Grammar}
use Rattle.cert_text.specs.declared.spot.Standing.{Standing}
use Rattle.cert_text.specs.declared.spot.Standing.TheVariants as standing
use Rattle.cert_text.specs.declared.spot.Word.{Word}
use Rattle.cert_text.specs.declared.spot.Word.TheVariants as word
use Rattle.cert_text.specs.declared.spot.NumberAt.{NumberAt}
use Rattle.cert_text.specs.declared.spot.NumberAt.TheVariants as place
use Rattle.cert_text.specs.declared.spot.Marked.{Marked}
use Rattle.cert_text.specs.declared.spot.Marked.TheVariants as marked
use Rattle.cert_text.specs.declared.spot.Spot.{Spot}
use Rattle.cert_text.specs.declared.spot.Spot.TheVariants as spot
use Rattle.cert_text.specs.Grammar.{IsCertNumber, most_number}
use Rattle.cert_text.specs.Spelling.{FitsPair, FitsEnd, FitsPairs, FitsLine, line_text, mark_text, pair_item_text}
use Rattle.cert_text.specs.Spelling.{end_item_text, last_item_text, state_front, state_pairs, state_ends, state_last, state_line_text}
use Rattle.cert_text.specs.Machine.{Draft, no_items, Step, On, Whole, Wrong, is_digit, word_text, after_word, wants, begin, in_word, digit, first_digit}
use Rattle.cert_text.specs.Machine.{room_for, add_pair, add_end, add_last, after_root, after_last, after_ends, after_number, marked_line, in_mark, byte_step, number_front, mark_front, shown}
use Rattle.cert_text.specs.Kept.{HasNone, PairRoom, InPairs, StateFits, InEnds, InLast, KeptNumber, KeptMarked, KeptSpot}
use Rattle.cert_text.proofs.Digits.{digit-true, first-shown, more-shown}

-- What a step means, after these bytes of a line.
abbrev pub Means : Grammar → List ℕ → Step → Type 0
Means g text (On d p) = (shown g d p ≡ text) × KeptSpot g d p
Means g text (Whole l) = (line_text g l ≡ text) × FitsLine g l
Means g text Wrong = Unit {0}

-- ---- tests

along : (g : Grammar) (now : Step) (s t : List ℕ) → s ≡ t → Means g s now → Means g t now
along g now s t e m = subst (λ (u : List ℕ). Means g u now) e m

by_test : (g : Grammar) (text : List ℕ) (v : Bool) (x y : Step) → (v ≡ true → Means g text x) → (v ≡ false → Means g text y) → Means g text (cond v x y)
by_test g text true x y p q = p refl
by_test g text false x y p q = q refl

where_so : (g : Grammar) (text : List ℕ) (v : Bool) (x : Step) → (v ≡ true → Means g text x) → Means g text (cond v x Wrong)
where_so g text v x p = by_test g text v x Wrong p (λ e. tt)

by_byte : (g : Grammar) (text : List ℕ) (b c : ℕ) (x y : Step) → Means g (text ++ c ∷ []) x → Means g (text ++ b ∷ []) y → Means g (text ++ b ∷ []) (cond (b == c) x y)
by_byte g text b c x y p q = by_test g (text ++ b ∷ []) (b == c) x y (λ e. along g x (text ++ c ∷ []) (text ++ b ∷ []) (ap (λ (n : ℕ). text ++ n ∷ []) (sym (eqb-true b c e))) p) (λ e. q)

wanted : (g : Grammar) (text : List ℕ) (b c : ℕ) (x : Step) → Means g (text ++ c ∷ []) x → Means g (text ++ b ∷ []) (wants c b x)
wanted g text b c x p = by_byte g text b c x Wrong p tt

-- ---- words and marks

-- one more byte of a fixed text
one_more : (text front : List ℕ) (at : ℕ) → at < length text → front ++ take (at + 1) text ≡ (front ++ take at text) ++ get_or text at 0 ∷ []
one_more text front at lt = rw add-one (ap (λ (t : List ℕ). front ++ t) (take-suc text at 0 lt) ∙ sym (append_assoc front (take at text) (get_or text at 0 ∷ [])))

empty_room : (g : Grammar) (d : Draft) → 0 < g.most_pairs → HasNone d → PairRoom g d
empty_room g d room none = record { room = rw none.0 room; each = subst (λ (ps : List Pair). AllByRecursion FitsPair ps) (sym none.0) tt }

word_means : (g : Grammar) (d : Draft) (w : Word) → 0 < g.most_pairs → HasNone d → Means g (word_text g w) (after_word d w)
word_means g d word.Head room none = (refl, tt)
word_means g d word.Level room none = (refl, tt)
word_means g d word.Root room none = (
  ap (λ (ps : List Pair). codes "root" ++ flat_map pair_item_text ps ++ 32 ∷ []) none.0,
  empty_room g d room none,
)
word_means g d word.State room none = (refl, none)
word_means g d word.Edge room none = (refl, tt)
word_means g d word.Job room none = (refl, tt)
word_means g d word.Verdict room none = (refl, tt)
word_means g d word.End room none = (refl, tt)

in_word_means : (g : Grammar) (d : Draft) (w : Word) (at b : ℕ) → 0 < g.most_pairs → HasNone d → at < length (word_text g w) → Means g (take at (word_text g w) ++ b ∷ []) (in_word g d w at b)
in_word_means g d w at b room none lt =
    let text = word_text g w in
    let more = one_more text [] at lt in
    wanted g (take at text) b (get_or text at 0) (cond (at + 1 == length text) (after_word d w) (On d (spot.InWord w (at + 1))))
    (along g (cond (at + 1 == length text) (after_word d w) (On d (spot.InWord w (at + 1)))) (take (at + 1) text) (take at text ++ get_or text at 0 ∷ []) more
    (by_test g (take (at + 1) text) (at + 1 == length text) (after_word d w) (On d (spot.InWord w (at + 1)))
    (λ e. let all = eqb-true (at + 1) (length text) e in
    along g (after_word d w) text (take (at + 1) text) (sym (take_all (at + 1) text (omega (arith, all)))) (word_means g d w room none))
    (λ e. let not_all = eqb-false (at + 1) (length text) e in (refl, (none, omega (arith, not_all, lt))))))

mark_means : (g : Grammar) (to : Marked) (m : Mark) → KeptMarked to → Means g (mark_front to ++ mark_text m) (Whole (marked_line to m))
mark_means g (marked.Job number lo hi) m kept = (refl, kept)
mark_means g marked.Verdict m kept = (refl, tt)

in_mark_means : (g : Grammar) (d : Draft) (to : Marked) (m : Mark) (at b : ℕ) → KeptMarked to → at < length (mark_text m)
    → Means g ((mark_front to ++ take at (mark_text m)) ++ b ∷ []) (in_mark d to m at b)
in_mark_means g d to m at b kept lt =
    let text = mark_text m in
    let front = mark_front to in
    let then = cond (at + 1 == length text) (Whole (marked_line to m)) (On d (spot.InMark to m (at + 1))) in
    wanted g (front ++ take at text) b (get_or text at 0) then
    (along g then (front ++ take (at + 1) text) ((front ++ take at text) ++ get_or text at 0 ∷ []) (one_more text front at lt)
    (by_test g (front ++ take (at + 1) text) (at + 1 == length text) (Whole (marked_line to m)) (On d (spot.InMark to m (at + 1)))
    (λ e. let all = eqb-true (at + 1) (length text) e in
    along g (Whole (marked_line to m)) (front ++ text) (front ++ take (at + 1) text) (ap (λ (t : List ℕ). front ++ t) (sym (take_all (at + 1) text (omega (arith, all))))) (mark_means g to m kept))
    (λ e. let not_all = eqb-false (at + 1) (length text) e in (refl, (kept, omega (arith, not_all, lt))))))

-- ---- digits

first_means : (g : Grammar) (d : Draft) (p : NumberAt) (b : ℕ) → KeptNumber g d p → Means g (number_front g d p ++ b ∷ []) (first_digit d p b)
first_means g d p b kept =
    where_so g (number_front g d p ++ b ∷ []) (is_digit b) (On d (spot.Digits p (b - 48)))
    (λ e. let r = digit-true b e in (ap (λ (t : List ℕ). number_front g d p ++ t) (first-shown b e), (kept, omega (arith, r.0, r.1))))

digit_means : (g : Grammar) (d : Draft) (p : NumberAt) (value b : ℕ) → KeptNumber g d p → is_digit b ≡ true → Means g ((number_front g d p ++ decimal value) ++ b ∷ []) (digit d p value (b - 48))
digit_means g d p value b kept h =
    let front = number_front g d p in
    let text = (front ++ decimal value) ++ b ∷ [] in
    let next = value * 10 + (b - 48) in
    by_test g text (value == 0) Wrong (cond (nat_le next most_number) (On d (spot.Digits p next)) Wrong) (λ e. tt)
    (λ some. where_so g text (nat_le next most_number) (On d (spot.Digits p next))
    (λ few. let le = leb-true next most_number few in
    (ap (λ (t : List ℕ). front ++ t) (more-shown value b h some le) ∙ sym (append_assoc front (decimal value) (b ∷ [])), (kept, omega (arith, le)))))

-- ---- items

regroup5 : (a x c e l h : List ℕ) → a ++ (x ++ ((((c ++ l) ++ e) ++ h) ++ [])) ≡ ((((a ++ x) ++ c) ++ l) ++ e) ++ h
regroup5 a x c e l h = simp (append_assoc, append-nil) refl

regroup7 : (a x c e j l h : List ℕ) → a ++ (x ++ ((((((c ++ j) ++ e) ++ l) ++ e) ++ h) ++ [])) ≡ ((((((a ++ x) ++ c) ++ j) ++ e) ++ l) ++ e) ++ h
regroup7 a x c e j l h = simp (append_assoc, append-nil) refl

regroup3 : (a x c l : List ℕ) → a ++ (x ++ ((c ++ l) ++ [])) ≡ ((a ++ x) ++ c) ++ l
regroup3 a x c l = simp (append_assoc, append-nil) refl

pairs_more : (a : List ℕ) (ps : List Pair) (p : Pair) → a ++ flat_map pair_item_text (ps ++ p ∷ []) ≡ a ++ flat_map pair_item_text ps ++ 32 ∷ [] ++ decimal p.lo ++ 58 ∷ [] ++ decimal p.hi
pairs_more a ps p = ap (λ (t : List ℕ). a ++ t) (flat_map-append pair_item_text ps (p ∷ [])) ∙ regroup5 a (flat_map pair_item_text ps) (32 ∷ []) (58 ∷ []) (decimal p.lo) (decimal p.hi)

ends_more : (a : List ℕ) (es : List EndOf) (e : EndOf)
    → a ++ flat_map end_item_text (es ++ e ∷ []) ≡ a ++ flat_map end_item_text es ++ 32 ∷ [] ++ decimal e.job ++ 58 ∷ [] ++ decimal e.lo ++ 58 ∷ [] ++ decimal e.hi
ends_more a es e =
    ap (λ (t : List ℕ). a ++ t) (flat_map-append end_item_text es (e ∷ [])) ∙ regroup7 a (flat_map end_item_text es) (32 ∷ []) (58 ∷ []) (decimal e.job) (decimal e.lo) (decimal e.hi)

last_more : (a : List ℕ) (ns : List ℕ) (n : ℕ) → a ++ flat_map last_item_text (ns ++ n ∷ []) ≡ a ++ flat_map last_item_text ns ++ 32 ∷ [] ++ decimal n
last_more a ns n = ap (λ (t : List ℕ). a ++ t) (flat_map-append last_item_text ns (n ∷ [])) ∙ regroup3 a (flat_map last_item_text ns) (32 ∷ []) (decimal n)

pub all_more : {X : Type 0} (P : X → Type 0) (xs : List X) (x : X) → AllByRecursion P xs → P x → AllByRecursion P (xs ++ x ∷ [])
all_more P [] x h p = (p, tt)
all_more P (y ∷ ys) x h p = (h.0, all_more P ys x h.1 p)

pairs_fit : (g : Grammar) (d : Draft) (p : Pair) → PairRoom g d → FitsPair p → FitsPairs g (d.pairs ++ p ∷ [])
pairs_fit g d p r f = record {
  some = omega (arith, length-append d.pairs (p ∷ []));
  few = omega (arith, r.room, length-append d.pairs (p ∷ []));
  each = all_more FitsPair d.pairs p r.each f;
}

-- ---- what comes behind an item

after_root_means : (g : Grammar) (d : Draft) (b : ℕ) → FitsPairs g d.pairs → Means g (codes "root" ++ flat_map pair_item_text d.pairs ++ b ∷ []) (after_root g d b)
after_root_means g d b fits =
    let text = codes "root" ++ flat_map pair_item_text d.pairs in
    by_byte g text b 32 (room_for (length d.pairs) g.most_pairs d place.RootLo) (wants 10 b (Whole (line.Root d.pairs)))
    (where_so g (text ++ 32 ∷ []) (nat_lt (length d.pairs) g.most_pairs) (On d (spot.Due place.RootLo))
    (λ e. (refl, record { room = ltb-true _ _ e; each = fits.each })))
    (wanted g text b 10 (Whole (line.Root d.pairs)) (refl, fits))

state_whole : (g : Grammar) (d : Draft) (parent job : ℕ) (text : List ℕ) → StateFits g d parent job
    → state_line_text g parent job d.pairs d.ends d.last ≡ text
    → Means g (text ++ 10 ∷ []) (Whole (line.State parent job d.pairs d.ends d.last))
state_whole g d parent job text fits e = (ap (λ (t : List ℕ). t ++ 10 ∷ []) e, fits)

after_last_means : (g : Grammar) (d : Draft) (parent job b : ℕ) → StateFits g d parent job → g.has_last ≡ true
    → Means g (state_last parent job d.pairs d.ends d.last ++ b ∷ []) (after_last g d parent job b)
after_last_means g d parent job b fits has =
    let text = state_last parent job d.pairs d.ends d.last in
    by_byte g text b 32 (room_for (length d.last) g.most_items d (place.LastJob parent job)) (wants 10 b (Whole (line.State parent job d.pairs d.ends d.last)))
    (where_so g (text ++ 32 ∷ []) (nat_lt (length d.last) g.most_items) (On d (spot.Due (place.LastJob parent job)))
    (λ e. (refl, record { fits = fits; room = ltb-true _ _ e; has = has })))
    (wanted g text b 10 (Whole (line.State parent job d.pairs d.ends d.last))
    (state_whole g d parent job text fits (ap (λ (h : Bool). cond h text (state_ends parent job d.pairs d.ends)) has)))

after_ends_means : (g : Grammar) (d : Draft) (parent job b : ℕ) → StateFits g d parent job → d.last ≡ [] → Means g (state_ends parent job d.pairs d.ends ++ b ∷ []) (after_ends g d parent job b)
after_ends_means g d parent job b fits none =
    let text = state_ends parent job d.pairs d.ends in
    let whole = Whole (line.State parent job d.pairs d.ends d.last) in
    by_test g (text ++ b ∷ []) g.has_last (wants 32 b (On d (spot.EndGap parent job)))
    (cond (b == 32) (room_for (length d.ends) g.most_items d (place.EndJob parent job)) (wants 10 b whole))
    (λ has. wanted g text b 32 (On d (spot.EndGap parent job)) (refl, (fits, none, has)))
    (λ lacks. by_byte g text b 32 (room_for (length d.ends) g.most_items d (place.EndJob parent job)) (wants 10 b whole)
    (where_so g (text ++ 32 ∷ []) (nat_lt (length d.ends) g.most_items) (On d (spot.Due (place.EndJob parent job)))
    (λ e. (refl, record { fits = fits; room = ltb-true _ _ e; no_last = none })))
    (wanted g text b 10 whole (state_whole g d parent job text fits (ap (λ (h : Bool). cond h (state_last parent job d.pairs d.ends d.last) text) lacks))))

-- the state line after one more end
end_fits : (g : Grammar) (d : Draft) (parent job : ℕ) (e : EndOf) → InEnds g d parent job → FitsEnd e → StateFits g (add_end d e) parent job
end_fits g d parent job e k f = record {
  fit_parent = k.fits.fit_parent;
  fit_job = k.fits.fit_job;
  fit_pairs = k.fits.fit_pairs;
  few_ends = omega (arith, k.room, length-append d.ends (e ∷ []));
  each_end = all_more FitsEnd d.ends e k.fits.each_end f;
  few_last = k.fits.few_last;
  each_last = k.fits.each_last;
}

last_fits : (g : Grammar) (d : Draft) (parent job n : ℕ) → InLast g d parent job → IsCertNumber n → StateFits g (add_last d n) parent job
last_fits g d parent job n k f =
    let few : length (d.last ++ n ∷ []) ≤ g.most_items = omega (arith, k.room, length-append d.last (n ∷ [])) in
    record {
      fit_parent = k.fits.fit_parent;
      fit_job = k.fits.fit_job;
      fit_pairs = k.fits.fit_pairs;
      few_ends = k.fits.few_ends;
      each_end = k.fits.each_end;
      few_last = subst (λ (h : Bool). length (d.last ++ n ∷ []) ≤ cond h g.most_items 0) (sym k.has) few;
      each_last = all_more IsCertNumber d.last n k.fits.each_last f;
    }

none_fit : (g : Grammar) (d : Draft) (parent job : ℕ) (p : Pair) → InPairs g d parent job → FitsPair p → StateFits g (add_pair d p) parent job
none_fit g d parent job p k f = record {
  fit_parent = k.fit_parent;
  fit_job = k.fit_job;
  fit_pairs = pairs_fit g d p k.pairs_room f;
  few_ends = rw k.no_ends (omega arith);
  each_end = subst (λ (es : List EndOf). AllByRecursion FitsEnd es) (sym k.no_ends) tt;
  few_last = rw k.no_last (omega arith);
  each_last = subst (λ (ns : List ℕ). AllByRecursion IsCertNumber ns) (sym k.no_last) tt;
}

-- A number ends.
after_number_means : (g : Grammar) (room : 0 < g.most_pairs) (d : Draft) (p : NumberAt) (v b : ℕ) → KeptNumber g d p → IsCertNumber v
    → Means g ((number_front g d p ++ decimal v) ++ b ∷ []) (after_number g d p v b)
after_number_means g room d place.HeadJobs v b k f = wanted g (number_front g d place.HeadJobs ++ decimal v) b 32 (On d (spot.Due (place.HeadCores v))) (refl, f)
after_number_means g room d (place.HeadCores jobs) v b k f = wanted g (number_front g d (place.HeadCores jobs) ++ decimal v) b 10 (Whole (line.Head jobs v)) (refl, (k, f))
after_number_means g room d place.LevelNumber v b k f = wanted g (number_front g d place.LevelNumber ++ decimal v) b 32 (On d (spot.Due (place.LevelCount v))) (refl, f)
after_number_means g room d (place.LevelCount number) v b k f = wanted g (number_front g d (place.LevelCount number) ++ decimal v) b 10 (Whole (line.Level number v)) (refl, (k, f))
after_number_means g room d place.RootLo v b k f = wanted g (number_front g d place.RootLo ++ decimal v) b 58 (On d (spot.Due (place.RootHi v))) (refl, (k, f))
after_number_means g room d (place.RootHi lo) v b k f =
    let p : Pair = record { lo = lo; hi = v } in
    along g (after_root g (add_pair d p) b) (codes "root" ++ flat_map pair_item_text (d.pairs ++ p ∷ []) ++ b ∷ []) ((number_front g d (place.RootHi lo) ++ decimal v) ++ b ∷ [])
    (ap (λ (t : List ℕ). t ++ b ∷ []) (pairs_more (codes "root") d.pairs p))
    (after_root_means g (add_pair d p) b (pairs_fit g d p k.0 (k.1, f)))
after_number_means g room d place.StateParent v b k f = wanted g (number_front g d place.StateParent ++ decimal v) b 32 (On d (spot.Due (place.StateJob v))) (refl, (k, f))
after_number_means g room d (place.StateJob parent) v b k f =
    wanted g (number_front g d (place.StateJob parent) ++ decimal v) b 32 (On d (spot.Due (place.PairLo parent v))) (
      ap (λ (ps : List Pair). state_front parent v ++ flat_map pair_item_text ps ++ 32 ∷ []) k.0.0 ∙ ap (λ (t : List ℕ). t ++ 32 ∷ []) (append-nil (state_front parent v)),
      record { fit_parent = k.1; fit_job = f; pairs_room = empty_room g d room k.0; no_ends = k.0.1; no_last = k.0.2 },
    )
after_number_means g room d (place.PairLo parent job) v b k f = wanted g (number_front g d (place.PairLo parent job) ++ decimal v) b 58 (On d (spot.Due (place.PairHi parent job v))) (refl, (k, f))
after_number_means g room d (place.PairHi parent job lo) v b k f =
    let p : Pair = record { lo = lo; hi = v } in
    wanted g (number_front g d (place.PairHi parent job lo) ++ decimal v) b 32 (On (add_pair d p) (spot.PairGap parent job))
    (ap (λ (t : List ℕ). t ++ 32 ∷ []) (pairs_more (state_front parent job) d.pairs p), (none_fit g d parent job p k.0 (k.1, f), k.0.no_ends, k.0.no_last))
after_number_means g room d (place.EndJob parent job) v b k f = wanted g (number_front g d (place.EndJob parent job) ++ decimal v) b 58 (On d (spot.Due (place.EndLo parent job v))) (refl, (k, f))
after_number_means g room d (place.EndLo parent job of) v b k f =
    wanted g (number_front g d (place.EndLo parent job of) ++ decimal v) b 58 (On d (spot.Due (place.EndHi parent job of v))) (refl, (k.0, k.1, f))
after_number_means g room d (place.EndHi parent job of lo) v b k f =
    let e : EndOf = record { job = of; lo = lo; hi = v } in
    along g (after_ends g (add_end d e) parent job b) (state_ends parent job d.pairs (d.ends ++ e ∷ []) ++ b ∷ []) ((number_front g d (place.EndHi parent job of lo) ++ decimal v) ++ b ∷ [])
    (ap (λ (t : List ℕ). t ++ b ∷ []) (ends_more (state_pairs parent job d.pairs ++ 32 ∷ [] ++ 124 ∷ []) d.ends e))
    (after_ends_means g (add_end d e) parent job b (end_fits g d parent job e k.0 (k.1, k.2, f)) k.0.no_last)
after_number_means g room d (place.LastJob parent job) v b k f =
    along g (after_last g (add_last d v) parent job b) (state_last parent job d.pairs d.ends (d.last ++ v ∷ []) ++ b ∷ []) ((number_front g d (place.LastJob parent job) ++ decimal v) ++ b ∷ [])
    (ap (λ (t : List ℕ). t ++ b ∷ []) (last_more (state_ends parent job d.pairs d.ends ++ 32 ∷ [] ++ 124 ∷ []) d.last v))
    (after_last_means g (add_last d v) parent job b (last_fits g d parent job v k f) k.has)
after_number_means g room d place.EdgeFrom v b k f = wanted g (number_front g d place.EdgeFrom ++ decimal v) b 32 (On d (spot.Due (place.EdgeJob v))) (refl, f)
after_number_means g room d (place.EdgeJob from) v b k f = wanted g (number_front g d (place.EdgeJob from) ++ decimal v) b 32 (On d (spot.Due (place.EdgeEst from v))) (refl, (k, f))
after_number_means g room d (place.EdgeEst from job) v b k f =
    wanted g (number_front g d (place.EdgeEst from job) ++ decimal v) b 32 (On d (spot.Due (place.EdgeLst from job v))) (refl, (k.0, k.1, f))
after_number_means g room d (place.EdgeLst from job est) v b k f =
    wanted g (number_front g d (place.EdgeLst from job est) ++ decimal v) b 32 (On d (spot.Due (place.EdgeTo from job est v))) (refl, (k.0, k.1, k.2, f))
after_number_means g room d (place.EdgeTo from job est lst) v b k f =
    wanted g (number_front g d (place.EdgeTo from job est lst) ++ decimal v) b 10 (Whole (line.Edge from job est lst v)) (refl, (k.0, k.1, k.2, k.3, f))
after_number_means g room d place.JobNumber v b k f = wanted g (number_front g d place.JobNumber ++ decimal v) b 32 (On d (spot.Due (place.JobLo v))) (refl, f)
after_number_means g room d (place.JobLo number) v b k f = wanted g (number_front g d (place.JobLo number) ++ decimal v) b 32 (On d (spot.Due (place.JobHi number v))) (refl, (k, f))
after_number_means g room d (place.JobHi number lo) v b k f =
    wanted g (number_front g d (place.JobHi number lo) ++ decimal v) b 32 (On d (spot.MarkDue (marked.Job number lo v))) (refl, (k.0, k.1, f))

begin_means : (g : Grammar) (s : Standing) (b : ℕ) → Means g (b ∷ []) (begin s b)
begin_means g standing.First b = wanted g [] b 115 (On no_items (spot.InWord word.Head 1)) (refl, ((refl, refl, refl), lit< tt))
begin_means g standing.Inside b =
    by_byte g [] b 101 (On no_items spot.Forked) _ (refl, (refl, refl, refl))
    (by_byte g [] b 115 (On no_items (spot.InWord word.State 1)) _ (refl, ((refl, refl, refl), lit< tt))
    (by_byte g [] b 108 (On no_items (spot.InWord word.Level 1)) _ (refl, ((refl, refl, refl), lit< tt))
    (by_byte g [] b 106 (On no_items (spot.InWord word.Job 1)) _ (refl, ((refl, refl, refl), lit< tt))
    (by_byte g [] b 114 (On no_items (spot.InWord word.Root 1)) _ (refl, ((refl, refl, refl), lit< tt))
    (wanted g [] b 118 (On no_items (spot.InWord word.Verdict 1)) (refl, ((refl, refl, refl), lit< tt)))))))
begin_means g standing.Over b = tt

-- A byte takes the machine from what it has read to what it has read then.
pub step_means : (g : Grammar) (room : 0 < g.most_pairs) (s : Standing) (d : Draft) (p : Spot) (b : ℕ) → KeptSpot g d p → Means g (shown g d p ++ b ∷ []) (byte_step g s d p b)
step_means g room s d spot.Start b k = begin_means g s b
step_means g room s d spot.Forked b k =
    by_byte g (101 ∷ []) b 100 (On d (spot.InWord word.Edge 2)) _ (refl, (k, lit< tt))
    (wanted g (101 ∷ []) b 110 (On d (spot.InWord word.End 2)) (refl, (k, lit< tt)))
step_means g room s d (spot.InWord w at) b k = in_word_means g d w at b room k.0 k.1
step_means g room s d (spot.Due p) b k = first_means g d p b k
step_means g room s d (spot.Digits p value) b k =
    by_test g ((number_front g d p ++ decimal value) ++ b ∷ []) (is_digit b) (digit d p value (b - 48)) (after_number g d p value b)
    (λ e. digit_means g d p value b k.0 e)
    (λ e. after_number_means g room d p value b k.0 k.1)
step_means g room s d (spot.PairGap parent job) b k =
    let text = state_pairs parent job d.pairs ++ 32 ∷ [] in
    by_byte g text b 124 (On d (spot.Barred parent job)) (cond (nat_lt (length d.pairs) g.most_pairs) (first_digit d (place.PairLo parent job) b) Wrong)
    (ap (λ (es : List EndOf). state_ends parent job d.pairs es) k.1 ∙ append-nil (text ++ 124 ∷ []), (k.0, k.2))
    (where_so g (text ++ b ∷ []) (nat_lt (length d.pairs) g.most_pairs) (first_digit d (place.PairLo parent job) b)
    (λ e. first_means g d (place.PairLo parent job) b
    (record { fit_parent = k.0.fit_parent; fit_job = k.0.fit_job; pairs_room = record { room = ltb-true _ _ e; each = k.0.fit_pairs.each }; no_ends = k.1; no_last = k.2 })))
step_means g room s d (spot.Barred parent job) b k = after_ends_means g d parent job b k.0 k.1
step_means g room s d (spot.EndGap parent job) b k =
    let text = state_ends parent job d.pairs d.ends ++ 32 ∷ [] in
    by_byte g text b 124 (On d (spot.Closed parent job)) (cond (nat_lt (length d.ends) g.most_items) (first_digit d (place.EndJob parent job) b) Wrong)
    (ap (λ (ns : List ℕ). state_last parent job d.pairs d.ends ns) k.1 ∙ append-nil (text ++ 124 ∷ []), (k.0, k.2))
    (where_so g (text ++ b ∷ []) (nat_lt (length d.ends) g.most_items) (first_digit d (place.EndJob parent job) b)
    (λ e. first_means g d (place.EndJob parent job) b (record { fits = k.0; room = ltb-true _ _ e; no_last = k.1 })))
step_means g room s d (spot.Closed parent job) b k = after_last_means g d parent job b k.0 k.1
step_means g room s d (spot.MarkDue to) b k =
    by_byte g (mark_front to) b 111 (On d (spot.InMark to mark.Ok 1)) _ (refl, (k, lit< tt))
    (wanted g (mark_front to) b 109 (On d (spot.InMark to mark.Miss 1)) (refl, (k, lit< tt)))
step_means g room s d (spot.InMark to m at) b k = in_mark_means g d to m at b k.0 k.1
