-- Bytes are a prefix of a readable certificate exactly where the machine takes them.
use Rattle.std.proofs.Common.{◌≡◌, ℕ, ◌<◌, Bool, true, false, List, [], ◌∷◌, ◌++◌, Option, Some, None, refl, sym, ap, subst, ◌∙◌, append_assoc, append-nil, codes, lit≤}
use Rattle.std.specs.List.{flat_map, AllByRecursion}
use Rattle.std.proofs.lemmas.List.Concat.{flat_map-append}
use Rattle.cert_text.specs.declared.line.CertLine.{CertLine}
use Rattle.cert_text.specs.declared.line.CertLine.TheVariants as line
use Rattle.cert_text.specs.declared.grammar.Grammar.{Grammar}
use Rattle.cert_text.specs.declared.spot.Standing.{Standing}
use Rattle.cert_text.specs.declared.spot.Standing.TheVariants as standing
use Rattle.cert_text.specs.declared.spot.Draft.{Draft}
use Rattle.cert_text.specs.declared.spot.Spot.{Spot}
use Rattle.cert_text.specs.declared.spot.Spot.TheVariants as spot
use Rattle.cert_text.specs.Spelling.{line_text, FitsLine}
use Rattle.cert_text.specs.Readable.{Readable, IsPrefix, IsHead, IsInner}
use Rattle.cert_text.specs.Kept.{KeptSpot}
use Rattle.cert_text.specs.Machine.{no_items, Step, On, Whole, Wrong, begin, byte_step, byte_steps, Text, standing_after, settle, advance, advances, text_start, run, shown}
use Rattle.cert_text.proofs.LineKinds.{is_head_line, is_head_spot, OfKind, begin_head, begin_other, step_kind}
use Rattle.cert_text.proofs.ShownBytes.{Means, step_means, all_more}
use Rattle.cert_text.proofs.ReadableRuns.{inside, over, lift, advances-append, readable_run}
use Rattle.cert_text.proofs.LineCompletions.{Completion, spot_ends}
use Rattle.cert_text.proofs.SpellingsTaken.{head_taken}
use Rattle.std.specs.Prelude.{◌↔◌, IsSome}
use Rattle.cert_text.proofs.Digits.{chain}

-- the next line begins, or a line of this kind is read
abbrev pub AtKind : Bool → Spot → Type 0
AtKind h spot.Start = Unit {0}
AtKind h other = is_head_spot other ≡ h

pub record Inner (ls : List CertLine) : Type 0 where
  pub head : CertLine
  pub inner : List CertLine
  pub are : ls ≡ head ∷ inner
  pub is_head : IsHead head
  pub are_inner : AllByRecursion IsInner inner

pub record Closed (ls : List CertLine) : Type 0 where
  pub before : List CertLine
  pub are : ls ≡ before ++ line.End ∷ []
  pub so : Inner before

abbrev pub Stood : Standing → List CertLine → Spot → Type 0
Stood standing.First ls p = (ls ≡ []) × AtKind true p
Stood standing.Inside ls p = Inner ls × AtKind false p
Stood standing.Over ls p = Closed ls × (p ≡ spot.Start)

-- what holds of a text that the machine has taken
pub record TextKept (g : Grammar) (t : Text) (bytes : List ℕ) : Type 0 where
  pub shows : bytes ≡ flat_map (line_text g) t.lines ++ shown g t.draft t.spot
  pub kept : KeptSpot g t.draft t.spot
  pub fit : AllByRecursion (FitsLine g) t.lines
  pub stood : Stood t.standing t.lines t.spot

pub start_kept : (g : Grammar) → TextKept g text_start []
start_kept g = record { shows = refl; kept = refl; fit = tt; stood = (refl, tt) }

at_kind : (h : Bool) (p : Spot) → is_head_spot p ≡ h → AtKind h p
at_kind h spot.Start e = tt
at_kind h spot.Forked e = e
at_kind h (spot.InWord w at) e = e
at_kind h (spot.Due q) e = e
at_kind h (spot.Digits q v) e = e
at_kind h (spot.PairGap a b) e = e
at_kind h (spot.Barred a b) e = e
at_kind h (spot.EndGap a b) e = e
at_kind h (spot.Closed a b) e = e
at_kind h (spot.MarkDue to) e = e
at_kind h (spot.InMark to m at) e = e

-- what kind of line a step leads on in
kind_of : (g : Grammar) (s : Standing) (h : Bool) (d : Draft) (p : Spot) (b : ℕ) → OfKind h (begin s b) → AtKind h p → OfKind h (byte_step g s d p b)
kind_of g s h d spot.Start b o k = o
kind_of g s h d spot.Forked b o k = subst (λ (x : Bool). OfKind x (byte_step g s d spot.Forked b)) k (step_kind g s d spot.Forked b tt)
kind_of g s h d (spot.InWord w at) b o k = subst (λ (x : Bool). OfKind x (byte_step g s d (spot.InWord w at) b)) k (step_kind g s d (spot.InWord w at) b tt)
kind_of g s h d (spot.Due q) b o k = subst (λ (x : Bool). OfKind x (byte_step g s d (spot.Due q) b)) k (step_kind g s d (spot.Due q) b tt)
kind_of g s h d (spot.Digits q v) b o k = subst (λ (x : Bool). OfKind x (byte_step g s d (spot.Digits q v) b)) k (step_kind g s d (spot.Digits q v) b tt)
kind_of g s h d (spot.PairGap a c) b o k = subst (λ (x : Bool). OfKind x (byte_step g s d (spot.PairGap a c) b)) k (step_kind g s d (spot.PairGap a c) b tt)
kind_of g s h d (spot.Barred a c) b o k = subst (λ (x : Bool). OfKind x (byte_step g s d (spot.Barred a c) b)) k (step_kind g s d (spot.Barred a c) b tt)
kind_of g s h d (spot.EndGap a c) b o k = subst (λ (x : Bool). OfKind x (byte_step g s d (spot.EndGap a c) b)) k (step_kind g s d (spot.EndGap a c) b tt)
kind_of g s h d (spot.Closed a c) b o k = subst (λ (x : Bool). OfKind x (byte_step g s d (spot.Closed a c) b)) k (step_kind g s d (spot.Closed a c) b tt)
kind_of g s h d (spot.MarkDue to) b o k = subst (λ (x : Bool). OfKind x (byte_step g s d (spot.MarkDue to) b)) k (step_kind g s d (spot.MarkDue to) b tt)
kind_of g s h d (spot.InMark to m at) b o k = subst (λ (x : Bool). OfKind x (byte_step g s d (spot.InMark to m at) b)) k (step_kind g s d (spot.InMark to m at) b tt)

stood_first : (l : CertLine) (ls : List CertLine) → ls ≡ [] → is_head_line l ≡ true → Stood (standing_after l) (ls ++ l ∷ []) spot.Start
stood_first (line.Head jobs cores) ls none h =
    (record { head = line.Head jobs cores; inner = []; are = ap (λ (ms : List CertLine). ms ++ line.Head jobs cores ∷ []) none; is_head = tt; are_inner = tt }, tt)
stood_first (line.Level number count) ls none h = absurd cc
stood_first (line.Root pairs) ls none h = absurd cc
stood_first (line.State parent job pairs ends last) ls none h = absurd cc
stood_first (line.Edge from job est lst to) ls none h = absurd cc
stood_first (line.Job number lo hi mark) ls none h = absurd cc
stood_first (line.Verdict mark) ls none h = absurd cc
stood_first line.End ls none h = absurd cc

inner_more : (l : CertLine) (ls : List CertLine) → Inner ls → IsInner l → Inner (ls ++ l ∷ [])
inner_more l ls i h =
    record { head = i.head; inner = i.inner ++ l ∷ []; are = ap (λ (ms : List CertLine). ms ++ l ∷ []) i.are; is_head = i.is_head; are_inner = all_more IsInner i.inner l i.are_inner h }

stood_inside : (l : CertLine) (ls : List CertLine) → Inner ls → is_head_line l ≡ false → Stood (standing_after l) (ls ++ l ∷ []) spot.Start
stood_inside (line.Head jobs cores) ls i h = absurd cc
stood_inside (line.Level number count) ls i h = (inner_more _ ls i tt, tt)
stood_inside (line.Root pairs) ls i h = (inner_more _ ls i tt, tt)
stood_inside (line.State parent job pairs ends last) ls i h = (inner_more _ ls i tt, tt)
stood_inside (line.Edge from job est lst to) ls i h = (inner_more _ ls i tt, tt)
stood_inside (line.Job number lo hi mark) ls i h = (inner_more _ ls i tt, tt)
stood_inside (line.Verdict mark) ls i h = (inner_more _ ls i tt, tt)
stood_inside line.End ls i h = (record { before = ls; are = refl; so = i }, refl)

-- what a step keeps of where a text stands
abbrev StandsOn : Text → Step → Type 0
StandsOn t (On d p) = Stood t.standing t.lines p
StandsOn t (Whole l) = Stood (standing_after l) (t.lines ++ l ∷ []) spot.Start
StandsOn t Wrong = Unit {0}

stand_first : (t : Text) (now : Step) → t.standing ≡ standing.First → t.lines ≡ [] → OfKind true now → StandsOn t now
stand_first t (On d p) s e k = subst (λ (x : Standing). Stood x t.lines p) (sym s) (e, at_kind true p k.0)
stand_first t (Whole l) s e k = stood_first l t.lines e k
stand_first t Wrong s e k = tt

stand_inside : (t : Text) (now : Step) → t.standing ≡ standing.Inside → Inner t.lines → OfKind false now → StandsOn t now
stand_inside t (On d p) s e k = subst (λ (x : Standing). Stood x t.lines p) (sym s) (e, at_kind false p k.0)
stand_inside t (Whole l) s e k = stood_inside l t.lines e k
stand_inside t Wrong s e k = tt

stands : (g : Grammar) (s : Standing) (ls : List CertLine) (d : Draft) (p : Spot) (b : ℕ) → Stood s ls p → StandsOn (record { lines = ls; standing = s; draft = d; spot = p }) (byte_step g s d p b)
stands g standing.First ls d p b k =
    stand_first (record { lines = ls; standing = standing.First; draft = d; spot = p }) (byte_step g standing.First d p b) refl k.0 (kind_of g standing.First true d p b (begin_head b) k.1)
stands g standing.Inside ls d p b k =
    stand_inside (record { lines = ls; standing = standing.Inside; draft = d; spot = p }) (byte_step g standing.Inside d p b) refl k.0 (kind_of g standing.Inside false d p b (begin_other b) k.1)
stands g standing.Over ls d p b k = subst (λ (q : Spot). StandsOn (record { lines = ls; standing = standing.Over; draft = d; spot = p }) (byte_step g standing.Over d q b)) (sym k.1) tt

some_is : (t u : Text) → Some t ≡ Some u → t ≡ u
some_is t u e = cc

settle_kept : (g : Grammar) (t u : Text) (bytes : List ℕ) (b : ℕ) (now : Step) → TextKept g t bytes → Means g (shown g t.draft t.spot ++ b ∷ []) now → StandsOn t now
    → settle t now ≡ Some u → TextKept g u (bytes ++ b ∷ [])
settle_kept g t u bytes b (On d p) k m s e =
    let front = flat_map (line_text g) t.lines in
    subst (λ (v : Text). TextKept g v (bytes ++ b ∷ [])) (some_is (record { lines = t.lines; standing = t.standing; draft = d; spot = p }) u e)
    (record {
      shows = ap (λ (x : List ℕ). x ++ b ∷ []) k.shows ∙ append_assoc front (shown g t.draft t.spot) (b ∷ []) ∙ ap (λ (x : List ℕ). front ++ x) (sym m.0);
      kept = m.1;
      fit = k.fit;
      stood = s;
    })
settle_kept g t u bytes b (Whole l) k m s e =
    let front = flat_map (line_text g) t.lines in
    subst (λ (v : Text). TextKept g v (bytes ++ b ∷ [])) (some_is (record { lines = t.lines ++ l ∷ []; standing = standing_after l; draft = no_items; spot = spot.Start }) u e)
    (record {
      shows =
          ap (λ (x : List ℕ). x ++ b ∷ []) k.shows ∙ append_assoc front (shown g t.draft t.spot) (b ∷ []) ∙ ap (λ (x : List ℕ). front ++ x) (sym m.0)
          ∙ ap (λ (x : List ℕ). front ++ x) (sym (append-nil (line_text g l))) ∙ sym (flat_map-append (line_text g) t.lines (l ∷ []))
          ∙ sym (append-nil (flat_map (line_text g) (t.lines ++ l ∷ [])));
      kept = refl;
      fit = all_more (FitsLine g) t.lines l k.fit m.1;
      stood = s;
    })
settle_kept g t u bytes b Wrong k m s e = absurd cc

pub one_kept : (g : Grammar) (room : 0 < g.most_pairs) (bytes : List ℕ) (t u : Text) (b : ℕ) → TextKept g t bytes → advance g t b ≡ Some u → TextKept g u (bytes ++ b ∷ [])
one_kept g room bytes t u b k e =
    settle_kept g t u bytes b (byte_step g t.standing t.draft t.spot b) k (step_means g room t.standing t.draft t.spot b k.kept) (stands g t.standing t.lines t.draft t.spot b k.stood) e

abbrev pub KeptSo : Grammar → Option Text → List ℕ → Type 0
KeptSo g None bytes = Unit {0}
KeptSo g (Some t) bytes = TextKept g t bytes

so_kept : (g : Grammar) (o : Option Text) (bytes : List ℕ) → ((u : Text) → o ≡ Some u → TextKept g u bytes) → KeptSo g o bytes
so_kept g None bytes h = tt
so_kept g (Some t) bytes h = h t refl

pub run_kept : (g : Grammar) (room : 0 < g.most_pairs) (more : List ℕ) (o : Option Text) (bytes : List ℕ) → KeptSo g o bytes → KeptSo g (advances g o more) (bytes ++ more)
run_kept g room [] o bytes k = subst (λ (x : List ℕ). KeptSo g o x) (sym (append-nil bytes)) k
run_kept g room (b ∷ bs) None bytes k = tt
run_kept g room (b ∷ bs) (Some t) bytes k =
    subst (λ (x : List ℕ). KeptSo g (advances g (advance g t b) bs) x) (append_assoc bytes (b ∷ []) bs)
    (run_kept g room bs (advance g t b) (bytes ++ b ∷ []) (so_kept g (advance g t b) (bytes ++ b ∷ []) (λ u e. one_kept g room bytes t u b k e)))

pub none_ends : (g : Grammar) (bytes : List ℕ) (t : Text) → advances g None bytes ≡ Some t → ⊥
none_ends g [] t e = cc
none_ends g (b ∷ bs) t e = cc

-- a text that is over is a readable certificate
pub over_readable : (g : Grammar) (t : Text) (bytes : List ℕ) → t.standing ≡ standing.Over → TextKept g t bytes → Readable g bytes t.lines
over_readable g t bytes s k =
    let c = subst (λ (x : Standing). Stood x t.lines t.spot) s k.stood in
    record {
      head = c.0.so.head;
      inner = c.0.so.inner;
      are = c.0.are ∙ ap (λ (ls : List CertLine). ls ++ line.End ∷ []) c.0.so.are;
      is_head = c.0.so.is_head;
      are_inner = c.0.so.are_inner;
      fit = k.fit;
      spelled = k.shows ∙ ap (λ (p : Spot). flat_map (line_text g) t.lines ++ shown g t.draft p) c.1 ∙ append-nil (flat_map (line_text g) t.lines);
    }

-- A prefix of a readable certificate is taken.
pub prefix_taken : (g : Grammar) (bytes : List ℕ) → IsPrefix g bytes → run g bytes ≡ None → ⊥
prefix_taken g bytes p e =
    let r = readable_run g (bytes ++ p.rest) p.lines p.readable in
    none_ends g p.rest (over p.lines) (sym (ap (λ (t : Option Text). advances g t p.rest) e) ∙ sym (advances-append g (Some text_start) bytes p.rest) ∙ r)

-- ---- each text that is taken can be ended

pub record Finish (g : Grammar) (t : Text) : Type 0 where
  pub rest : List ℕ
  pub end : Text
  pub led : advances g (Some t) rest ≡ Some end
  pub is_over : end.standing ≡ standing.Over

finish_start : (g : Grammar) (s : Standing) (ls : List CertLine) → Finish g (record { lines = ls; standing = s; draft = no_items; spot = spot.Start })
finish_start g standing.First ls =
    let t : Text = record { lines = ls; standing = standing.First; draft = no_items; spot = spot.Start } in
    let head = line.Head 0 0 in
    record {
      rest = line_text g head ++ codes "end\n";
      end = over (ls ++ head ∷ [] ++ line.End ∷ []);
      led =
          advances-append g (Some t) (line_text g head) (codes "end\n")
          ∙ ap (λ (o : Option Text). advances g o (codes "end\n")) (lift g t (line_text g head) head (head_taken g 0 0 (lit≤ tt) (lit≤ tt)))
          ∙ lift g (inside (ls ++ head ∷ [])) (codes "end\n") line.End refl;
      is_over = refl;
    }
finish_start g standing.Inside ls = record { rest = codes "end\n"; end = over (ls ++ line.End ∷ []); led = lift g (inside ls) (codes "end\n") line.End refl; is_over = refl }
finish_start g standing.Over ls = record { rest = []; end = over ls; led = refl; is_over = refl }

finish_within : (g : Grammar) (t : Text) → Completion g t.standing (On t.draft t.spot) → Finish g t
finish_within g t e =
    let f = finish_start g (standing_after e.line) (t.lines ++ e.line ∷ []) in
    record {
      rest = e.bytes ++ f.rest;
      end = f.end;
      led = advances-append g (Some t) e.bytes f.rest ∙ ap (λ (o : Option Text). advances g o f.rest) (lift g t e.bytes e.line e.led) ∙ f.led;
      is_over = f.is_over;
    }

finish : (g : Grammar) (ls : List CertLine) (s : Standing) (d : Draft) (p : Spot) → KeptSpot g d p → Finish g (record { lines = ls; standing = s; draft = d; spot = p })
finish g ls s d spot.Start k = subst (λ (e : Draft). Finish g (record { lines = ls; standing = s; draft = e; spot = spot.Start })) (sym k) (finish_start g s ls)
finish g ls s d spot.Forked k = finish_within g _ (spot_ends g s d spot.Forked tt)
finish g ls s d (spot.InWord w at) k = finish_within g _ (spot_ends g s d (spot.InWord w at) k.1)
finish g ls s d (spot.Due q) k = finish_within g _ (spot_ends g s d (spot.Due q) tt)
finish g ls s d (spot.Digits q v) k = finish_within g _ (spot_ends g s d (spot.Digits q v) tt)
finish g ls s d (spot.PairGap a b) k = finish_within g _ (spot_ends g s d (spot.PairGap a b) tt)
finish g ls s d (spot.Barred a b) k = finish_within g _ (spot_ends g s d (spot.Barred a b) tt)
finish g ls s d (spot.EndGap a b) k = finish_within g _ (spot_ends g s d (spot.EndGap a b) tt)
finish g ls s d (spot.Closed a b) k = finish_within g _ (spot_ends g s d (spot.Closed a b) tt)
finish g ls s d (spot.MarkDue to) k = finish_within g _ (spot_ends g s d (spot.MarkDue to) tt)
finish g ls s d (spot.InMark to m at) k = finish_within g _ (spot_ends g s d (spot.InMark to m at) k.1)

pub run_is_kept : (g : Grammar) (room : 0 < g.most_pairs) (bytes : List ℕ) (t : Text) → run g bytes ≡ Some t → TextKept g t bytes
run_is_kept g room bytes t e = subst (λ (o : Option Text). KeptSo g o bytes) e (run_kept g room bytes (Some text_start) [] (start_kept g))

-- What is taken is a prefix of a readable certificate.
pub taken_prefix : (g : Grammar) (room : 0 < g.most_pairs) (bytes : List ℕ) (t : Text) → run g bytes ≡ Some t → IsPrefix g bytes
taken_prefix g room bytes t e =
    let k = run_is_kept g room bytes t e in
    let f = finish g t.lines t.standing t.draft t.spot k.kept in
    let end : TextKept g f.end (bytes ++ f.rest) = subst (λ (o : Option Text). KeptSo g o (bytes ++ f.rest)) f.led (run_kept g room f.rest (Some t) bytes k) in
    record { rest = f.rest; lines = f.end.lines; readable = over_readable g f.end (bytes ++ f.rest) f.is_over end }

some_else : (o : Option Text) → (o ≡ None → ⊥) → IsSome o
some_else None h = absurd (h refl)
some_else (Some t) h = refl

prefix_by : (g : Grammar) (room : 0 < g.most_pairs) (bytes : List ℕ) (o : Option Text) → run g bytes ≡ o → IsSome o → IsPrefix g bytes
prefix_by g room bytes None e h = absurd cc
prefix_by g room bytes (Some t) e h = taken_prefix g room bytes t e

pub takes_prefixes : (g : Grammar) (room : 0 < g.most_pairs) (bytes : List ℕ) → IsPrefix g bytes ↔ IsSome (run g bytes)
takes_prefixes g room bytes = (λ p. some_else (run g bytes) (prefix_taken g bytes p), λ h. prefix_by g room bytes (run g bytes) refl h)

-- A spot is where its own text leads, so it is a function of that text.
abbrev pub IsTraced : Grammar → Standing → Draft → Spot → Type 0
IsTraced g s d p = byte_steps g s (On no_items spot.Start) (shown g d p) ≡ On d p

pub traced_more : (g : Grammar) (room : 0 < g.most_pairs) (s : Standing) (d e : Draft) (p q : Spot) (b : ℕ) → KeptSpot g d p → IsTraced g s d p → byte_step g s d p b ≡ On e q → IsTraced g s e q
traced_more g room s d e p q b k traced h =
    let m = subst (λ (now : Step). Means g (shown g d p ++ b ∷ []) now) h (step_means g room s d p b k) in
    ap (λ (text : List ℕ). byte_steps g s (On no_items spot.Start) text) m.0 ∙ chain g s (On no_items spot.Start) (On d p) (On e q) (shown g d p) (b ∷ []) traced h
