-- What a run of the machine says of the bytes that it has taken.
use Rattle.std.proofs.Common.{◌≡◌, ℕ, ◌+◌, ◌<◌, ◌==◌, Bool, true, false, cond, List, [], ◌∷◌, ◌++◌, length}
use Rattle.std.proofs.Common.{Option, Some, None, refl, sym, ap, subst, ◌∙◌, append_assoc, append-nil, arith, codes, length-append, zero-add}
use Rattle.std.specs.Prelude.{IsTrue, count_by, decimal}
use Rattle.std.specs.List.{flat_map}
use Rattle.std.proofs.lemmas.List.Concat.{flat_map-append}
use Rattle.std.proofs.lemmas.List.Sums.{fold-append, sum_by-append}
use Rattle.cert_text.specs.declared.line.Mark.TheVariants as mark
use Rattle.cert_text.specs.declared.line.CertLine.{CertLine}
use Rattle.cert_text.specs.declared.line.CertLine.TheVariants as line
use Rattle.cert_text.specs.declared.grammar.Grammar.{Grammar}
use Rattle.cert_text.specs.declared.spot.Standing.{Standing}
use Rattle.cert_text.specs.declared.spot.Standing.TheVariants as standing
use Rattle.cert_text.specs.declared.spot.Spot.{Spot}
use Rattle.cert_text.specs.Spelling.{line_text, head_word, pair_item_text, state_line_text}
use Rattle.cert_text.specs.Taken.{is_lf, after_last_lf, HasEnded, HoldsOpen}
use Rattle.cert_text.specs.Kept.{KeptSpot}
use Rattle.cert_text.specs.Machine.{Step, On, Whole, Wrong, byte_step, Text, settle, advance, advances, text_start, run, shown}
use Rattle.cert_text.proofs.ShownBytes.{Means, step_means}
use Rattle.cert_text.proofs.LineEnds.{ByLf, step_lf}
use Rattle.cert_text.proofs.ReadableRuns.{advances-append}
use Rattle.cert_text.proofs.Prefixes.{TextKept, Stood, start_kept, one_kept, taken_prefix, IsTraced, traced_more}

-- ---- counts

count_more : (bytes : List ℕ) (b : ℕ) → count_by is_lf (bytes ++ b ∷ []) ≡ count_by is_lf bytes + count_by is_lf (b ∷ [])
count_more bytes b = sum_by-append (λ (x : ℕ). cond (is_lf x) 1 0) bytes (b ∷ [])

after_more : (bytes : List ℕ) (b : ℕ) → after_last_lf (bytes ++ b ∷ []) ≡ cond (is_lf b) [] (after_last_lf bytes ++ b ∷ [])
after_more bytes b = fold-append (λ (rest : List ℕ) (x : ℕ). cond (is_lf x) [] (rest ++ x ∷ [])) [] bytes (b ∷ [])

-- the whole lines are counted, and what stands behind them is what the spot shows
pub record Counted (g : Grammar) (t : Text) (bytes : List ℕ) : Type 0 where
  pub counted : count_by is_lf bytes ≡ length t.lines
  pub rest : after_last_lf bytes ≡ shown g t.draft t.spot
  pub traced : IsTraced g t.standing t.draft t.spot

some_is : (t u : Text) → Some t ≡ Some u → t ≡ u
some_is t u e = cc

one : (b : ℕ) (v : Bool) → (b == 10) ≡ v → count_by is_lf (b ∷ []) ≡ cond v 1 0
one b v e = ap (λ (w : Bool). 0 + cond w 1 0) e ∙ zero-add (cond v 1 0)

settle_counted : (g : Grammar) (room : 0 < g.most_pairs) (t u : Text) (bytes : List ℕ) (b : ℕ) (now : Step) → KeptSpot g t.draft t.spot → Counted g t bytes
    → byte_step g t.standing t.draft t.spot b ≡ now → Means g (shown g t.draft t.spot ++ b ∷ []) now → ByLf b now → settle t now ≡ Some u → Counted g u (bytes ++ b ∷ [])
settle_counted g room t u bytes b (On d p) k c h m lf e =
    subst (λ (x : Text). Counted g x (bytes ++ b ∷ [])) (some_is _ u e) (record {
      counted = count_more bytes b ∙ ap (λ (n : ℕ). count_by is_lf bytes + n) (one b false lf) ∙ omega (arith, c.counted);
      rest = after_more bytes b ∙ ap (λ (v : Bool). cond v [] (after_last_lf bytes ++ b ∷ [])) lf ∙ ap (λ (r : List ℕ). r ++ b ∷ []) c.rest ∙ sym m.0;
      traced = traced_more g room t.standing t.draft d t.spot p b k c.traced h;
    })
settle_counted g room t u bytes b (Whole l) k c h m lf e =
    subst (λ (x : Text). Counted g x (bytes ++ b ∷ [])) (some_is _ u e) (record {
      counted = count_more bytes b ∙ ap (λ (n : ℕ). count_by is_lf bytes + n) (one b true lf) ∙ omega (arith, c.counted, length-append t.lines (l ∷ []));
      rest = after_more bytes b ∙ ap (λ (v : Bool). cond v [] (after_last_lf bytes ++ b ∷ [])) lf;
      traced = refl;
    })
settle_counted g room t u bytes b Wrong k c h m lf e = absurd cc

pub record RunKept (g : Grammar) (t : Text) (bytes : List ℕ) : Type 0 where
  pub text : TextKept g t bytes
  pub count : Counted g t bytes

one_run : (g : Grammar) (room : 0 < g.most_pairs) (v : (g.version == 10) ≡ false) (bytes : List ℕ) (t u : Text) (b : ℕ) → RunKept g t bytes → advance g t b ≡ Some u → RunKept g u (bytes ++ b ∷ [])
one_run g room v bytes t u b k e =
    record {
      text = one_kept g room bytes t u b k.text e;
      count =
          settle_counted g room t u bytes b (byte_step g t.standing t.draft t.spot b) k.text.kept k.count refl (step_means g room t.standing t.draft t.spot b k.text.kept)
          (step_lf g v t.standing t.draft t.spot b k.text.kept) e;
    }

abbrev RunSo : Grammar → Option Text → List ℕ → Type 0
RunSo g None bytes = Unit {0}
RunSo g (Some t) bytes = RunKept g t bytes

so_run : (g : Grammar) (o : Option Text) (bytes : List ℕ) → ((u : Text) → o ≡ Some u → RunKept g u bytes) → RunSo g o bytes
so_run g None bytes h = tt
so_run g (Some t) bytes h = h t refl

runs_kept : (g : Grammar) (room : 0 < g.most_pairs) (v : (g.version == 10) ≡ false) (more : List ℕ) (o : Option Text) (bytes : List ℕ) → RunSo g o bytes
    → RunSo g (advances g o more) (bytes ++ more)
runs_kept g room v [] o bytes k = subst (λ (x : List ℕ). RunSo g o x) (sym (append-nil bytes)) k
runs_kept g room v (b ∷ bs) None bytes k = tt
runs_kept g room v (b ∷ bs) (Some t) bytes k =
    subst (λ (x : List ℕ). RunSo g (advances g (advance g t b) bs) x) (append_assoc bytes (b ∷ []) bs)
    (runs_kept g room v bs (advance g t b) (bytes ++ b ∷ []) (so_run g (advance g t b) (bytes ++ b ∷ []) (λ u e. one_run g room v bytes t u b k e)))

-- What holds of the bytes that a run has taken.
pub run_keeps : (g : Grammar) (room : 0 < g.most_pairs) (v : (g.version == 10) ≡ false) (bytes : List ℕ) (t : Text) → run g bytes ≡ Some t → RunKept g t bytes
run_keeps g room v bytes t e =
    subst (λ (o : Option Text). RunSo g o bytes) e
    (runs_kept g room v bytes (Some text_start) [] (record { text = start_kept g; count = record { counted = refl; rest = refl; traced = refl } }))

-- ---- the end

-- bytes whose last is an LF
pub record LfLast (bytes : List ℕ) : Type 0 where
  pub front : List ℕ
  pub are : bytes ≡ front ++ 10 ∷ []

line_ends : (g : Grammar) (l : CertLine) → LfLast (line_text g l)
line_ends g (line.Head jobs cores) = record { front = head_word g ++ decimal jobs ++ 32 ∷ [] ++ decimal cores; are = refl }
line_ends g (line.Level number count) = record { front = codes "level " ++ decimal number ++ 32 ∷ [] ++ decimal count; are = refl }
line_ends g (line.Root pairs) = record { front = codes "root" ++ flat_map pair_item_text pairs; are = refl }
line_ends g (line.State parent job pairs ends last) = record { front = state_line_text g parent job pairs ends last; are = refl }
line_ends g (line.Edge from job est lst to) =
    record { front = codes "edge " ++ decimal from ++ 32 ∷ [] ++ decimal job ++ 32 ∷ [] ++ decimal est ++ 32 ∷ [] ++ decimal lst ++ 32 ∷ [] ++ decimal to; are = refl }
line_ends g (line.Job number lo hi mark.Ok) =
    let front = codes "job " ++ decimal number ++ 32 ∷ [] ++ decimal lo ++ 32 ∷ [] ++ decimal hi ++ 32 ∷ [] in
    record { front = front ++ codes "ok"; are = sym (append_assoc front (codes "ok") (10 ∷ [])) }
line_ends g (line.Job number lo hi mark.Miss) =
    let front = codes "job " ++ decimal number ++ 32 ∷ [] ++ decimal lo ++ 32 ∷ [] ++ decimal hi ++ 32 ∷ [] in
    record { front = front ++ codes "miss"; are = sym (append_assoc front (codes "miss") (10 ∷ [])) }
line_ends g (line.Verdict mark.Ok) = record { front = codes "verdict ok"; are = refl }
line_ends g (line.Verdict mark.Miss) = record { front = codes "verdict miss"; are = refl }
line_ends g line.End = record { front = codes "end"; are = refl }

lines_end : (g : Grammar) (l : CertLine) (ls : List CertLine) → LfLast (flat_map (line_text g) (l ∷ ls))
lines_end g l [] = let e = line_ends g l in record { front = e.front; are = append-nil (line_text g l) ∙ e.are }
lines_end g l (m ∷ ms) =
    let e = lines_end g m ms in
    record { front = line_text g l ++ e.front; are = ap (λ (t : List ℕ). line_text g l ++ t) e.are ∙ sym (append_assoc (line_text g l) e.front (10 ∷ [])) }

-- a certificate that is over ends with an end line behind another line
pub over_ended : (g : Grammar) (t : Text) (bytes : List ℕ) → TextKept g t bytes → t.standing ≡ standing.Over → HasEnded bytes
over_ended g t bytes k s =
    let c = subst (λ (x : Standing). Stood x t.lines t.spot) s k.stood in
    let e = lines_end g c.0.so.head c.0.so.inner in
    let text = line_text g in (
      e.front,
      k.shows ∙ ap (λ (p : Spot). flat_map text t.lines ++ shown g t.draft p) c.1 ∙ append-nil (flat_map text t.lines)
          ∙ ap (flat_map text) (c.0.are ∙ ap (λ (ls : List CertLine). ls ++ line.End ∷ []) c.0.so.are)
          ∙ flat_map-append text (c.0.so.head ∷ c.0.so.inner) (line.End ∷ [])
          ∙ ap (λ (t : List ℕ). t ++ codes "end\n") e.are
          ∙ append_assoc e.front (10 ∷ []) (codes "end\n"),
    )

abbrev OverSo : Option Text → Type 0
OverSo None = Unit {0}
OverSo (Some t) = t.standing ≡ standing.Over

over_line : (g : Grammar) (u : Text) (l : CertLine) → OverSo (advances g (settle u (Whole l)) (codes "end\n"))
over_line g u (line.Head jobs cores) = refl
over_line g u (line.Level number count) = refl
over_line g u (line.Root pairs) = refl
over_line g u (line.State parent job pairs ends last) = refl
over_line g u (line.Edge from job est lst to) = refl
over_line g u (line.Job number lo hi m) = refl
over_line g u (line.Verdict m) = refl
over_line g u line.End = tt

over_step : (g : Grammar) (u : Text) (now : Step) → ByLf 10 now → OverSo (advances g (settle u now) (codes "end\n"))
over_step g u (On d p) lf = absurd cc
over_step g u (Whole l) lf = over_line g u l
over_step g u Wrong lf = tt

over_so : (g : Grammar) (v : (g.version == 10) ≡ false) (o : Option Text) (front : List ℕ) → RunSo g o front → OverSo (advances g o (codes "\nend\n"))
over_so g v None front k = tt
over_so g v (Some u) front k = over_step g u (byte_step g u.standing u.draft u.spot 10) (step_lf g v u.standing u.draft u.spot 10 k.text.kept)

-- bytes that end with an end line behind another line are over
pub ended_over : (g : Grammar) (room : 0 < g.most_pairs) (v : (g.version == 10) ≡ false) (bytes : List ℕ) (t : Text) → run g bytes ≡ Some t → HasEnded bytes → t.standing ≡ standing.Over
ended_over g room v bytes t e h =
    let front = h.0 in
    let led : advances g (run g front) (codes "\nend\n") ≡ Some t = sym (advances-append g (Some text_start) front (codes "\nend\n")) ∙ sym (ap (run g) h.1) ∙ e in
    subst OverSo led (over_so g v (run g front) front (runs_kept g room v front (Some text_start) [] (record { text = start_kept g; count = record { counted = refl; rest = refl; traced = refl } })))

-- the last whole line is End
abbrev pub is_over : Standing → Bool
is_over standing.First = false
is_over standing.Inside = false
is_over standing.Over = true

pub over_true : (s : Standing) → IsTrue (is_over s) → s ≡ standing.Over
over_true standing.First h = absurd cc
over_true standing.Inside h = absurd cc
over_true standing.Over h = refl

-- What is held after the bytes of a run.
pub run_holds : (g : Grammar) (room : 0 < g.most_pairs) (v : (g.version == 10) ≡ false) (bytes : List ℕ) (t : Text) → run g bytes ≡ Some t
    → HoldsOpen g bytes (length t.lines) (shown g t.draft t.spot) (is_over t.standing)
run_holds g room v bytes t e =
    let k = run_keeps g room v bytes t e in
    record {
      prefix = taken_prefix g room bytes t e;
      counted = sym k.count.counted;
      rest_is = sym k.count.rest;
      end = (
        λ h. over_ended g t bytes k.text (over_true t.standing h),
        λ h. ap is_over (ended_over g room v bytes t e h),
      );
    }
