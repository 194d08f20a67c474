-- What the lines taken out of some bytes are, after a piece more.
use Rattle.std.proofs.Common.{◌≡◌, ℕ, ◌<◌, inl, inr, Bool, List, [], ◌∷◌, ◌++◌, length, take, drop, Option, None, Some, Result, Ok, Err, refl, sym, ap, subst, ◌∙◌, append_assoc, append-nil, arith}
use Rattle.std.specs.Prelude.{count_by}
use Rattle.std.specs.List.{flat_map, AllByRecursion}
use Rattle.std.proofs.lemmas.List.{take-append-drop}
use Rattle.std.proofs.lemmas.List.Concat.{flat_map-append}
use Rattle.cert_text.specs.declared.fault.FeedFault.{FeedFault}
use Rattle.cert_text.specs.declared.fault.FeedFault.TheVariants as fault
use Rattle.cert_text.specs.declared.line.CertLine.{CertLine}
use Rattle.cert_text.specs.declared.grammar.Grammar.{Grammar}
use Rattle.cert_text.specs.Spelling.{line_text, FitsLine}
use Rattle.cert_text.specs.declared.line.CertLine.TheVariants as line
use Rattle.cert_text.specs.Laws.{SpelledLines}
use Rattle.cert_text.specs.Readable.{Readable}
use Rattle.cert_text.specs.Taken.{Held, Open, Fault, HoldsAfter, HoldsOpen, is_lf, after_last_lf}
use Rattle.cert_text.specs.Reader.{AfterPiece, Brings, Closes, HeldReader, IfFault, IfOpen, IfReady, TakesLine, first_line}
use Rattle.cert_stream.specs.Lines.{ClosesLines, HasLines, IfGoesOn}
use Rattle.cert_stream.proofs.LineEnds.{after_line, after_none, first_some, first_take, first_whole}

-- ---- lists

pub all_more : {X : Type 0} (P : X → Type 0) (xs : List X) (x : X) → AllByRecursion P xs → P x → AllByRecursion P (xs ++ x ∷ [])
all_more P [] x all one = (one, tt)
all_more P (y ∷ ys) x all one = (all.0, all_more P ys x all.1 one)

no_items : (xs : List ℕ) → length xs ≡ 0 → xs ≡ []
no_items [] e = refl
no_items (x ∷ xs) e = absurd (omega (arith, e))

module _ (g : Grammar) where
  -- ---- a fault

  -- what a call leaves, at the version of the reader
  ready_at : (r new : HeldReader) (piece : List ℕ) (result : Result ℕ FeedFault) → r.grammar ≡ g
      → IfReady r.held r.waiting (λ rest. AfterPiece r.grammar r.held rest piece result new)
      → IfReady r.held r.waiting (λ rest. AfterPiece g r.held rest piece result new)
  ready_at r new piece result version ready = subst (λ (v : Grammar). IfReady r.held r.waiting (λ rest. AfterPiece v r.held rest piece result new)) version ready

  -- a fault stays, whatever comes behind it
  pub fault_more : (bytes more : List ℕ) (f : FeedFault) → HoldsAfter g bytes (Fault f) → HoldsAfter g (bytes ++ more) (Fault f)
  fault_more bytes more (fault.Text l b) h = record {
    front = h.front;
    bad = h.bad;
    more = h.more ++ more;
    are = ap (λ (t : List ℕ). t ++ more) h.are ∙ append_assoc h.front (h.bad ∷ h.more) more;
    prefix = h.prefix;
    first = h.first;
    at_line = h.at_line;
    at_byte = h.at_byte;
  }
  fault_more bytes more fault.Memory h = absurd h

  -- the piece was taken, and a fault is kept
  record KeepsFault (bytes piece : List ℕ) (new : HeldReader) : Type 0 where
    which : FeedFault
    is : new.held ≡ Fault which
    none_waits : new.waiting ≡ None
    takes : HoldsAfter g (bytes ++ piece) (Fault which)

  -- the piece is its first line and what stands behind it
  piece_parts : (bytes piece : List ℕ) → (bytes ++ first_line piece) ++ drop (length (first_line piece)) piece ≡ bytes ++ piece
  piece_parts bytes piece =
      append_assoc bytes (first_line piece) (drop (length (first_line piece)) piece)
      ∙ ap (λ (t : List ℕ). bytes ++ (t ++ drop (length (first_line piece)) piece)) (sym (first_take piece))
      ∙ ap (λ (t : List ℕ). bytes ++ t) (take-append-drop (length (first_line piece)) piece)

  keeps_fault : (held : Held) (w : Option CertLine) (r new : HeldReader) (bytes piece : List ℕ) (l b : ℕ)
      → w ≡ None → r.held ≡ held → r.waiting ≡ None → HoldsAfter g bytes held
      → IfFault held (λ f. (◌≡◌ {A = Result ℕ FeedFault} (Err (fault.Text l b)) (Err f)) × (new ≡ r))
      → IfReady held w (λ rest. AfterPiece g held rest piece (Err (fault.Text l b)) new)
      → KeepsFault bytes piece new
  keeps_fault (Open k rest e) None r new bytes piece l b none is waits takes kept (same, on) =
      let at : HoldsAfter g (bytes ++ first_line piece) (Fault (fault.Text l b)) = subst (λ (x : HeldReader). HoldsAfter g (bytes ++ first_line piece) x.held) same (on bytes takes) in
      record {
        which = fault.Text l b;
        is = ap (λ (x : HeldReader). x.held) same;
        none_waits = ap (λ (x : HeldReader). x.waiting) same;
        takes = subst (λ (t : List ℕ). HoldsAfter g t (Fault (fault.Text l b))) (piece_parts bytes piece)
            (fault_more (bytes ++ first_line piece) (drop (length (first_line piece)) piece) (fault.Text l b) at);
      }
  keeps_fault (Open k rest e) (Some line) r new bytes piece l b none is waits takes kept ready = absurd cc
  keeps_fault (Fault f) w r new bytes piece l b none is waits takes (err, same) ready = record {
    which = f;
    is = ap (λ (x : HeldReader). x.held) same ∙ is;
    none_waits = ap (λ (x : HeldReader). x.waiting) same ∙ waits;
    takes = fault_more bytes piece f takes;
  }

  -- a piece in which a byte is wrong, or behind one
  pub wrong_piece : (r new : HeldReader) (bytes piece : List ℕ) (lines : List CertLine) (l b : ℕ) → HasLines g bytes r lines → new.grammar ≡ r.grammar
      → IfFault r.held (λ f. (◌≡◌ {A = Result ℕ FeedFault} (Err (fault.Text l b)) (Err f)) × (new ≡ r))
      → IfReady r.held r.waiting (λ rest. AfterPiece r.grammar r.held rest piece (Err (fault.Text l b)) new)
      → HasLines g (bytes ++ piece) new lines
  wrong_piece r new bytes piece lines l b h same kept ready =
      let at = ready_at r new piece (Err (fault.Text l b)) h.version ready in
      let k = keeps_fault r.held r.waiting r new bytes piece l b h.none_waits refl h.none_waits h.held kept at in
      record {
        version = same ∙ h.version;
        none_waits = k.none_waits;
        held = subst (λ (x : Held). HoldsAfter g (bytes ++ piece) x) (sym k.is) k.takes;
        fit = h.fit;
        spelled = subst (λ (x : Held). IfGoesOn x (λ rest. bytes ++ piece ≡ flat_map (line_text g) lines ++ rest)) (sym k.is) tt;
      }

  pub wrong_at : (r new : HeldReader) (bytes piece : List ℕ) (lines : List CertLine) (f : FeedFault) (l b : ℕ) → f ≡ fault.Text l b → HasLines g bytes r lines → new.grammar ≡ r.grammar
      → IfFault r.held (λ g. (◌≡◌ {A = Result ℕ FeedFault} (Err f) (Err g)) × (new ≡ r))
      → IfReady r.held r.waiting (λ rest. AfterPiece r.grammar r.held rest piece (Err f) new)
      → HasLines g (bytes ++ piece) new lines
  wrong_at r new bytes piece lines (fault.Text x y) l b is h same kept ready = wrong_piece r new bytes piece lines x y h same kept ready
  wrong_at r new bytes piece lines fault.Memory l b is h same kept ready = absurd cc

  -- ---- no fault

  -- the reader was open, and took the first line of the piece
  record Opened (held : Held) (piece : List ℕ) (n : ℕ) (new : HeldReader) : Type 0 where
    lines : ℕ
    rest : List ℕ
    ended : Bool
    is : held ≡ Open lines rest ended
    takes : TakesLine g held rest piece n new

  opened : (held : Held) (w : Option CertLine) (r new : HeldReader) (piece : List ℕ) (n : ℕ) → w ≡ None
      → IfFault held (λ f. (◌≡◌ {A = Result ℕ FeedFault} (Ok n) (Err f)) × (new ≡ r))
      → IfReady held w (λ rest. AfterPiece g held rest piece (Ok n) new)
      → Opened held piece n new
  opened (Open k rest e) None r new piece n none kept ready = record { lines = k; rest = rest; ended = e; is = refl; takes = ready }
  opened (Open k rest e) (Some line) r new piece n none kept ready = absurd cc
  opened (Fault f) w r new piece n none (err, same) ready = absurd cc

  -- what is held stands behind the last LF
  goes_on : (held : Held) (bytes : List ℕ) (P : List ℕ → Type 0) → HoldsAfter g bytes held → P (after_last_lf bytes) → IfGoesOn held P
  goes_on (Open k rest e) bytes P h p = subst P (sym h.rest_is) p
  goes_on (Fault f) bytes P h p = tt

  -- of an open reader, the bytes are those of the lines and those behind the last LF
  spelled_open : (held : Held) (bytes : List ℕ) (lines : List CertLine) (k : ℕ) (rest : List ℕ) (e : Bool) → held ≡ Open k rest e
      → IfGoesOn held (λ rest. bytes ≡ flat_map (line_text g) lines ++ rest) → bytes ≡ flat_map (line_text g) lines ++ rest
  spelled_open held bytes lines k rest e is h = subst (λ (x : Held). IfGoesOn x (λ rest. bytes ≡ flat_map (line_text g) lines ++ rest)) is h

  rest_open : (held : Held) (bytes : List ℕ) (k : ℕ) (rest : List ℕ) (e : Bool) → held ≡ Open k rest e → HoldsAfter g bytes held → rest ≡ after_last_lf bytes
  rest_open held bytes k rest e is h =
      let o : HoldsOpen g bytes k rest e = subst (λ (x : Held). HoldsAfter g bytes x) is h in o.rest_is

  -- a piece without the end of a line
  pub part_piece : (r new : HeldReader) (bytes piece : List ℕ) (lines : List CertLine) (n : ℕ) → HasLines g bytes r lines → new.grammar ≡ r.grammar
      → IfFault r.held (λ f. (◌≡◌ {A = Result ℕ FeedFault} (Ok n) (Err f)) × (new ≡ r))
      → IfReady r.held r.waiting (λ rest. AfterPiece r.grammar r.held rest piece (Ok n) new)
      → new.waiting ≡ None → HasLines g (bytes ++ take n piece) (record { grammar = new.grammar; held = new.held; waiting = None }) lines
  part_piece r new bytes piece lines n h same kept ready none =
      let o = opened r.held r.waiting r new piece n h.none_waits kept (ready_at r new piece (Ok n) h.version ready) in
      let no_lf : count_by is_lf piece ≡ 0 = subst (λ (w : Option CertLine). Brings g o.rest piece w) none o.takes.brings in
      let taken : take n piece ≡ first_line piece = ap (λ (k : ℕ). take k piece) o.takes.taken ∙ first_take piece in
      let whole : take n piece ≡ piece = taken ∙ first_whole piece no_lf in
      let held : HoldsAfter g (bytes ++ take n piece) new.held = subst (λ (t : List ℕ). HoldsAfter g (bytes ++ t) new.held) (sym taken) (o.takes.holds bytes h.held) in
      let none_in : count_by is_lf (take n piece) ≡ 0 = ap (count_by is_lf) whole ∙ no_lf in
      let rest = rest_open r.held bytes o.lines o.rest o.ended o.is h.held in
      let front = spelled_open r.held bytes lines o.lines o.rest o.ended o.is h.spelled in
      let text = flat_map (line_text g) lines in
      let are : bytes ++ take n piece ≡ text ++ after_last_lf (bytes ++ take n piece) =
      ap (λ (t : List ℕ). t ++ take n piece) front ∙ append_assoc text o.rest (take n piece)
      ∙ ap (λ (t : List ℕ). text ++ (t ++ take n piece)) rest ∙ ap (λ (t : List ℕ). text ++ t) (sym (after_none bytes (take n piece) none_in)) in
      record {
        version = same ∙ h.version;
        none_waits = refl;
        held = held;
        fit = h.fit;
        spelled = goes_on new.held (bytes ++ take n piece) (λ rest. bytes ++ take n piece ≡ text ++ rest) held are;
      }

  -- a piece with the end of a line
  pub line_piece : (r new : HeldReader) (bytes piece : List ℕ) (lines : List CertLine) (n : ℕ) (l : CertLine) → HasLines g bytes r lines → new.grammar ≡ r.grammar
      → IfFault r.held (λ f. (◌≡◌ {A = Result ℕ FeedFault} (Ok n) (Err f)) × (new ≡ r))
      → IfReady r.held r.waiting (λ rest. AfterPiece r.grammar r.held rest piece (Ok n) new)
      → new.waiting ≡ Some l → HasLines g (bytes ++ take n piece) (record { grammar = new.grammar; held = new.held; waiting = None }) (lines ++ l ∷ [])
  line_piece r new bytes piece lines n l h same kept ready waits =
      let o = opened r.held r.waiting r new piece n h.none_waits kept (ready_at r new piece (Ok n) h.version ready) in
      let brings : Brings g o.rest piece (Some l) = subst (λ (w : Option CertLine). Brings g o.rest piece w) waits o.takes.brings in
      let taken : take n piece ≡ first_line piece = ap (λ (k : ℕ). take k piece) o.takes.taken ∙ first_take piece in
      let held : HoldsAfter g (bytes ++ take n piece) new.held = subst (λ (t : List ℕ). HoldsAfter g (bytes ++ t) new.held) (sym taken) (o.takes.holds bytes h.held) in
      let front = spelled_open r.held bytes lines o.lines o.rest o.ended o.is h.spelled in
      let text = flat_map (line_text g) lines in
      let whole : bytes ++ take n piece ≡ text ++ line_text g l =
      ap (λ (t : List ℕ). t ++ take n piece) front ∙ append_assoc text o.rest (take n piece)
      ∙ ap (λ (t : List ℕ). text ++ (o.rest ++ t)) taken ∙ ap (λ (t : List ℕ). text ++ t) (sym brings.0) in
      let more : flat_map (line_text g) (lines ++ l ∷ []) ≡ text ++ line_text g l =
      flat_map-append (line_text g) lines (l ∷ []) ∙ ap (λ (t : List ℕ). text ++ t) (append-nil (line_text g l)) in
      let behind : after_last_lf (bytes ++ take n piece) ≡ [] = ap after_last_lf whole ∙ after_line g text l in
      let are : bytes ++ take n piece ≡ flat_map (line_text g) (lines ++ l ∷ []) ++ after_last_lf (bytes ++ take n piece) =
      whole ∙ sym more ∙ sym (append-nil (flat_map (line_text g) (lines ++ l ∷ [])))
      ∙ ap (λ (t : List ℕ). flat_map (line_text g) (lines ++ l ∷ []) ++ t) (sym behind) in
      record {
        version = same ∙ h.version;
        none_waits = refl;
        held = held;
        fit = all_more (FitsLine g) lines l h.fit brings.1;
        spelled = goes_on new.held (bytes ++ take n piece) (λ rest. bytes ++ take n piece ≡ flat_map (line_text g) (lines ++ l ∷ []) ++ rest) held are;
      }

  -- a call that takes some bytes of a piece takes one
  pub went : (r new : HeldReader) (piece : List ℕ) (n : ℕ) → r.grammar ≡ g → r.waiting ≡ None
      → IfFault r.held (λ f. (◌≡◌ {A = Result ℕ FeedFault} (Ok n) (Err f)) × (new ≡ r))
      → IfReady r.held r.waiting (λ rest. AfterPiece r.grammar r.held rest piece (Ok n) new)
      → 0 < length piece → 0 < n
  went r new piece n version none kept ready some =
      let o = opened r.held r.waiting r new piece n none kept (ready_at r new piece (Ok n) version ready) in
      omega (arith, o.takes.taken, first_some piece some)

  -- ---- the end

  -- nothing stands behind the last line of a certificate
  nothing_behind : (bytes : List ℕ) (lines : List CertLine) → Readable g bytes lines → after_last_lf bytes ≡ []
  nothing_behind bytes lines r =
      let front = flat_map (line_text g) (r.head ∷ r.inner) in
      let last : flat_map (line_text g) (r.head ∷ r.inner ++ line.End ∷ []) ≡ front ++ line_text g line.End =
      flat_map-append (line_text g) (r.head ∷ r.inner) (line.End ∷ []) ∙ ap (λ (t : List ℕ). front ++ t) (append-nil (line_text g line.End)) in
      ap after_last_lf (r.spelled ∙ ap (flat_map (line_text g)) r.are ∙ last) ∙ after_line g front line.End

  close_open : (law : SpelledLines) (k : ℕ) (rest : List ℕ) (e : Bool) (bytes : List ℕ) (lines : List CertLine) (result : Result Unit FeedFault)
      → HoldsOpen g bytes k rest e → AllByRecursion (FitsLine g) lines → bytes ≡ flat_map (line_text g) lines ++ rest
      → Closes g bytes result → ClosesLines g bytes lines result
  close_open law k rest e bytes lines (Ok u) h fit spelled (others, readable) =
      let none : rest ≡ [] = h.rest_is ∙ nothing_behind bytes others readable in
      let all : bytes ≡ flat_map (line_text g) lines =
      spelled ∙ ap (λ (t : List ℕ). flat_map (line_text g) lines ++ t) none ∙ append-nil (flat_map (line_text g) lines) in
      law g bytes others lines readable fit all
  close_open law k rest e bytes lines (Err (fault.Text l b)) h fit spelled closes = inr closes
  close_open law k rest e bytes lines (Err fault.Memory) h fit spelled closes = closes

  close_fault : (f : FeedFault) (bytes : List ℕ) (lines : List CertLine) (result : Result Unit FeedFault)
      → HoldsAfter g bytes (Fault f) → result ≡ Err f → ClosesLines g bytes lines result
  close_fault (fault.Text l b) bytes lines result h is = subst (ClosesLines g bytes lines) (sym is) (inl h)
  close_fault fault.Memory bytes lines result h is = absurd h

  close_at : (law : SpelledLines) (held : Held) (bytes : List ℕ) (lines : List CertLine) (result : Result Unit FeedFault)
      → HoldsAfter g bytes held → AllByRecursion (FitsLine g) lines
      → IfGoesOn held (λ rest. bytes ≡ flat_map (line_text g) lines ++ rest)
      → IfFault held (λ f. result ≡ Err f) → IfOpen held ((bytes : List ℕ) → HoldsAfter g bytes held → Closes g bytes result)
      → ClosesLines g bytes lines result
  close_at law (Open k rest e) bytes lines result takes fit spelled kept closes = close_open law k rest e bytes lines result takes fit spelled (closes bytes takes)
  close_at law (Fault f) bytes lines result takes fit spelled kept closes = close_fault f bytes lines result takes kept

  -- what the end of the bytes gives
  pub closes_lines : (law : SpelledLines) (r : HeldReader) (bytes : List ℕ) (lines : List CertLine) (result : Result Unit FeedFault) → HasLines g bytes r lines
      → IfFault r.held (λ f. result ≡ Err f) → IfOpen r.held ((bytes : List ℕ) → HoldsAfter g bytes r.held → Closes g bytes result)
      → ClosesLines g bytes lines result
  closes_lines law r bytes lines result h kept closes = close_at law r.held bytes lines result h.held h.fit h.spelled kept closes

-- ---- a piece, a part at a time

-- the first bytes of a piece were taken, and the rest is left
pub record TookFront {T : Type 0} (piece rest : List ℕ) (Before After : T → List ℕ → Type 0) : Type 0 where
  pub done : List ℕ
  pub are : piece ≡ done ++ rest
  pub takes : (start : T) (bytes : List ℕ) → Before start bytes → After start (bytes ++ done)

pub took_none : {T : Type 0} (piece : List ℕ) (Before : T → List ℕ → Type 0) → TookFront piece piece Before Before
took_none piece Before = record { done = []; are = refl; takes = λ start bytes h. subst (Before start) (sym (append-nil bytes)) h }

pub took_more : {T : Type 0} (piece rest later : List ℕ) (n : ℕ) (A B C : T → List ℕ → Type 0) → TookFront piece rest A B
    → ((start : T) (bytes : List ℕ) → B start bytes → C start (bytes ++ take n rest)) → later ≡ drop n rest → TookFront piece later A C
took_more piece rest later n A B C t on is = record {
  done = t.done ++ take n rest;
  are = t.are ∙ ap (λ (xs : List ℕ). t.done ++ xs) (sym (take-append-drop n rest)) ∙ sym (append_assoc t.done (take n rest) (drop n rest))
      ∙ ap (λ (xs : List ℕ). (t.done ++ take n rest) ++ xs) (sym is);
  takes = λ start bytes h. subst (C start) (append_assoc bytes t.done (take n rest)) (on start (bytes ++ t.done) (t.takes start bytes h));
}

pub took_all : {T : Type 0} (piece rest : List ℕ) (A B : T → List ℕ → Type 0) → TookFront piece rest A B → length rest ≡ 0
    → (start : T) (bytes : List ℕ) → A start bytes → B start (bytes ++ piece)
took_all piece rest A B t none start bytes h =
    let whole : t.done ≡ piece = sym (t.are ∙ ap (λ (xs : List ℕ). t.done ++ xs) (no_items rest none) ∙ append-nil t.done) in
    subst (λ (xs : List ℕ). B start (bytes ++ xs)) whole (t.takes start bytes h)
