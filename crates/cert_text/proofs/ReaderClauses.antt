-- The clauses of the reader, from what it holds and what taking a piece gives.
use Rattle.std.proofs.Common.{◌≡◌, ℕ, ◌+◌, ◌<◌, ◌≤◌, ◌^◌, Bool, true, false, List, [], ◌++◌, length, take, Option, Some, None, Ok, Err, refl, sym, ap, subst, ◌∙◌, arith, length-take-le}
use Rattle.cert_text.specs.declared.fault.FeedFault.{FeedFault}
use Rattle.cert_text.specs.declared.fault.FeedFault.TheVariants as fault
use Rattle.cert_text.specs.declared.feed.LineFault.{LineFault}
use Rattle.cert_text.specs.declared.feed.LineFault.TheVariants as line_fault
use Rattle.cert_text.specs.declared.feed.PieceEnd.TheVariants as piece_end
use Rattle.cert_text.specs.declared.line.CertLine.{CertLine}
use Rattle.cert_text.specs.declared.grammar.Grammar.{Grammar}
use Rattle.cert_text.specs.declared.spot.Standing.{Standing}
use Rattle.cert_text.specs.declared.spot.Draft.{Draft}
use Rattle.cert_text.specs.declared.spot.Spot.{Spot}
use Rattle.cert_text.specs.declared.spot.Spot.TheVariants as spot
use Rattle.cert_text.specs.Grammar.{IsVersion}
use Rattle.cert_text.specs.Spelling.{FitsLine}
use Rattle.cert_text.specs.Taken.{HoldsOpen, Fault, HoldsAfter}
use Rattle.cert_text.specs.Reader.{HeldReader, IfOpen, IfReady, IsOpen, AfterPiece, StandsInLine, standing_at, held_or_fault, is_end, count_of_lines, fault_behind, HasPlace, IsReadable, Lacks}
use Rattle.cert_text.specs.Machine.{no_items, Step, On, Whole, Wrong, byte_steps, text_start, shown}
use Rattle.cert_text.specs.Kept.{IsOn, TakesPiece}
use Rattle.cert_text.proofs.RunCounts.{run_holds}
use Rattle.cert_text.proofs.FirstLines.{still_on, whole_line}
use Rattle.cert_text.proofs.HoldsMore.{on_at, agree, holds_on, holds_whole, holds_fault, stands_on, stands_short, stands_start, line_shown, closes}

-- what a reader is seen as
abbrev pub seen : Grammar → Option FeedFault → ℕ → Bool → Draft → Spot → Option CertLine → HeldReader
seen g kept lines ended d p w = record { grammar = g; held = held_or_fault kept lines (shown g d p) ended; waiting = w }

-- a reader behind want of memory
abbrev no_memory : Grammar → Option CertLine → HeldReader
no_memory g w = record { grammar = g; held = Fault fault.Memory; waiting = w }

module _ {g : Grammar} (v : IsVersion g) where
  pub nothing_held : HoldsOpen g [] 0 [] false
  nothing_held = run_holds g v.some_pairs v.no_lf [] text_start refl

  -- a piece is taken by the standing of the reader
  at_reader : (s t : Standing) (now : Step) (xs : List ℕ) (end : Step) → s ≡ t → byte_steps g s now xs ≡ end → byte_steps g t now xs ≡ end
  at_reader s t now xs end es h = sym (ap (λ (r : Standing). byte_steps g r now xs) es) ∙ h

  -- ---- the line goes on

  part_ready : (kept : Option FeedFault) (lines : ℕ) (ended : Bool) (d e : Draft) (p q : Spot) (at : ℕ) (w : Option CertLine) (piece : List ℕ) (n : ℕ) → StandsInLine g lines ended d p at
      → n ≡ length piece → byte_steps g (standing_at lines ended) (On d p) piece ≡ On e q
      → IfReady (held_or_fault kept lines (shown g d p) ended) w
      (λ rest. AfterPiece g (held_or_fault kept lines (shown g d p) ended) rest piece (Ok n) (seen g kept lines ended e q w))
  part_ready (Some f) lines ended d e p q at None piece n k all h = tt
  part_ready (Some f) lines ended d e p q at (Some l) piece n k all h = tt
  part_ready None lines ended d e p q at (Some l) piece n k all h = tt
  part_ready None lines ended d e p q at None piece n k all h =
      let none = still_on g v.some_pairs v.no_lf (standing_at lines ended) piece d e p q k.kept h in
      record {
        taken = all ∙ sym (ap (λ (bs : List ℕ). length bs) none.line);
        no_fault = tt;
        holds = λ bytes held.
            subst (λ (xs : List ℕ). HoldsOpen g (bytes ++ xs) lines (shown g e q) ended) (sym none.line)
            (holds_on v bytes piece lines ended d e p q (agree v bytes lines ended d p at k held) h);
        brings = none.count;
      }

  pub part_takes : (old : HeldReader) (kept : Option FeedFault) (lines : ℕ) (ended : Bool) (d e : Draft) (p q : Spot) (at : ℕ) (w : Option CertLine) (s : Standing) (piece : List ℕ) (n : ℕ)
      → seen g kept lines ended d p w ≡ old → StandsInLine g lines ended d p at → s ≡ standing_at lines ended → TakesPiece g s (On d p) piece (Ok (piece_end.Part n)) e q
      → IfReady old.held old.waiting (λ rest. AfterPiece old.grammar old.held rest piece (Ok n) (seen g kept lines ended e q w))
  part_takes old kept lines ended d e p q at w s piece n view k es t =
      subst (λ (o : HeldReader). IfReady o.held o.waiting (λ rest. AfterPiece o.grammar o.held rest piece (Ok n) (seen g kept lines ended e q w))) view
      (part_ready kept lines ended d e p q at w piece n k t.0 (at_reader s (standing_at lines ended) (On d p) piece (On e q) es t.1))

  pub part_stands : (lines : ℕ) (ended : Bool) (d e : Draft) (p q : Spot) (at : ℕ) (s : Standing) (piece : List ℕ) (n : ℕ) → StandsInLine g lines ended d p at
      → s ≡ standing_at lines ended → TakesPiece g s (On d p) piece (Ok (piece_end.Part n)) e q → StandsInLine g lines ended e q (at + n)
  part_stands lines ended d e p q at s piece n k es t =
      subst (λ (m : ℕ). StandsInLine g lines ended e q (at + m)) (sym t.0)
      (stands_on v piece lines ended d e p q at k (at_reader s (standing_at lines ended) (On d p) piece (On e q) es t.1))

  pub part_short : (lines : ℕ) (ended : Bool) (d e : Draft) (p q : Spot) (at : ℕ) (s : Standing) (piece : List ℕ) (n : ℕ) → StandsInLine g lines ended d p at
      → s ≡ standing_at lines ended → TakesPiece g s (On d p) piece (Ok (piece_end.Part n)) e q → at + n ≤ 2000000
  part_short lines ended d e p q at s piece n k es t = stands_short v lines ended e q (at + n) (part_stands lines ended d e p q at s piece n k es t)

  -- ---- a line has come

  line_ready : (kept : Option FeedFault) (lines : ℕ) (ended : Bool) (d : Draft) (p : Spot) (at : ℕ) (w : Option CertLine) (piece : List ℕ) (n : ℕ) (l : CertLine)
      → StandsInLine g lines ended d p at
      → n ≤ length piece → byte_steps g (standing_at lines ended) (On d p) (take n piece) ≡ Whole l
      → IfReady (held_or_fault kept lines (shown g d p) ended) w
      (λ rest. AfterPiece g (held_or_fault kept lines (shown g d p) ended) rest piece (Ok n) (seen g kept (lines + 1) (is_end l) no_items spot.Start (Some l)))
  line_ready (Some f) lines ended d p at None piece n l k le h = tt
  line_ready (Some f) lines ended d p at (Some m) piece n l k le h = tt
  line_ready None lines ended d p at (Some m) piece n l k le h = tt
  line_ready None lines ended d p at None piece n l k le h =
      let s = standing_at lines ended in
      let line = whole_line g v.some_pairs v.no_lf s piece n d p l k.kept h in
      let m = line_shown v d p s (take n piece) l k.kept h in
      record {
        taken = sym (length-take-le n piece le) ∙ ap (λ (bs : List ℕ). length bs) (sym line);
        no_fault = tt;
        holds = λ bytes held.
            subst (λ (xs : List ℕ). HoldsOpen g (bytes ++ xs) (lines + 1) [] (is_end l)) (sym line)
            (holds_whole v bytes (take n piece) lines ended d p l (agree v bytes lines ended d p at k held) h);
        brings = (m.0 ∙ ap (λ (bs : List ℕ). shown g d p ++ bs) (sym line), m.1);
      }

  pub line_takes : (old : HeldReader) (kept : Option FeedFault) (lines : ℕ) (ended : Bool) (d e : Draft) (p q : Spot) (at : ℕ) (w : Option CertLine)
      (s : Standing) (piece : List ℕ) (n : ℕ) (l : CertLine) (u : Bool)
      → seen g kept lines ended d p w ≡ old → StandsInLine g lines ended d p at → s ≡ standing_at lines ended → u ≡ is_end l → TakesPiece g s (On d p) piece (Ok (piece_end.Line n l)) e q
      → IfReady old.held old.waiting (λ rest. AfterPiece old.grammar old.held rest piece (Ok n) (seen g kept (lines + 1) u e q (Some l)))
  line_takes old kept lines ended d e p q at w s piece n l u view k es ev t =
      let h = at_reader s (standing_at lines ended) (On d p) (take n piece) (Whole l) es t.2 in
      let new : seen g kept (lines + 1) (is_end l) no_items spot.Start (Some l) ≡ seen g kept (lines + 1) u e q (Some l) =
      ap (λ (x : Bool). seen g kept (lines + 1) x no_items spot.Start (Some l)) (sym ev)
      ∙ ap (λ (x : Draft). seen g kept (lines + 1) u x spot.Start (Some l)) (sym t.3)
      ∙ ap (λ (x : Spot). seen g kept (lines + 1) u e x (Some l)) (sym t.4) in
      subst (λ (o : HeldReader). IfReady o.held o.waiting (λ rest. AfterPiece o.grammar o.held rest piece (Ok n) (seen g kept (lines + 1) u e q (Some l)))) view
      (subst (λ (r : HeldReader). IfReady (held_or_fault kept lines (shown g d p) ended) w (λ rest. AfterPiece g (held_or_fault kept lines (shown g d p) ended) rest piece (Ok n) r)) new
      (line_ready kept lines ended d p at w piece n l k t.1 h))

  pub line_stands : (lines : ℕ) (ended : Bool) (d e : Draft) (p q : Spot) (s : Standing) (piece : List ℕ) (n : ℕ) (l : CertLine)
      → TakesPiece g s (On d p) piece (Ok (piece_end.Line n l)) e q → StandsInLine g lines ended e q 0
  line_stands lines ended d e p q s piece n l t =
      subst (λ (x : Draft). StandsInLine g lines ended x q 0) (sym t.3) (subst (λ (x : Spot). StandsInLine g lines ended no_items x 0) (sym t.4) (stands_start v lines ended))

  pub line_fits : (lines : ℕ) (ended : Bool) (d e : Draft) (p q : Spot) (at : ℕ) (s : Standing) (piece : List ℕ) (n : ℕ) (l : CertLine) → StandsInLine g lines ended d p at
      → s ≡ standing_at lines ended → TakesPiece g s (On d p) piece (Ok (piece_end.Line n l)) e q → FitsLine g l
  line_fits lines ended d e p q at s piece n l k es t =
      let m = line_shown v d p (standing_at lines ended) (take n piece) l k.kept (at_reader s (standing_at lines ended) (On d p) (take n piece) (Whole l) es t.2) in m.1

  pub lines_more : (old : HeldReader) (kept : Option FeedFault) (lines : ℕ) (ended : Bool) (d : Draft) (p : Spot) (w : Option CertLine)
      → seen g kept lines ended d p w ≡ old → kept ≡ None → count_of_lines old.held < 2 ^ 63 → lines + 1 ≤ 2 ^ 63
  lines_more old kept lines ended d p w view e few =
      let same : lines ≡ count_of_lines old.held = ap (λ (o : HeldReader). count_of_lines o.held) (ap (λ (f : Option FeedFault). seen g f lines ended d p w) (sym e) ∙ view) in
      omega (arith, same, few)

  pub none_kept : (old : HeldReader) (kept : Option FeedFault) (lines : ℕ) (ended : Bool) (d : Draft) (p : Spot) (w : Option CertLine)
      → seen g kept lines ended d p w ≡ old → IsOpen old.held → kept ≡ None
  none_kept old None lines ended d p w view o = refl
  none_kept old (Some f) lines ended d p w view o = absurd (subst (λ (r : HeldReader). IsOpen r.held) (sym view) o)

  -- ---- a byte is wrong

  on_reader : (s t : Standing) (now : Step) (xs : List ℕ) → s ≡ t → IsOn (byte_steps g s now xs) → IsOn (byte_steps g t now xs)
  on_reader s t now xs es h = subst (λ (r : Standing). IsOn (byte_steps g r now xs)) es h

  wrong_ready : (kept : Option FeedFault) (lines : ℕ) (ended : Bool) (d : Draft) (p : Spot) (at : ℕ) (w : Option CertLine) (piece : List ℕ) (i : ℕ) → StandsInLine g lines ended d p at
      → i < length piece → IsOn (byte_steps g (standing_at lines ended) (On d p) (take i piece))
      → byte_steps g (standing_at lines ended) (On d p) (take (i + 1) piece) ≡ Wrong
      → IfReady (held_or_fault kept lines (shown g d p) ended) w
      (λ rest. AfterPiece g (held_or_fault kept lines (shown g d p) ended) rest piece (Err (fault.Text (lines + 1) (at + i + 1)))
      (record { grammar = g; held = Fault (fault.Text (lines + 1) (at + i + 1)); waiting = w }))
  wrong_ready (Some f) lines ended d p at None piece i k lt on h = tt
  wrong_ready (Some f) lines ended d p at (Some l) piece i k lt on h = tt
  wrong_ready None lines ended d p at (Some l) piece i k lt on h = tt
  wrong_ready None lines ended d p at None piece i k lt on h = (
    refl,
    λ bytes held. holds_fault v bytes piece i lines ended d p at k (agree v bytes lines ended d p at k held) lt on h,
  )

  pub wrong_takes : (old : HeldReader) (kept : Option FeedFault) (lines : ℕ) (ended : Bool) (d e : Draft) (p q : Spot) (at : ℕ) (w : Option CertLine) (s : Standing) (piece : List ℕ) (i : ℕ)
      → seen g kept lines ended d p w ≡ old → StandsInLine g lines ended d p at → s ≡ standing_at lines ended → TakesPiece g s (On d p) piece (Err (line_fault.Wrong i)) e q
      → IfReady old.held old.waiting (λ rest. AfterPiece old.grammar old.held rest piece (Err (fault.Text (lines + 1) (at + i + 1)))
      (record { grammar = g; held = Fault (fault.Text (lines + 1) (at + i + 1)); waiting = w }))
  wrong_takes old kept lines ended d e p q at w s piece i view k es t =
      let new : HeldReader = record { grammar = g; held = Fault (fault.Text (lines + 1) (at + i + 1)); waiting = w } in
      subst (λ (o : HeldReader). IfReady o.held o.waiting (λ rest. AfterPiece o.grammar o.held rest piece (Err (fault.Text (lines + 1) (at + i + 1))) new)) view
      (wrong_ready kept lines ended d p at w piece i k t.0 (on_reader s (standing_at lines ended) (On d p) (take i piece) es t.1)
      (at_reader s (standing_at lines ended) (On d p) (take (i + 1) piece) Wrong es t.2))

  pub wrong_short : (lines : ℕ) (ended : Bool) (d e : Draft) (p q : Spot) (at : ℕ) (s : Standing) (piece : List ℕ) (i : ℕ) → StandsInLine g lines ended d p at
      → s ≡ standing_at lines ended → TakesPiece g s (On d p) piece (Err (line_fault.Wrong i)) e q → at + i ≤ 2000000
  wrong_short lines ended d e p q at s piece i k es t =
      let on = on_reader s (standing_at lines ended) (On d p) (take i piece) es t.1 in
      let o = on_at (byte_steps g (standing_at lines ended) (On d p) (take i piece)) on in
      omega (
        arith,
        stands_short v lines ended o.draft o.spot (at + length (take i piece))
            (stands_on v (take i piece) lines ended d o.draft p o.spot at k o.is),
        length-take-le i piece (omega (arith, t.0)),
      )

  -- ---- the piece is not taken

  memory_ready : (kept : Option FeedFault) (lines : ℕ) (rest : List ℕ) (ended : Bool) (w : Option CertLine)
      → IfReady (held_or_fault kept lines rest ended) w (λ line. no_memory g w ≡ no_memory g None)
  memory_ready (Some f) lines rest ended None = tt
  memory_ready (Some f) lines rest ended (Some l) = tt
  memory_ready None lines rest ended (Some l) = tt
  memory_ready None lines rest ended None = refl

  pub err_takes : (old : HeldReader) (kept : Option FeedFault) (lines : ℕ) (ended : Bool) (d e : Draft) (p q : Spot) (at : ℕ) (w : Option CertLine) (s : Standing) (piece : List ℕ) (f : LineFault)
      → seen g kept lines ended d p w ≡ old → StandsInLine g lines ended d p at → s ≡ standing_at lines ended → TakesPiece g s (On d p) piece (Err f) e q
      → IfReady old.held old.waiting (λ rest. AfterPiece old.grammar old.held rest piece (Err (fault_behind lines at f)) (record { grammar = g; held = Fault (fault_behind lines at f); waiting = w }))
  err_takes old kept lines ended d e p q at w s piece (line_fault.Wrong i) view k es t = wrong_takes old kept lines ended d e p q at w s piece i view k es t
  err_takes old kept lines ended d e p q at w s piece line_fault.Memory view k es t =
      subst (λ (o : HeldReader). IfReady o.held o.waiting (λ rest. AfterPiece o.grammar o.held rest piece (Err fault.Memory) (no_memory g w))) view
      (memory_ready kept lines (shown g d p) ended w)

  pub err_place : (lines : ℕ) (ended : Bool) (d e : Draft) (p q : Spot) (at : ℕ) (s : Standing) (piece : List ℕ) (f : LineFault) → StandsInLine g lines ended d p at
      → s ≡ standing_at lines ended → TakesPiece g s (On d p) piece (Err f) e q → HasPlace at f
  err_place lines ended d e p q at s piece (line_fault.Wrong i) k es t = omega (arith, wrong_short lines ended d e p q at s piece i k es t)
  err_place lines ended d e p q at s piece line_fault.Memory k es t = tt

  -- ---- the end

  close_ready : (kept : Option FeedFault) (lines : ℕ) (d : Draft) (p : Spot) (at : ℕ) → StandsInLine g lines true d p at
      → IfOpen (held_or_fault kept lines (shown g d p) true) ((bytes : List ℕ) → HoldsAfter g bytes (held_or_fault kept lines (shown g d p) true) → IsReadable g bytes)
  close_ready (Some f) lines d p at k = tt
  close_ready None lines d p at k = λ bytes h. closes v bytes lines true d p at k h

  pub close_ok : (old : HeldReader) (kept : Option FeedFault) (lines : ℕ) (ended : Bool) (d : Draft) (p : Spot) (at : ℕ) (w : Option CertLine)
      → seen g kept lines ended d p w ≡ old → ended ≡ true → StandsInLine g lines ended d p at →
      IfOpen old.held ((bytes : List ℕ) → HoldsAfter old.grammar bytes old.held → IsReadable old.grammar bytes)
  close_ok old kept lines ended d p at w view e k =
      subst (λ (o : HeldReader). IfOpen o.held ((bytes : List ℕ) → HoldsAfter o.grammar bytes o.held → IsReadable o.grammar bytes)) (ap (λ (u : Bool). seen g kept lines u d p w) (sym e) ∙ view)
      (close_ready kept lines d p at (subst (λ (u : Bool). StandsInLine g lines u d p at) e k))

  lack_ready : (kept : Option FeedFault) (lines : ℕ) (d : Draft) (p : Spot) (at : ℕ) → StandsInLine g lines false d p at
      → IfOpen (held_or_fault kept lines (shown g d p) false) ((bytes : List ℕ) → HoldsAfter g bytes (held_or_fault kept lines (shown g d p) false) → Lacks g bytes (lines + 1) (at + 1))
  lack_ready (Some f) lines d p at k = tt
  lack_ready None lines d p at k = λ bytes h. closes v bytes lines false d p at k h

  pub close_lacks : (old : HeldReader) (kept : Option FeedFault) (lines : ℕ) (ended : Bool) (d : Draft) (p : Spot) (at : ℕ) (w : Option CertLine)
      → seen g kept lines ended d p w ≡ old → ended ≡ false → StandsInLine g lines ended d p at →
      IfOpen old.held ((bytes : List ℕ) → HoldsAfter old.grammar bytes old.held → Lacks old.grammar bytes (lines + 1) (at + 1))
  close_lacks old kept lines ended d p at w view e k =
      subst (λ (o : HeldReader). IfOpen o.held ((bytes : List ℕ) → HoldsAfter o.grammar bytes o.held → Lacks o.grammar bytes (lines + 1) (at + 1)))
      (ap (λ (u : Bool). seen g kept lines u d p w) (sym e) ∙ view)
      (lack_ready kept lines d p at (subst (λ (u : Bool). StandsInLine g lines u d p at) e k))
