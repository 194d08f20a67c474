-- The text of a graph's certificate, level by level.
--     Begins             a text begins with another one
--     text_first         the head line and level 0
--     text_next          one level more
--     text_whole         the whole text: all levels, and what stands behind them
--     text_begins        down to a level, it begins with the text down to each level above
use Rattle.std.proofs.Common.{◌≡◌, ◌∙◌, ◌∷◌, ◌++◌, ◌+◌, ◌-◌, ◌≤◌, ℕ, zero, suc, List, [], add-zero, add-one, ap, append-nil, append_assoc, arith, length, length-append, refl, subst, sym}
use Rattle.std.specs.List.{enumerate_from, flat_map}
use Rattle.std.proofs.lemmas.Grind.{flat_map-append}
use Rattle.job_model.specs.Table.{Table}
use Rattle.cert_text.specs.declared.line.CertLine.{CertLine}
use Rattle.cert_text.specs.Grammar.{second_version}
use Rattle.cert_text.specs.Spelling.{line_text}
use Rattle.sag_graph.specs.Graph.{levels_up_to}
use Rattle.sag_graph.specs.Levels.{Level, level_at}
use Rattle.sag_graph.specs.Lines.{head_lines, level_lines, tail_lines}
use Rattle.sag_graph.specs.CertificateText.{text_of_graph}
use Rattle.sag_graph.specs.Spans.{spans_up_to}
use Rattle.sag_engine.specs.Analyse.{level_text, lines_text, text_up_to}

-- a text begins with another one
pub record Begins (front whole : List ℕ) : Type 0 where
  pub rest : List ℕ
  pub is : whole ≡ front ++ rest

pub begins_same : (text : List ℕ) → Begins text text
begins_same text = record { rest = []; is = sym (append-nil text) }

pub begins_on : {one two three : List ℕ} → Begins one two → Begins two three → Begins one three
begins_on {one = one} a b = record { rest = a.rest ++ b.rest; is = b.is ∙ ap (λ t. t ++ b.rest) a.is ∙ append_assoc one a.rest b.rest }

-- the last element is numbered with the number of those before it
numbered-last : {X : Type 0} (a : ℕ) (xs : List X) (x : X) → enumerate_from a (xs ++ x ∷ []) ≡ enumerate_from a xs ++ (a + length xs, x) ∷ []
numbered-last a [] x = ap (λ n. (n, x) ∷ []) (sym (add-zero a))
numbered-last a (y ∷ xs) x =
    let place : a + 1 + length xs ≡ a + length (y ∷ xs) = omega arith in
    ap (λ ys. (a, y) ∷ ys) (numbered-last (a + 1) xs x ∙ ap (λ n. enumerate_from (a + 1) xs ++ (n, x) ∷ []) place)

levels-count : (table : Table) (m k : ℕ) → length (levels_up_to table m k) ≡ k + 1
levels-count table m zero = refl
levels-count table m (suc k) = length-append (levels_up_to table m k) (level_at table m (suc k) ∷ []) ∙ omega (arith, levels-count table m k)

text-append : (one other : List CertLine) → lines_text (one ++ other) ≡ lines_text one ++ lines_text other
text-append one other = flat_map-append (line_text second_version) one other

-- the lines down to level k
abbrev lines_up_to : Table → ℕ → ℕ → List CertLine
lines_up_to table m k = head_lines table m ++ flat_map level_lines (enumerate_from 0 (levels_up_to table m k))

-- the head line and level 0
pub text_first : (table : Table) (m : ℕ) → text_up_to table m 0 ≡ lines_text (head_lines table m) ++ level_text table m 0
unfolding level_text text_up_to
text_first table m =
    ap (λ ls. lines_text (head_lines table m ++ ls)) (append-nil (level_lines (0, level_at table m 0)))
    ∙ text-append (head_lines table m) (level_lines (0, level_at table m 0))

lines-next : (table : Table) (m k : ℕ) → lines_up_to table m (suc k) ≡ lines_up_to table m k ++ level_lines (suc k, level_at table m (suc k))
lines-next table m k =
    let above : List Level = levels_up_to table m k in
    let next : Level = level_at table m (suc k) in
    let place : 0 + length above ≡ suc k = omega (arith, levels-count table m k) in
    ap (λ ls. head_lines table m ++ flat_map level_lines ls) (numbered-last 0 above next ∙ ap (λ n. enumerate_from 0 above ++ (n, next) ∷ []) place)
    ∙ ap (λ ls. head_lines table m ++ ls) (flat_map-append level_lines (enumerate_from 0 above) ((suc k, next) ∷ [])
    ∙ ap (λ ls. flat_map level_lines (enumerate_from 0 above) ++ ls) (append-nil (level_lines (suc k, next))))
    ∙ sym (append_assoc (head_lines table m) (flat_map level_lines (enumerate_from 0 above)) (level_lines (suc k, next)))

text-suc : (table : Table) (m k : ℕ) → text_up_to table m (suc k) ≡ text_up_to table m k ++ level_text table m (suc k)
unfolding level_text text_up_to
text-suc table m k = ap lines_text (lines-next table m k) ∙ text-append (lines_up_to table m k) (level_lines (suc k, level_at table m (suc k)))

-- one level more
pub text_next : (table : Table) (m k : ℕ) → text_up_to table m (k + 1) ≡ text_up_to table m k ++ level_text table m (k + 1)
text_next table m k = subst (λ n. text_up_to table m n ≡ text_up_to table m k ++ level_text table m n) (sym (add-one k)) (text-suc table m k)

-- all levels, and what stands behind them
pub text_whole : (table : Table) (m : ℕ) → text_of_graph table m
    ≡ text_up_to table m (length table.jobs) ++ lines_text (tail_lines table (spans_up_to table m (length table.jobs)))
unfolding text_up_to
text_whole table m = text-append (lines_up_to table m (length table.jobs)) (tail_lines table (spans_up_to table m (length table.jobs)))

begins-down : (table : Table) (m k d : ℕ) → Begins (text_up_to table m k) (text_up_to table m (d + k))
begins-down table m k zero = subst (λ n. Begins (text_up_to table m k) (text_up_to table m n)) (omega arith) (begins_same (text_up_to table m k))
begins-down table m k (suc d) =
    let next : Begins (text_up_to table m (d + k)) (text_up_to table m (d + k + 1)) = record { rest = level_text table m (d + k + 1); is = text_next table m (d + k) } in
    subst (λ n. Begins (text_up_to table m k) (text_up_to table m n)) (omega arith) (begins_on (begins-down table m k d) next)

-- down to a level, it begins with the text down to each level above
pub text_begins : (table : Table) (m k n : ℕ) → k ≤ n → Begins (text_up_to table m k) (text_up_to table m n)
text_begins table m k n le = subst (λ n. Begins (text_up_to table m k) (text_up_to table m n)) (omega (arith, le)) (begins-down table m k (n - k))
