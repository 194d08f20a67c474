-- What the checker reads of a level: its block, and the lines of that.
use Rattle.std.proofs.Common.{◌≡◌, ℕ, suc, true, List, [], ◌∷◌, ◌++◌, length, map, refl, sym, ap, ◌∙◌}
use Rattle.std.specs.Prelude.{nat_le}
use Rattle.std.specs.Cmp.Lexicographic.{pointwise}
use Rattle.std.proofs.lemmas.Bool.{and_parts, false≢true}
use Rattle.sag_time.specs.Interval.{Interval}
use Rattle.lists.specs.Zipped.{zip_with}
use Rattle.sag_step.specs.State.{SystemState}
use Rattle.sag_step.specs.Offers.{Offer}
use Rattle.sag_step.specs.Group.{placed, places_of}
use Rattle.cert_text.specs.declared.line.Pair.{Pair}
use Rattle.cert_text.specs.declared.line.EndOf.{EndOf}
use Rattle.cert_text.specs.declared.line.CertLine.{CertLine}
use Rattle.cert_text.specs.declared.line.CertLine.TheVariants as line
use Rattle.graph_check.specs.Certificate.{StateEntry, EdgeEntry, Block, block_lines}
use Rattle.graph_check.specs.Certificate as checked
use Rattle.graph_check.specs.Valid.{edge_choice, offer_choice}
use Rattle.sag_graph.specs.declared.edge.Edge.{Edge}
use Rattle.sag_graph.specs.Levels.{edge_to}
use Rattle.sag_graph.specs.Lines.{ends_of, line_of_edge}
use Rattle.graph_valid.proofs.FromRoot.{FoundedLevel}
use Rattle.graph_valid.proofs.FromRootLines.{zipped_pairs, founded_line, founded_lines}
use Rattle.graph_valid.proofs.Grouped.{Founded, states_of, founders_of}

abbrev pub edge_entry : Edge → EdgeEntry
edge_entry e = record { from = e.from; job = e.job; window = e.window; to = e.to }

abbrev pub state_entry : Offer → SystemState → StateEntry
state_entry o s = record { parent = o.from; job = o.job; pairs = zipped_pairs s; ends = ends_of s; last = s.last.members }

abbrev pub founded_entry : Founded → StateEntry
founded_entry f = state_entry f.founder f.state

-- the block of a level
abbrev pub block_of : FoundedLevel → Block
block_of l = record { states = zip_with state_entry l.founders l.states; edges = map edge_entry l.edges }

-- a level of states with their founders
abbrev pub level_of : List Founded → List Edge → FoundedLevel
level_of fs es = record { states = states_of fs; founders = founders_of fs; edges = es }

pub zip-founded : {Y : Type 0} (f : Offer → SystemState → Y) (fs : List Founded) → zip_with f (founders_of fs) (states_of fs) ≡ map (λ x. f x.founder x.state) fs
zip-founded f [] = refl
zip-founded f (x ∷ fs) = ap (λ ys. f x.founder x.state ∷ ys) (zip-founded f fs)

-- ---- its lines

state-lines : (fs : List Founded) → map checked.state_line (map founded_entry fs) ≡ map (λ (x : Founded). founded_line x.founder x.state) fs
state-lines [] = refl
state-lines (f ∷ fs) = ap (λ ls. founded_line f.founder f.state ∷ ls) (state-lines fs)

edge-lines : (es : List Edge) → map checked.edge_line (map edge_entry es) ≡ map line_of_edge es
edge-lines [] = refl
edge-lines (e ∷ es) = ap (λ ls. line_of_edge e ∷ ls) (edge-lines es)

length-entries : (fs : List Founded) → length (map founded_entry fs) ≡ length (states_of fs)
length-entries [] = refl
length-entries (f ∷ fs) = ap suc (length-entries fs)

abbrev checked-level : ℕ → ℕ → List CertLine → List CertLine → List CertLine
checked-level a count ss es = line.Level a count ∷ ss ++ es

pub block-lines : (a : ℕ) (fs : List Founded) (es : List Edge) → block_lines (a, block_of (level_of fs es)) ≡ founded_lines (a, level_of fs es)
block-lines a fs es =
    ap (λ (ss : List StateEntry). block_lines (a, record { states = ss; edges = map edge_entry es })) (zip-founded state_entry fs)
    ∙ (λ i. checked-level a (length-entries fs i) (state-lines fs i) (edge-lines es i))
    ∙ ap (λ (ls : List CertLine). checked-level a (length (states_of fs)) ls (map line_of_edge es)) (sym (zip-founded founded_line fs))

-- ---- what a state's entry says of it

pub lows : (lo hi : List ℕ) → pointwise nat_le lo hi ≡ true → map (λ (p : Pair). p.lo) (zip_with (λ l h. record { lo = l; hi = h }) lo hi) ≡ lo
lows [] [] order = refl
lows [] (h ∷ hi) order = absurd (false≢true order)
lows (l ∷ lo) [] order = absurd (false≢true order)
lows (l ∷ lo) (h ∷ hi) order = ap (λ xs. l ∷ xs) (lows lo hi (and_parts (nat_le l h) (pointwise nat_le lo hi) order).1)

pub highs : (lo hi : List ℕ) → pointwise nat_le lo hi ≡ true → map (λ (p : Pair). p.hi) (zip_with (λ l h. record { lo = l; hi = h }) lo hi) ≡ hi
highs [] [] order = refl
highs [] (h ∷ hi) order = absurd (false≢true order)
highs (l ∷ lo) [] order = absurd (false≢true order)
highs (l ∷ lo) (h ∷ hi) order = ap (λ xs. h ∷ xs) (highs lo hi (and_parts (nat_le l h) (pointwise nat_le lo hi) order).1)

abbrev end_line : ℕ × Interval → EndOf
end_line e = record { job = e.0; lo = e.1.lo; hi = e.1.hi }

pub ends-back : (es : List (ℕ × Interval)) → map {B = ℕ × Interval} (λ (e : EndOf). (e.job, record { lo = e.lo; hi = e.hi })) (map end_line es) ≡ es
ends-back [] = refl
ends-back (e ∷ es) = ap (λ xs. e ∷ xs) (ends-back es)

-- ---- the edges, beside the offers

pub choices : (os : List Offer) (states : List SystemState) → map edge_choice (map edge_entry (zip_with edge_to os (places_of states os))) ≡ map offer_choice os
choices [] states = refl
choices (o ∷ os) states = ap (λ cs. offer_choice o ∷ cs) (choices os (placed states o.next))

pub windows : (os : List Offer) (states : List SystemState) → map (λ (e : EdgeEntry). e.window) (map edge_entry (zip_with edge_to os (places_of states os))) ≡ map (λ (o : Offer). o.window) os
windows [] states = refl
windows (o ∷ os) states = ap (λ ws. o.window ∷ ws) (windows os (placed states o.next))
