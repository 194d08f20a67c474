-- The certificate of a graph within the greatest budget is no longer than a certificate's file may be.
use Rattle.std.proofs.Common.{◌≡◌, ℕ, zero, suc, ◌+◌, ◌*◌, List, [], ◌∷◌, ◌++◌, length, map, refl, ap, ◌∙◌, subst, arith}
use Rattle.std.specs.Prelude.{flat_map}
use Rattle.std.specs.List.{AllByRecursion, enumerate_from}
use Rattle.std.proofs.lemmas.List.{length-map}
use Rattle.std.proofs.lemmas.List.FromFn.{length-range_with_len, length-enumerate_from}
use Rattle.lists.proofs.Elements.{all-append, recursion_weaker}
use Rattle.lists.specs.Numbers.{numbers_below}
use Rattle.job_model.specs.Table.{Table, IsTable}
use Rattle.lists.specs.Zipped.{zip_with}
use Rattle.sag_step.specs.State.{SystemState}
use Rattle.sag_step.specs.Shape.{IsState}
use Rattle.sag_step.specs.Offers.{offers}
use Rattle.sag_step.specs.Group.{group}
use Rattle.sag_step.specs.Laws as state_law
use Rattle.cert_text.specs.declared.line.CertLine.{CertLine}
use Rattle.cert_text.specs.declared.line.CertLine.TheVariants as line
use Rattle.cert_text.specs.Grammar.{second_version}
use Rattle.cert_text.specs.Spelling.{line_text}
use Rattle.sag_graph.specs.declared.TheConstants.{MOST_BUDGET}
use Rattle.sag_graph.specs.declared.edge.Edge.{Edge}
use Rattle.sag_graph.specs.Lines.{line_of_edge, line_of_job}
use Rattle.graph_valid.proofs.FromRoot.{FoundedLevel, level_after, levels_after, spans, span_of, graph_edges}
use Rattle.graph_valid.proofs.FromRootLines.{founded_line, founded_lines, graph_lines}
use Rattle.graph_valid.proofs.FromRootLaws.{GraphIsShort}
use Rattle.graph_valid.proofs.Grouped.{HullLaws, StepLaws, Founded, states_of, founders_of}
use Rattle.graph_valid.proofs.Blocks.{level_of, zip-founded}
use Rattle.graph_valid.proofs.Levels.{grouped, level_is, are_states_after}
use Rattle.graph_valid.proofs.Short.{IsShort, weights, text_short, weights-append, weights-states, weights-others, head_short, end_line_short}
use Rattle.graph_valid.proofs.Counts.{state_count, edge_count, levels_within}
use Rattle.graph_valid.proofs.ReadableGraph.{IsGood, start, level_part, job_part, verdict_line, head_line, inner, split, inner_good}

-- ---- the weight of a level

level_weight : (a : ℕ) (fs : List Founded) (es : List Edge) → weights (founded_lines (a, level_of fs es)) ≡ 200 + 900000 * length (states_of fs) + 200 * length es
level_weight a fs es =
    let states : weights (zip_with founded_line (founders_of fs) (states_of fs)) ≡ 900000 * length fs =
    ap weights (zip-founded founded_line fs) ∙ weights-states (λ (f : Founded). founded_line f.founder f.state) fs (λ f. refl) in
    let edges : weights (map line_of_edge es) ≡ 200 * length es = weights-others line_of_edge es (λ e. refl) in
    let both = weights-append (zip_with founded_line (founders_of fs) (states_of fs)) (map line_of_edge es) in
    let long : length (states_of fs) ≡ length fs = length-map fs (λ (f : Founded). f.state) in
    omega (arith, states, edges, both, long)

module _ (next_is_state : state_law.NextIsState) (laws : HullLaws) (table : Table) (m : ℕ) (is_table : IsTable table) where
  levels_weight : (n a : ℕ) (before : List SystemState) → AllByRecursion (IsState table m) before →
      weights (flat_map founded_lines (enumerate_from a (levels_after table n before)))
      ≡ 200 * n + 900000 * state_count (levels_after table n before) + 200 * edge_count (levels_after table n before)
  levels_weight zero a before are = omega arith
  levels_weight (suc n) a before are =
      let l : FoundedLevel = level_after table before in
      let own : weights (founded_lines (a, l)) ≡ 200 + 900000 * length l.states + 200 * length l.edges =
      subst (λ (l : FoundedLevel). weights (founded_lines (a, l)) ≡ 200 + 900000 * length l.states + 200 * length l.edges) (level_is next_is_state laws table m is_table before are)
      (level_weight a (grouped next_is_state laws table m is_table before are) l.edges) in
      let rest = levels_weight n (a + 1) (group (offers table before)) (are_states_after next_is_state laws table m is_table before are) in
      let both = weights-append (founded_lines (a, l)) (flat_map founded_lines (enumerate_from (a + 1) (levels_after table n (group (offers table before))))) in
      omega (arith, own, rest, both)

pub graph_is_short : StepLaws → GraphIsShort
graph_is_short steps table m is_table some few none =
    let lines : List CertLine = inner table m in
    let whole : List CertLine = head_line table m ∷ lines ++ line.End ∷ [] in
    let good = inner_good steps table m is_table some few none in
    let all_short : AllByRecursion IsShort whole = (
      head_short (length table.jobs) m (omega (arith, is_table.few_jobs)) (omega (arith, few)),
      all-append IsShort lines (line.End ∷ []) (recursion_weaker IsGood IsShort (λ l both. both.1.1) lines good) (end_line_short, tt),
    ) in
    let bound = text_short whole all_short in
    let text : length (flat_map (line_text second_version) (graph_lines table m)) ≡ length (flat_map (line_text second_version) whole) =
    ap (λ ls. length (flat_map (line_text second_version) ls)) (split table m) in
    let one = weights-append lines (line.End ∷ []) in
    let two = weights-append (level_part table m ++ job_part table m) (verdict_line table m ∷ []) in
    let three = weights-append (level_part table m) (job_part table m) in
    let of_levels = levels_weight steps.next_is_state steps.hulls table m is_table (length table.jobs) 1 (start table m) ((steps.root_is_shaped table m some).is_state, tt) in
    let of_jobs : weights (job_part table m) ≡ 200 * length (enumerate_from 0 (spans table m)) = weights-others (line_of_job table) (enumerate_from 0 (spans table m)) (λ s. refl) in
    let jobs : length (enumerate_from 0 (spans table m)) ≡ length table.jobs =
    length-enumerate_from 0 (spans table m) ∙ length-map (numbers_below (length table.jobs)) (span_of table (graph_edges table m)) ∙ length-range_with_len 0 (length table.jobs) in
    let counts = levels_within table MOST_BUDGET (length table.jobs) (record { level = 1; states = 1; edges = 0 }) (start table m) (omega arith) (omega arith) none in
    omega (arith, bound, text, one, two, three, of_levels, of_jobs, jobs, counts.0, counts.1, is_table.few_jobs)
