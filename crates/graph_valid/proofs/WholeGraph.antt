-- The lines of a graph are those of a certificate that keeps all clauses.
use Rattle.std.proofs.Common.{◌≡◌, ℕ, zero, suc, ◌≤◌, true, List, [], ◌∷◌, ◌++◌, length, map, replicate, refl, sym, ap, ◌∙◌, subst, arith}
use Rattle.std.specs.Prelude.{IsTrue, nat_le}
use Rattle.std.specs.List.{AllByRecursion, enumerate_from, list_all}
use Rattle.std.specs.Cmp.Lexicographic.{pointwise}
use Rattle.std.proofs.lemmas.Bool.{le-leb}
use Rattle.std.proofs.lemmas.List.{length-map}
use Rattle.std.proofs.lemmas.List.FromFn.{length-range_with_len}
use Rattle.lists.specs.Numbers.{numbers_below}
use Rattle.job_model.specs.Table.{Table, IsTable}
use Rattle.sag_time.proofs.PairedLists.{pointwise-itself}
use Rattle.sag_step.specs.State.{SystemState, root}
use Rattle.sag_step.specs.Shape.{IsState, HasShape}
use Rattle.sag_step.specs.Widen.{widens}
use Rattle.sag_step.specs.Offers.{offers}
use Rattle.sag_step.specs.Group.{group}
use Rattle.sag_step.specs.Laws as state_law
use Rattle.cert_text.specs.declared.line.CertLine.TheVariants as line
use Rattle.graph_check.specs.Entries.{root_from}
use Rattle.graph_check.specs.Certificate.{Certificate, lines_of}
use Rattle.graph_check.specs.Valid.{AreValidBlocks, KeepsClauses, IsInSpan}
use Rattle.sag_graph.specs.Lines.{is_in_time, mark_of}
use Rattle.graph_valid.proofs.FromRoot.{levels, levels_after, graph_edges, spans, span_of}
use Rattle.graph_valid.proofs.FromRootLines.{zipped_pairs, graph_lines}
use Rattle.graph_valid.proofs.FromRootLaws.{GraphIsValid}
use Rattle.graph_valid.proofs.Grouped.{HullLaws}
use Rattle.graph_valid.proofs.Blocks.{block_of, lows, highs}
use Rattle.graph_valid.proofs.Levels.{are_valid_blocks, all_lines}
use Rattle.graph_valid.proofs.Spans.{edges_start, all_edges_are, in_spans, spans_in_order, job_entries, job-lines, marks_right, verdict_right, is_ok-mark_if, length-entries, entries_in_order}

-- what a checker reads of the graph
abbrev pub certificate : Table → ℕ → Certificate
certificate table m = record {
  jobs = length table.jobs;
  cores = m;
  root_count = 1;
  root = zipped_pairs (root table m);
  blocks = map block_of (levels table m);
  spans = job_entries table 0 (spans table m);
  verdict = mark_of (list_all (is_in_time table) (enumerate_from 0 (spans table m)));
}

length-levels : (table : Table) (n : ℕ) (before : List SystemState) → length (levels_after table n before) ≡ n
length-levels table zero before = refl
length-levels table (suc n) before = ap suc (length-levels table n (group (offers table before)))

zeros-below : (m : ℕ) → pointwise nat_le (replicate m 0) (replicate m 0) ≡ true
zeros-below m = pointwise-itself nat_le (λ n. le-leb n n (omega arith)) (replicate m 0)

pub root_is : (table : Table) (m : ℕ) → root_from table (zipped_pairs (root table m)) ≡ root table m
root_is table m = λ i. record {
  set = record { size = length table.jobs; members = [] };
  low = lows (replicate m 0) (replicate m 0) (zeros-below m) i;
  high = highs (replicate m 0) (replicate m 0) (zeros-below m) i;
  ends = [];
  last = record { size = length table.jobs; members = [] };
}

module _ (root_is_shaped : state_law.RootIsShaped) (next_is_state : state_law.NextIsState) (laws : HullLaws) where
  root_states : (table : Table) (m : ℕ) → 1 ≤ m → AllByRecursion (IsState table m) (root table m ∷ [])
  root_states table m some = ((root_is_shaped table m some).is_state, tt)

  keeps_clauses : (table : Table) (m : ℕ) → IsTable table → 1 ≤ m → KeepsClauses table m (certificate table m)
  keeps_clauses table m is_table some =
      let same = sym (root_is table m) in
      let starts = edges_start table (length table.jobs) (root table m ∷ []) in
      record {
        jobs = refl;
        cores = refl;
        level_count = length-map (levels table m) block_of ∙ length-levels table (length table.jobs) (root table m ∷ []);
        job_count =
            length-entries table (spans table m) 0 ∙ length-map (numbers_below (length table.jobs)) (span_of table (graph_edges table m))
            ∙ length-range_with_len 0 (length table.jobs);
        one_root = refl;
        root_shape = subst (HasShape table m) same (root_is_shaped table m some).is_state.shape;
        root_wide = subst (λ (s : SystemState). IsTrue (widens s (root table m))) same (laws.reflexive (root table m));
        blocks = subst (λ (s : SystemState). AreValidBlocks table m (s ∷ []) (map block_of (levels table m))) same
            (are_valid_blocks next_is_state laws table m is_table (length table.jobs) (root table m ∷ []) (root_states table m some));
        spans = entries_in_order table (spans table m) 0 (spans_in_order table is_table (graph_edges table m) starts (numbers_below (length table.jobs)));
        in_spans = subst (AllByRecursion (IsInSpan table (job_entries table 0 (spans table m)))) (sym (all_edges_are (levels table m))) (in_spans table (graph_edges table m) starts);
        marks = marks_right table (spans table m) 0;
        verdict = is_ok-mark_if (list_all (is_in_time table) (enumerate_from 0 (spans table m))) ∙ verdict_right table (spans table m) 0;
      }

  lines_are : (table : Table) (m : ℕ) → IsTable table → 1 ≤ m → graph_lines table m ≡ lines_of (certificate table m)
  lines_are table m is_table some = λ i.
      line.Head (length table.jobs) m ∷ line.Level 0 1 ∷ line.Root (zipped_pairs (root table m))
      ∷ sym (all_lines next_is_state laws table m is_table (length table.jobs) 1 (root table m ∷ []) (root_states table m some)) i
      ++ sym (job-lines table (spans table m) 0) i
      ++ line.Verdict (mark_of (list_all (is_in_time table) (enumerate_from 0 (spans table m)))) ∷ line.End ∷ []

  pub graph_is_valid : GraphIsValid
  graph_is_valid table m is_table some = record {
    certificate = certificate table m;
    in_order = lines_are table m is_table some;
    keeps = keeps_clauses table m is_table some;
  }
