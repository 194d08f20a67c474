-- Lines are valid exactly where all of them pass and no other is due.
use Rattle.std.proofs.Common.{◌≡◌, ℕ, true, List, [], ◌∷◌, length, refl, sym, ◌∙◌, subst, arith, append_assoc, None, Ok, Err}
use Rattle.std.specs.Prelude.{nat_eq, IsTrue, IsOkAnd, Result}
use Rattle.std.proofs.lemmas.Bool.{and_parts, eqb-true, eq-eqb}
use Rattle.job_model.specs.Table.{Table}
use Rattle.sag_step.specs.State.{root}
use Rattle.sag_step.specs.Widen.{widens}
use Rattle.sag_step.specs.Shape.{HasShape, has_shape}
use Rattle.cert_text.specs.declared.line.Pair.{Pair}
use Rattle.cert_text.specs.declared.line.Mark.{Mark}
use Rattle.cert_text.specs.declared.line.CertLine.{CertLine}
use Rattle.cert_text.specs.declared.line.CertLine.TheVariants as line
use Rattle.graph_check.specs.declared.due.Due.TheVariants as due
use Rattle.graph_check.specs.Entries.{root_from, JobEntry}
use Rattle.graph_check.specs.Certificate.{StateEntry, EdgeEntry, Block, Certificate, lines_of, all_edges}
use Rattle.graph_check.specs.Valid.{KeepsClauses, Valid}
use Rattle.graph_check.specs.Progress.{Progress, before_first_line, due_in_level}
use Rattle.graph_check.specs.Checks.{first_broken, due_checks}
use Rattle.graph_check.specs.Kept.{Failure, with_line, kept}
use Rattle.graph_check.specs.Laws as law
use Rattle.sag_step.proofs.ShapeTest.{has_shape-from, HasShape-from_test}
use Rattle.graph_check.proofs.Steps.{Leaves, leaves-from_step, leaves-after_line, passes-first}
use Rattle.graph_check.proofs.PassedLines.{passes-each}
use Rattle.graph_check.proofs.Stages.{IsConsistent}
use Rattle.graph_check.proofs.LinesLeft.{part_lines, Completes}
use Rattle.graph_check.proofs.Walk.{Ended, IsOver, ends, rest}
use Rattle.graph_check.proofs.RightBlocks.{valid-from_right, right-from_valid, edges-in_range, in_order-from_fit, marks-from_fit, in_spans-from_fit, fit-from_spans}

module _ (table : Table) (m : ℕ) where
  -- ---- the first three lines

  abbrev headed : Progress
  headed = record (before_first_line table) { lines = 1; due = due.Level }

  abbrev levelled : Progress
  levelled = record headed { lines = 2; due = due.Root; count = 1 }

  abbrev unsettled : List Pair → Progress
  unsettled pairs = record levelled { lines = 3; states = root_from table pairs ∷ [] }

  abbrev entered : List Pair → Progress
  entered pairs = record (unsettled pairs) { due = due_in_level table (unsettled pairs) }

  entered_consistent : (pairs : List Pair) → IsConsistent table (entered pairs)
  entered_consistent pairs = record {
    due_is = refl;
    behind_head = omega arith;
    states_in = omega arith;
    edges_in = omega arith;
    levels_in = omega arith;
    jobs_in = omega arith;
  }

  head_passes : (jobs cores : ℕ) → jobs ≡ length table.jobs → cores ≡ m → with_line table m (Ok (before_first_line table)) (line.Head jobs cores) ≡ Ok headed
  head_passes jobs cores jobs_are cores_are =
      let one = eq-eqb jobs (length table.jobs) jobs_are in
      let two = eq-eqb cores m cores_are in
      rw (one, two) refl

  level_0_passes : with_line table m (Ok headed) (line.Level 0 1) ≡ Ok levelled
  level_0_passes = refl

  root_passes : (pairs : List Pair) → HasShape table m (root_from table pairs) → IsTrue (widens (root_from table pairs) (root table m)) →
      with_line table m (Ok levelled) (line.Root pairs) ≡ Ok (entered pairs)
  root_passes pairs shape wide =
      let shaped : has_shape table m (root_from table pairs) ≡ true = has_shape-from table m (root_from table pairs) shape in
      rw (shaped, wide) refl

  head-passed : (l : CertLine) → first_broken (due_checks table m (before_first_line table) due.Head l) ≡ None → l ≡ line.Head (length table.jobs) m
  head-passed (line.Head jobs cores) passes =
      let each = passes-each (due_checks table m (before_first_line table) due.Head (line.Head jobs cores)) passes in
      let parts = and_parts (nat_eq jobs (length table.jobs)) (nat_eq cores m) each.0 in
      let jobs_are : jobs ≡ length table.jobs = eqb-true jobs (length table.jobs) parts.0 in
      let cores_are : cores ≡ m = eqb-true cores m parts.1 in
      λ i. line.Head (jobs_are i) (cores_are i)
  head-passed other passes = cc

  level_0-numbered : (number count : ℕ) → first_broken (due_checks table m headed due.Level (line.Level number count)) ≡ None → number ≡ 0
  level_0-numbered number count passes = eqb-true number 0 (passes-each (due_checks table m headed due.Level (line.Level number count)) passes).0

  level_0-counted : (count : ℕ) → first_broken (due_checks table m headed due.Level (line.Level 0 count)) ≡ None → count ≡ 1
  level_0-counted count passes = eqb-true count 1 (passes-each (due_checks table m headed due.Level (line.Level 0 count)) passes).1.0

  level_0-passed : (l : CertLine) → first_broken (due_checks table m headed due.Level l) ≡ None → l ≡ line.Level 0 1
  level_0-passed (line.Level number count) passes =
      let number_is = level_0-numbered number count passes in
      let count_is = level_0-counted count (subst (λ n. first_broken (due_checks table m headed due.Level (line.Level n count)) ≡ None) number_is passes) in
      λ i. line.Level (number_is i) (count_is i)
  level_0-passed other passes = cc

  root-passed : (l : CertLine) → first_broken (due_checks table m levelled due.Root l) ≡ None →
      (pairs : List Pair) × (l ≡ line.Root pairs) × HasShape table m (root_from table pairs) × IsTrue (widens (root_from table pairs) (root table m))
  root-passed (line.Root pairs) passes =
      let each = passes-each (due_checks table m levelled due.Root (line.Root pairs)) passes in
      (pairs, refl, HasShape-from_test table m (root_from table pairs) each.0, each.1.0)
  root-passed other passes = cc

  -- ---- a certificate that keeps the clauses passes

  abbrev more_lines : Certificate → List CertLine
  more_lines c = part_lines 0 0 [] [] c.blocks c.spans c.verdict

  -- the lines behind the root line
  later_lines : (c : Certificate) → lines_of c ≡ line.Head c.jobs c.cores ∷ line.Level 0 c.root_count ∷ line.Root c.root ∷ more_lines c
  later_lines c = simp append_assoc

  completes : (c : Certificate) → KeepsClauses table m c → Completes table m (entered c.root) [] [] c.blocks c.spans c.verdict
  completes c keeps =
      let right = right-from_valid table m (root_from table c.root ∷ []) c.blocks keeps.blocks in
      record {
        count = omega arith;
        named = tt;
        follow = (tt, right);
        levels = omega (arith, keeps.level_count);
        job_count = omega (arith, keeps.job_count);
        jobs = fit-from_spans table m (all_edges c) c.spans (edges-in_range table m (root_from table c.root ∷ []) c.blocks right) keeps.spans keeps.in_spans keeps.marks;
        verdict_is = keeps.verdict;
      }

  pub leaves-from_keeps : (c : Certificate) → KeepsClauses table m c → Leaves table m (Ended table m c.spans) (before_first_line table) (lines_of c)
  leaves-from_keeps c keeps =
      let P = Ended table m c.spans in
      let later = ends table m (more_lines c) (entered c.root) [] [] c.blocks c.spans c.verdict (entered_consistent c.root) refl (completes c keeps) in
      let behind_level = leaves-from_step table m P levelled (entered c.root) (line.Root c.root) (more_lines c) (root_passes c.root keeps.root_shape keeps.root_wide) later in
      let one_root : with_line table m (Ok headed) (line.Level 0 c.root_count) ≡ Ok levelled = rw keeps.one_root level_0_passes in
      let behind_head = leaves-from_step table m P headed levelled (line.Level 0 c.root_count) (line.Root c.root ∷ more_lines c) one_root behind_level in
      let behind = line.Level 0 c.root_count ∷ line.Root c.root ∷ more_lines c in
      let passes = head_passes c.jobs c.cores keeps.jobs keeps.cores in
      let all = leaves-from_step table m P (before_first_line table) headed (line.Head c.jobs c.cores) behind passes behind_head in
      subst (Leaves table m P (before_first_line table)) (sym (later_lines c)) all

  -- ---- and what passes is one

  certified : (root_pairs : List Pair) (states : List StateEntry) (edges : List EdgeEntry) (blocks : List Block) (spans : List JobEntry) (verdict : Mark) (lines : List CertLine) →
      HasShape table m (root_from table root_pairs) → IsTrue (widens (root_from table root_pairs) (root table m)) →
      lines ≡ line.Head (length table.jobs) m ∷ line.Level 0 1 ∷ line.Root root_pairs ∷ part_lines 0 0 states edges blocks spans verdict →
      Completes table m (entered root_pairs) states edges blocks spans verdict → Valid table m lines
  certified pairs [] [] blocks spans verdict lines shape wide are c =
      let all : Certificate = record { jobs = length table.jobs; cores = m; root_count = 1; root = pairs; blocks = blocks; spans = spans; verdict = verdict } in
      let level_0 = root_from table pairs ∷ [] in
      let jobs : length spans ≡ length table.jobs = omega (arith, c.job_count) in
      record {
        certificate = all;
        in_order = are ∙ sym (later_lines all);
        keeps = record {
          jobs = refl;
          cores = refl;
          level_count = omega (arith, c.levels);
          job_count = jobs;
          one_root = refl;
          root_shape = shape;
          root_wide = wide;
          blocks = valid-from_right table m level_0 blocks c.follow.1;
          spans = in_order-from_fit table m (all_edges all) spans 0 c.jobs;
          in_spans = in_spans-from_fit table m (all_edges all) spans jobs (edges-in_range table m level_0 blocks c.follow.1) c.jobs;
          marks = marks-from_fit table m (all_edges all) spans 0 c.jobs;
          verdict = c.verdict_is;
        };
      }
  certified pairs [] (e ∷ es) blocks spans verdict lines shape wide are c = absurd c.follow.0
  certified pairs (x ∷ xs) edges blocks spans verdict lines shape wide are c = absurd (omega (arith, c.count))

  valid-from_headed : (lines : List CertLine) → Leaves table m (IsOver table m) headed lines → Valid table m (line.Head (length table.jobs) m ∷ lines)
  valid-from_headed [] leaves = cc
  valid-from_headed (l ∷ ls) leaves =
      let l_is = level_0-passed l (passes-first table m (IsOver table m) headed l ls leaves) in
      let later = leaves-after_line table m (IsOver table m) headed levelled l (line.Level 0 1) ls l_is level_0_passes leaves in
      subst (λ k. Valid table m (line.Head (length table.jobs) m ∷ k ∷ ls)) (sym l_is) (behind_level ls later)
    where
      behind_level : (lines : List CertLine) → Leaves table m (IsOver table m) levelled lines → Valid table m (line.Head (length table.jobs) m ∷ line.Level 0 1 ∷ lines)
      behind_level [] leaves = cc
      behind_level (l ∷ ls) leaves =
          let got = root-passed l (passes-first table m (IsOver table m) levelled l ls leaves) in
          let passes = root_passes got.0 got.2 got.3 in
          let later = leaves-after_line table m (IsOver table m) levelled (entered got.0) l (line.Root got.0) ls got.1 passes leaves in
          let r = rest table m ls (entered got.0) (entered_consistent got.0) later in
          certified got.0 r.states r.edges r.blocks r.spans r.verdict (line.Head (length table.jobs) m ∷ line.Level 0 1 ∷ l ∷ ls) got.2 got.3
          (λ i. line.Head (length table.jobs) m ∷ line.Level 0 1 ∷ got.1 i ∷ r.lines_are i) r.completes

  pub valid-from_leaves : (lines : List CertLine) → Leaves table m (IsOver table m) (before_first_line table) lines → Valid table m lines
  valid-from_leaves [] leaves = cc
  valid-from_leaves (l ∷ ls) leaves =
      let l_is = head-passed l (passes-first table m (IsOver table m) (before_first_line table) l ls leaves) in
      let passes = head_passes (length table.jobs) m refl refl in
      let later = leaves-after_line table m (IsOver table m) (before_first_line table) headed l (line.Head (length table.jobs) m) ls l_is passes leaves in
      subst (λ k. Valid table m (k ∷ ls)) (sym l_is) (valid-from_headed ls later)

-- ---- the laws

ok-weaker : (P Q : Progress → Type 0) (k : Result Progress Failure) → ((r : Progress) → P r → Q r) → IsOkAnd k P → IsOkAnd k Q
ok-weaker P Q (Ok r) weaker p = weaker r p
ok-weaker P Q (Err failure) weaker p = absurd p

pub kept_are_spans : law.KeptAreSpans
kept_are_spans table m c keeps =
    ok-weaker (Ended table m c.spans) (λ r. r.jobs ≡ c.spans) (kept table m (lines_of c)) (λ r e. e.1) (leaves-from_keeps table m c keeps)

pub valid_is_kept : law.ValidIsKept
valid_is_kept table m lines = (
  λ valid.
      let leaves = leaves-from_keeps table m valid.certificate valid.keeps in
      subst (λ ls. IsOkAnd (kept table m ls) (λ r. r.due ≡ due.Nothing)) (sym valid.in_order)
      (ok-weaker (Ended table m valid.certificate.spans) (λ r. r.due ≡ due.Nothing) (kept table m (lines_of valid.certificate)) (λ r e. e.0) leaves),
  λ leaves. valid-from_leaves table m lines leaves,
)
