-- What a list of tasks has for each task: the greatest of its rows.
use Rattle.std.proofs.Common.{◌≡◌, ℕ, zero, suc, ◌+◌, ◌<◌, ◌≤◌, Bool, true, false, cond, ltb, List, [], ◌∷◌, Option, Some, None, refl, sym, ap, ◌∙◌, subst, arith, max, map, fold, filter, get_or, length, take, eqb, ⊎_elim}
use Rattle.std.specs.Prelude.{◌==◌, slice_get, unwrap_or}
use Rattle.std.specs.BTreeMap.{insert_entry, is_at}
use Rattle.std.specs.Map.{lookup}
use Rattle.std.specs.Ordering.{MatchOrdering, is_eq, is_lt, match_ordering, nat_cmp, ord_max}
use Rattle.std.specs.declared.cmp.Ordering.{Ordering}
use Rattle.std.specs.declared.cmp.Ordering.TheVariants.{Less, Equal, Greater}
use Rattle.std.proofs.lemmas.Bool.{cases_eq, eq-eqb, false_from_ne_true, le-ltb, ne_eqb}
use Rattle.std.proofs.lemmas.Cmp.{ranked}
use Rattle.std.proofs.lemmas.Option.{get_or_from_slice_get}
use Rattle.std.proofs.lemmas.List.Sums.{fold_more}
use Rattle.lists.specs.Numbers.{greatest}
use Rattle.lists.specs.Zipped.{zip_with}
use Rattle.lists.proofs.Orderings.{numbers_tie}
use Rattle.sag_time.specs.Interval.{Interval}
use Rattle.job_model.specs.Table.{Table, job_at, no_job}
use Rattle.response_report.proofs.ZippedRows.{zipped_at}
use Rattle.response_report.specs.Laws.{ResponsesWithinWcrt}
use Rattle.response_report.specs.ReportRows.{report_row, report_rows, response_time, task_rows, task_wcrt, wcrt_in, with_row}
use Rattle.response_report.specs.declared.report_row.ReportRow.{ReportRow}

-- ---- an entry of a map

is_Equal : (o : Ordering) → is_eq o ≡ true → o ≡ Equal
is_Equal Less h = cc
is_Equal Equal h = refl
is_Equal Greater h = cc

-- a key that is found is the one that was sought
found_is : (q k : ℕ) → is_at (nat_cmp q) k ≡ true → q ≡ k
found_is q k h = numbers_tie q k (is_Equal (nat_cmp q k) h)

-- a key is found under itself
finds : (q : ℕ) → is_at (nat_cmp q) q ≡ true
finds q =
    let least : ltb q q ≡ false = le-ltb q q (omega arith) in
    let own : eqb q q ≡ true = eq-eqb q q refl in
    ap (λ b. is_eq (cond b Less (cond (eqb q q) Equal Greater))) least ∙ ap (λ b. is_eq (cond b Equal Greater)) own

twice : {X : Type 0} (b : Bool) (x y z : X) → cond b x z ≡ cond b x (cond b y z)
twice true x y z = refl
twice false x y z = refl

turned : {X : Type 0} (a b : Bool) (x y z : X) → (a ≡ true → b ≡ true → ⊥) → cond a x (cond b y z) ≡ cond b y (cond a x z)
turned true true x y z apart = absurd (apart refl refl)
turned true false x y z apart = refl
turned false true x y z apart = refl
turned false false x y z apart = refl

-- one entry of the list, by the order of the new key and its key
listed-step : (o : Ordering) (q k v : ℕ) (e : ℕ × ℕ) (es : List (ℕ × ℕ)) → o ≡ nat_cmp k e.0 →
    lookup (is_at (nat_cmp q)) (insert_entry nat_cmp es k v) ≡ cond (is_at (nat_cmp q) k) (Some v) (lookup (is_at (nat_cmp q)) es) →
    lookup (is_at (nat_cmp q)) (match_ordering o ((k, v) ∷ e ∷ es) ((e.0, v) ∷ es) (e ∷ insert_entry nat_cmp es k v))
    ≡ cond (is_at (nat_cmp q) k) (Some v) (lookup (is_at (nat_cmp q)) (e ∷ es))
listed-step Less q k v e es is rest = refl
listed-step Equal q k v e es is rest =
    let same : k ≡ e.0 = ranked k e.0 Equal is in
    let t = is_at (nat_cmp q) in
    twice (t e.0) (Some v) (Some e.1) (lookup t es) ∙ ap (λ (n : ℕ). cond (t n) (Some v) (lookup t (e ∷ es))) (sym same)
listed-step Greater q k v e es is rest =
    let above : e.0 < k = ranked k e.0 Greater is in
    let t = is_at (nat_cmp q) in
    ap (λ found. cond (t e.0) (Some e.1) found) rest
    ∙ turned (t e.0) (t k) (Some e.1) (Some v) (lookup t es) (λ one other. absurd (omega (arith, above, found_is q e.0 one, found_is q k other)))

-- a list with an entry has its value under its key, and what it had under each other
listed : (es : List (ℕ × ℕ)) (k v q : ℕ) → lookup (is_at (nat_cmp q)) (insert_entry nat_cmp es k v) ≡ cond (is_at (nat_cmp q) k) (Some v) (lookup (is_at (nat_cmp q)) es)
listed [] k v q = refl
listed (e ∷ es) k v q = listed-step (nat_cmp k e.0) q k v e es refl (listed es k v q)

greater-by : (o : Ordering) (a b : ℕ) → MatchOrdering o (b < a) (b ≡ a) (a < b) → cond (is_lt o) a b ≡ max a b
greater-by Less a b h = omega (arith, h)
greater-by Equal a b h = omega (arith, h)
greater-by Greater a b h = omega (arith, h)

-- the greater of two numbers
greater_is : (a b : ℕ) → ord_max nat_cmp a b ≡ max a b
greater_is a b = greater-by (nat_cmp b a) a b (ranked b a (nat_cmp b a) refl)

-- ---- rows

-- a row of the task counts, and a row of another does not
own_row : (row : ReportRow) (rows : List ReportRow) (q : ℕ) → row.task ≡ q → task_wcrt (row ∷ rows) q ≡ max row.wcrt (task_wcrt rows q)
own_row row rows q same =
    let rest = filter (λ (r : ReportRow). r.task == q) rows in
    ap (λ b. greatest (map (λ (r : ReportRow). r.wcrt) (cond b (row ∷ rest) rest))) (eq-eqb row.task q same)

other_row : (row : ReportRow) (rows : List ReportRow) (q : ℕ) → (row.task ≡ q → ⊥) → task_wcrt (row ∷ rows) q ≡ task_wcrt rows q
other_row row rows q other =
    let rest = filter (λ (r : ReportRow). r.task == q) rows in
    ap (λ b. greatest (map (λ (r : ReportRow). r.wcrt) (cond b (row ∷ rest) rest))) (ne_eqb row.task q other)

-- so it is with the list
own_entry : (tasks : List (ℕ × ℕ)) (row : ReportRow) (q : ℕ) → row.task ≡ q → wcrt_in (with_row tasks row) q ≡ max (wcrt_in tasks q) row.wcrt
own_entry tasks row q same =
    let t = is_at (nat_cmp q) in
    let v : ℕ → ℕ = λ n. max (wcrt_in tasks n) row.wcrt in
    ap (λ o. unwrap_or o 0) (listed tasks row.task (v row.task) q)
    ∙ ap (λ n. unwrap_or (cond (t n) (Some (v n)) (lookup t tasks)) 0) same
    ∙ ap (λ b. unwrap_or (cond b (Some (v q)) (lookup t tasks)) 0) (finds q)

other_entry : (tasks : List (ℕ × ℕ)) (row : ReportRow) (q : ℕ) → (row.task ≡ q → ⊥) → wcrt_in (with_row tasks row) q ≡ wcrt_in tasks q
other_entry tasks row q other =
    let t = is_at (nat_cmp q) in
    let v = max (wcrt_in tasks row.task) row.wcrt in
    let apart : t row.task ≡ false = false_from_ne_true (t row.task) (λ h. other (sym (found_is q row.task h))) in
    ap (λ o. unwrap_or o 0) (listed tasks row.task v q) ∙ ap (λ b. unwrap_or (cond b (Some v) (lookup t tasks)) 0) apart

-- the WCRT of a task once one more row counts
counted-row : (tasks : List (ℕ × ℕ)) (row : ReportRow) (rows : List ReportRow) (q : ℕ) →
    max (wcrt_in (with_row tasks row) q) (task_wcrt rows q) ≡ max (wcrt_in tasks q) (task_wcrt (row ∷ rows) q)
counted-row tasks row rows q =
    ⊎_elim (λ same. omega (arith, own_entry tasks row q same, own_row row rows q same))
    (λ other. omega (arith, other_entry tasks row q other, other_row row rows q other)) (cases_eq row.task q)

counted : (tasks : List (ℕ × ℕ)) (rows : List ReportRow) (q : ℕ) → wcrt_in (fold with_row tasks rows) q ≡ max (wcrt_in tasks q) (task_wcrt rows q)
counted tasks [] q = omega arith
counted tasks (row ∷ rows) q = counted (with_row tasks row) rows q ∙ counted-row tasks row rows q

-- a list of tasks has the greatest WCRT of the rows of each task
pub task_rows-greatest : (rows : List ReportRow) (q : ℕ) → wcrt_in (task_rows rows) q ≡ task_wcrt rows q
unfolding task_rows
task_rows-greatest rows q = omega (arith, counted [] rows q)

-- one more row
pub task_rows-more : (rows : List ReportRow) (i : ℕ) (d : ReportRow) (entries : List (ℕ × ℕ)) (known wcrt : ℕ) → i < length rows → entries ≡ task_rows (take i rows) →
    known ≡ wcrt_in entries (get_or rows i d).task → wcrt ≡ ord_max nat_cmp known (get_or rows i d).wcrt →
    insert_entry nat_cmp entries (get_or rows i d).task wcrt ≡ task_rows (take (i + 1) rows)
unfolding task_rows
task_rows-more rows i d entries known wcrt below so_far has greater =
    let row = get_or rows i d in
    let most : wcrt ≡ max (wcrt_in entries row.task) row.wcrt = greater ∙ greater_is known row.wcrt ∙ ap (λ n. max n row.wcrt) has in
    ap (insert_entry nat_cmp entries row.task) most ∙ ap (λ tasks. with_row tasks row) so_far ∙ sym (fold_more with_row [] rows i d below)

-- no row of the task has a greater one
within_task : (rows : List ReportRow) (j : ℕ) (row : ReportRow) → slice_get rows j ≡ Some row → row.wcrt ≤ task_wcrt rows row.task
within_task [] j row is = cc
within_task (r ∷ rows) zero row is =
    let same : r ≡ row = cc in
    omega (arith, own_row r rows row.task (ap (λ (s : ReportRow). s.task) same), ap (λ (s : ReportRow). s.wcrt) same)
within_task (r ∷ rows) (suc j) row is =
    let rest = within_task rows j row is in
    ⊎_elim (λ same. omega (arith, rest, own_row r rows row.task same)) (λ other. omega (arith, rest, other_row r rows row.task other)) (cases_eq r.task row.task)

-- ---- the law

pub responses_within_wcrt : ResponsesWithinWcrt
responses_within_wcrt table spans j span finish is_job there within =
    let a = job_at table j in
    let rows = report_rows table spans in
    let row = zipped_at report_row table.jobs spans j span no_job is_job there in
    let most = within_task rows j (report_row a span) row in
    omega (arith, most, task_rows-greatest rows a.task, within)
