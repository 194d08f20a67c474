-- Rows that name jobs, and their places by job.
use Rattle.std.proofs.Common.{◌≡◌, ◌≢◌, ◌∙◌, ℕ, ◌<◌, ◌⊎◌, inl, inr, List, [], ◌∷◌, ◌++◌, None, Some, Option, length, map, set, get_or, refl, sym, ap, subst, arith, length-append}
use Rattle.std.specs.Prelude.{All, AllPairs, Contains, MatchOption}
use Rattle.std.specs.Option.{ForSome}
use Rattle.std.proofs.lemmas.Bool.{cases_lt, cases_eq}
use Rattle.std.proofs.lemmas.List.{get_or-map, get_or_default, length-map, get_or_append_left, get_or-set_other, get_or-set_same}
use Rattle.std.proofs.lemmas.List.Elements.{All-push}
use Rattle.std.proofs.lemmas.List.Quantifiers.{all_pairs_push}
use Rattle.std.proofs.Math.ListN.{length-set}
use Rattle.std.proofs.Math.Seq.{get_or-append_seam}
use Rattle.job_model.specs.Table.{IsTable, Table, id_of, job_at, no_job}
use Rattle.side_csv.specs.Places.{Places}
use Rattle.side_csv.specs.RowPerJob.{IsGood, KeepRules, NamesJob, ids_of}

-- the IDs of each row are among those of the rows
pub contains-row : (rows : List (List ℕ)) (k : ℕ) (y : ℕ × ℕ) → k < length rows → ids_of (get_or rows k []) ≡ y → Contains (map ids_of rows) y
contains-row rows k y below same =
    let there : k < length (map ids_of rows) = omega (arith, length-map rows ids_of) in
    (k, there, get_or-map ids_of rows k [] y below ∙ same)

-- IDs that are among those of the rows are those of a row
pub row-contained : (rows : List (List ℕ)) (y : ℕ × ℕ) → Contains (map ids_of rows) y → (k : ℕ) × (k < length rows) × (ids_of (get_or rows k []) ≡ y)
row-contained rows y h =
    let (k, there, same) = h in
    let below : k < length rows = omega (arith, length-map rows ids_of) in
    (k, below, sym (get_or-map ids_of rows k [] y below) ∙ same)

-- the same of one more row: the IDs are those of an earlier row, or of the last
pub row-contained-push : (rows : List (List ℕ)) (row : List ℕ) (y : ℕ × ℕ) → Contains (map ids_of (rows ++ row ∷ [])) y → Contains (map ids_of rows) y ⊎ (ids_of row ≡ y)
row-contained-push rows row y h =
    let (k, below, same) = row-contained (rows ++ row ∷ []) y h in
    let total = length-append rows (row ∷ []) in
    elim (cases_lt k (length rows)) [
      | inl less ↦ inl (contains-row rows k y less (ap ids_of (sym (get_or_append_left rows (row ∷ []) [] k less)) ∙ same))
      | inr more ↦
          let last : k ≡ length rows = omega (arith, total, below, more) in
          inr (ap ids_of (sym (get_or-append_seam rows row [] [])) ∙ ap (λ n. ids_of (get_or (rows ++ row ∷ []) n [])) (sym last) ∙ same)
    ]

-- two jobs of one table do not have the same IDs
jobs-apart : (table : Table) → IsTable table → (i j : ℕ) → i < j → j < length table.jobs → id_of (job_at table i) ≡ id_of (job_at table j) → ⊥
jobs-apart table is_table i j less below same =
    is_table.ids_differ i j no_job less below (ap (λ (p : ℕ × ℕ). p.0) same, ap (λ (p : ℕ × ℕ). p.1) same)

pub job-same : (table : Table) → IsTable table → (i j : ℕ) → i < length table.jobs → j < length table.jobs → id_of (job_at table i) ≡ id_of (job_at table j) → i ≡ j
job-same table is_table i j here there same = elim (cases_lt i j) [
  | inl less ↦ absurd (jobs-apart table is_table i j less there same)
  | inr more ↦ elim (cases_lt j i) [
    | inl less ↦ absurd (jobs-apart table is_table j i less here (sym same))
    | inr other ↦ omega arith
  ]
]

-- a row names one job
pub names-same : (table : Table) → IsTable table → (row other : List ℕ) (i j : ℕ) → NamesJob table row i → NamesJob table other j → ids_of row ≡ ids_of other → i ≡ j
names-same table is_table row other i j one two same = job-same table is_table i j one.is_job two.is_job (sym one.ids_are ∙ same ∙ two.ids_are)

-- one more good row, of a job that no row names
pub KeepRules-push : (outside : ℕ → List ℕ → Option ℕ) (table : Table) (rows : List (List ℕ)) (row : List ℕ) (j : ℕ) → KeepRules outside table rows → NamesJob table row j → outside j row ≡ None
    → (¬ Contains (map ids_of rows) (id_of (job_at table j))) → KeepRules outside table (rows ++ row ∷ [])
KeepRules-push outside table rows row j kept names inside free = record {
  each = All-push (IsGood outside table) rows row kept.each (record { job = j; names = names; inside = inside });
  ids_differ = all_pairs_push (λ a b. ids_of a ≢ ids_of b) rows row kept.ids_differ (λ k d below same. free (contains-row rows k (id_of (job_at table j)) below (ap ids_of (get_or_default rows k [] d below) ∙ same ∙ names.ids_are)));
}

-- no place where no row names the job
pub place-none : (table : Table) (rows : List (List ℕ)) (places : List (Option ℕ)) (j : ℕ) → Places table rows places → j < length table.jobs → get_or places j None ≡ None
    → ¬ Contains (map ids_of rows) (id_of (job_at table j))
place-none table rows places j are below none = rw none at (are.each j below)

-- a place where a row names the job
pub place-some : (table : Table) (rows : List (List ℕ)) (places : List (Option ℕ)) (j k : ℕ) → Places table rows places → j < length table.jobs → get_or places j None ≡ Some k
    → (k < length rows) × (ids_of (get_or rows k []) ≡ id_of (job_at table j))
place-some table rows places j k are below some = rw some at (are.each j below)

-- each place is that of a row
pub places-within : (table : Table) (rows : List (List ℕ)) (places : List (Option ℕ)) → Places table rows places → All (λ o. ForSome o (λ k. k < length rows)) places
places-within table rows places are j d below k some =
    (place-some table rows places j k are (omega (arith, are.one_each)) (get_or_default places j None d below ∙ some)).0

-- a job that no row names, and that one more row does not name
still-free : (table : Table) → IsTable table → (rows : List (List ℕ)) (row : List ℕ) (j i : ℕ) → NamesJob table row j → i < length table.jobs → i ≢ j
    → (¬ Contains (map ids_of rows) (id_of (job_at table i))) → ¬ Contains (map ids_of (rows ++ row ∷ [])) (id_of (job_at table i))
still-free table is_table rows row j i names below apart free there = elim (row-contained-push rows row (id_of (job_at table i)) there) [
  | inl earlier ↦ free earlier
  | inr last ↦ apart (job-same table is_table i j below names.is_job (sym last ∙ names.ids_are))
]

-- what the places say of a job, once one more row names another
place-kept : (table : Table) → IsTable table → (rows : List (List ℕ)) (row : List ℕ) (j i : ℕ) (o : Option ℕ) → NamesJob table row j → i < length table.jobs → i ≢ j
    → MatchOption o (¬ Contains (map ids_of rows) (id_of (job_at table i))) (λ k. (k < length rows) × (ids_of (get_or rows k []) ≡ id_of (job_at table i)))
    → MatchOption o (¬ Contains (map ids_of (rows ++ row ∷ [])) (id_of (job_at table i))) (λ k. (k < length (rows ++ row ∷ [])) × (ids_of (get_or (rows ++ row ∷ []) k []) ≡ id_of (job_at table i)))
place-kept table is_table rows row j i None names below apart h = still-free table is_table rows row j i names below apart h
place-kept table is_table rows row j i (Some k) names below apart h =
    (omega (arith, h.0, length-append rows (row ∷ [])), ap ids_of (get_or_append_left rows (row ∷ []) [] k h.0) ∙ h.1)

-- the places once one more row names a job that none named
pub Places-push : (table : Table) → IsTable table → (rows : List (List ℕ)) (row : List ℕ) (places : List (Option ℕ)) (j : ℕ) → Places table rows places → NamesJob table row j
    → Places table (rows ++ row ∷ []) (set places j (Some (length rows)))
Places-push table is_table rows row places j are names = record {
  one_each = length-set places j (Some (length rows)) ∙ are.one_each;
  each = λ i below. elim (cases_eq i j) [
    | inl same ↦
        let here : get_or (set places j (Some (length rows))) i None ≡ Some (length rows) =
        ap (λ n. get_or (set places j (Some (length rows))) n None) same ∙ get_or-set_same places j (Some (length rows)) None (omega (arith, are.one_each, names.is_job)) in
        rw here (
          omega (arith, length-append rows (row ∷ [])),
          ap ids_of (get_or-append_seam rows row [] []) ∙ names.ids_are ∙ ap (λ n. id_of (job_at table n)) (sym same),
        )
    | inr apart ↦
        rw (get_or-set_other places j i (Some (length rows)) None apart) (place-kept table is_table rows row j i (get_or places i None) names below apart (are.each i below))
  ];
}

-- two rows of the same IDs are one
pub index-same : (rows : List (List ℕ)) → AllPairs (λ a b. ids_of a ≢ ids_of b) rows → (i j : ℕ) → i < length rows → j < length rows → ids_of (get_or rows i []) ≡ ids_of (get_or rows j []) → i ≡ j
index-same rows apart i j here there same = elim (cases_lt i j) [
  | inl less ↦ absurd (apart i j [] less there same)
  | inr more ↦ elim (cases_lt j i) [
    | inl less ↦ absurd (apart j i [] less here (sym same))
    | inr other ↦ omega arith
  ]
]

-- a row that names a job has IDs of the table
pub names-contained : (table : Table) (row : List ℕ) (j : ℕ) → NamesJob table row j → Contains (map id_of table.jobs) (ids_of row)
names-contained table row j names =
    (j, omega (arith, names.is_job, length-map table.jobs id_of), get_or-map id_of table.jobs j no_job (ids_of row) names.is_job ∙ sym names.ids_are)

-- of rows that keep the rules each is good
pub good-here : (outside : ℕ → List ℕ → Option ℕ) (table : Table) (before : List (List ℕ)) (here : List ℕ) (after : List (List ℕ)) → KeepRules outside table (before ++ here ∷ after) → IsGood outside table here
good-here outside table before here after kept =
    subst (IsGood outside table) (get_or-append_seam before here after []) (kept.each (length before) [] (omega (arith, length-append before (here ∷ after))))

-- no column of a good row is outside, by the job that it names
pub inside-named : (outside : ℕ → List ℕ → Option ℕ) (table : Table) → IsTable table → (row : List ℕ) (j : ℕ) → IsGood outside table row → NamesJob table row j → outside j row ≡ None
inside-named outside table is_table row j good names =
    let same : good.job ≡ j = names-same table is_table row row good.job j good.names names refl in
    subst (λ i. outside i row ≡ None) same good.inside
