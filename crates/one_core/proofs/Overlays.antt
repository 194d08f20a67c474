-- Rows by job with the releases and costs that are settled.
use Rattle.std.proofs.Common.{◌≡◌, ◌≢◌, ℕ, ◌<◌, ◌⊎◌, inl, inr, List, [], ◌∷◌, length, map, Some, None, refl, sym, ap, ◌∙◌, arith, get_or-set_other, get_or-set_same}
use Rattle.std.specs.Prelude.{nat_eq, unwrap_or, slice_index_or, slice_set}
use Rattle.std.specs.List.{range_with_len}
use Rattle.std.specs.Map.{lookup}
use Rattle.std.proofs.lemmas.Bool.{cases_eq, eq-eqb, ne_eqb, cond-true, cond-false}
use Rattle.std.proofs.lemmas.List.FromFn.{fill_by_all, get_or-map-range_with_len, length-map-range_with_len}
use Rattle.job_model.specs.Table.{Table, job_at}
use Rattle.one_core.specs.Extreme.{scenario_with}
use Rattle.one_core.specs.Walk.{latest_rows, overlaid}

abbrev row_at : List (ℕ × ℕ) → List (ℕ × (ℕ × ℕ)) → ℕ → ℕ × ℕ
row_at rows told i = unwrap_or (lookup (nat_eq i) told) (slice_index_or rows i (0, 0))

-- lists of as many rows that agree at each job are one
agree : (n : ℕ) (f g : ℕ → ℕ × ℕ) → ((i : ℕ) → i < n → f i ≡ g i) → map f (range_with_len 0 n) ≡ map g (range_with_len 0 n)
agree n f g same =
    fill_by_all g (map f (range_with_len 0 n)) n (0, 0) (length-map-range_with_len f 0 n)
    (λ i below. get_or-map-range_with_len f 0 n i i (0, 0) below (omega arith) ∙ same i below)

module _ (table : Table) where
  pub overlaid-none : (rows : List (ℕ × ℕ)) → length rows ≡ length table.jobs → overlaid table rows [] ≡ rows
  overlaid-none rows each = sym (fill_by_all (row_at rows []) rows (length table.jobs) (0, 0) each (λ i below. refl))

  pub length-overlaid : (rows : List (ℕ × ℕ)) (told : List (ℕ × (ℕ × ℕ))) → length (overlaid table rows told) ≡ length table.jobs
  length-overlaid rows told = length-map-range_with_len (row_at rows told) 0 (length table.jobs)

  pub overlaid-latest : (told : List (ℕ × (ℕ × ℕ))) → overlaid table (latest_rows table) told ≡ scenario_with table told
  overlaid-latest told =
      agree (length table.jobs) (row_at (latest_rows table) told) (λ i. unwrap_or (lookup (nat_eq i) told) ((job_at table i).rmax, (job_at table i).cmax))
      (λ i below. ap (unwrap_or (lookup (nat_eq i) told))
      (get_or-map-range_with_len (λ i. ((job_at table i).rmax, (job_at table i).cmax)) 0 (length table.jobs) i i (0, 0) below (omega arith)))

  -- a job that is settled once
  pub overlaid-settled_job : (rows : List (ℕ × ℕ)) (j : ℕ) (v : ℕ × ℕ) (rest : List (ℕ × (ℕ × ℕ))) → j < length table.jobs → length rows ≡ length table.jobs →
      lookup (nat_eq j) rest ≡ None → overlaid table rows ((j, v) ∷ rest) ≡ overlaid table (slice_set rows j v) rest
  overlaid-settled_job rows j v rest is_job each alone =
      agree (length table.jobs) (row_at rows ((j, v) ∷ rest)) (row_at (slice_set rows j v) rest) (λ i below. by i (cases_eq i j))
    where
      by : (i : ℕ) → (i ≡ j) ⊎ (i ≢ j) → row_at rows ((j, v) ∷ rest) i ≡ row_at (slice_set rows j v) rest i
      by i (inl same) =
          let inside : j < length rows = omega (arith, is_job, each) in
          ap (λ o. unwrap_or o (slice_index_or rows i (0, 0))) (cond-true (nat_eq i j) (Some v) (lookup (nat_eq i) rest) (eq-eqb i j same))
          ∙ sym (ap (λ k. row_at (slice_set rows j v) rest k) same ∙ ap (λ o. unwrap_or o (slice_index_or (slice_set rows j v) j (0, 0))) alone ∙ get_or-set_same rows j v (0, 0) inside)
      by i (inr other) =
          ap (λ o. unwrap_or o (slice_index_or rows i (0, 0))) (cond-false (nat_eq i j) (Some v) (lookup (nat_eq i) rest) (ne_eqb i j other))
          ∙ ap (unwrap_or (lookup (nat_eq i) rest)) (sym (get_or-set_other rows j i v (0, 0) other))
