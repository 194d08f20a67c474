-- What the rows of a file give each job, and that they fix it.
use Rattle.std.proofs.Common.{◌≡◌, ◌∙◌, ℕ, ◌+◌, ◌<◌, List, inl, inr, [], ◌∷◌, ◌++◌, Option, length, map, get_or, sym, ap, subst, arith}
use Rattle.std.specs.Prelude.{Any, Contains}
use Rattle.std.proofs.lemmas.Bool.{cases_lt}
use Rattle.std.proofs.lemmas.List.{ext_get_or, get_or_default, get_or_append_left}
use Rattle.std.proofs.Math.Seq.{get_or-append_seam}
use Rattle.csv_numbers.specs.Laws.{RowsAgree}
use Rattle.job_model.specs.Table.{Table, id_of, job_at}
use Rattle.side_csv.specs.RowPerJob.{GivesEach, GivesItem, KeepRules, NamesJob, ids_of}
use Rattle.side_csv.proofs.RowLemmas.{contains-row, index-same}

module _ {V : Type 0} (value : List ℕ → V) (none : V) (table : Table) (rows : List (List ℕ)) where
  -- the jobs below n have a row that gives them their items
  abbrev pub Given : List V → ℕ → Type 0
  Given items n = (j : ℕ) → j < n → Any (GivesItem value none table items j) rows

  -- the item of one more job, which a row names
  pub Given-push : (items : List V) (n k : ℕ) → length items ≡ n → Given items n → k < length rows → NamesJob table (get_or rows k []) n → Given (items ++ value (get_or rows k []) ∷ []) (n + 1)
  Given-push items n k count given below names j less =
      let row = get_or rows k [] in
      let v : V = value row in
      elim (cases_lt j n) [
        | inl front ↦
            let (at, x, there, is, gives) = given j front in
            let same : get_or (items ++ v ∷ []) j none ≡ get_or items j none = get_or_append_left items (v ∷ []) none j (omega arith) in
            (at, x, there, is, record { names = gives.names; item_is = gives.item_is ∙ sym same })
        | inr last ↦
            let j_is : j ≡ length items = omega arith in
            let same : get_or (items ++ v ∷ []) j none ≡ v = ap (λ i. get_or (items ++ v ∷ []) i none) j_is ∙ get_or-append_seam items v [] none in
            (k, row, below, get_or_default rows k row [] below, record { names = subst (λ i. NamesJob table row i) (sym (j_is ∙ count)) names; item_is = sym same })
      ]

  -- a job that a row gives an item is among those that the rows name
  pub given-contained : (items : List V) (n : ℕ) → Given items n → (j : ℕ) → j < n → Contains (map ids_of rows) (id_of (job_at table j))
  given-contained items n given j below =
      let (k, row, there, is, gives) = given j below in
      contains-row rows k (id_of (job_at table j)) there (ap ids_of (get_or_default rows k [] row there ∙ is) ∙ gives.names.ids_are)

  -- two lists that the same rows give are one
  same-given : (outside : ℕ → List ℕ → Option ℕ) (s t : List V) → KeepRules outside table rows → length s ≡ length table.jobs → length t ≡ length table.jobs → Given s (length table.jobs) → Given t (length table.jobs) → s ≡ t
  same-given outside s t kept s_each t_each s_given t_given =
      ext_get_or none s t (s_each ∙ sym t_each) (λ j below.
      let is_job : j < length table.jobs = omega (arith, s_each) in
      let (k, row, there, is, gives) = s_given j is_job in
      let (k2, row2, there2, is2, gives2) = t_given j is_job in
      let one : get_or rows k [] ≡ row = get_or_default rows k [] row there ∙ is in
      let two : get_or rows k2 [] ≡ row2 = get_or_default rows k2 [] row2 there2 ∙ is2 in
      let place : k ≡ k2 = index-same rows kept.ids_differ k k2 there there2 (ap ids_of one ∙ gives.names.ids_are ∙ sym gives2.names.ids_are ∙ ap ids_of (sym two)) in
      let row_same : row ≡ row2 = sym one ∙ ap (λ n. get_or rows n []) place ∙ two in
      sym gives.item_is ∙ ap value row_same ∙ gives2.item_is)

-- a text gives one list
pub one-given : {V : Type 0} → RowsAgree → (width : ℕ) (outside : ℕ → List ℕ → Option ℕ) (value : List ℕ → V) (none : V) (table : Table) (bytes : List ℕ) (s t : List V)
    → GivesEach width outside value none table bytes s → GivesEach width outside value none table bytes t → s ≡ t
one-given agree width outside value none table bytes s t one two =
    let same = agree bytes width two.rows one.rows two.rows_are one.rows_are in
    same-given value none table one.rows outside s t one.kept one.one_each two.one_each one.given (subst (λ l. Given value none table l t (length table.jobs)) same two.given)
