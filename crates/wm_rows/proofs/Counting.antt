-- How many versions store pieces of a key.
use Rattle.std.proofs.Common.{◌≡◌, ◌<◌, ◌≤◌, ◌+◌, ◌-◌, ℕ, Bool, true, false, cond, ◌&&◌, ◌||◌, eqb, List, [], ◌∷◌, Option, Some, None, refl, sym, ap, ◌∙◌, subst, arith, ◌⊎◌, inl, inr}
use Rattle.std.proofs.lemmas.Bool.{cases_eq, cases_lt, ne_eqb, lt-ltb, le-ltb}
use Rattle.std.proofs.lemmas.Map.Keys.{sorted_head, sorted_tail}
use Rattle.std.specs.BTreeMap.{is_at}
use Rattle.std.specs.Bool.{then_some}
use Rattle.std.specs.List.{AllByRecursion, list_any}
use Rattle.std.specs.List.Sorted.{IsStrictlySortedBy}
use Rattle.std.specs.Map.{lookup}
use Rattle.std.specs.Option.{unwrap_or}
use Rattle.std.specs.Ordering.{is_eq}
use Rattle.std.specs.declared.cmp.Ordering.{Ordering}
use Rattle.std.specs.declared.cmp.Ordering.TheVariants.{Less}
use Rattle.wm_base.specs.Key.{key_order}
use Rattle.wm_base.specs.declared.value.Value.{Value}
use Rattle.wm_rows.proofs.Lookups.{cases_row, is_same-itself, is_same-symm, is_same-parts}
use Rattle.wm_rows.specs.Counts.{Counts, entry_at, count_at, positive, stores}
use Rattle.wm_rows.specs.Maps.{map_at}
use Rattle.wm_rows.specs.Rows.{Groups, row_order, is_same}
use Rattle.wm_rows.specs.declared.row_key.RowKey.{RowKey}

-- ---- counts

pub positive-some : (n : ℕ) → positive (n + 1) ≡ Some (n + 1)
positive-some n = ap (λ b. then_some b (n + 1)) (lt-ltb 0 (n + 1) (omega arith))

pub count-positive : (n : ℕ) → unwrap_or (positive n) 0 ≡ n
count-positive n = by_number (cases_lt 0 n)
  where
    by_number : (0 < n) ⊎ (n ≤ 0) → unwrap_or (positive n) 0 ≡ n
    by_number (inl some) = ap (λ b. unwrap_or (then_some b n) 0) (lt-ltb 0 n some)
    by_number (inr none) = let zero' : n ≡ 0 = omega arith in ap (λ b. unwrap_or (then_some b n) 0) (le-ltb 0 n none) ∙ sym zero'

cond_none : (b : Bool) → (let n : Option ℕ = None in n) ≡ cond b None None
cond_none true = refl
cond_none false = refl

-- where a table has no counts there is nothing to lower
pub less_none : (counts : Counts) (table : ℕ) (key : List Value) (t : ℕ) (k : List Value) → map_at counts table ≡ []
    → entry_at counts t k ≡ cond (eqb table t && is_eq (key_order key k)) (positive (count_at counts table key - 1)) (entry_at counts t k)
less_none counts table key t k none = by_table (cases_eq table t)
  where
    by_table : (table ≡ t) ⊎ (table ≡ t → ⊥) → entry_at counts t k ≡ cond (eqb table t && is_eq (key_order key k)) (positive (count_at counts table key - 1)) (entry_at counts t k)
    by_table (inl here) =
        let nothing : entry_at counts t k ≡ None = ap (λ (es : List (List Value × ℕ)). lookup (is_at (key_order k)) es) (ap (map_at counts) (sym here) ∙ none) in
        let left : positive (count_at counts table key - 1) ≡ None = ap (λ (es : List (List Value × ℕ)). positive (unwrap_or (lookup (is_at (key_order key)) es) 0 - 1)) none in
        nothing ∙ cond_none (eqb table t && is_eq (key_order key k))
        ∙ ap (λ (o : Option ℕ). cond (eqb table t && is_eq (key_order key k)) o None) (sym left)
        ∙ ap (cond (eqb table t && is_eq (key_order key k)) (positive (count_at counts table key - 1))) (sym nothing)
    by_table (inr away) = ap (λ b. cond (b && is_eq (key_order key k)) (positive (count_at counts table key - 1)) (entry_at counts t k)) (sym (ne_eqb table t away))

-- no keys are in order
pub sorted_none : {K : Type 0} (R : K → K → Ordering) → IsStrictlySortedBy R []
unfolding IsStrictlySortedBy
sorted_none R = tt

-- ---- keys of a layer that are still to come

-- 1 where a row is among some
abbrev pub among : RowKey → List RowKey → ℕ
among row rows = cond (list_any (is_at (row_order row)) rows) 1 0

among-first : (row : RowKey) (rows : List RowKey) → among row (row ∷ rows) ≡ 1
among-first row rows = ap (λ b. cond (b || list_any (is_at (row_order row)) rows) 1 0) (is_same-itself row)

among-other : (row other : RowKey) (rows : List RowKey) → is_same row other ≡ false → among row (other ∷ rows) ≡ among row rows
among-other row other rows apart = ap (λ b. cond (b || list_any (is_at (row_order row)) rows) 1 0) apart

-- rows in order have the first one once
among-past : (row : RowKey) (rows : List RowKey) → IsStrictlySortedBy row_order (row ∷ rows) → among row rows ≡ 0
among-past row rows order = ap (λ b. cond b 1 0) (absent rows (sorted_head row_order row rows order))
  where
    absent : (rows : List RowKey) → AllByRecursion (λ y. row_order row y ≡ Less) rows → list_any (is_at (row_order row)) rows ≡ false
    absent [] less = refl
    absent (y ∷ ys) less = ap (λ o. is_eq o || list_any (is_at (row_order row)) ys) less.0 ∙ absent ys less.1

-- where the loop over the rows of a layer stands: the versions that store those of `rest` are still to be counted less
pub record Uncounting (start counts : Counts) (layer : Groups) (rest : List RowKey) : Type 0 where
  pub positives : (t : ℕ) (k : List Value) → entry_at counts t k ≡ positive (count_at counts t k)
  pub less : (t : ℕ) (k : List Value) → count_at counts t k + stores (record { table = t; key = k }) layer ≡ count_at start t k + among (record { table = t; key = k }) rest
  pub order : IsStrictlySortedBy row_order rest

pub uncounting_more : (start counts next : Counts) (layer : Groups) (rest left : List RowKey) (row : RowKey) → Uncounting start counts layer rest → rest ≡ row ∷ left
    → ((t : ℕ) (k : List Value) → stores (record { table = t; key = k }) layer ≤ count_at start t k)
    → ((t : ℕ) (k : List Value) → entry_at next t k ≡ cond (eqb row.table t && is_eq (key_order row.key k)) (positive (count_at counts row.table row.key - 1)) (entry_at counts t k))
    → Uncounting start next layer left
uncounting_more start counts next layer rest left row so is enough took = record {
  positives = λ t k. (both t k (cases_row row (record { table = t; key = k }))).0;
  less = λ t k. (both t k (cases_row row (record { table = t; key = k }))).1;
  order = sorted_tail row_order row left ordered;
}
  where
    ordered : IsStrictlySortedBy row_order (row ∷ left)
    ordered = subst (λ l. IsStrictlySortedBy row_order l) is so.order

    took_same : (t : ℕ) (k : List Value) → entry_at next t k ≡ cond (is_same row (record { table = t; key = k })) (positive (count_at counts row.table row.key - 1)) (entry_at counts t k)
    took_same t k = took t k ∙ ap (λ b. cond b (positive (count_at counts row.table row.key - 1)) (entry_at counts t k)) (sym (is_same-parts row (record { table = t; key = k })))

    here : (entry_at next row.table row.key ≡ positive (count_at next row.table row.key)) × (count_at next row.table row.key + stores row layer ≡ count_at start row.table row.key + among row left)
    here =
        let now : entry_at next row.table row.key ≡ positive (count_at counts row.table row.key - 1) =
        took_same row.table row.key ∙ ap (λ b. cond b (positive (count_at counts row.table row.key - 1)) (entry_at counts row.table row.key)) (is_same-itself row) in
        let count : count_at next row.table row.key ≡ count_at counts row.table row.key - 1 = ap (λ (o : Option ℕ). unwrap_or o 0) now ∙ count-positive (count_at counts row.table row.key - 1) in
        let was : count_at counts row.table row.key + stores row layer ≡ count_at start row.table row.key + among row rest = so.less row.table row.key in
        let one : among row rest ≡ 1 = ap (among row) is ∙ among-first row left in
        let none : among row left ≡ 0 = among-past row left ordered in
        let more : stores row layer ≤ count_at start row.table row.key = enough row.table row.key in
        (now ∙ ap positive (sym count), omega (arith, count, was, one, none, more))

    away : (t : ℕ) (k : List Value) → is_same row (record { table = t; key = k }) ≡ false
        → (entry_at next t k ≡ positive (count_at next t k)) × (count_at next t k + stores (record { table = t; key = k }) layer ≡ count_at start t k + among (record { table = t; key = k }) left)
    away t k apart =
        let same : entry_at next t k ≡ entry_at counts t k = took_same t k ∙ ap (λ b. cond b (positive (count_at counts row.table row.key - 1)) (entry_at counts t k)) apart in
        let q : RowKey = record { table = t; key = k } in
        let others : among q rest ≡ among q left = ap (among q) is ∙ among-other q row left (is_same-symm q row ∙ apart) in (
          same ∙ so.positives t k ∙ ap (λ (o : Option ℕ). positive (unwrap_or o 0)) (sym same),
          ap (λ (o : Option ℕ). unwrap_or o 0 + stores q layer) same ∙ so.less t k ∙ ap (λ n. count_at start t k + n) others,
        )

    both : (t : ℕ) (k : List Value) → (row ≡ record { table = t; key = k }) ⊎ (is_same row (record { table = t; key = k }) ≡ false)
        → (entry_at next t k ≡ positive (count_at next t k)) × (count_at next t k + stores (record { table = t; key = k }) layer ≡ count_at start t k + among (record { table = t; key = k }) left)
    both t k (inl same) =
        let P : RowKey → Type 0 = λ r. (entry_at next r.table r.key ≡ positive (count_at next r.table r.key)) × (count_at next r.table r.key + stores r layer ≡ count_at start r.table r.key + among r left) in
        subst P same here
    both t k (inr apart) = away t k apart
