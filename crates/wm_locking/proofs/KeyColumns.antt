-- A condition that is typed over the key columns of a table is typed over all its columns.
use Rattle.std.proofs.Common.{◌≡◌, ℕ, zero, suc, ◌+◌, ◌<◌, ◌==◌, ◌&&◌, ◌||◌, not, nat_lt, nat_le, Bool, true, false, cond, if◌then◌else◌, List, [], ◌∷◌, ◌++◌, length, map, Option, Some, None, slice_get, option_and_then, option_map, refl, sym, ap, ◌∙◌, arith, eqb-true, zero-add}
use Rattle.std.proofs.lemmas.Bool.{and_parts, true≢false}
use Rattle.std.proofs.lemmas.List.Folds.{find-append, find_at}
use Rattle.std.proofs.lemmas.List.Sums.{sum_by-append, sum_by-cons}
use Rattle.std.proofs.lemmas.Option.{none-some, same_Some, slice_get_within}
use Rattle.std.proofs.lemmas.Slice.Eq.{bytes_eq-Decides}
use Rattle.std.specs.List.{count_by, filter_map, find, list_all, list_any, position, position_or_len}
use Rattle.std.specs.Option.{option_or}
use Rattle.std.specs.Str.{bytes_eq}
use Rattle.wm_decided.specs.Keys.{columns_of_keys, key_columns}
use Rattle.wm_dml.proofs.Valued.{kind_place}
use Rattle.wm_dml.specs.Changing.{own_columns}
use Rattle.wm_graph.specs.Rules.{are_key_columns, differ, has_key, is_short, is_table, same_column}
use Rattle.wm_listing.specs.declared.columns.Column.{Column}
use Rattle.wm_spec.specs.Operands.{is_named, is_of_source, kind_of}
use Rattle.wm_spec.specs.declared.record.column.TableColumn.{TableColumn}
use Rattle.wm_spec.specs.declared.record.table.Table.{Table}
use Rattle.wm_syntax.specs.Trees.{Cond}
use Rattle.wm_typing.specs.Columns.{declared_column, valid_column}
use Rattle.wm_typing.specs.Types.{is_filter_typed}
use Rattle.wm_locking.proofs.Wider.{filter_wider}

-- ---- what is found, and how often

module _ {A : Type 0} (P : A → Bool) where
  counts : A → ℕ
  counts x = cond (P x) 1 0

  found_place : (xs : List A) (q : ℕ) → position P xs ≡ Some q → find P xs ≡ slice_get xs q
  found_place xs q is = by_test (nat_lt (position_or_len P xs) (length xs)) is
    where
      by_test : (b : Bool) → cond b (Some (position_or_len P xs)) None ≡ Some q → find P xs ≡ slice_get xs q
      by_test true e = find_at P xs ∙ ap (slice_get xs) (same_Some (position_or_len P xs) q e)
      by_test false e = absurd (none-some q e)

  -- by the place, or as it is found
  place_found : {B : Type 0} (f : A → B) (xs : List A) (x : A) → find P xs ≡ Some x → option_and_then (λ q. option_map f (slice_get xs q)) (position P xs) ≡ Some (f x)
  place_found {B} f xs x found = by_test (nat_lt (position_or_len P xs) (length xs)) refl
    where
      there : slice_get xs (position_or_len P xs) ≡ Some x
      there = sym (find_at P xs) ∙ found

      inside : position_or_len P xs < length xs
      inside = slice_get_within xs (position_or_len P xs) x there

      by_test : (b : Bool) → nat_lt (position_or_len P xs) (length xs) ≡ b → option_and_then (λ q. option_map f (slice_get xs q)) (cond b (Some (position_or_len P xs)) None) ≡ Some (f x)
      by_test true lt = ap (option_map f) there
      by_test false lt = let t : nat_lt (position_or_len P xs) (length xs) ≡ true = grind (arith, inside) in absurd (true≢false (sym t ∙ lt))

  -- where none passes there is none
  none_counted : (xs : List A) → list_any P xs ≡ false → count_by P xs ≡ 0
  none_counted [] none = refl
  none_counted (x ∷ xs) none = sum_by-cons (λ y. cond (P y) 1 0) x xs ∙ by_test (P x) (none_counted xs) none
    where
      by_test : (b : Bool) → (list_any P xs ≡ false → count_by P xs ≡ 0) → (b || list_any P xs) ≡ false → cond b 1 0 + count_by P xs ≡ 0
      by_test true rest e = absurd (true≢false e)
      by_test false rest e = zero-add (count_by P xs) ∙ rest e

-- an element that passes, of those that differ where two that pass are the same, is the first and the only one
module _ {A : Type 0} (Q : A → Bool) (same : A → A → Bool) (one : (x y : A) → Q x ≡ true → Q y ≡ true → same x y ≡ true) where
  alone : (x : A) (xs : List A) → Q x ≡ true → list_any (same x) xs ≡ false → list_any Q xs ≡ false
  alone x [] passes none = refl
  alone x (y ∷ ys) passes none = by_test (alone x ys passes) (Q y) refl (same x y) refl none
    where
      by_test : (list_any (same x) ys ≡ false → list_any Q ys ≡ false) → (a : Bool) → Q y ≡ a → (b : Bool) → same x y ≡ b → (b || list_any (same x) ys) ≡ false → (a || list_any Q ys) ≡ false
      by_test rest true passing true alike none = absurd (true≢false none)
      by_test rest true passing false alike none = absurd (true≢false (sym (one x y passes passing) ∙ alike))
      by_test rest false passing true alike none = absurd (true≢false none)
      by_test rest false passing false alike none = rest none

  among : (xs : List A) (i : ℕ) (y : A) (x : A) → slice_get xs i ≡ Some y → Q y ≡ true → Q x ≡ true → list_any (same x) xs ≡ true
  among [] i y x at passes passing = absurd (none-some y at)
  among (z ∷ zs) zero y x at passes passing = ap (λ b. b || list_any (same x) zs) (one x z passing (ap Q (same_Some z y at) ∙ passes))
  among (z ∷ zs) (suc i) y x at passes passing = by_test (same x z) (among zs i y x at passes passing)
    where
      by_test : (b : Bool) → list_any (same x) zs ≡ true → (b || list_any (same x) zs) ≡ true
      by_test true rest = refl
      by_test false rest = rest

  found_there : (xs : List A) (i : ℕ) (y : A) → differ same xs ≡ true → slice_get xs i ≡ Some y → Q y ≡ true → (find Q xs ≡ Some y) × (count_by Q xs ≡ 1)
  found_there [] i y apart at passes = absurd (none-some y at)
  found_there (x ∷ xs) zero y apart at passes =
      let is : x ≡ y = same_Some x y at in
      let h = and_parts (not (list_any (same x) xs)) (differ same xs) apart in
      let passing : Q x ≡ true = ap Q is ∙ passes in (
        ap (λ b. cond b (Some x) (find Q xs)) passing ∙ ap Some is,
        sum_by-cons (λ z. cond (Q z) 1 0) x xs ∙ ap (λ b. cond b 1 0 + count_by Q xs) passing ∙ ap (λ n. 1 + n) (none_counted Q xs (alone x xs passing (off (list_any (same x) xs) h.0))),
      )
    where
      off : (b : Bool) → not b ≡ true → b ≡ false
      off true e = absurd (true≢false (sym e))
      off false e = refl
  found_there (x ∷ xs) (suc i) y apart at passes = by_test (Q x) refl (found_there xs i y (and_parts (not (list_any (same x) xs)) (differ same xs) apart).1 at passes)
    where
      h : (not (list_any (same x) xs) ≡ true) × (differ same xs ≡ true)
      h = and_parts (not (list_any (same x) xs)) (differ same xs) apart

      by_test : (b : Bool) → Q x ≡ b → (find Q xs ≡ Some y) × (count_by Q xs ≡ 1) → (find Q (x ∷ xs) ≡ Some y) × (count_by Q (x ∷ xs) ≡ 1)
      by_test true passing rest = absurd (true≢false (sym h.0 ∙ ap not (among xs i y x at passes passing)))
      by_test false passing rest = (ap (λ b. cond b (Some x) (find Q xs)) passing ∙ rest.0, sum_by-cons (λ z. cond (Q z) 1 0) x xs ∙ ap (λ b. cond b 1 0 + count_by Q xs) passing ∙ zero-add (count_by Q xs) ∙ rest.1)

-- so it is of what is made of each
module _ {A B : Type 0} (P : B → Bool) (f : A → B) where
  find_made : (xs : List A) → find P (map f xs) ≡ option_map f (find (λ x. P (f x)) xs)
  find_made [] = refl
  find_made (x ∷ xs) = by_test (P (f x)) (find_made xs)
    where
      by_test : (b : Bool) → find P (map f xs) ≡ option_map f (find (λ x. P (f x)) xs) → cond b (Some (f x)) (find P (map f xs)) ≡ option_map f (cond b (Some x) (find (λ x. P (f x)) xs))
      by_test true rest = refl
      by_test false rest = rest

  count_made : (xs : List A) → count_by P (map f xs) ≡ count_by (λ x. P (f x)) xs
  count_made [] = refl
  count_made (x ∷ xs) = sum_by-cons (λ y. cond (P y) 1 0) (f x) (map f xs) ∙ ap (λ n. cond (P (f x)) 1 0 + n) (count_made xs) ∙ sym (sum_by-cons (λ y. cond (P (f y)) 1 0) x xs)

-- ---- columns

module _ (source : Option (List ℕ)) (name : List ℕ) (t : Table) where
  abbrev named : Column → Bool
  named = is_named source name

  abbrev declared : TableColumn → Column
  declared = declared_column t.name

  abbrev valid : Column
  valid = valid_column t.name

  -- two columns of one name are the same
  one_name : (c d : TableColumn) → named (declared c) ≡ true → named (declared d) ≡ true → same_column c d ≡ true
  one_name c d e h =
      let x = (and_parts (is_of_source source (declared c)) (bytes_eq name c.name) e).1 in
      let y = (and_parts (is_of_source source (declared d)) (bytes_eq name d.name) h).1 in
      (bytes_eq-Decides c.name d.name).1 (sym ((bytes_eq-Decides name c.name).0 x) ∙ (bytes_eq-Decides name d.name).0 y)

  -- a key column that is found is a column of the table
  record IsKeyColumn (k : Column) : Type 0 where
    pub place : ℕ
    pub column : TableColumn
    pub at : slice_get t.columns place ≡ Some column
    pub is : declared column ≡ k
    pub passes : named (declared column) ≡ true

  key_found : (places : List ℕ) (k : Column) → find named (map declared (filter_map (slice_get t.columns) places)) ≡ Some k → IsKeyColumn k
  key_found [] k found = absurd (none-some k found)
  key_found (place ∷ places) k found = by_column (key_found places k) (slice_get t.columns place) refl found
    where
      by_column : (find named (map declared (filter_map (slice_get t.columns) places)) ≡ Some k → IsKeyColumn k) → (o : Option TableColumn) → slice_get t.columns place ≡ o → find named (map declared (filter_map (slice_get t.columns) (place ∷ places))) ≡ Some k → IsKeyColumn k
      by_column rest None none found = rest (rw none at found)
      by_column rest (Some c) here found = by_test (named (declared c)) refl (rw here at found)
        where
          by_test : (b : Bool) → named (declared c) ≡ b → cond b (Some (declared c)) (find named (map declared (filter_map (slice_get t.columns) places))) ≡ Some k → IsKeyColumn k
          by_test true passes found = record { place = place; column = c; at = here; is = same_Some (declared c) k found; passes = passes }
          by_test false passes found = rest found

  -- no name that is known means WM_VALID, which stands there twice
  valid_off : (xs : List Column) → count_by named (xs ++ valid ∷ valid ∷ []) ≡ 1 → named valid ≡ false
  valid_off xs one = by_test (named valid) refl (sym (sum_by-append (λ c. cond (named c) 1 0) xs (valid ∷ valid ∷ [])) ∙ one)
    where
      by_test : (b : Bool) → named valid ≡ b → count_by named xs + count_by named (valid ∷ valid ∷ []) ≡ 1 → named valid ≡ false
      by_test false is e = is
      by_test true is e =
          let twice : count_by named (valid ∷ valid ∷ []) ≡ 2 = ap (λ b. 0 + cond b 1 0 + cond b 1 0) is in absurd (let never : ⊥ = omega (arith, twice, e) in never)

  found_front : (xs ys : List Column) (k : Column) → find named ys ≡ None → find named (xs ++ ys) ≡ Some k → find named xs ≡ Some k
  found_front xs ys k none found = by_front (find named xs) (sym (ap (option_or (find named xs)) none) ∙ sym (find-append named xs ys) ∙ found)
    where
      by_front : (o : Option Column) → option_or o None ≡ Some k → o ≡ Some k
      by_front None e = absurd (none-some k e)
      by_front (Some x) e = e

  count_of : (cs : List Column) (k : ℕ) → kind_of source name cs ≡ Some k → count_by named cs ≡ 1
  count_of cs k is = by_test (count_by named cs == 1) refl is
    where
      by_test : (b : Bool) → (count_by named cs == 1) ≡ b → (if b then option_and_then (λ place. option_map (λ (c : Column). c.kind) (slice_get cs place)) (position named cs) else None) ≡ Some k → count_by named cs ≡ 1
      by_test true e h = eqb-true (count_by named cs) 1 e
      by_test false e h = absurd (none-some k h)

  -- the kind of the one column that is found
  kind_found : (cs : List Column) (k : Column) → find named cs ≡ Some k → count_by named cs ≡ 1 → kind_of source name cs ≡ Some k.kind
  kind_found cs k found one = ap (λ n. if n == 1 then option_and_then (λ place. option_map (λ (c : Column). c.kind) (slice_get cs place)) (position named cs) else None) one ∙ place_found named (λ (c : Column). c.kind) cs k found

  keys_wider : differ same_column t.columns ≡ true → (k : ℕ) → kind_of source name (columns_of_keys t) ≡ Some k → kind_of source name (own_columns t) ≡ Some k
  keys_wider apart k is =
      let h = kind_place source name (columns_of_keys t) k is in
      let off : named valid ≡ false = valid_off (map declared (key_columns t)) (count_of (columns_of_keys t) k is) in
      let last : find named (valid ∷ valid ∷ []) ≡ None = ap (λ b. cond b (Some valid) (cond b (Some valid) None)) off in
      let key : IsKeyColumn h.1 = key_found t.key_columns h.1 (found_front (map declared (key_columns t)) (valid ∷ valid ∷ []) h.1 last (found_place named (columns_of_keys t) h.0 h.2 ∙ h.3)) in
      let own = found_there (λ (c : TableColumn). named (declared c)) same_column one_name t.columns key.place key.column apart key.at key.passes in
      let found : find named (map declared t.columns) ≡ Some (declared key.column) = find_made named declared t.columns ∙ ap (option_map declared) own.0 in
      let once : count_by named (map declared t.columns) ≡ 1 = count_made named declared t.columns ∙ own.1 in
      by_valid t.valid off (declared key.column) found once ∙ ap (λ (c : Column). Some c.kind) key.is ∙ ap Some h.4
    where
      by_valid : (b : Bool) → named valid ≡ false → (c : Column) → find named (map declared t.columns) ≡ Some c → count_by named (map declared t.columns) ≡ 1
          → kind_of source name (map declared t.columns ++ (if b then valid ∷ [] else [])) ≡ Some c.kind
      by_valid b off c found once =
          kind_found (map declared t.columns ++ (if b then valid ∷ [] else [])) c (find-append named (map declared t.columns) (if b then valid ∷ [] else []) ∙ ap (λ o. option_or o (find named (if b then valid ∷ [] else []))) found)
          (sum_by-append (λ d. cond (named d) 1 0) (map declared t.columns) (if b then valid ∷ [] else []) ∙ ap (λ n. n + count_by named (if b then valid ∷ [] else [])) once ∙ ap (λ n. 1 + n) (none b))
        where
          none : (b : Bool) → count_by named (if b then valid ∷ [] else []) ≡ 0
          none true = ap (λ x. 0 + cond x 1 0) off
          none false = refl

columns_apart : (t : Table) → is_table t ≡ true → differ same_column t.columns ≡ true
columns_apart t is =
    (and_parts (differ same_column t.columns) _
    (and_parts (nat_le 1 (length t.columns) && nat_le (length t.columns) 32) (differ same_column t.columns && (is_short t.name && list_all (λ (c : TableColumn). is_short c.name) t.columns)) (and_parts _ (are_key_columns t && (if t.versioned then has_key t else true)) is).0).1).0

pub typed_wider : (t : Table) → is_table t ≡ true → (filter : Option Cond) → is_filter_typed (columns_of_keys t) filter ≡ true → is_filter_typed (own_columns t) filter ≡ true
typed_wider t is filter typed = filter_wider (columns_of_keys t) (own_columns t) (λ source name k. keys_wider source name t (columns_apart t is) k) filter typed
