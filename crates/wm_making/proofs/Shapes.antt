-- The table that items declare is in order, where they are refused for nothing.
use Rattle.std.proofs.Common.{◌≡◌, ℕ, ◌+◌, ◌≤◌, ◌<◌, Bool, true, false, List, [], ◌∷◌, ◌++◌, length, refl, ap, ◌∙◌, arith, cond, nat_lt, nat_le}
use Rattle.std.proofs.lemmas.Bool.{and_from, and_parts, le-leb, lt-ltb, ltb-false, or_from}
use Rattle.std.specs.Prelude.{Option, Some, None, ◌&&◌, ◌||◌, not, is_some, ◌==◌, unwrap_or}
use Rattle.std.specs.List.{list_any, list_all, position_or_len}
use Rattle.std.specs.Option.{option_map}
use Rattle.std.specs.Str.{bytes_eq}
use Rattle.std.proofs.lemmas.Bool.Decides.{nat_tests}
use Rattle.std.proofs.lemmas.List.Folds.{list_any-append}
use Rattle.wm_base.proofs.Plain.{none_mapped, option_or_parts}
use Rattle.wm_base.specs.declared.refusal.FormRefusal.TheVariants.{Wm016}
use Rattle.wm_base.specs.declared.refusal.Refusal.TheVariants.{Form}
use Rattle.wm_syntax.specs.declared.statement.CreateItem.{CreateItem}
use Rattle.wm_syntax.specs.declared.statement.CreateItem.TheVariants.{Column, Primary}
use Rattle.wm_graph.specs.Rules.{differ, same_column, is_short, is_table}
use Rattle.wm_spec.specs.declared.record.column.TableColumn.{TableColumn}
use Rattle.wm_spec.specs.declared.record.table.Table.{Table}
use Rattle.wm_making.specs.Creating.{declares_short, names_fault, reserved_name, reserved, declares, bad_column, bad_columns, columns_in, keys_in, too_many, no_column, asked, shape_fault, key_name, is_key, columns_of, key_place, key_places, table_of}
use Rattle.wm_making.proofs.Nones.{if_none, if_not_none, or_true, still, same_bytes, another}

-- ---- how many columns there are

-- how many columns the items declare
columns_in_all : List CreateItem → ℕ
columns_in_all [] = 0
columns_in_all (item ∷ items) = columns_in item + columns_in_all items

length-columns : (key : Option (List ℕ)) (items : List CreateItem) → length (columns_of key items) ≡ columns_in_all items
unfolding columns_in_all
length-columns key [] = refl
length-columns key (Column name of primary not_null ∷ items) = grind (arith, length-columns key items)
length-columns key (Primary constraint names ∷ items) = grind (arith, length-columns key items)

counted : (columns keys : ℕ) (items : List CreateItem) → columns ≤ 32 → too_many columns keys items ≡ None → (1 ≤ columns + columns_in_all items) × (columns + columns_in_all items ≤ 32)
unfolding columns_in_all
counted columns keys [] few none =
    let some : (columns == 0) ≡ false = (if_none (columns == 0) 1 None none).0 in
    (grind (arith, nat_tests), omega arith)
counted columns keys (item ∷ items) few none =
    let within = if_none (nat_lt 32 (columns + columns_in item)) 32 (cond (nat_lt 1 (keys + keys_in item)) (Some 1) (too_many (columns + columns_in item) (keys + keys_in item) items)) none in
    let fits : columns + columns_in item ≤ 32 = ltb-false 32 (columns + columns_in item) within.0 in
    let once = if_none (nat_lt 1 (keys + keys_in item)) 1 (too_many (columns + columns_in item) (keys + keys_in item) items) within.1 in
    let rest = counted (columns + columns_in item) (keys + keys_in item) items fits once.1 in
    (omega (arith, rest.0), omega (arith, rest.1))

pub few_columns : (key : Option (List ℕ)) (items : List CreateItem) → shape_fault items ≡ None → (1 ≤ length (columns_of key items)) × (length (columns_of key items) ≤ 32)
unfolding shape_fault
few_columns key items none =
    let parts = option_or_parts (option_map no_column (bad_columns items [] items)) (option_map asked (too_many 0 0 items)) none in
    let counts = counted 0 0 items (omega arith) (none_mapped asked (too_many 0 0 items) parts.1) in
    (omega (arith, counts.0, length-columns key items), omega (arith, counts.1, length-columns key items))

-- ---- their names

later : (key : Option (List ℕ)) (table before items : List CreateItem) (name : List ℕ) → bad_columns table before items ≡ None → list_any (declares name) before ≡ true →
    list_any (λ (c : TableColumn). bytes_eq name c.name) (columns_of key items) ≡ false
later key table before [] name none there = refl
later key table before (Column other of primary not_null ∷ items) name none there =
    let item = Column other of primary not_null in
    let parts = option_or_parts (bad_column table before item) (bad_columns table (before ++ item ∷ []) items) none in
    let new = (if_none (list_any (declares other) before) other None parts.0).0 in
    or_from _ _ (another name other (λ n. list_any (declares n) before) there new) (later key table (before ++ item ∷ []) items name parts.1 (still (declares name) before (item ∷ []) there))
later key table before (Primary constraint names ∷ items) name none there =
    let item = Primary constraint names in
    let parts = option_or_parts (bad_column table before item) (bad_columns table (before ++ item ∷ []) items) none in
    later key table (before ++ item ∷ []) items name parts.1 (still (declares name) before (item ∷ []) there)

names_differ : (key : Option (List ℕ)) (table before items : List CreateItem) → bad_columns table before items ≡ None → differ same_column (columns_of key items) ≡ true
names_differ key table before [] none = refl
names_differ key table before (Column name of primary not_null ∷ items) none =
    let item = Column name of primary not_null in
    let parts = option_or_parts (bad_column table before item) (bad_columns table (before ++ item ∷ []) items) none in
    let apart = later key table (before ++ item ∷ []) items name parts.1 (list_any-append (declares name) before (item ∷ []) ∙ ap (λ b. list_any (declares name) before || (b || false)) (same_bytes name) ∙ or_true (list_any (declares name) before)) in
    and_from _ _ (ap (λ b. not b) apart) (names_differ key table (before ++ item ∷ []) items parts.1)
names_differ key table before (Primary constraint names ∷ items) none =
    let item = Primary constraint names in
    let parts = option_or_parts (bad_column table before item) (bad_columns table (before ++ item ∷ []) items) none in
    names_differ key table (before ++ item ∷ []) items parts.1

names_short : (key : Option (List ℕ)) (items : List CreateItem) → list_all declares_short items ≡ true → list_all (λ (c : TableColumn). is_short c.name) (columns_of key items) ≡ true
names_short key [] short = refl
names_short key (Column name of primary not_null ∷ items) short =
    let parts = and_parts (is_short name) (list_all declares_short items) short in
    and_from _ _ parts.0 (names_short key items parts.1)
names_short key (Primary constraint names ∷ items) short = names_short key items short

-- ---- the table

-- the place of the key is one of them, where there is a column
pub near_place : (key : Option (List ℕ)) (columns : List TableColumn) → 1 ≤ length columns → key_place key columns < length columns
near_place key columns some = within (position_or_len (λ (c : TableColumn). is_key key c.name) columns) (length columns) some
  where
    within : (place n : ℕ) → 1 ≤ n → unwrap_or (cond (nat_lt place n) (Some place) None) 0 < n
    within place n one = elim_test (nat_lt place n) refl
      where
        elim_test : (test : Bool) → nat_lt place n ≡ test → unwrap_or (cond test (Some place) None) 0 < n
        elim_test true is = grind (arith, nat_tests)
        elim_test false is = omega arith

pub table_in_order : (number : ℕ) (name : List ℕ) (items : List CreateItem) → names_fault name items ≡ None → shape_fault items ≡ None → is_table (table_of number name items) ≡ true
unfolding names_fault shape_fault table_of
table_in_order number name items names shape =
    let key = key_name items in
    let columns = columns_of key items in
    let short = and_parts (is_short name) (list_all declares_short items) (if_not_none (is_short name && list_all declares_short items) (Form (Wm016 30)) (option_map reserved (reserved_name name items)) names).0 in
    let parts = option_or_parts (option_map no_column (bad_columns items [] items)) (option_map asked (too_many 0 0 items)) shape in
    let good = none_mapped no_column (bad_columns items [] items) parts.0 in
    let counts = few_columns key items shape in
    let place = near_place key columns counts.0 in
    and_from _ _
    (and_from _ _
    (and_from _ _ (le-leb 1 (length columns) counts.0) (le-leb (length columns) 32 counts.1))
    (and_from _ _ (names_differ key items [] items good) (and_from _ _ short.0 (names_short key items short.1))))
    (and_from _ _ (placed (is_some key) (key_place key columns) (length columns) (lt-ltb (key_place key columns) (length columns) place)) refl)
  where
    placed : (has : Bool) (p n : ℕ) → nat_lt p n ≡ true → (nat_le (length (cond has (p ∷ []) [])) 1 && list_all (λ place. nat_lt place n) (cond has (p ∷ []) [])) ≡ true
    placed true p n is = ap (λ b. b && true) is
    placed false p n is = refl

-- ---- as it is made

pub made_in_order : (number : ℕ) (name : List ℕ) (items : List CreateItem) (places : List ℕ) (columns : List TableColumn) →
    columns ≡ columns_of (key_name items) items → places ≡ key_places (key_name items) (columns_of (key_name items) items) →
    shape_fault items ≡ None → names_fault name items ≡ None →
    is_table (record { number = number; name = name; versioned = false; valid = false; history = false; key_columns = places; columns = columns }) ≡ true
unfolding table_of
made_in_order number name items places columns there at shape names =
    let made : List ℕ → List TableColumn → Table = λ ps cs. record { number = number; name = name; versioned = false; valid = false; history = false; key_columns = ps; columns = cs } in
    ap (λ ps. is_table (made ps columns)) at
    ∙ ap (λ cs. is_table (made (key_places (key_name items) (columns_of (key_name items) items)) cs)) there
    ∙ table_in_order number name items names shape
