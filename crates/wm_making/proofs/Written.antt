-- A row that INSERT writes may stand in its table.
use Rattle.std.proofs.Common.{◌≡◌, ℕ, zero, suc, ◌+◌, ◌<◌, ◌≤◌, Bool, true, false, cond, List, [], ◌∷◌, length, map, take, get_or, refl, sym, ap, ◌∙◌, arith, nat_lt, nat_le, zero-add}
use Rattle.std.proofs.lemmas.Bool.{and_from, and_parts, eq-eqb, le-leb, ltb-false, not-true, or_parts, or_right}
use Rattle.std.specs.Prelude.{Option, Some, None, ◌&&◌, ◌||◌, ◌==◌, not, option_map, slice_get, unwrap_or, codes}
use Rattle.std.specs.List.{find, list_any, list_all, position}
use Rattle.std.specs.Option.{option_or, option_and_then, option_map_or}
use Rattle.std.specs.Str.{bytes_eq}
use Rattle.std.proofs.lemmas.Bool.Decides.{nat_tests}
use Rattle.std.proofs.lemmas.List.{length-map, length-take-le}
use Rattle.std.proofs.lemmas.List.Quantifiers.{position-Some}
use Rattle.std.proofs.lemmas.Option.{slice_get-get_or, slice_get-map}
use Rattle.wm_base.proofs.Plain.{none_mapped, option_or_parts, and_last}
use Rattle.wm_syntax.specs.Trees.{Expr}
use Rattle.wm_base.specs.Value.{type_place, weight_of}
use Rattle.wm_base.specs.declared.value.Value.{Value}
use Rattle.wm_base.specs.declared.value.Value.TheVariants as values
use Rattle.wm_graph.specs.Rules.{differ, same_column, is_short, is_table, has_key, are_key_columns, type_of, fits_column, fit_columns, weight, key_of, is_light_key}
use Rattle.wm_graph.proofs.Keyed.{OneKey, one_key, key_alone, is_key_alone}
use Rattle.wm_spec.specs.Conditions.{is_null}
use Rattle.wm_spec.specs.Expressions.{value_of}
use Rattle.wm_spec.specs.declared.record.column.ColumnKind.{ColumnKind}
use Rattle.wm_spec.specs.declared.record.column.TableColumn.{TableColumn}
use Rattle.wm_spec.specs.declared.record.table.Table.{Table}
use Rattle.wm_typing.specs.Types.{expr_kind, mistyped_in_expr}
use Rattle.wm_making.specs.Creating.{no_column, asked}
use Rattle.wm_making.specs.Inserting.{has_name, bad_name, column_in, values_asked, may_be_so_many, column_for, suits, misfit, misfit_in, misfit_from, no_type, name_fault, value_fault, period_fault, insert_fault}
use Rattle.wm_making.specs.Rows.{no_row, before, stored, value_alone, values_of, value_named, arranged, row_of, is_key_at, first_column, lacks_value, is_long, is_heavy, heavy_part, null_in, too_heavy, row_fault, MayStand}
use Rattle.wm_making.proofs.Fitted.{of_type, value_suits}
use Rattle.wm_making.proofs.Nones.{if_none, if_not_none, same_bytes, same_name}

-- ---- lists

-- what none of a list passes, one of them does not
none_at : {A : Type 0} (test : A → Bool) (xs : List A) (p : ℕ) (x : A) → list_any test xs ≡ false → slice_get xs p ≡ Some x → test x ≡ false
none_at test [] p x none there = absurd (cc)
none_at test (y ∷ ys) zero x none there = let e : y ≡ x = cc in sym (ap test e) ∙ (or_parts (test y) (list_any test ys) none).0
none_at test (y ∷ ys) (suc p) x none there = none_at test ys p x (or_parts (test y) (list_any test ys) none).1 there

pub turned : (name other : List ℕ) → bytes_eq name other ≡ false → bytes_eq other name ≡ false
turned name other apart = by_test (bytes_eq other name) refl
  where
    by_test : (b : Bool) → bytes_eq other name ≡ b → b ≡ false
    by_test false is = refl
    by_test true is =
        let same : bytes_eq name other ≡ bytes_eq name name = ap (λ n. bytes_eq name n) (same_name other name is) in
        absurd (let e : true ≡ false = sym (same ∙ same_bytes name) ∙ apart in cc)

-- a column is the first of its name
pub found_itself : (cs : List TableColumn) (p : ℕ) (c : TableColumn) → differ same_column cs ≡ true → slice_get cs p ≡ Some c → find (has_name c.name) cs ≡ Some c
found_itself [] p c apart there = absurd (cc)
found_itself (d ∷ ds) zero c apart there =
    let e : d ≡ c = cc in
    ap (λ (x : TableColumn). find (has_name c.name) (x ∷ ds)) e ∙ ap (λ b. cond b (Some c) (find (has_name c.name) ds)) (same_bytes c.name)
found_itself (d ∷ ds) (suc p) c apart there =
    let parts = and_parts (not (list_any (same_column d) ds)) (differ same_column ds) apart in
    let other = turned d.name c.name (none_at (same_column d) ds p c (not-true (list_any (same_column d) ds) parts.0) there) in
    ap (λ b. cond b (Some d) (find (has_name c.name) ds)) other ∙ found_itself ds p c parts.1 there

-- no value of the row passes the test
none_so : (test : ℕ → TableColumn → Value → Bool) (place : ℕ) (cs : List TableColumn) (vs : List Value) → first_column test place cs vs ≡ None →
    (p : ℕ) (c : TableColumn) (v : Value) → slice_get cs p ≡ Some c → slice_get vs p ≡ Some v → test (place + p) c v ≡ false
none_so test place [] vs none p c v column value = absurd (cc)
none_so test place (d ∷ ds) [] none p c v column value = absurd (cc)
none_so test place (d ∷ ds) (w ∷ ws) none zero c v column value =
    let e : d ≡ c = cc in
    let f : w ≡ v = cc in
    let n : place + 0 ≡ place = omega arith in
    ap (λ q. test q c v) n ∙ sym (ap (λ x. test place x v) e) ∙ sym (ap (λ x. test place d x) f) ∙ (if_none (test place d w) d.name (first_column test (place + 1) ds ws) none).0
none_so test place (d ∷ ds) (w ∷ ws) none (suc p) c v column value =
    let n : place + suc p ≡ (place + 1) + p = omega arith in
    ap (λ q. test q c v) n ∙ none_so test (place + 1) ds ws (if_none (test place d w) d.name (first_column test (place + 1) ds ws) none).1 p c v column value

-- what is taken stood there
got_taken : {A : Type 0} (n : ℕ) (xs : List A) (p : ℕ) (x : A) → slice_get (take n xs) p ≡ Some x → slice_get xs p ≡ Some x
got_taken zero [] p x there = absurd (cc)
got_taken zero (y ∷ ys) p x there = absurd (cc)
got_taken (suc n) [] p x there = absurd (cc)
got_taken (suc n) (y ∷ ys) zero x there = there
got_taken (suc n) (y ∷ ys) (suc p) x there = got_taken n ys p x there

-- each value fits its column
each_fits : (cs : List TableColumn) (vs : List Value) → length cs ≡ length vs →
    ((p : ℕ) (c : TableColumn) (v : Value) → slice_get cs p ≡ Some c → slice_get vs p ≡ Some v → fits_column c v ≡ true) → fit_columns cs vs ≡ true
each_fits [] [] same each = refl
each_fits [] (v ∷ vs) same each = absurd (omega arith)
each_fits (c ∷ cs) [] same each = absurd (omega arith)
each_fits (c ∷ cs) (v ∷ vs) same each = and_from _ _ (each 0 c v refl refl) (each_fits cs vs (omega arith) (λ p d w column value. each (suc p) d w column value))

-- ---- values

pub before_some : (first : Option Value) (rest : Option (List Value)) (vs : List Value) → before first rest ≡ Some vs → (v : Value) × (ws : List Value) × (first ≡ Some v) × (rest ≡ Some ws) × (vs ≡ v ∷ ws)
before_some None rest vs made = absurd (cc)
before_some (Some v) None vs made = absurd (cc)
before_some (Some v) (Some ws) vs made = (v, ws, refl, refl, cc)

as_many : (xs : List Expr) (vs : List Value) → values_of xs ≡ Some vs → length vs ≡ length xs
as_many [] vs made = let e : vs ≡ [] = cc in ap length e
as_many (x ∷ xs) vs made =
    let parts = before_some (value_alone x) (values_of xs) vs made in
    ap length parts.4 ∙ ap (λ n. suc n) (as_many xs parts.1 parts.3)

-- a value keeps its type, or is NULL
pub stored_typed : (v : Value) (kind : ℕ) → of_type v kind ≡ true → of_type (stored v) kind ≡ true
stored_typed (values.Text []) kind typed = refl
stored_typed (values.Text (b ∷ t)) kind typed = typed
stored_typed (values.Num n) kind typed = typed
stored_typed (values.Time i) kind typed = typed
stored_typed (values.Span p) kind typed = typed
stored_typed values.Null kind typed = typed

alone_suits : (x : Expr) (column : ColumnKind) (v : Value) → suits (expr_kind [] x) column ≡ true → value_alone x ≡ Some v → of_type v (type_of column) ≡ true
alone_suits x column v suited made = by_value (value_of x [] no_row) refl made
  where
    by_value : (o : Option Value) → value_of x [] no_row ≡ o → option_map stored o ≡ Some v → of_type v (type_of column) ≡ true
    by_value None is there = absurd (cc)
    by_value (Some w) is there = let e : stored w ≡ v = cc in ap (λ u. of_type u (type_of column)) (sym e) ∙ stored_typed w (type_of column) (value_suits x column w suited is)

-- the value has the type of the column to which it goes
typed_at : (t : Table) (names : Option (List (List ℕ))) (place : ℕ) (xs : List Expr) (vs : List Value) → misfit_from t names place xs ≡ None → values_of xs ≡ Some vs →
    (p : ℕ) (v : Value) (c : TableColumn) → slice_get vs p ≡ Some v → column_for t names (place + p) ≡ Some c → of_type v (type_of c.kind) ≡ true
typed_at t names place [] vs none made p v c value column =
    let e : slice_get vs p ≡ None = ap (λ l. slice_get l p) (let f : vs ≡ [] = cc in f) in
    absurd (cc)
typed_at t names place (x ∷ xs) vs none made zero v c value column =
    let parts = before_some (value_alone x) (values_of xs) vs made in
    let e : slice_get vs 0 ≡ Some parts.0 = ap (λ l. slice_get l 0) parts.4 in
    let same : parts.0 ≡ v = cc in
    let n : place + 0 ≡ place = omega arith in
    let here : column_for t names place ≡ Some c = sym (ap (λ q. column_for t names q) n) ∙ column in
    let fit = (option_or_parts (misfit_in x (column_for t names place)) (misfit_from t names (place + 1) xs) none).0 in
    let fit_c : misfit x c ≡ None = sym (ap (λ o. misfit_in x o) here) ∙ fit in
    alone_suits x c.kind v (if_not_none (suits (expr_kind [] x) c.kind) c.name (mistyped_in_expr [] x) fit_c).0 (parts.2 ∙ ap (λ w. Some w) same)
typed_at t names place (x ∷ xs) vs none made (suc p) v c value column =
    let parts = before_some (value_alone x) (values_of xs) vs made in
    let e : slice_get vs (suc p) ≡ slice_get parts.1 p = ap (λ l. slice_get l (suc p)) parts.4 in
    let n : place + suc p ≡ (place + 1) + p = omega arith in
    typed_at t names (place + 1) xs parts.1 (option_or_parts (misfit_in x (column_for t names place)) (misfit_from t names (place + 1) xs) none).1 parts.3 p v c
    (sym e ∙ value) (sym (ap (λ q. column_for t names q) n) ∙ column)

-- the value that stands where the name of the column stands
typed_named : (t : Table) (names : List (List ℕ)) (xs : List Expr) (vs : List Value) (p : ℕ) (c : TableColumn) → differ same_column t.columns ≡ true → slice_get t.columns p ≡ Some c →
    misfit_from t (Some names) 0 xs ≡ None → values_of xs ≡ Some vs → of_type (value_named names vs c.name) (type_of c.kind) ≡ true
typed_named t names xs vs p c apart there none made = by_place (position (bytes_eq c.name) names) refl
  where
    by_value : (q : ℕ) (value : Option Value) → position (bytes_eq c.name) names ≡ Some q → slice_get vs q ≡ value → of_type (unwrap_or value values.Null) (type_of c.kind) ≡ true
    by_value q None stands is = refl
    by_value q (Some v) stands is =
        let empty : List ℕ = [] in
        let found = position-Some (bytes_eq c.name) names q empty stands in
        let named : slice_get names q ≡ Some (get_or names q empty) = slice_get-get_or names q empty found.0 in
        let same : get_or names q empty ≡ c.name = sym (same_name c.name (get_or names q empty) found.1) in
        let column : column_for t (Some names) (0 + q) ≡ Some c =
        ap (λ n. column_for t (Some names) n) (zero-add q)
        ∙ ap (λ o. option_and_then (λ n. find (has_name n) t.columns) o) (named ∙ ap (λ n. Some n) same)
        ∙ found_itself t.columns p c apart there in
        typed_at t (Some names) 0 xs vs none made q v c is column

    by_place : (place : Option ℕ) → position (bytes_eq c.name) names ≡ place → of_type (unwrap_or (option_and_then (λ q. slice_get vs q) place) values.Null) (type_of c.kind) ≡ true
    by_place None is = refl
    by_place (Some q) is = by_value q (slice_get vs q) is refl

typed_row : (t : Table) (names : Option (List (List ℕ))) (xs : List Expr) (vs : List Value) → differ same_column t.columns ≡ true → misfit_from t names 0 xs ≡ None → values_of xs ≡ Some vs →
    (p : ℕ) (c : TableColumn) (v : Value) → slice_get t.columns p ≡ Some c → slice_get (arranged t names vs) p ≡ Some v → of_type v (type_of c.kind) ≡ true
typed_row t None xs vs apart none made p c v column value =
    typed_at t None 0 xs vs none made p v c (got_taken (length t.columns) vs p v value) (ap (λ n. slice_get t.columns n) (zero-add p) ∙ column)
typed_row t (Some names) xs vs apart none made p c v column value =
    let name_value : TableColumn → Value = λ d. value_named names vs d.name in
    let e : slice_get (map name_value t.columns) p ≡ Some (name_value c) = slice_get-map name_value t.columns p ∙ ap (λ o. option_map name_value o) column in
    let same : v ≡ name_value c = cc in
    ap (λ w. of_type w (type_of c.kind)) same ∙ typed_named t names xs vs p c apart column none made

enough : (valid : Bool) (columns count : ℕ) → ((count == columns) || (valid && (count == columns + 1))) ≡ true → columns ≤ count
enough true columns count may = grind (arith, nat_tests)
enough false columns count may = grind (arith, nat_tests)

row_length : (t : Table) (names : Option (List (List ℕ))) (xs : List Expr) (vs : List Value) → may_be_so_many t names (length xs) ≡ true → values_of xs ≡ Some vs → length t.columns ≡ length (arranged t names vs)
row_length t None xs vs count made =
    let e = as_many xs vs made in
    let f = enough t.valid (length t.columns) (length xs) count in
    sym (length-take-le (length t.columns) vs (omega (arith, e, f)))
row_length t (Some names) xs vs count made = let name_value : TableColumn → Value = λ d. value_named names vs d.name in sym (simp length-map)

-- ---- fitting

pub turned_test : (m n : ℕ) → (m == n) ≡ true → (n == m) ≡ true
turned_test m n same = grind (arith, nat_tests)

fits_so : (c : TableColumn) (v : Value) → of_type v (type_of c.kind) ≡ true → is_long c v ≡ false → fits_column c v ≡ true
fits_so c values.Null typed short = refl
fits_so c (values.Num n) typed short = typed
fits_so c (values.Text text) typed short = and_from _ _ (turned_test 2 (type_of c.kind) typed) (le-leb (length text) c.size (ltb-false c.size (length text) short))
fits_so c (values.Time instant) typed short = typed
fits_so c (values.Span period) typed short = typed

-- a value that is not NULL has its type
typed_full : (v : Value) (kind : ℕ) → of_type v kind ≡ true → is_null v ≡ false → (type_place v == kind) ≡ true
typed_full values.Null kind typed full = absurd (cc)
typed_full (values.Num n) kind typed full = typed
typed_full (values.Text text) kind typed full = typed
typed_full (values.Time instant) kind typed full = typed
typed_full (values.Span period) kind typed full = typed

-- ---- the law

pub insert_parts : (t : Table) (names : Option (List (List ℕ))) (xs : List Expr) → insert_fault t names xs ≡ None →
    (bad_name t names ≡ None) × (column_in xs ≡ None) × (may_be_so_many t names (length xs) ≡ true) × (misfit_from t names 0 xs ≡ None) × (period_fault t names xs ≡ None)
unfolding insert_fault
insert_parts t names xs none =
    let parts = option_or_parts (name_fault t names xs) (option_or (value_fault t names xs) (period_fault t names xs)) none in
    let named = option_or_parts (bad_name t names) (column_in xs) (none_mapped no_column (option_or (bad_name t names) (column_in xs)) parts.0) in
    let typed = option_or_parts (value_fault t names xs) (period_fault t names xs) parts.1 in
    let valued = if_not_none (may_be_so_many t names (length xs)) (asked (values_asked t names)) (option_map no_type (misfit_from t names 0 xs)) typed.0 in
    (named.0, named.1, valued.0, none_mapped no_type (misfit_from t names 0 xs) valued.1, typed.1)

row_made : (t : Table) (names : Option (List (List ℕ))) (xs : List Expr) (row : List Value) → row_of t names xs ≡ Some row → (vs : List Value) × (values_of xs ≡ Some vs) × (row ≡ arranged t names vs)
unfolding row_of
row_made t names xs row made = by_values (values_of xs) refl
  where
    by_values : (vs : Option (List Value)) → values_of xs ≡ vs → (ws : List Value) × (values_of xs ≡ Some ws) × (row ≡ arranged t names ws)
    by_values None is = let e : option_map (arranged t names) (values_of xs) ≡ None = ap (option_map (arranged t names)) is in absurd (cc)
    by_values (Some vs) is = let e : option_map (arranged t names) (values_of xs) ≡ Some (arranged t names vs) = ap (option_map (arranged t names)) is in (vs, is, cc)

-- the columns of a table in order have different names
pub columns_apart : (t : Table) → is_table t ≡ true → differ same_column t.columns ≡ true
columns_apart t order =
    let all = and_parts
    ((nat_le 1 (length t.columns) && nat_le (length t.columns) 32) && (differ same_column t.columns && (is_short t.name && list_all (λ (c : TableColumn). is_short c.name) t.columns)))
    (are_key_columns t && cond t.versioned (has_key t) true) order in
    let columns = and_parts (nat_le 1 (length t.columns) && nat_le (length t.columns) 32) (differ same_column t.columns && (is_short t.name && list_all (λ (c : TableColumn). is_short c.name) t.columns)) all.0 in
    (and_parts (differ same_column t.columns) (is_short t.name && list_all (λ (c : TableColumn). is_short c.name) t.columns) columns.1).0

row_parts : (t : Table) (row : List Value) → row_fault t row ≡ None →
    (first_column (lacks_value t) 0 t.columns row ≡ None) × (first_column (is_heavy t) 0 t.columns row ≡ None) × (nat_lt 2000 (weight row) ≡ false)
unfolding row_fault
row_parts t row none =
    let parts = option_or_parts (option_map null_in (first_column (lacks_value t) 0 t.columns row)) (option_map too_heavy (heavy_part t row)) none in
    let heavy = option_or_parts (first_column (is_heavy t) 0 t.columns row) (cond (nat_lt 2000 (weight row)) (Some (codes "ROW")) None) (none_mapped too_heavy (heavy_part t row) parts.1) in
    (none_mapped null_in (first_column (lacks_value t) 0 t.columns row) parts.0, heavy.0, (if_none (nat_lt 2000 (weight row)) (codes "ROW") None heavy.1).0)

key_there : (t : Table) (one : OneKey t) → is_key_at t one.place ≡ true
key_there t one = ap (list_any (λ key. one.place == key)) one.is ∙ ap (λ b. b || false) (eq-eqb one.place one.place refl)

when_both : (a b : Bool) → (a && b) ≡ false → b ≡ true → a ≡ false
when_both true b none there = absurd (cc)
when_both false b none there = refl

slice_get_within_not : (cs : List TableColumn) (p : ℕ) → p < length cs → slice_get cs p ≡ None → ⊥
slice_get_within_not [] p near none = omega arith
slice_get_within_not (c ∷ cs) zero near none = cc
slice_get_within_not (c ∷ cs) (suc p) near none = slice_get_within_not cs p (omega arith) none

light_value : (v : Value) → nat_le (weight_of v) 200 ≡ true → nat_le (weight (v ∷ [])) 200 ≡ true
light_value v small = ap (λ n. nat_le n 200) (let e : weight (v ∷ []) ≡ weight_of v = omega arith in e) ∙ small

-- a row in which nothing is missing or heavy, and whose values have their types
pub stands : (t : Table) (row : List Value) → is_table t ≡ true → has_key t ≡ true → row_fault t row ≡ None → length t.columns ≡ length row →
    ((p : ℕ) (c : TableColumn) (v : Value) → slice_get t.columns p ≡ Some c → slice_get row p ≡ Some v → of_type v (type_of c.kind) ≡ true) → MayStand t row
stands t row order keyed none same typed =
    let faults = row_parts t row none in
    let one = one_key t order keyed in
    let near : one.place < length t.columns = one.near in
    let v = get_or row one.place values.Null in
    let there : slice_get row one.place ≡ Some v = slice_get-get_or row one.place values.Null (omega (arith, near, same)) in
    by_column one v there faults.0 faults.1 faults.2 (slice_get t.columns one.place) refl
  where
    short_so : first_column (is_heavy t) 0 t.columns row ≡ None → (p : ℕ) (c : TableColumn) (v : Value) → slice_get t.columns p ≡ Some c → slice_get row p ≡ Some v → fits_column c v ≡ true
    short_so light p c v column value =
        fits_so c v (typed p c v column value) (or_parts (is_long c v) (is_key_at t (0 + p) && nat_lt 200 (weight_of v)) (none_so (is_heavy t) 0 t.columns row light p c v column value)).0

    by_column : (one : OneKey t) (v : Value) → slice_get row one.place ≡ Some v → first_column (lacks_value t) 0 t.columns row ≡ None → first_column (is_heavy t) 0 t.columns row ≡ None →
        nat_lt 2000 (weight row) ≡ false → (column : Option TableColumn) → slice_get t.columns one.place ≡ column → MayStand t row
    by_column one v there full light total None is =
        let e = slice_get_within_not t.columns one.place one.near is in absurd e
    by_column one v there full light total (Some c) is =
        let zero_key : is_key_at t (0 + one.place) ≡ true = ap (λ n. is_key_at t n) (zero-add one.place) ∙ key_there t one in
        let not_light = or_parts (is_long c v) (is_key_at t (0 + one.place) && nat_lt 200 (weight_of v)) (none_so (is_heavy t) 0 t.columns row light one.place c v is there) in
        let light_key : nat_lt 200 (weight_of v) ≡ false = and_last (is_key_at t (0 + one.place)) (nat_lt 200 (weight_of v)) zero_key not_light.1 in
        let not_null : is_null v ≡ false = when_both (is_null v) (c.not_null || is_key_at t (0 + one.place)) (none_so (lacks_value t) 0 t.columns row full one.place c v is there) (or_right c.not_null (is_key_at t (0 + one.place)) zero_key) in
        let small : nat_le (weight (v ∷ [])) 200 ≡ true = light_value v (le-leb (weight_of v) 200 (ltb-false 200 (weight_of v) light_key)) in
        let key : key_of t row ≡ Some (v ∷ []) = key_alone t one row ∙ ap (option_map (λ (w : Value). w ∷ [])) there in
        let type : (type_place v == type_of c.kind) ≡ true = typed_full v (type_of c.kind) (typed one.place c v is there) not_null in
        record {
          fits = and_from _ _ (each_fits t.columns row same (short_so light)) (and_from _ _ (le-leb (weight row) 2000 (ltb-false 2000 (weight row) total)) (ap is_light_key key ∙ small));
          value = v;
          key = key;
          key_fits = is_key_alone t one v ∙ and_from _ _ small (and_from _ _ (ap (λ o. option_map_or (λ (d : TableColumn). type_place v == type_of d.kind) o false) is ∙ type) refl);
        }

-- a row that INSERT writes may stand in the table
pub row_stands : (t : Table) (names : Option (List (List ℕ))) (xs : List Expr) (row : List Value) → insert_fault t names xs ≡ None → row_of t names xs ≡ Some row → row_fault t row ≡ None →
    is_table t ≡ true → has_key t ≡ true → MayStand t row
row_stands t names xs row fine made light order keyed =
    let parts = insert_parts t names xs fine in
    let there = row_made t names xs row made in
    let length_row : length t.columns ≡ length row = row_length t names xs there.0 parts.2 there.1 ∙ sym (ap length there.2) in
    stands t row order keyed light length_row (λ p c v column value.
    typed_row t names xs there.0 (columns_apart t order) parts.3 there.1 p c v column (sym (ap (λ l. slice_get l p) there.2) ∙ value))

-- ---- as it is found

-- a row in which nothing is found is not refused
pub nothing_found : (t : Table) (row : List Value) → first_column (lacks_value t) 0 t.columns row ≡ None → heavy_part t row ≡ None → row_fault t row ≡ None
unfolding row_fault
nothing_found t row full light =
    ap (λ o. option_or (option_map null_in o) (option_map too_heavy (heavy_part t row))) full ∙ ap (λ o. option_map too_heavy o) light
