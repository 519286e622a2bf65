-- A row that UPDATE makes of another may stand in its place.
use Rattle.std.proofs.Common.{◌≡◌, ℕ, zero, suc, ◌<◌, ◌≤◌, Bool, true, false, cond, List, [], ◌∷◌, ◌++◌, length, map, take, nat_lt, refl, sym, ap, ◌∙◌, subst, arith, get_or}
use Rattle.std.proofs.lemmas.Bool.{and_from, and_parts, ltb-false, ltb-true, or_parts}
use Rattle.std.specs.Prelude.{Option, Some, None, ◌||◌, ◌==◌, slice_get, option_map, unwrap_or}
use Rattle.std.specs.List.{find, list_all, list_any, position}
use Rattle.std.specs.Option.{option_map_or}
use Rattle.std.specs.Str.{bytes_eq}
use Rattle.std.proofs.lemmas.List.{length-map}
use Rattle.std.proofs.lemmas.List.Quantifiers.{position-Some}
use Rattle.std.proofs.lemmas.Option.{slice_get-map, slice_get_within, get_or_from_slice_get}
use Rattle.wm_base.proofs.Plain.{none_mapped}
use Rattle.wm_listing.specs.declared.columns.Column.{Column}
use Rattle.wm_base.specs.declared.row.Row.{Row}
use Rattle.wm_base.specs.declared.value.Value.{Value}
use Rattle.wm_syntax.specs.Trees.{Set}
use Rattle.wm_base.specs.Value.{type_place}
use Rattle.wm_graph.specs.Rules.{differ, same_column, is_table, has_key, type_of, fits_column, fit_columns, is_key_of}
use Rattle.wm_graph.proofs.Keyed.{OneKey, one_key, key_alone}
use Rattle.wm_making.proofs.Filled.{stored_filled}
use Rattle.wm_making.proofs.Fitted.{of_type, suits_on}
use Rattle.wm_making.proofs.Nones.{if_none, same_bytes, same_name}
use Rattle.wm_making.proofs.Placed.{got}
use Rattle.wm_making.proofs.Written.{turned, found_itself, before_some, stored_typed, columns_apart, stands}
use Rattle.wm_making.specs.Inserting.{has_name}
use Rattle.wm_making.specs.Rows.{before, stored, is_filled, row_fault}
use Rattle.wm_spec.specs.Expressions.{value_of}
use Rattle.wm_spec.specs.Operands.{is_named, kind_of, fits_columns}
use Rattle.wm_spec.specs.declared.record.column.TableColumn.{TableColumn}
use Rattle.wm_spec.specs.declared.record.table.Table.{Table}
use Rattle.wm_typing.specs.Changing.{is_key, is_named_at, key_set}
use Rattle.wm_typing.specs.Columns.{declared_column, valid_column}
use Rattle.wm_dml.specs.Changing.{own_columns, declared_values, row_key, set_value, set_values, updated_row}
use Rattle.wm_dml.specs.Standing.{stands_in, is_shown}
use Rattle.wm_dml.proofs.Refused.{Fits, EachFits}
use Rattle.wm_dml.proofs.ShownRows.{of_column, shown_parts, shown_fits}
use Rattle.wm_dml.proofs.Valued.{kind_in, kind_place, value_typed}

-- ---- the columns

some_declared : (source : List ℕ) (o : Option TableColumn) (d : Column) → option_map (declared_column source) o ≡ Some d → (c : TableColumn) × (o ≡ Some c) × (d ≡ declared_column source c)
some_declared source None d is = absurd (cc)
some_declared source (Some c) d is = (c, refl, cc)

left_got : {A : Type 0} (xs ys : List A) (p : ℕ) → p < length xs → slice_get (xs ++ ys) p ≡ slice_get xs p
left_got [] ys p near = absurd (omega arith)
left_got (x ∷ xs) ys zero near = refl
left_got (x ∷ xs) ys (suc p) near = left_got xs ys p (omega arith)

-- the first that passes a test is none behind another that does
not_behind : {A : Type 0} (test : A → Bool) (xs : List A) (q p : ℕ) (d : A) → position test xs ≡ Some q → test (get_or xs p d) ≡ true → q ≤ p
not_behind test xs q p d first passes = by_order (nat_lt p q) refl
  where
    by_order : (b : Bool) → nat_lt p q ≡ b → q ≤ p
    by_order false is = ltb-false p q is
    by_order true is =
        let fails = (position-Some test xs q d first).2 p (ltb-true p q is) in
        absurd (let e : true ≡ false = sym passes ∙ fails in cc)

-- a column of the name of a declared one is that one, where it is the first of the columns of that name
kind_is : (source : List ℕ) (cs : List TableColumn) (more : List Column) (name : List ℕ) (k p : ℕ) (c : TableColumn) → differ same_column cs ≡ true → kind_of None name (map (declared_column source) cs ++ more) ≡ Some k →
    slice_get cs p ≡ Some c → name ≡ c.name → k ≡ type_of c.kind
kind_is source cs more name k p c apart is there same =
    let declared = map (declared_column source) cs in
    let columns = declared ++ more in
    let at = kind_place None name columns k is in
    let near : p < length declared = (let e = slice_get_within cs p c there in let l = length-map cs (declared_column source) in omega (arith, e, l)) in
    let here : slice_get columns p ≡ Some (declared_column source c) = left_got declared more p near ∙ slice_get-map (declared_column source) cs p ∙ ap (λ o. option_map (declared_column source) o) there in
    let passes : is_named None name (get_or columns p at.1) ≡ true = ap (λ d. is_named None name d) (get_or_from_slice_get columns p (declared_column source c) at.1 here) ∙ ap (λ n. bytes_eq name n) (sym same) ∙ same_bytes name in
    let order = not_behind (is_named None name) columns at.0 p at.1 at.2 passes in
    let found : slice_get declared at.0 ≡ Some at.1 = sym (left_got declared more at.0 (omega (arith, order, near))) ∙ at.3 in
    let one = some_declared source (slice_get cs at.0) at.1 (sym (slice_get-map (declared_column source) cs at.0) ∙ found) in
    let itself : get_or columns at.0 at.1 ≡ at.1 = get_or_from_slice_get columns at.0 at.1 at.1 at.3 in
    let named : bytes_eq name one.0.name ≡ true = ap (λ (d : Column). bytes_eq name d.name) (sym (itself ∙ one.2)) ∙ (position-Some (is_named None name) columns at.0 at.1 at.2).1 in
    let equal : c.name ≡ one.0.name = sym same ∙ same_name name one.0.name named in
    let first : find (has_name c.name) cs ≡ Some c = found_itself cs p c apart there in
    let second : find (has_name one.0.name) cs ≡ Some one.0 = found_itself cs at.0 one.0 apart one.1 in
    let both : Some one.0 ≡ Some c = sym second ∙ ap (λ n. find (has_name n) cs) (sym equal) ∙ first in
    let column : one.0 ≡ c = cc in
    sym at.4 ∙ ap (λ (d : Column). d.kind) one.2 ∙ ap (λ (d : TableColumn). type_of d.kind) column

-- ---- what is set

-- what is found passes the test
pub found_test : {A : Type 0} (test : A → Bool) (xs : List A) (x : A) → find test xs ≡ Some x → test x ≡ true
found_test test [] x found = absurd (cc)
found_test test (y ∷ ys) x found = choose (test y) refl (found_test test ys x)
  where
    choose : (b : Bool) → test y ≡ b → (find test ys ≡ Some x → test x ≡ true) → test x ≡ true
    choose true is more =
        let e : Some y ≡ Some x = sym (ap (λ b. cond b (Some y) (find test ys)) is) ∙ found in
        let same : x ≡ y = cc in
        ap test same ∙ is
    choose false is more = more (sym (ap (λ b. cond b (Some y) (find test ys)) is) ∙ found)

-- what is found of sets that fit their columns fits its own
found_fits : (columns : List Column) (test : Set → Bool) (sets : List Set) (s : Set) → EachFits columns sets → find test sets ≡ Some s → Fits columns s
found_fits columns test [] s each found = absurd (cc)
found_fits columns test (x ∷ xs) s each found = choose (test x) refl (found_fits columns test xs s each.1)
  where
    choose : (b : Bool) → test x ≡ b → (find test xs ≡ Some s → Fits columns s) → Fits columns s
    choose true is more =
        let e : Some x ≡ Some s = sym (ap (λ b. cond b (Some x) (find test xs)) is) ∙ found in
        let same : x ≡ s = cc in
        subst (λ (y : Set). Fits columns y) same each.0
    choose false is more = more (sym (ap (λ b. cond b (Some x) (find test xs)) is) ∙ found)

-- what sets a column is of its type
set_suits : (source : List ℕ) (cs : List TableColumn) (more : List Column) (s : Set) (p : ℕ) (c : TableColumn) → differ same_column cs ≡ true → slice_get cs p ≡ Some c → s.name ≡ c.name →
    (f : Fits (map (declared_column source) cs ++ more) s) → ((f.value == 0) || (f.value == type_of c.kind)) ≡ true
set_suits source cs more s p c apart there same f =
    sym (ap (λ j. (f.value == 0) || (f.value == j)) (kind_is source cs more s.name f.column p c apart f.named there same)) ∙ f.suits

-- a stored value of an expression that suits the column
stored_suits : (columns : List Column) (s : Set) (row : Row) (c : TableColumn) (k : ℕ) (w : Value) → fits_columns columns row.values ≡ true → kind_in columns s.becomes ≡ Some k →
    ((k == 0) || (k == type_of c.kind)) ≡ true → option_map stored (value_of s.becomes columns row) ≡ Some w → of_type w (type_of c.kind) ≡ true
stored_suits columns s row c k w fit kind suits made = by_value (value_of s.becomes columns row) refl made
  where
    by_value : (o : Option Value) → value_of s.becomes columns row ≡ o → option_map stored o ≡ Some w → of_type w (type_of c.kind) ≡ true
    by_value None is there = absurd (cc)
    by_value (Some u) is there =
        let e : w ≡ stored u = cc in
        ap (λ v. of_type v (type_of c.kind)) e
        ∙ stored_typed u (type_of c.kind) (suits_on k (type_of c.kind) (type_place u) suits (value_typed s.becomes columns row k u fit kind is))

-- a column that is not set keeps its value
pub unset_value : (columns : List Column) (sets : List Set) (row : Row) (c : TableColumn) (v : Value) → find (λ (s : Set). bytes_eq s.name c.name) sets ≡ None → set_value columns sets row c v ≡ Some v
unset_value columns sets row c v none = rw none refl

-- one that is set has the value of the expression
pub set_becomes : (columns : List Column) (sets : List Set) (row : Row) (c : TableColumn) (v : Value) (s : Set) → find (λ (s : Set). bytes_eq s.name c.name) sets ≡ Some s →
    set_value columns sets row c v ≡ option_map stored (value_of s.becomes columns row)
set_becomes columns sets row c v s found = rw found refl

value_suits : (source : List ℕ) (cs : List TableColumn) (more : List Column) (sets : List Set) (row : Row) (p : ℕ) (c : TableColumn) (v w : Value) → differ same_column cs ≡ true →
    EachFits (map (declared_column source) cs ++ more) sets → fits_columns (map (declared_column source) cs ++ more) row.values ≡ true → slice_get cs p ≡ Some c → fits_column c v ≡ true →
    set_value (map (declared_column source) cs ++ more) sets row c v ≡ Some w → of_type w (type_of c.kind) ≡ true
value_suits source cs more sets row p c v w apart typed fit there old made = by_set (find (λ (s : Set). bytes_eq s.name c.name) sets) refl
  where
    by_set : (o : Option Set) → find (λ (s : Set). bytes_eq s.name c.name) sets ≡ o → of_type w (type_of c.kind) ≡ true
    by_set None is =
        let both : Some w ≡ Some v = sym made ∙ unset_value (map (declared_column source) cs ++ more) sets row c v is in
        let e : w ≡ v = cc in
        ap (λ u. of_type u (type_of c.kind)) e ∙ of_column c v old
    by_set (Some s) is =
        let columns = map (declared_column source) cs ++ more in
        let same = same_name s.name c.name (found_test (λ (s : Set). bytes_eq s.name c.name) sets s is) in
        let f = found_fits columns (λ (s : Set). bytes_eq s.name c.name) sets s typed is in
        stored_suits columns s row c f.value w fit f.kind (set_suits source cs more s p c apart there same f) (sym (set_becomes columns sets row c v s is) ∙ made)

-- ---- the new row

-- each new value is what becomes of the old one at its place
each_set : (columns : List Column) (sets : List Set) (row : Row) (cs : List TableColumn) (vs new : List Value) → fit_columns cs vs ≡ true → set_values columns sets row cs vs ≡ Some new →
    (p : ℕ) (c : TableColumn) (w : Value) → slice_get cs p ≡ Some c → slice_get new p ≡ Some w →
    (v : Value) × (slice_get vs p ≡ Some v) × (fits_column c v ≡ true) × (set_value columns sets row c v ≡ Some w)
each_set columns sets row [] vs new fit made p c w column value = absurd (cc)
each_set columns sets row (d ∷ ds) [] new fit made p c w column value = absurd (cc)
each_set columns sets row (d ∷ ds) (u ∷ us) new fit made zero c w column value =
    let parts = before_some (set_value columns sets row d u) (set_values columns sets row ds us) new made in
    let e : c ≡ d = cc in
    let f : Some parts.0 ≡ Some w = sym (ap (λ l. slice_get l 0) parts.4) ∙ value in
    (u, refl, ap (λ x. fits_column x u) e ∙ (and_parts (fits_column d u) (fit_columns ds us) fit).0, ap (λ x. set_value columns sets row x u) e ∙ parts.2 ∙ f)
each_set columns sets row (d ∷ ds) (u ∷ us) new fit made (suc p) c w column value =
    let parts = before_some (set_value columns sets row d u) (set_values columns sets row ds us) new made in
    each_set columns sets row ds us parts.1 (and_parts (fits_column d u) (fit_columns ds us) fit).1 parts.3 p c w column (sym (ap (λ l. slice_get l (suc p)) parts.4) ∙ value)

-- what stands behind the declared values is not read as one of them
set_taken : (columns : List Column) (sets : List Set) (row : Row) (cs : List TableColumn) (vs : List Value) → set_values columns sets row cs (take (length cs) vs) ≡ set_values columns sets row cs vs
set_taken columns sets row [] vs = refl
set_taken columns sets row (c ∷ cs) [] = refl
set_taken columns sets row (c ∷ cs) (v ∷ vs) = ap (λ rest. before (set_value columns sets row c v) rest) (set_taken columns sets row cs vs)

set_declared : (columns : List Column) (sets : List Set) (row : Row) (t : Table) (vs : List Value) → set_values columns sets row t.columns (declared_values t vs) ≡ set_values columns sets row t.columns vs
set_declared columns sets row t vs = by_valid t.valid
  where
    by_valid : (valid : Bool) → set_values columns sets row t.columns (cond valid (take (length t.columns) vs) vs) ≡ set_values columns sets row t.columns vs
    by_valid true = set_taken columns sets row t.columns vs
    by_valid false = refl

new_length : (columns : List Column) (sets : List Set) (row : Row) (cs : List TableColumn) (vs new : List Value) → fit_columns cs vs ≡ true → set_values columns sets row cs vs ≡ Some new → length cs ≡ length new
new_length columns sets row [] vs new fit made = let e : new ≡ [] = cc in sym (ap length e)
new_length columns sets row (c ∷ cs) [] new fit made = absurd (cc)
new_length columns sets row (c ∷ cs) (v ∷ vs) new fit made =
    let parts = before_some (set_value columns sets row c v) (set_values columns sets row cs vs) new made in
    ap (λ n. suc n) (new_length columns sets row cs vs parts.1 (and_parts (fits_column c v) (fit_columns cs vs) fit).1 parts.3) ∙ sym (ap length parts.4)

-- no empty text comes of what has none
set_filled : (columns : List Column) (sets : List Set) (row : Row) (c : TableColumn) (v w : Value) → is_filled v ≡ true → set_value columns sets row c v ≡ Some w → is_filled w ≡ true
set_filled columns sets row c v w filled made = by_set (find (λ (s : Set). bytes_eq s.name c.name) sets) refl
  where
    by_value : (o : Option Value) → option_map stored o ≡ Some w → is_filled w ≡ true
    by_value None is = absurd (cc)
    by_value (Some u) is = let e : w ≡ stored u = cc in ap is_filled e ∙ stored_filled u

    by_set : (o : Option Set) → find (λ (s : Set). bytes_eq s.name c.name) sets ≡ o → is_filled w ≡ true
    by_set None is =
        let both : Some w ≡ Some v = sym made ∙ unset_value columns sets row c v is in
        let e : w ≡ v = cc in
        ap is_filled e ∙ filled
    by_set (Some s) is = by_value (value_of s.becomes columns row) (sym (set_becomes columns sets row c v s is) ∙ made)

pub new_filled : (columns : List Column) (sets : List Set) (row : Row) (cs : List TableColumn) (vs new : List Value) → list_all is_filled vs ≡ true → set_values columns sets row cs vs ≡ Some new → list_all is_filled new ≡ true
new_filled columns sets row [] vs new filled made = let e : new ≡ [] = cc in ap (list_all is_filled) e
new_filled columns sets row (c ∷ cs) [] new filled made = let e : new ≡ [] = cc in ap (list_all is_filled) e
new_filled columns sets row (c ∷ cs) (v ∷ vs) new filled made =
    let parts = before_some (set_value columns sets row c v) (set_values columns sets row cs vs) new made in
    let old = and_parts (is_filled v) (list_all is_filled vs) filled in
    ap (list_all is_filled) parts.4 ∙ and_from _ _ (set_filled columns sets row c v parts.0 old.0 parts.2) (new_filled columns sets row cs vs parts.1 old.1 parts.3)

-- ---- its key

-- where no key column is set, none of the sets has the name of the key
not_key : (t : Table) (one : OneKey t) (c : TableColumn) (sets : List Set) → slice_get t.columns one.place ≡ Some c → find (λ (s : Set). is_key t s.name) sets ≡ None →
    find (λ (s : Set). bytes_eq s.name c.name) sets ≡ None
not_key t one c [] there none = refl
not_key t one c (s ∷ ss) there none =
    let parts = if_none (is_key t s.name) s (find (λ (s : Set). is_key t s.name) ss) none in
    let asked : is_key t s.name ≡ (bytes_eq c.name s.name || false) =
    ap (list_any (is_named_at t.columns s.name)) one.is
    ∙ ap (λ o. option_map_or (λ (c : TableColumn). bytes_eq c.name s.name) o false || false) there in
    ap (λ b. cond b (Some s) (find (λ (s : Set). bytes_eq s.name c.name) ss)) (turned c.name s.name (or_parts (bytes_eq c.name s.name) false (sym asked ∙ parts.0)).0) ∙ not_key t one c ss there parts.1

key_stays : (t : Table) (one : OneKey t) (columns : List Column) (sets : List Set) (row : Row) (vs new : List Value) → key_set t sets ≡ None → fit_columns t.columns vs ≡ true →
    set_values columns sets row t.columns vs ≡ Some new → slice_get new one.place ≡ slice_get vs one.place
key_stays t one columns sets row vs new none fit made =
    let near : one.place < length t.columns = one.near in
    let same : length t.columns ≡ length new = new_length columns sets row t.columns vs new fit made in
    let column = got t.columns one.place near in
    let value = got new one.place (omega (arith, near, same)) in
    let old = each_set columns sets row t.columns vs new fit made one.place column.0 value.0 column.1 value.1 in
    let unset = not_key t one column.0 sets column.1 (none_mapped (λ (s : Set). s.name) (find (λ (s : Set). is_key t s.name) sets) none) in
    value.1 ∙ sym old.3 ∙ unset_value columns sets row column.0 old.0 unset ∙ sym old.1

-- ---- the law

-- the row that UPDATE makes of a shown one stands in the table, under the same key
pub row_replaces : (t : Table) (sets : List Set) (row : Row) (new : List Value) → is_table t ≡ true → has_key t ≡ true →
    EachFits (own_columns t) sets → key_set t sets ≡ None → is_shown t row.values ≡ true → updated_row t sets row ≡ Some new → row_fault t new ≡ None →
    (stands_in t new ≡ true) × (row_key t new ≡ row_key t (declared_values t row.values))
row_replaces t sets row new order keyed typed unset old made light =
    let columns = own_columns t in
    let one = one_key t order keyed in
    let vs = declared_values t row.values in
    let olds = shown_parts t row.values old in
    let fit = (and_parts (fit_columns t.columns vs) _ olds.0).0 in
    let set : set_values columns sets row t.columns vs ≡ Some new = set_declared columns sets row t row.values ∙ made in
    let stand = stands t new order keyed light (new_length columns sets row t.columns vs new fit set) (λ p c w column value.
    let was = each_set columns sets row t.columns vs new fit set p c w column value in
    value_suits t.name t.columns (cond t.valid (valid_column t.name ∷ []) []) sets row p c was.0 w (columns_apart t order) typed (shown_fits t row.values old) column was.2 was.3) in
    let key : row_key t new ≡ stand.value ∷ [] = ap (λ o. unwrap_or o []) stand.key in (
      and_from _ _ stand.fits (and_from _ _ (ap (λ k. is_key_of k t) key ∙ stand.key_fits) (new_filled columns sets row t.columns vs new olds.2 set)),
      ap (λ o. unwrap_or o []) (key_alone t one new) ∙ ap (λ o. unwrap_or (option_map (λ (v : Value). v ∷ []) o) []) (key_stays t one columns sets row vs new unset fit set) ∙ ap (λ o. unwrap_or o []) (sym (key_alone t one vs)),
    )
