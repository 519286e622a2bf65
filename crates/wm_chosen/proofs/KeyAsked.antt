-- A condition is true on no row whose value in a column is another than the constant that it asks of the column.
use Rattle.std.proofs.Common.{◌≡◌, ℕ, ◌<◌, Bool, true, false, if◌then◌else◌, List, [], ◌∷◌, length, nat_lt, get_or, slice_get, Option, Some, None, Result, Ok, Err, IfOk, IfSome, option_and_then, option_map, unwrap_or, refl, sym, ap, ◌∙◌, arith}
use Rattle.std.proofs.lemmas.Bool.{eqb-true, true≢false}
use Rattle.std.proofs.lemmas.Option.{none-some, same_Some}
use Rattle.std.specs.List.{position}
use Rattle.std.specs.Option.{option_or}
use Rattle.std.specs.Ordering.{is_eq}
use Rattle.std.specs.declared.cmp.Ordering.{Ordering}
use Rattle.std.specs.declared.cmp.Ordering.TheVariants.{Less, Equal, Greater}
use Rattle.wm_base.specs.Orders.{value_order-equal}
use Rattle.wm_syntax.specs.Trees.{Cond, Or, And, Not, Compare, IsNull, OneOf, Between}
use Rattle.wm_listing.specs.declared.columns.Column.{Column}
use Rattle.wm_base.specs.declared.memory.Memory.{Memory}
use Rattle.wm_syntax.specs.declared.column.Col.{Col}
use Rattle.wm_syntax.specs.declared.column.Suffix.{Suffix}
use Rattle.wm_syntax.specs.declared.cond.Cmp.TheVariants.{Eq, NotEq, BangEq, Lt, Le, Gt, Ge}
use Rattle.wm_syntax.specs.declared.constant.Const.{Const}
use Rattle.wm_syntax.specs.declared.operand.Operand.{Operand}
use Rattle.wm_syntax.specs.declared.operand.Operand.TheVariants as operands
use Rattle.wm_base.specs.declared.value.Value.{Value}
use Rattle.wm_base.specs.declared.value.Value.TheVariants as values
use Rattle.wm_dml.specs.Changing.{own_columns}
use Rattle.wm_graph.specs.Rules.{key_of, values_at}
use Rattle.wm_spec.specs.Conditions.{is_yes, test, truth_if, truth_in, truth_of}
use Rattle.wm_spec.specs.Operands.{constant_value, is_named, operand_value, suffixed}
use Rattle.wm_spec.specs.declared.record.table.Table.{Table}
use Rattle.wm_chosen.specs.Keyed.{FixesKey, across, asked, is_place, stands_at}
use Rattle.wm_joining.proofs.EqualLemmas.{both_yes}

-- ---- equal values are one, and none of them is NULL

yes_equal : (o : Ordering) → is_yes (truth_if (is_eq o)) ≡ true → o ≡ Equal
yes_equal Less e = absurd (true≢false (sym e))
yes_equal Equal e = refl
yes_equal Greater e = absurd (true≢false (sym e))

equal_values : (v w : Value) → is_yes (test Eq v w) ≡ true → v ≡ w
equal_values (values.Num m) (values.Num n) e = value_order-equal (values.Num m) (values.Num n) (yes_equal _ e)
equal_values (values.Text s) (values.Text t) e = value_order-equal (values.Text s) (values.Text t) (yes_equal _ e)
equal_values (values.Time i) (values.Time j) e = value_order-equal (values.Time i) (values.Time j) (yes_equal _ e)
equal_values (values.Span p) (values.Span q) e = value_order-equal (values.Span p) (values.Span q) (yes_equal _ e)
equal_values values.Null _ e = absurd (true≢false (sym e))
equal_values (values.Num m) _ e = absurd (true≢false (sym e))
equal_values (values.Text s) _ e = absurd (true≢false (sym e))
equal_values (values.Time i) _ e = absurd (true≢false (sym e))
equal_values (values.Span p) _ e = absurd (true≢false (sym e))

null_unequal : (v : Value) → is_yes (test Eq values.Null v) ≡ true → ⊥
null_unequal v e = true≢false (sym e)

unequal_null : (v : Value) → is_yes (test Eq v values.Null) ≡ true → ⊥
unequal_null values.Null e = true≢false (sym e)
unequal_null (values.Num n) e = true≢false (sym e)
unequal_null (values.Text t) e = true≢false (sym e)
unequal_null (values.Time i) e = true≢false (sym e)
unequal_null (values.Span p) e = true≢false (sym e)

-- the value that is found is the one that an equation with it asks for
found_left : (o : Option Value) (v : Value) → is_yes (test Eq (unwrap_or o values.Null) v) ≡ true → o ≡ Some v
found_left None v e = absurd (null_unequal v e)
found_left (Some w) v e = ap (λ (x : Value). Some x) (equal_values w v e)

found_right : (o : Option Value) (v : Value) → is_yes (test Eq v (unwrap_or o values.Null)) ≡ true → o ≡ Some v
found_right None v e = absurd (unequal_null v e)
found_right (Some w) v e = ap (λ (x : Value). Some x) (sym (equal_values v w e))

-- ---- a column that stands at a place

-- its value is what the row has at the place
value_there : (columns : List Column) (place : ℕ) (col : Col) (row : List Value) → stands_at columns place col ≡ true → operand_value (operands.Col col) columns row ≡ unwrap_or (slice_get row place) values.Null
value_there columns place col row e = by_cases col.suffix (position (λ column. is_named col.source col.name column) columns) e
  where
    by_cases : (suffix : Option Suffix) (found : Option ℕ) → is_place place suffix found ≡ true
        → suffixed suffix (unwrap_or (option_and_then (λ p. slice_get row p) found) values.Null) ≡ unwrap_or (slice_get row place) values.Null
    by_cases None (Some found) e = ap (λ p. unwrap_or (slice_get row p) values.Null) (eqb-true found place e)
    by_cases None None e = absurd (true≢false (sym e))
    by_cases (Some suffix) found e = absurd (true≢false (sym e))

-- what an equation asks of it, on either side
across_left : (columns : List Column) (place : ℕ) (side other : Operand) (constant : Const) (row : List Value) → across columns place side other ≡ Some constant
    → is_yes (test Eq (operand_value side columns row) (operand_value other columns row)) ≡ true → slice_get row place ≡ Some (constant_value constant)
across_left columns place (operands.Col col) (operands.Const c) constant row is e = by_test (stands_at columns place col) refl is
  where
    by_test : (b : Bool) → stands_at columns place col ≡ b → (if b then Some c else None) ≡ Some constant → slice_get row place ≡ Some (constant_value constant)
    by_test true there is =
        found_left (slice_get row place) (constant_value constant)
        (ap (λ (v : Value). is_yes (test Eq v (constant_value constant))) (sym (value_there columns place col row there))
        ∙ ap (λ (k : Const). is_yes (test Eq (operand_value (operands.Col col) columns row) (constant_value k))) (sym (same_Some c constant is)) ∙ e)
    by_test false there is = absurd (none-some constant is)
across_left columns place (operands.Col col) _ constant row is e = absurd (none-some constant is)
across_left columns place (operands.Const c) other constant row is e = absurd (none-some constant is)
across_left columns place (operands.Test operator left right) other constant row is e = absurd (none-some constant is)

across_right : (columns : List Column) (place : ℕ) (side other : Operand) (constant : Const) (row : List Value) → across columns place side other ≡ Some constant
    → is_yes (test Eq (operand_value other columns row) (operand_value side columns row)) ≡ true → slice_get row place ≡ Some (constant_value constant)
across_right columns place (operands.Col col) (operands.Const c) constant row is e = by_test (stands_at columns place col) refl is
  where
    by_test : (b : Bool) → stands_at columns place col ≡ b → (if b then Some c else None) ≡ Some constant → slice_get row place ≡ Some (constant_value constant)
    by_test true there is =
        found_right (slice_get row place) (constant_value constant)
        (ap (λ (v : Value). is_yes (test Eq (constant_value constant) v)) (sym (value_there columns place col row there))
        ∙ ap (λ (k : Const). is_yes (test Eq (constant_value k) (operand_value (operands.Col col) columns row))) (sym (same_Some c constant is)) ∙ e)
    by_test false there is = absurd (none-some constant is)
across_right columns place (operands.Col col) _ constant row is e = absurd (none-some constant is)
across_right columns place (operands.Const c) other constant row is e = absurd (none-some constant is)
across_right columns place (operands.Test operator left right) other constant row is e = absurd (none-some constant is)

-- ---- conditions

-- one of two, the first where it is there
pub one_of_two : {A : Type 0} (P : Type 0) (a b : Option A) (x : A) → (a ≡ Some x → P) → (b ≡ Some x → P) → option_or a b ≡ Some x → P
one_of_two P None b x one two e = two e
one_of_two P (Some y) b x one two e = one e

-- the condition is true on no row with another value at the place
pub asked_there : (columns : List Column) (place : ℕ) (condition : Cond) (constant : Const) (row : List Value) → asked columns place condition ≡ Some constant → is_yes (truth_in condition columns row) ≡ true
    → slice_get row place ≡ Some (constant_value constant)
asked_there columns place (And c d) constant row is e =
    let h = both_yes (truth_in c columns row) (truth_in d columns row) e in
    one_of_two (slice_get row place ≡ Some (constant_value constant)) (asked columns place c) (asked columns place d) constant
    (λ one. asked_there columns place c constant row one h.0) (λ two. asked_there columns place d constant row two h.1) is
asked_there columns place (Compare left Eq right) constant row is e =
    one_of_two (slice_get row place ≡ Some (constant_value constant)) (across columns place left right) (across columns place right left) constant
    (λ one. across_left columns place left right constant row one e) (λ two. across_right columns place right left constant row two e) is
asked_there columns place (Compare left NotEq right) constant row is e = absurd (none-some constant is)
asked_there columns place (Compare left BangEq right) constant row is e = absurd (none-some constant is)
asked_there columns place (Compare left Lt right) constant row is e = absurd (none-some constant is)
asked_there columns place (Compare left Le right) constant row is e = absurd (none-some constant is)
asked_there columns place (Compare left Gt right) constant row is e = absurd (none-some constant is)
asked_there columns place (Compare left Ge right) constant row is e = absurd (none-some constant is)
asked_there columns place (Or c d) constant row is e = absurd (none-some constant is)
asked_there columns place (Not c) constant row is e = absurd (none-some constant is)
asked_there columns place (IsNull what negated) constant row is e = absurd (none-some constant is)
asked_there columns place (OneOf what negated list) constant row is e = absurd (none-some constant is)
asked_there columns place (Between what negated low high) constant row is e = absurd (none-some constant is)

-- a list of one
pub alone : (places : List ℕ) → 0 < length places → length places < 2 → places ≡ get_or places 0 0 ∷ []
alone [] some few = absurd (omega arith)
alone (place ∷ []) some few = refl
alone (place ∷ other ∷ places) some few = absurd (omega arith)

-- a row with a value at the place of the key is under the key of that value
pub key_there : (t : Table) (place : ℕ) (v : Value) (row : List Value) → t.key_columns ≡ place ∷ [] → slice_get row place ≡ Some v → key_of t row ≡ Some (v ∷ [])
key_there t place v row one e =
    ap (λ places. if nat_lt 0 (length places) then values_at places row else None) one
    ∙ ap (λ (o : Option Value). option_and_then (λ w. option_map (λ ws. w ∷ ws) (Some [])) o) e

-- so it fixes the key, where the place is that of the key
pub fixes_key : (t : Table) (place : ℕ) (condition : Cond) (constant : Const) → t.key_columns ≡ place ∷ [] → asked (own_columns t) place condition ≡ Some constant → FixesKey t (Some condition) (constant_value constant ∷ [])
unfolding truth_of
fixes_key t place condition constant one is = record { under = λ row e. key_there t place (constant_value constant) row.values one (asked_there (own_columns t) place condition constant row.values is e) }

-- the same of the key that was made of the constant that was found
pub key_fixed : (r : Result (Option (List Value)) Memory) (t : Table) (condition : Option Cond) (cond : Cond) (columns : List Column) (place : ℕ) (found : Option Const) (constant : Const) → condition ≡ Some cond
    → columns ≡ own_columns t → t.key_columns ≡ place ∷ [] → found ≡ asked columns place cond → found ≡ Some constant → IfOk r (λ made. IfSome made (λ key. key ≡ constant_value constant ∷ []))
    → IfOk r (λ made. IfSome made (FixesKey t condition))
key_fixed (Ok (Some key)) t condition cond columns place found constant some own one is there made =
    rw (some, made)
    (fixes_key t place cond constant one (ap (λ (cs : List Column). asked cs place cond) (sym own) ∙ sym is ∙ there))
key_fixed (Ok None) t condition cond columns place found constant some own one is there made = tt
key_fixed (Err e) t condition cond columns place found constant some own one is there made = tt
