-- The value of an expression over a row that fits its columns has the type of the expression, or is NULL.
use Rattle.std.proofs.Common.{◌≡◌, ℕ, zero, suc, Bool, true, false, cond, List, [], ◌∷◌, refl, sym, ap, ◌∙◌}
use Rattle.std.proofs.lemmas.Bool.{and_parts}
use Rattle.std.specs.Prelude.{Option, Some, None, ◌&&◌, ◌==◌, count_by, slice_get, option_map, unwrap_or}
use Rattle.std.specs.List.{position}
use Rattle.std.specs.Option.{option_and_then}
use Rattle.wm_listing.specs.declared.columns.Column.{Column}
use Rattle.wm_base.specs.declared.row.Row.{Row}
use Rattle.wm_syntax.specs.declared.column.Suffix.{Suffix}
use Rattle.wm_syntax.specs.declared.column.Suffix.TheVariants.{ValidFrom, ValidTill}
use Rattle.wm_syntax.specs.declared.operand.Operand.{Operand}
use Rattle.wm_syntax.specs.declared.operand.Operand.TheVariants as operands
use Rattle.wm_base.specs.declared.value.Value.{Value}
use Rattle.wm_base.specs.declared.value.Value.TheVariants as values
use Rattle.wm_syntax.specs.Trees.{Expr, Of, Neg, Add, Sub, Mul}
use Rattle.wm_making.proofs.Fitted.{of_type, number_typed, constant_typed, tested_typed, chosen as one_chosen}
use Rattle.wm_spec.specs.Expressions.{number_in, value_of}
use Rattle.wm_spec.specs.Operands.{is_named, kind_of, suffixed_kind, constant_kind, constant_value, is_period, operand_kind, fits_columns, value_at, suffixed, period_at, tested, operand_value}

some_of : {A : Type 0} (b : Bool) (o : Option A) (x : A) → cond b o None ≡ Some x → o ≡ Some x
some_of true o x is = is
some_of false o x is = absurd (cc)

-- the column whose kind it is
pub kind_place : (source : Option (List ℕ)) (name : List ℕ) (columns : List Column) (k : ℕ) → kind_of source name columns ≡ Some k →
    (q : ℕ) × (c : Column) × (position (is_named source name) columns ≡ Some q) × (slice_get columns q ≡ Some c) × (c.kind ≡ k)
kind_place source name columns k is =
    by_place (position (is_named source name) columns) refl
    (some_of (count_by (is_named source name) columns == 1) (option_and_then (λ p. option_map (λ (c : Column). c.kind) (slice_get columns p)) (position (is_named source name) columns)) k is)
  where
    at : (q : ℕ) (o : Option Column) → position (is_named source name) columns ≡ Some q → slice_get columns q ≡ o → option_map (λ (c : Column). c.kind) o ≡ Some k →
        (q : ℕ) × (c : Column) × (position (is_named source name) columns ≡ Some q) × (slice_get columns q ≡ Some c) × (c.kind ≡ k)
    at q None stands there kind = absurd (cc)
    at q (Some c) stands there kind = (q, c, stands, there, cc)

    by_place : (place : Option ℕ) → position (is_named source name) columns ≡ place → option_and_then (λ p. option_map (λ (c : Column). c.kind) (slice_get columns p)) place ≡ Some k →
        (q : ℕ) × (c : Column) × (position (is_named source name) columns ≡ Some q) × (slice_get columns q ≡ Some c) × (c.kind ≡ k)
    by_place None stands kind = absurd (cc)
    by_place (Some q) stands kind = at q (slice_get columns q) stands refl kind

fits_at : (columns : List Column) (vs : List Value) (q : ℕ) (c : Column) (v : Value) → fits_columns columns vs ≡ true → slice_get columns q ≡ Some c → slice_get vs q ≡ Some v → of_type v c.kind ≡ true
fits_at [] vs q c v fit column value = absurd (cc)
fits_at (d ∷ ds) [] q c v fit column value = absurd (cc)
fits_at (d ∷ ds) (w ∷ ws) zero c v fit column value =
    let e : c ≡ d = cc in
    let f : v ≡ w = cc in
    ap (λ (x : Column). of_type v x.kind) e ∙ ap (λ x. of_type x d.kind) f ∙ (and_parts (of_type w d.kind) (fits_columns ds ws) fit).0
fits_at (d ∷ ds) (w ∷ ws) (suc q) c v fit column value = fits_at ds ws q c v (and_parts (of_type w d.kind) (fits_columns ds ws) fit).1 column value

found_typed : (source : Option (List ℕ)) (name : List ℕ) (columns : List Column) (vs : List Value) (k q : ℕ) (c : Column) → fits_columns columns vs ≡ true →
    position (is_named source name) columns ≡ Some q → slice_get columns q ≡ Some c → c.kind ≡ k → of_type (value_at source name columns vs) k ≡ true
found_typed source name columns vs k q c fit stands column kind =
    ap (λ o. of_type (unwrap_or (option_and_then (λ p. slice_get vs p) o) values.Null) k) stands ∙ by_value (slice_get vs q) refl
  where
    by_value : (o : Option Value) → slice_get vs q ≡ o → of_type (unwrap_or o values.Null) k ≡ true
    by_value None is = refl
    by_value (Some v) is = ap (λ n. of_type v n) (sym kind) ∙ fits_at columns vs q c v fit column is

column_typed : (source : Option (List ℕ)) (name : List ℕ) (columns : List Column) (vs : List Value) → fits_columns columns vs ≡ true → (k : ℕ) → kind_of source name columns ≡ Some k →
    of_type (value_at source name columns vs) k ≡ true
column_typed source name columns vs fit k is =
    let at = kind_place source name columns k is in
    found_typed source name columns vs k at.0 at.1 fit at.2 at.3 at.4

-- an end of a period is a time, or NULL
an_end : (suffix : Suffix) (v : Value) → of_type (suffixed (Some suffix) v) 3 ≡ true
an_end ValidFrom values.Null = refl
an_end ValidFrom (values.Num n) = refl
an_end ValidFrom (values.Text t) = refl
an_end ValidFrom (values.Time i) = refl
an_end ValidFrom (values.Span p) = refl
an_end ValidTill values.Null = refl
an_end ValidTill (values.Num n) = refl
an_end ValidTill (values.Text t) = refl
an_end ValidTill (values.Time i) = refl
an_end ValidTill (values.Span p) = refl

three : (b : Bool) (k : ℕ) → cond b (Some 3) None ≡ Some k → k ≡ 3
three true k is = cc
three false k is = absurd (cc)

suffixed_typed : (suffix : Option Suffix) (kind : Option ℕ) (v : Value) (k : ℕ) → ((j : ℕ) → kind ≡ Some j → of_type v j ≡ true) → suffixed_kind suffix kind ≡ Some k → of_type (suffixed suffix v) k ≡ true
suffixed_typed None kind v k typed is = typed k is
suffixed_typed (Some suffix) None v k typed is = absurd (cc)
suffixed_typed (Some suffix) (Some j) v k typed is = ap (λ n. of_type (suffixed (Some suffix) v) n) (three (j == 4) k is) ∙ an_end suffix v

operand_typed : (operand : Operand) (columns : List Column) (vs : List Value) (k : ℕ) → fits_columns columns vs ≡ true → operand_kind operand columns ≡ Some k → of_type (operand_value operand columns vs) k ≡ true
operand_typed (operands.Col col) columns vs k fit is =
    suffixed_typed col.suffix (kind_of col.source col.name columns) (value_at col.source col.name columns vs) k (column_typed col.source col.name columns vs fit) is
operand_typed (operands.Const constant) columns vs k fit is = let e : k ≡ constant_kind constant = cc in ap (λ n. of_type (constant_value constant) n) e ∙ constant_typed constant
operand_typed (operands.Test operator left right) columns vs k fit is =
    ap (λ n. of_type (tested operator (period_at left columns vs) (period_at right columns vs)) n) (one_chosen (is_period left columns && is_period right columns) k is)
    ∙ tested_typed operator (period_at left columns vs) (period_at right columns vs)

-- the type of an expression over columns that are all there
abbrev pub kind_in : List Column → Expr → Option ℕ
kind_in columns (Of operand) = operand_kind operand columns
kind_in columns (Neg x) = Some 1
kind_in columns (Add x y) = Some 1
kind_in columns (Sub x y) = Some 1
kind_in columns (Mul x y) = Some 1

-- the value of an expression has its type, or is NULL
pub value_typed : (x : Expr) (columns : List Column) (row : Row) (k : ℕ) (v : Value) → fits_columns columns row.values ≡ true → kind_in columns x ≡ Some k → value_of x columns row ≡ Some v → of_type v k ≡ true
unfolding value_of
value_typed (Of operand) columns row k v fit is made =
    let e : v ≡ operand_value operand columns row.values = cc in ap (λ w. of_type w k) e ∙ operand_typed operand columns row.values k fit is
value_typed (Neg x) columns row k v fit is made = let e : k ≡ 1 = cc in ap (λ n. of_type v n) e ∙ number_typed (number_in (Neg x) columns row.values) v made
value_typed (Add x y) columns row k v fit is made = let e : k ≡ 1 = cc in ap (λ n. of_type v n) e ∙ number_typed (number_in (Add x y) columns row.values) v made
value_typed (Sub x y) columns row k v fit is made = let e : k ≡ 1 = cc in ap (λ n. of_type v n) e ∙ number_typed (number_in (Sub x y) columns row.values) v made
value_typed (Mul x y) columns row k v fit is made = let e : k ≡ 1 = cc in ap (λ n. of_type v n) e ∙ number_typed (number_in (Mul x y) columns row.values) v made
