-- Expressions that are not refused for their types: their periods last, and their values have their types.
use Rattle.std.proofs.Common.{◌≡◌, ℕ, Bool, true, false, cond, [], refl, sym, ap, ◌∙◌, arith, ℤ}
use Rattle.std.proofs.lemmas.Bool.{and_from, and_parts}
use Rattle.std.specs.Prelude.{Option, Some, None, ◌&&◌, ◌||◌, ◌==◌, option_map, codes}
use Rattle.std.specs.Option.{option_or}
use Rattle.std.proofs.lemmas.Bool.Decides.{nat_tests}
use Rattle.wm_base.proofs.Plain.{option_or_parts}
use Rattle.wm_base.specs.Period.{Span as Period}
use Rattle.wm_syntax.specs.Trees.{Expr, Of, Neg, Add, Sub, Mul}
use Rattle.wm_base.specs.Value.{type_place}
use Rattle.wm_syntax.specs.declared.column.Suffix.{Suffix}
use Rattle.wm_syntax.specs.declared.constant.Const.{Const}
use Rattle.wm_syntax.specs.declared.constant.Const.TheVariants as constants
use Rattle.wm_syntax.specs.declared.operand.Operand.{Operand}
use Rattle.wm_syntax.specs.declared.operand.Operand.TheVariants as operands
use Rattle.wm_syntax.specs.declared.operand.Operator.{Operator}
use Rattle.wm_base.specs.declared.value.Value.{Value}
use Rattle.wm_base.specs.declared.value.Value.TheVariants as values
use Rattle.wm_graph.specs.Rules.{type_of}
use Rattle.wm_spec.specs.Expressions.{number_value, number_in, value_of, lasts, has_no_empty_period}
use Rattle.wm_spec.specs.Operands.{suffixed_kind, constant_kind, constant_value, operand_value, tested, period_at}
use Rattle.wm_spec.specs.declared.record.column.ColumnKind.{ColumnKind}
use Rattle.wm_spec.specs.declared.record.column.ColumnKind.TheVariants as kinds
use Rattle.wm_typing.proofs.Nones.{holds}
use Rattle.wm_typing.specs.Names.{unless}
use Rattle.wm_typing.specs.Types.{expr_kind, is_number, is_numeric, mistyped_in_expr}
use Rattle.wm_making.specs.Inserting.{suits}
use Rattle.wm_making.specs.Rows.{no_row}

-- ---- periods

pub numbers_last : (kind : Option ℕ) → is_number kind ≡ true → kind ≡ Some 4 → ⊥
numbers_last kind number period = let e : is_number kind ≡ false = ap (λ k. is_number k) period in cc

pub suited_last : (kind : Option ℕ) (column : ColumnKind) → suits kind column ≡ true → kind ≡ Some 4 → ⊥
suited_last kind kinds.Number suited period = let e : suits kind kinds.Number ≡ false = ap (λ k. suits k kinds.Number) period in cc
suited_last kind kinds.Text suited period = let e : suits kind kinds.Text ≡ false = ap (λ k. suits k kinds.Text) period in cc
suited_last kind kinds.Time suited period = let e : suits kind kinds.Time ≡ false = ap (λ k. suits k kinds.Time) period in cc

operand_lasts : (operand : Operand) → (expr_kind [] (Of operand) ≡ Some 4 → ⊥) → lasts operand ≡ true
operand_lasts (operands.Col col) other = refl
operand_lasts (operands.Const constants.Null) other = refl
operand_lasts (operands.Const (constants.Num n)) other = refl
operand_lasts (operands.Const (constants.Text text)) other = refl
operand_lasts (operands.Const (constants.Time instant)) other = refl
operand_lasts (operands.Const constants.Sysdate) other = refl
operand_lasts (operands.Const (constants.Span from till)) other = absurd (other refl)
operand_lasts (operands.Test operator left right) other = refl

-- no written period is in an expression that is none itself and whose marks have their types
pub lasting : (x : Expr) → mistyped_in_expr [] x ≡ None → (expr_kind [] x ≡ Some 4 → ⊥) → has_no_empty_period x ≡ true
lasting (Of operand) none other = operand_lasts operand other
lasting (Neg x) none other =
    let parts = option_or_parts (unless (is_numeric [] x) (codes "-")) (mistyped_in_expr [] x) none in
    lasting x parts.1 (numbers_last (expr_kind [] x) (holds (is_numeric [] x) (codes "-") parts.0))
lasting (Add x y) none other =
    let parts = option_or_parts (mistyped_in_expr [] x) (option_or (unless (is_numeric [] x && is_numeric [] y) (codes "+")) (mistyped_in_expr [] y)) none in
    let more = option_or_parts (unless (is_numeric [] x && is_numeric [] y) (codes "+")) (mistyped_in_expr [] y) parts.1 in
    let both = and_parts (is_numeric [] x) (is_numeric [] y) (holds (is_numeric [] x && is_numeric [] y) (codes "+") more.0) in
    and_from _ _ (lasting x parts.0 (numbers_last (expr_kind [] x) both.0)) (lasting y more.1 (numbers_last (expr_kind [] y) both.1))
lasting (Sub x y) none other =
    let parts = option_or_parts (mistyped_in_expr [] x) (option_or (unless (is_numeric [] x && is_numeric [] y) (codes "-")) (mistyped_in_expr [] y)) none in
    let more = option_or_parts (unless (is_numeric [] x && is_numeric [] y) (codes "-")) (mistyped_in_expr [] y) parts.1 in
    let both = and_parts (is_numeric [] x) (is_numeric [] y) (holds (is_numeric [] x && is_numeric [] y) (codes "-") more.0) in
    and_from _ _ (lasting x parts.0 (numbers_last (expr_kind [] x) both.0)) (lasting y more.1 (numbers_last (expr_kind [] y) both.1))
lasting (Mul x y) none other =
    let parts = option_or_parts (mistyped_in_expr [] x) (option_or (unless (is_numeric [] x && is_numeric [] y) (codes "*")) (mistyped_in_expr [] y)) none in
    let more = option_or_parts (unless (is_numeric [] x && is_numeric [] y) (codes "*")) (mistyped_in_expr [] y) parts.1 in
    let both = and_parts (is_numeric [] x) (is_numeric [] y) (holds (is_numeric [] x && is_numeric [] y) (codes "*") more.0) in
    and_from _ _ (lasting x parts.0 (numbers_last (expr_kind [] x) both.0)) (lasting y more.1 (numbers_last (expr_kind [] y) both.1))

-- ---- values

-- NULL, or a value of this type
abbrev pub of_type : Value → ℕ → Bool
of_type v kind = (type_place v == 0) || (type_place v == kind)

pub number_typed : (number : Option (Option ℤ)) (v : Value) → option_map number_value number ≡ Some v → of_type v 1 ≡ true
number_typed None v made = absurd (cc)
number_typed (Some None) v made = let e : v ≡ values.Null = cc in ap (λ w. of_type w 1) e
number_typed (Some (Some n)) v made = let e : v ≡ values.Num n = cc in ap (λ w. of_type w 1) e

pub constant_typed : (constant : Const) → of_type (constant_value constant) (constant_kind constant) ≡ true
constant_typed constants.Null = refl
constant_typed (constants.Num n) = refl
constant_typed (constants.Text text) = refl
constant_typed (constants.Time instant) = refl
constant_typed constants.Sysdate = refl
constant_typed (constants.Span from till) = refl

no_kind : (suffix : Option Suffix) (kind : ℕ) → suffixed_kind suffix None ≡ Some kind → ⊥
no_kind None kind there = cc
no_kind (Some suffix) kind there = cc

pub tested_typed : (operator : Operator) (p q : Option Period) → of_type (tested operator p q) 1 ≡ true
tested_typed operator None q = refl
tested_typed operator (Some p) None = refl
tested_typed operator (Some p) (Some q) = refl

pub chosen : (test : Bool) (kind : ℕ) → cond test (Some 1) None ≡ Some kind → kind ≡ 1
chosen true kind is = cc
chosen false kind is = absurd (cc)

operand_typed : (operand : Operand) (kind : ℕ) → expr_kind [] (Of operand) ≡ Some kind → of_type (operand_value operand [] []) kind ≡ true
operand_typed (operands.Col col) kind is = absurd (no_kind col.suffix kind is)
operand_typed (operands.Const constant) kind is = let e : kind ≡ constant_kind constant = cc in ap (λ k. of_type (constant_value constant) k) e ∙ constant_typed constant
operand_typed (operands.Test operator left right) kind is =
    ap (λ k. of_type (tested operator (period_at left [] []) (period_at right [] [])) k) (chosen _ kind is)
    ∙ tested_typed operator (period_at left [] []) (period_at right [] [])

-- the value of an expression has its type, or is NULL
pub value_typed : (x : Expr) (kind : ℕ) (v : Value) → expr_kind [] x ≡ Some kind → value_of x [] no_row ≡ Some v → of_type v kind ≡ true
unfolding value_of
value_typed (Of operand) kind v is made = let e : v ≡ operand_value operand [] [] = cc in ap (λ w. of_type w kind) e ∙ operand_typed operand kind is
value_typed (Neg x) kind v is made = let e : kind ≡ 1 = cc in ap (λ k. of_type v k) e ∙ number_typed (number_in (Neg x) [] []) v made
value_typed (Add x y) kind v is made = let e : kind ≡ 1 = cc in ap (λ k. of_type v k) e ∙ number_typed (number_in (Add x y) [] []) v made
value_typed (Sub x y) kind v is made = let e : kind ≡ 1 = cc in ap (λ k. of_type v k) e ∙ number_typed (number_in (Sub x y) [] []) v made
value_typed (Mul x y) kind v is made = let e : kind ≡ 1 = cc in ap (λ k. of_type v k) e ∙ number_typed (number_in (Mul x y) [] []) v made

pub suits_on : (kind column place : ℕ) → ((kind == 0) || (kind == column)) ≡ true → ((place == 0) || (place == kind)) ≡ true → ((place == 0) || (place == column)) ≡ true
suits_on kind column place suited typed = grind (arith, nat_tests)

-- it has that of the column that it suits
pub value_suits : (x : Expr) (column : ColumnKind) (v : Value) → suits (expr_kind [] x) column ≡ true → value_of x [] no_row ≡ Some v → of_type v (type_of column) ≡ true
value_suits x column v suited made = by_kind (expr_kind [] x) refl
  where
    by_kind : (kind : Option ℕ) → expr_kind [] x ≡ kind → of_type v (type_of column) ≡ true
    by_kind None is = let e : suits (expr_kind [] x) column ≡ false = ap (λ k. suits k column) is in absurd (cc)
    by_kind (Some kind) is =
        suits_on kind (type_of column) (type_place v) (sym (ap (λ k. suits k column) is) ∙ suited) (value_typed x kind v is made)
