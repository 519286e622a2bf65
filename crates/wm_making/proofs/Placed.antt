-- Where INSERT is refused for nothing, no period that is written in a value for a declared column is empty, and a period is written
-- in the value for WM_VALID.
use Rattle.std.proofs.Common.{◌≡◌, ℕ, zero, suc, ◌+◌, ◌<◌, Bool, true, false, cond, List, [], ◌∷◌, length, refl, ap, ◌∙◌, arith}
use Rattle.std.proofs.lemmas.Bool.{and_from, and_parts}
use Rattle.std.specs.Prelude.{Option, Some, None, is_none, is_some, slice_get}
use Rattle.std.specs.List.{list_all}
use Rattle.std.specs.Option.{option_and_then}
use Rattle.wm_base.proofs.Plain.{option_or_parts}
use Rattle.wm_syntax.specs.Trees.{Expr, Of, Neg, Add, Sub, Mul}
use Rattle.wm_syntax.specs.declared.column.Suffix.{Suffix}
use Rattle.wm_syntax.specs.declared.constant.Const.TheVariants as constants
use Rattle.wm_syntax.specs.declared.operand.Operand.{Operand}
use Rattle.wm_syntax.specs.declared.operand.Operand.TheVariants as operands
use Rattle.wm_spec.specs.Expressions.{has_no_empty_period}
use Rattle.wm_spec.specs.Operands.{wm_valid, suffixed_kind}
use Rattle.wm_spec.specs.declared.record.column.TableColumn.{TableColumn}
use Rattle.wm_spec.specs.declared.record.table.Table.{Table}
use Rattle.wm_typing.specs.Types.{expr_kind, mistyped_in_expr}
use Rattle.wm_making.specs.Inserting.{column_for, suits, is_period, misfit_in, misfit_from, value_for_period}
use Rattle.wm_making.specs.Rows.{written_in, written_period}
use Rattle.wm_making.proofs.Fitted.{lasting, suited_last}
use Rattle.wm_making.proofs.Nones.{if_none, if_not_none}

pub got : {A : Type 0} (xs : List A) (p : ℕ) → p < length xs → (x : A) × (slice_get xs p ≡ Some x)
got [] p near = absurd (omega arith)
got (x ∷ xs) zero near = (x, refl)
got (x ∷ xs) (suc p) near = got xs p (omega arith)

-- ---- values for declared columns

one_lasts : (x : Expr) (column : Option TableColumn) → is_none column ≡ false → misfit_in x column ≡ None → has_no_empty_period x ≡ true
one_lasts x None there fit = absurd (cc)
one_lasts x (Some c) there fit =
    let typed = if_not_none (suits (expr_kind [] x) c.kind) c.name (mistyped_in_expr [] x) fit in
    lasting x typed.1 (suited_last (expr_kind [] x) c.kind typed.0)

-- each period that is written in a value has its first end below its second, where no value is for WM_VALID
pub periods_last : (t : Table) (names : Option (List (List ℕ))) (place : ℕ) (xs : List Expr) → misfit_from t names place xs ≡ None → value_for_period t names place xs ≡ None →
    list_all has_no_empty_period xs ≡ true
periods_last t names place [] none nowhere = refl
periods_last t names place (x ∷ xs) none nowhere =
    let parts = option_or_parts (misfit_in x (column_for t names place)) (misfit_from t names (place + 1) xs) none in
    let others = if_none (is_none (column_for t names place)) x (value_for_period t names (place + 1) xs) nowhere in
    and_from _ _ (one_lasts x (column_for t names place) others.0 parts.0) (periods_last t names (place + 1) xs parts.1 others.1)

-- ---- the value for WM_VALID

no_end : (suffix : Option Suffix) → is_period (suffixed_kind suffix None) ≡ true → ⊥
no_end None is = cc
no_end (Some suffix) is = cc

no_test : (test : Bool) → is_period (cond test (Some 1) None) ≡ true → ⊥
no_test true is = cc
no_test false is = cc

operand_written : (operand : Operand) → is_period (expr_kind [] (Of operand)) ≡ true → is_some (written_in operand) ≡ true
operand_written (operands.Col col) is = absurd (no_end col.suffix is)
operand_written (operands.Const constants.Null) is = absurd (cc)
operand_written (operands.Const (constants.Num n)) is = absurd (cc)
operand_written (operands.Const (constants.Text text)) is = absurd (cc)
operand_written (operands.Const (constants.Time instant)) is = absurd (cc)
operand_written (operands.Const constants.Sysdate) is = absurd (cc)
operand_written (operands.Const (constants.Span from till)) is = refl
operand_written (operands.Test operator left right) is = absurd (no_test _ is)

-- what is a period and names no column is written
written : (x : Expr) → is_period (expr_kind [] x) ≡ true → is_some (written_period x) ≡ true
written (Of operand) is = operand_written operand is
written (Neg x) is = absurd (cc)
written (Add x y) is = absurd (cc)
written (Sub x y) is = absurd (cc)
written (Mul x y) is = absurd (cc)

-- a value for WM_VALID that is not refused is a period that is written
pub period_written : (t : Table) (names : Option (List (List ℕ))) (place : ℕ) (xs : List Expr) → misfit_from t names place xs ≡ None →
    is_some (option_and_then written_period (value_for_period t names place xs)) ≡ is_some (value_for_period t names place xs)
period_written t names place [] none = refl
period_written t names place (x ∷ xs) none =
    let parts = option_or_parts (misfit_in x (column_for t names place)) (misfit_from t names (place + 1) xs) none in
    choose (column_for t names place) (value_for_period t names (place + 1) xs) parts.0 (period_written t names (place + 1) xs parts.1)
  where
    choose : (column : Option TableColumn) (rest : Option Expr) → misfit_in x column ≡ None → is_some (option_and_then written_period rest) ≡ is_some rest →
        is_some (option_and_then written_period (cond (is_none column) (Some x) rest)) ≡ is_some (cond (is_none column) (Some x) rest)
    choose None rest fit more = written x (if_not_none (is_period (expr_kind [] x)) wm_valid (mistyped_in_expr [] x) fit).0
    choose (Some c) rest fit more = more

-- what each value passes, the one for WM_VALID passes
pub value_passes : (test : Expr → Bool) (t : Table) (names : Option (List (List ℕ))) (place : ℕ) (xs : List Expr) (x : Expr) → list_all test xs ≡ true → value_for_period t names place xs ≡ Some x → test x ≡ true
value_passes test t names place [] x all there = absurd (cc)
value_passes test t names place (y ∷ ys) x all there =
    let parts = and_parts (test y) (list_all test ys) all in
    choose (is_none (column_for t names place)) parts.0 (value_passes test t names (place + 1) ys x parts.1) there
  where
    choose : (b : Bool) → test y ≡ true → (value_for_period t names (place + 1) ys ≡ Some x → test x ≡ true) → cond b (Some y) (value_for_period t names (place + 1) ys) ≡ Some x → test x ≡ true
    choose true one more there = let e : x ≡ y = cc in ap test e ∙ one
    choose false one more there = more there
