-- No period that is written in a value that a column of a table takes is empty.
use Rattle.std.proofs.Common.{◌≡◌, ℕ, true, List, refl}
use Rattle.std.proofs.lemmas.Bool.{and_from, and_parts}
use Rattle.std.specs.Prelude.{Some, None, ◌&&◌, codes}
use Rattle.std.specs.Option.{option_or}
use Rattle.wm_base.proofs.Plain.{option_or_parts}
use Rattle.wm_listing.specs.declared.columns.Column.{Column}
use Rattle.wm_syntax.specs.declared.constant.Const.TheVariants as constants
use Rattle.wm_syntax.specs.declared.operand.Operand.{Operand}
use Rattle.wm_syntax.specs.declared.operand.Operand.TheVariants as operands
use Rattle.wm_syntax.specs.Trees.{Expr, Of, Neg, Add, Sub, Mul}
use Rattle.wm_making.proofs.Fitted.{numbers_last}
use Rattle.wm_spec.specs.Expressions.{lasts, has_no_empty_period}
use Rattle.wm_typing.proofs.Nones.{holds}
use Rattle.wm_typing.specs.Names.{unless}
use Rattle.wm_typing.specs.Types.{expr_kind, is_numeric, mistyped_in_expr}

operand_lasts : (cs : List Column) (operand : Operand) → (expr_kind cs (Of operand) ≡ Some 4 → ⊥) → lasts operand ≡ true
operand_lasts cs (operands.Col col) other = refl
operand_lasts cs (operands.Const constants.Null) other = refl
operand_lasts cs (operands.Const (constants.Num n)) other = refl
operand_lasts cs (operands.Const (constants.Text text)) other = refl
operand_lasts cs (operands.Const (constants.Time instant)) other = refl
operand_lasts cs (operands.Const constants.Sysdate) other = refl
operand_lasts cs (operands.Const (constants.Span from till)) other = absurd (other refl)
operand_lasts cs (operands.Test operator left right) other = refl

-- between a mark's operands there is no written period
numbers : (cs : List Column) (x y : Expr) (mark : List ℕ) → unless (is_numeric cs x && is_numeric cs y) mark ≡ None → (is_numeric cs x ≡ true) × (is_numeric cs y ≡ true)
numbers cs x y mark none = and_parts (is_numeric cs x) (is_numeric cs y) (holds (is_numeric cs x && is_numeric cs y) mark none)

-- no written period is in an expression that is none itself and whose marks have their types
pub lasting : (cs : List Column) (x : Expr) → mistyped_in_expr cs x ≡ None → (expr_kind cs x ≡ Some 4 → ⊥) → has_no_empty_period x ≡ true
lasting cs (Of operand) none other = operand_lasts cs operand other
lasting cs (Neg x) none other =
    let parts = option_or_parts (unless (is_numeric cs x) (codes "-")) (mistyped_in_expr cs x) none in
    lasting cs x parts.1 (numbers_last (expr_kind cs x) (holds (is_numeric cs x) (codes "-") parts.0))
lasting cs (Add x y) none other =
    let parts = option_or_parts (mistyped_in_expr cs x) (option_or (unless (is_numeric cs x && is_numeric cs y) (codes "+")) (mistyped_in_expr cs y)) none in
    let more = option_or_parts (unless (is_numeric cs x && is_numeric cs y) (codes "+")) (mistyped_in_expr cs y) parts.1 in
    let two = numbers cs x y (codes "+") more.0 in
    and_from _ _ (lasting cs x parts.0 (numbers_last (expr_kind cs x) two.0)) (lasting cs y more.1 (numbers_last (expr_kind cs y) two.1))
lasting cs (Sub x y) none other =
    let parts = option_or_parts (mistyped_in_expr cs x) (option_or (unless (is_numeric cs x && is_numeric cs y) (codes "-")) (mistyped_in_expr cs y)) none in
    let more = option_or_parts (unless (is_numeric cs x && is_numeric cs y) (codes "-")) (mistyped_in_expr cs y) parts.1 in
    let two = numbers cs x y (codes "-") more.0 in
    and_from _ _ (lasting cs x parts.0 (numbers_last (expr_kind cs x) two.0)) (lasting cs y more.1 (numbers_last (expr_kind cs y) two.1))
lasting cs (Mul x y) none other =
    let parts = option_or_parts (mistyped_in_expr cs x) (option_or (unless (is_numeric cs x && is_numeric cs y) (codes "*")) (mistyped_in_expr cs y)) none in
    let more = option_or_parts (unless (is_numeric cs x && is_numeric cs y) (codes "*")) (mistyped_in_expr cs y) parts.1 in
    let two = numbers cs x y (codes "*") more.0 in
    and_from _ _ (lasting cs x parts.0 (numbers_last (expr_kind cs x) two.0)) (lasting cs y more.1 (numbers_last (expr_kind cs y) two.1))
