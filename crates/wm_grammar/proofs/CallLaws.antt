-- The readers of calls are exact.
use Rattle.std.proofs.Common.{ℕ, Bool, true, false, List, [], ◌∷◌, Option, Some, None, refl}
use Rattle.std.specs.Prelude.{pos}
use Rattle.std.proofs.Math.IntN.{neg_ℤ}
use Rattle.wm_base.specs.declared.instant.TheConstants.{END}
use Rattle.wm_syntax.specs.declared.constant.Const.TheVariants as consts
use Rattle.wm_syntax.specs.declared.statement.ArgValue.{ArgValue}
use Rattle.wm_syntax.specs.declared.statement.ArgValue.TheVariants as values
use Rattle.wm_syntax.specs.declared.statement.Arg.{Arg}
use Rattle.wm_syntax.specs.Trees.{Cond}
use Rattle.wm_syntax.specs.Trees as trees
use Rattle.wm_grammar.specs.declared.procedure.Procedure.{Procedure}
use Rattle.wm_grammar.specs.declared.procedure.Parameter.{Parameter}
use Rattle.wm_grammar.specs.declared.procedure.Parameter.TheVariants as parameters
use Rattle.wm_grammar.specs.Sorts as sorts
use Rattle.wm_grammar.specs.Calls.{procedure_of, is_same, next_place, open_parameter, with_text, with_name, clause, gathered, one_more}
use Rattle.wm_grammar.specs.CallForms.{constant_but_text, value_by, value_for, parameter_name, placed, arg, next_arg, arguments, parenthesis, arguments_of, package_call, call}
use Rattle.wm_grammar.specs.CallReaders.{constant_but_text_at, value_by_at, value_for_at, parameter_name_at, placed_at, parameter_sorts, arg_at, next_arg_at, arguments_at, parenthesis_at, arguments_of_at, package_call_at, call_at}
use Rattle.wm_grammar.proofs.Laws.{Shape, Exact, gives_exact, never_exact, one_for_exact, mark_exact, then_exact, or_exact, loosened}
use Rattle.wm_grammar.proofs.Repeating.{item_shape, many_from_exact}
use Rattle.wm_grammar.proofs.OperandLaws.{solid, constants, period_sorts, integer_exact, until_changed_exact, instant_exact, period_exact, constant_exact}

abbrev pub untexted : List ℕ
untexted = sorts.MINUS ∷ sorts.INT ∷ sorts.NULL ∷ sorts.SYSDATE ∷ sorts.DBMS_WM ∷ sorts.DATE ∷ sorts.TIMESTAMP ∷ sorts.TO_DATE ∷ period_sorts

pub constant_but_text_exact : Exact constant_but_text constant_but_text_at (solid untexted [] [])
unfolding constant_but_text constant_but_text_at
constant_but_text_exact =
    loosened (solid untexted [] [])
    (or_exact (then_exact (mark_exact sorts.MINUS) (λ _. then_exact integer_exact (λ n. gives_exact (consts.Num (neg_ℤ (pos n)))) refl) refl)
    (or_exact (then_exact integer_exact (λ n. gives_exact (consts.Num (pos n))) refl)
    (or_exact (then_exact (mark_exact sorts.NULL) (λ _. gives_exact consts.Null) refl)
    (or_exact (then_exact (mark_exact sorts.SYSDATE) (λ _. gives_exact consts.Sysdate) refl)
    (or_exact (then_exact until_changed_exact (λ _. gives_exact (consts.Time END)) refl)
    (or_exact (then_exact instant_exact (λ t. gives_exact (consts.Time t)) refl)
    (then_exact period_exact (λ p. gives_exact (consts.Span p.0 p.1)) refl)
    refl refl refl) refl refl refl) refl refl refl) refl refl refl) refl refl refl) refl refl refl)
    refl refl refl refl

abbrev pub value_sorts : List ℕ
value_sorts = sorts.TRUE ∷ sorts.FALSE ∷ constants

abbrev pub Value : Type 0
Value = ArgValue × Option Cond

pub value_by_exact : (is_clause : Bool) → Exact (value_by is_clause) (value_by_at is_clause) (solid value_sorts [] [])
unfolding value_by value_by_at
value_by_exact false =
    loosened (solid value_sorts [] [])
    (or_exact (then_exact (mark_exact sorts.TRUE) (λ _. gives_exact {A = Value} (values.Bool true, None)) refl)
    (or_exact (then_exact (mark_exact sorts.FALSE) (λ _. gives_exact {A = Value} (values.Bool false, None)) refl)
    (then_exact constant_exact (λ k. gives_exact {A = Value} (values.Const k, None)) refl) refl refl refl) refl refl refl)
    refl refl refl refl
value_by_exact true =
    loosened (solid value_sorts [] [])
    (or_exact (then_exact (mark_exact sorts.TRUE) (λ _. gives_exact {A = Value} (values.Bool true, None)) refl)
    (or_exact (then_exact (mark_exact sorts.FALSE) (λ _. gives_exact {A = Value} (values.Bool false, None)) refl)
    (or_exact (one_for_exact sorts.TEXT clause)
    (then_exact constant_but_text_exact (λ k. gives_exact {A = Value} (values.Const k, None)) refl) refl refl refl) refl refl refl) refl refl refl)
    refl refl refl refl

pub value_for_exact : (p : Parameter) → Exact (value_for p) (value_for_at p) (solid value_sorts [] [])
value_for_exact p = value_by_exact (is_same p parameters.WhereClause)

pub parameter_name_exact : (procedure : Procedure) (args : List Arg) → Exact (parameter_name procedure args) (parameter_name_at procedure args) (solid parameter_sorts [] [])
unfolding parameter_name parameter_name_at
parameter_name_exact procedure args =
    loosened (solid parameter_sorts [] [])
    (or_exact (one_for_exact sorts.ID (λ t. with_text t (open_parameter procedure args t.text)))
    (or_exact (one_for_exact sorts.VALIDFROM (λ t. with_text t (open_parameter procedure args t.text))) (one_for_exact sorts.VALIDTILL (λ t. with_text t (open_parameter procedure args t.text))) refl refl refl) refl refl refl)
    refl refl refl refl

abbrev pub Found : Type 0
Found = Arg × Option Cond

pub placed_exact : (p : Option Parameter) → Exact (placed p) (placed_at p) (solid value_sorts [] [])
unfolding placed placed_at
placed_exact None = loosened (solid value_sorts [] []) never_exact refl refl refl refl
placed_exact (Some p) = loosened (solid value_sorts [] []) (then_exact (value_for_exact p) (λ v. gives_exact {A = Found} (record { name = None; value = v.0 }, v.1)) refl) refl refl refl refl

abbrev pub arg_sorts : List ℕ
arg_sorts = sorts.ID ∷ sorts.VALIDFROM ∷ sorts.VALIDTILL ∷ value_sorts

pub arg_exact : (procedure : Procedure) (args : List Arg) → Exact (arg procedure args) (arg_at procedure args) (solid arg_sorts [] [])
unfolding arg arg_at
arg_exact procedure args =
    loosened (solid arg_sorts [] [])
    (or_exact (then_exact (parameter_name_exact procedure args) (λ n. then_exact (mark_exact sorts.ARROW) (λ _. then_exact (value_for_exact n.1) (λ v. gives_exact {A = Found} (record { name = Some n.0; value = v.0 }, v.1)) refl) refl) refl)
    (placed_exact (next_place procedure args)) refl refl refl)
    refl refl refl refl

pub next_arg_exact : (procedure : Procedure) (args : List Arg) → Exact (next_arg procedure args) (next_arg_at procedure args) (item_shape (sorts.COMMA ∷ []) [])
next_arg_exact procedure args = loosened (item_shape (sorts.COMMA ∷ []) []) (then_exact (mark_exact sorts.COMMA) (λ _. arg_exact procedure args) refl) refl refl refl refl

abbrev pub Args : Type 0
Args = List Arg × Option Cond

pub arguments_exact : (procedure : Procedure) → Exact (arguments procedure) (arguments_at procedure) (solid arg_sorts (sorts.COMMA ∷ []) [])
unfolding arguments arguments_at
arguments_exact procedure =
    loosened (solid arg_sorts (sorts.COMMA ∷ []) [])
    (then_exact (arg_exact procedure []) (λ first. then_exact (many_from_exact one_more (λ _. sorts.COMMA ∷ []) (sorts.COMMA ∷ []) [] (next_arg_exact procedure) (λ _. refl) refl (first.0 ∷ []))
    (λ others. gives_exact {A = Args} (gathered (first.0 ∷ [], first.1) others)) refl) refl)
    refl refl refl refl

pub parenthesis_exact : (procedure : Procedure) → Exact (parenthesis procedure) (parenthesis_at procedure) (solid (sorts.CLOSE ∷ arg_sorts) [] [])
unfolding parenthesis parenthesis_at
parenthesis_exact procedure =
    loosened (solid (sorts.CLOSE ∷ arg_sorts) [] [])
    (or_exact (then_exact (mark_exact sorts.CLOSE) (λ _. gives_exact {A = Args} ([], None)) refl) (then_exact (arguments_exact procedure) (λ found. then_exact (mark_exact sorts.CLOSE) (λ _. gives_exact found) refl) refl) refl refl refl)
    refl refl refl refl

abbrev pub arguments_shape : Shape
arguments_shape = record { empty = true; first = sorts.OPEN ∷ []; next = sorts.OPEN ∷ []; sure = [] }

pub arguments_of_exact : (procedure : Procedure) → Exact (arguments_of procedure) (arguments_of_at procedure) arguments_shape
unfolding arguments_of arguments_of_at
arguments_of_exact procedure =
    loosened arguments_shape (or_exact (then_exact (mark_exact sorts.OPEN) (λ _. parenthesis_exact procedure) refl) (gives_exact {A = Args} ([], None)) refl refl refl) refl refl refl refl

pub package_call_exact : Exact package_call package_call_at (solid (sorts.DBMS_WM ∷ []) (sorts.OPEN ∷ []) (sorts.DBMS_WM ∷ []))
unfolding package_call package_call_at
package_call_exact =
    loosened (solid (sorts.DBMS_WM ∷ []) (sorts.OPEN ∷ []) (sorts.DBMS_WM ∷ []))
    (then_exact (mark_exact sorts.DBMS_WM) (λ _. then_exact (mark_exact sorts.DOT) (λ _. then_exact (one_for_exact sorts.ID (λ t. with_name t (procedure_of t.text))) (λ n. then_exact (arguments_of_exact n.1) (λ found.
    gives_exact (trees.Call n.0 found.0 found.1)) refl) refl) refl) refl)
    refl refl refl refl

abbrev pub call_sorts : List ℕ
call_sorts = sorts.EXECUTE ∷ sorts.EXEC ∷ []

pub call_exact : Exact call call_at (solid call_sorts (sorts.OPEN ∷ []) call_sorts)
unfolding call call_at
call_exact =
    loosened (solid call_sorts (sorts.OPEN ∷ []) call_sorts)
    (or_exact (then_exact (mark_exact sorts.EXECUTE) (λ _. package_call_exact) refl) (then_exact (mark_exact sorts.EXEC) (λ _. package_call_exact) refl) refl refl refl)
    refl refl refl refl
