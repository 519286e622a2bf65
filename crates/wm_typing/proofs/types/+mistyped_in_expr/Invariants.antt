use Rattle.std.proofs.Common.{◌≡◌, ◌≤◌, option_copied}
use Rattle.std.specs.Option.{option_or}
use Rattle.wm_syntax.specs.Views.{expr_view}
use Rattle.wm_syntax.specs.declared.expr.Expr.{size-Expr}
use Rattle.wm_typing.specs.Types.{mistyped_in_expr}
use Rattle.wm_typing.proofs.types.+mistyped_in_expr.Given as goal

abbrev pub invariant-loop-rest : goal.invariant-loop-rest
invariant-loop-rest l = record {
  same : option_or (mistyped_in_expr l.columns (expr_view l.rest)) (option_copied l.found) ≡ mistyped_in_expr l.columns (expr_view l.initial.rest);
  no_deeper : size-Expr l.rest ≤ size-Expr l.initial.rest;
}
