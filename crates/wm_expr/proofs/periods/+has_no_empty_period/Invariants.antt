use Rattle.std.proofs.Common.{◌≡◌, ◌≤◌}
use Rattle.wm_syntax.specs.Views.{expr_view}
use Rattle.wm_spec.specs.Expressions.{has_no_empty_period}
use Rattle.wm_syntax.specs.declared.expr.Expr.{size-Expr}
use Rattle.wm_expr.proofs.periods.+has_no_empty_period.Given as goal

abbrev pub invariant-loop-rest : goal.invariant-loop-rest
invariant-loop-rest l = record {
  same : has_no_empty_period (expr_view l.rest) ≡ has_no_empty_period (expr_view l.initial.rest);
  no_deeper : size-Expr l.rest ≤ size-Expr l.initial.rest;
}
