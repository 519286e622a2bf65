use Rattle.std.proofs.Common.{◌≡◌, ◌≤◌}
use Rattle.wm_syntax.specs.Views.{expr_view}
use Rattle.wm_syntax.specs.declared.expr.Expr.{size-Expr}
use Rattle.wm_calls.specs.Empty.{expr_has_empty}
use Rattle.wm_calls.proofs.empty.+expr_has_empty.Given as goal

abbrev pub invariant-loop-rest : goal.invariant-loop-rest
invariant-loop-rest l = record {
  same : expr_has_empty (expr_view l.rest) ≡ expr_has_empty (expr_view l.initial.rest);
  no_deeper : size-Expr l.rest ≤ size-Expr l.initial.rest;
}
