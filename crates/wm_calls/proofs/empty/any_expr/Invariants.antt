use Rattle.std.proofs.Common.{◌≡◌, drop}
use Rattle.std.specs.List.{list_any}
use Rattle.wm_syntax.specs.Views.{exprs_view}
use Rattle.wm_calls.specs.Empty.{expr_has_empty}
use Rattle.wm_calls.proofs.empty.any_expr.Given as goal

abbrev pub invariant-loop-expr : goal.invariant-loop-expr
invariant-loop-expr l = list_any expr_has_empty (exprs_view l.exprs) ≡ list_any expr_has_empty (exprs_view (drop l.expr-index l.exprs))
