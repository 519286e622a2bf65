use Rattle.std.proofs.Common.{◌≡◌, ◌++◌, map, take, drop}
use Rattle.wm_syntax.specs.Views.{exprs_view}
use Rattle.wm_timed.specs.Timed.{timed_expr}
use Rattle.wm_timed.proofs.expressions.set_exprs.Given as goal

abbrev pub invariant-loop-expr : goal.invariant-loop-expr
invariant-loop-expr l = exprs_view (take l.expr-index l.exprs) ++ map (timed_expr l.moment) (exprs_view (drop l.expr-index l.exprs)) ≡ map (timed_expr l.moment) (exprs_view l.initial.exprs)
