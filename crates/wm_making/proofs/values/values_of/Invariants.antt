use Rattle.std.proofs.Common.{◌≡◌, true, ◌++◌, drop}
use Rattle.std.specs.List.{list_all}
use Rattle.std.specs.Prelude.{option_map}
use Rattle.wm_syntax.specs.Views.{exprs_view}
use Rattle.wm_spec.specs.Expressions.{has_no_empty_period}
use Rattle.wm_making.specs.Rows.{values_of}
use Rattle.wm_making.proofs.values.values_of.Given as goal

abbrev pub invariant-loop-expr : goal.invariant-loop-expr
invariant-loop-expr l = record {
  lasting : list_all has_no_empty_period (exprs_view (drop l.expr-index l.exprs)) ≡ true;
  same : values_of (exprs_view l.exprs) ≡ option_map (λ vs. l.made.items ++ vs) (values_of (exprs_view (drop l.expr-index l.exprs)));
}
