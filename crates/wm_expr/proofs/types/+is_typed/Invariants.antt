use Rattle.std.proofs.Common.{◌≡◌, ◌≤◌}
use Rattle.wm_syntax.specs.Views.{cond_view}
use Rattle.wm_spec.specs.Conditions.{typed_in}
use Rattle.wm_syntax.specs.declared.cond.Cond.{size-Cond}
use Rattle.wm_expr.proofs.types.+is_typed.Given as goal

abbrev pub invariant-loop-rest : goal.invariant-loop-rest
invariant-loop-rest l = record {
  same : typed_in (cond_view l.rest) l.columns ≡ typed_in (cond_view l.initial.rest) l.columns;
  no_deeper : size-Cond l.rest ≤ size-Cond l.initial.rest;
}
