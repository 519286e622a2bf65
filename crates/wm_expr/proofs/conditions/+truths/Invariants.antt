use Rattle.std.proofs.Common.{◌≡◌, ◌≤◌, ◌+◌, ◌*◌}
use Rattle.wm_base.specs.Truth.{truth_and, truth_or}
use Rattle.wm_syntax.specs.Views.{cond_view}
use Rattle.wm_spec.specs.Conditions.{truth_in}
use Rattle.wm_syntax.specs.declared.cond.Cond.{size-Cond}
use Rattle.wm_expr.proofs.conditions.+truths.Given as goal

abbrev pub decreases-truth_in : goal.decreases-truth_in
decreases-truth_in l = 2 * size-Cond l.cond.now

abbrev pub decreases-truth_with_or : goal.decreases-truth_with_or
decreases-truth_with_or l = 2 * size-Cond l.cond.now + 1

abbrev pub decreases-truth_with_and : goal.decreases-truth_with_and
decreases-truth_with_and l = 2 * size-Cond l.cond.now + 1

abbrev pub invariant-truth_with_or-chain : goal.invariant-truth_with_or-chain
invariant-truth_with_or-chain l = record {
  same : truth_or (truth_in (cond_view l.rest) l.columns l.row) l.truth ≡ truth_or (truth_in (cond_view l.initial.rest) l.columns l.row) l.initial.truth;
  no_deeper : size-Cond l.rest ≤ size-Cond l.initial.rest;
}

abbrev pub invariant-truth_with_and-chain : goal.invariant-truth_with_and-chain
invariant-truth_with_and-chain l = record {
  same : truth_and (truth_in (cond_view l.rest) l.columns l.row) l.truth ≡ truth_and (truth_in (cond_view l.initial.rest) l.columns l.row) l.initial.truth;
  no_deeper : size-Cond l.rest ≤ size-Cond l.initial.rest;
}
