use Rattle.std.proofs.Common.{◌≡◌, ◌≤◌}
use Rattle.wm_syntax.specs.Views.{cond_view}
use Rattle.wm_syntax.specs.declared.cond.Cond.{size-Cond}
use Rattle.wm_calls.specs.Empty.{cond_has_empty}
use Rattle.wm_calls.proofs.empty.+cond_has_empty.Given as goal

abbrev pub invariant-loop-rest : goal.invariant-loop-rest
invariant-loop-rest l = record {
  same : cond_has_empty (cond_view l.rest) ≡ cond_has_empty (cond_view l.initial.rest);
  no_deeper : size-Cond l.rest ≤ size-Cond l.initial.rest;
}
