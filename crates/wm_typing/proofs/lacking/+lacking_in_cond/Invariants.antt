use Rattle.std.proofs.Common.{◌≡◌, ◌≤◌, option_copied}
use Rattle.std.specs.Option.{option_or}
use Rattle.wm_syntax.specs.Views.{cond_view}
use Rattle.wm_syntax.specs.declared.cond.Cond.{size-Cond}
use Rattle.wm_typing.specs.Lacking.{lacking_in_cond}
use Rattle.wm_typing.proofs.lacking.+lacking_in_cond.Given as goal

abbrev pub invariant-loop-rest : goal.invariant-loop-rest
invariant-loop-rest l = record {
  same : option_or (lacking_in_cond l.columns (cond_view l.rest)) (option_copied l.found) ≡ lacking_in_cond l.columns (cond_view l.initial.rest);
  no_deeper : size-Cond l.rest ≤ size-Cond l.initial.rest;
}
