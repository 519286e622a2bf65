use Rattle.std.proofs.Common.{◌≡◌, filter}
use Rattle.wm_syntax.specs.Views.{cond_view}
use Rattle.wm_spec.specs.Conditions.{truth_of, is_yes}
use Rattle.wm_dml.proofs.choosing.kept.Given as goal

abbrev pub invariant-loop-row : goal.invariant-loop-row
invariant-loop-row g l = l.kept.items ≡ filter (λ row. is_yes (truth_of (cond_view l.test.cond.now) l.test.columns.now row)) l.yielded
