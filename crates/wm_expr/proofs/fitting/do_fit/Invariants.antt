use Rattle.std.proofs.Common.{◌≡◌, length}
use Rattle.wm_spec.specs.Operands.{fits_columns}
use Rattle.wm_expr.proofs.fitting.do_fit.Given as goal

abbrev pub invariant-loop-column : goal.invariant-loop-column
invariant-loop-column l = fits_columns l.columns l.values ≡ fits_columns l.fn.columns l.fn.values

abbrev pub decreases-loop-column : goal.decreases-loop-column
decreases-loop-column l = length l.columns
