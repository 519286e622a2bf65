use Rattle.std.proofs.Common.{◌≡◌, drop, length}
use Rattle.wm_calls.specs.Faults.{before_from, misfit_from}
use Rattle.wm_calls.proofs.faults.misfit_before.Given as goal

abbrev pub invariant-loop-place : goal.invariant-loop-place
invariant-loop-place l =
    misfit_from l.procedure (length l.args) 0 (before_from l.procedure l.parameter (length l.args) 0 l.args)
    ≡ misfit_from l.procedure (length l.args) l.place (before_from l.procedure l.parameter (length l.args) l.place (drop l.place l.args))
