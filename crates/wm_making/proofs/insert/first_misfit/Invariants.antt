use Rattle.std.proofs.Common.{◌≡◌, drop}
use Rattle.wm_syntax.specs.Views.{exprs_view}
use Rattle.wm_making.specs.Inserting.{misfit_from}
use Rattle.wm_making.proofs.insert.first_misfit.Given as goal

abbrev pub invariant-loop-place : goal.invariant-loop-place
invariant-loop-place l = misfit_from l.table l.names 0 (exprs_view l.values) ≡ misfit_from l.table l.names l.place (exprs_view (drop l.place l.values))
