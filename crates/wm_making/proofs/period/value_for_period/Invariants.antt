use Rattle.std.proofs.Common.{◌≡◌, drop}
use Rattle.wm_syntax.specs.Views.{exprs_view}
use Rattle.wm_making.specs.Inserting.{value_for_period}
use Rattle.wm_making.proofs.period.value_for_period.Given as goal

abbrev pub invariant-loop-place : goal.invariant-loop-place
invariant-loop-place l = value_for_period l.table l.names 0 (exprs_view l.values) ≡ value_for_period l.table l.names l.place (exprs_view (drop l.place l.values))
