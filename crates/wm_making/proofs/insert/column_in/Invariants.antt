use Rattle.std.proofs.Common.{◌≡◌, drop}
use Rattle.wm_syntax.specs.Views.{exprs_view}
use Rattle.wm_making.specs.Inserting.{column_in}
use Rattle.wm_making.proofs.insert.column_in.Given as goal

abbrev pub invariant-loop-value : goal.invariant-loop-value
invariant-loop-value l = column_in (exprs_view l.values) ≡ column_in (exprs_view (drop l.value-index l.values))
