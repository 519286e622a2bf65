use Rattle.std.proofs.Common.{◌≡◌, drop}
use Rattle.std.specs.List.{list_all}
use Rattle.wm_base.specs.declared.row.Row.{Row}
use Rattle.wm_making.specs.Rows.{is_filled}
use Rattle.wm_change.proofs.change.are_filled.Given as goal

abbrev pub invariant-loop-row : goal.invariant-loop-row
invariant-loop-row l = list_all (λ (r : Row). list_all is_filled r.values) l.rows ≡ list_all (λ (r : Row). list_all is_filled r.values) (drop l.row-index l.rows)
