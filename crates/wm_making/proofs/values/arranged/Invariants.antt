use Rattle.std.proofs.Common.{◌≡◌, take}
use Rattle.std.specs.Prelude.{map}
use Rattle.wm_spec.specs.declared.record.column.TableColumn.{TableColumn}
use Rattle.wm_making.specs.Rows.{value_named}
use Rattle.wm_making.proofs.values.arranged.Given as goal

abbrev pub invariant-loop-column : goal.invariant-loop-column
invariant-loop-column l = l.row.items ≡ map (λ (c : TableColumn). value_named l.names l.values c.name) (take l.column-index l.columns)
