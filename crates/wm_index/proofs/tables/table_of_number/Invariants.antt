-- those that were gone through are not of the number
use Rattle.std.proofs.Common.{◌≡◌, ◌==◌, drop}
use Rattle.std.specs.List.{find}
use Rattle.wm_graph.specs.Parts.{as_table}
use Rattle.wm_index.specs.Indexed.{listed}
use Rattle.wm_index.specs.Kinds.{kind_at}
use Rattle.wm_spec.specs.declared.record.table.Table.{Table}
use Rattle.wm_index.proofs.tables.table_of_number.Given as goal

abbrev pub invariant-loop-id : goal.invariant-loop-id
invariant-loop-id l =
    find (λ (t : Table). t.number == l.number) (kind_at as_table (listed l.kept.entries) (drop l.id-index l.ids)) ≡ find (λ (t : Table). t.number == l.number) (kind_at as_table (listed l.kept.entries) l.ids)
