use Rattle.std.proofs.Common.{◌≡◌, drop}
use Rattle.std.specs.List.{list_all}
use Rattle.wm_cells.specs.Lookups.{referred}
use Rattle.wm_graph.specs.Rules.{is_table}
use Rattle.wm_rules.proofs.tables.each_is_table.Given as goal

abbrev pub invariant-loop-table : goal.invariant-loop-table
invariant-loop-table l = list_all is_table (referred l.tables) ≡ list_all is_table (referred (drop l.table-index l.tables))
