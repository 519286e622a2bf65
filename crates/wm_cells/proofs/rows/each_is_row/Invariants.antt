use Rattle.std.proofs.Common.{◌≡◌, drop}
use Rattle.std.specs.List.{list_all}
use Rattle.wm_cells.specs.Lookups.{found, referred}
use Rattle.wm_graph.specs.Rules.{is_row}
use Rattle.wm_cells.proofs.rows.each_is_row.Given as goal

abbrev pub invariant-loop-row : goal.invariant-loop-row
invariant-loop-row l = list_all (is_row (found l.tables.entries) l.next) (referred l.rows) ≡ list_all (is_row (found l.tables.entries) l.next) (referred (drop l.row-index l.rows))
