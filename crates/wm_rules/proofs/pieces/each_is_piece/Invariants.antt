use Rattle.std.proofs.Common.{◌≡◌, drop}
use Rattle.std.specs.List.{list_all}
use Rattle.wm_cells.specs.Lookups.{found, referred}
use Rattle.wm_graph.specs.Rules.{is_piece}
use Rattle.wm_rules.proofs.pieces.each_is_piece.Given as goal

abbrev pub invariant-loop-piece : goal.invariant-loop-piece
invariant-loop-piece l = list_all (is_piece (found l.tables.entries) (found l.versions.entries) (found l.rows.entries) l.next) (referred l.pieces) ≡ list_all (is_piece (found l.tables.entries) (found l.versions.entries) (found l.rows.entries) l.next) (referred (drop l.piece-index l.pieces))
