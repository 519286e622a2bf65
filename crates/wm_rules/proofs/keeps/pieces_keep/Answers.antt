use Rattle.std.proofs.Common.{sym, ◌∙◌}
use Rattle.wm_rules.proofs.Keeping.{pieces_last}
use Rattle.wm_cells.specs.Lookups.{found, referred}
use Rattle.wm_rules.proofs.keeps.pieces_keep.Goals as goal

pub are_apart-requires : goal.are_apart-requires
are_apart-requires c =
    pieces_last (found c.args.indexes.now.tables.index.entries) (found c.args.indexes.now.versions.index.entries) (found c.args.indexes.now.rows.index.entries) c.args.next (referred c.as_slice-list.result.now) (sym c.each_is_piece.ensures ∙ c.if-not-each_is_piece.false)
