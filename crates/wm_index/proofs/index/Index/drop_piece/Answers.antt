use Rattle.wm_ids.proofs.Versioning.{less_ids}
use Rattle.wm_ids.specs.Ids.{without}
use Rattle.wm_index.proofs.Changing.{piece_changed}
use Rattle.wm_index.specs.Sought.{PieceAt}
use Rattle.wm_index.proofs.index.Index.drop_piece.Goals as goal

pub drop_piece_id-requires-clause-ascend : goal.drop_piece_id-requires-clause-ascend
drop_piece_id-requires-clause-ascend c = c.requires.ascend (PieceAt c.args.piece.now.cells.table c.args.piece.now.cells.key c.args.piece.now.version)

pub returns-clause-ids : goal.returns-clause-ids
returns-clause-ids c =
    piece_changed (without c.args.id) c.args.self.now c.drop_among.new.map c.drop_piece_id.new.tables c.args.piece.now c.drop_among.ensures
    (less_ids c.args.self.now.pieces.entries c.drop_piece_id.new.tables.entries c.args.id c.args.piece.now c.drop_piece_id.ensures)
