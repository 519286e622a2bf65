use Rattle.std.proofs.lemmas.Result.{on_ok_weaker}
use Rattle.wm_ids.proofs.Versioning.{more_ids}
use Rattle.wm_ids.specs.Ids.{placed}
use Rattle.wm_index.proofs.Changing.{piece_changed}
use Rattle.wm_index.specs.Sought.{PieceAt}
use Rattle.wm_index.proofs.index.Index.add_piece.Goals as goal

pub add_piece_id-requires-clause-ascend : goal.add_piece_id-requires-clause-ascend
add_piece_id-requires-clause-ascend c = c.requires.ascend (PieceAt c.args.piece.now.cells.table c.args.piece.now.cells.key c.args.piece.now.version)

pub returns-clause-ids : goal.returns-clause-ids
returns-clause-ids c =
    on_ok_weaker c.add_piece_id.result
    (λ changed. piece_changed (placed c.args.id) c.args.self.now c.add_among.new.map c.add_piece_id.new.tables c.args.piece.now c.in_ok-add_among.ensures
    (more_ids c.args.self.now.pieces.entries c.add_piece_id.new.tables.entries c.args.id c.args.piece.now changed))
    c.add_piece_id.ensures
