-- the pieces that were gone through are behind the others
use Rattle.std.proofs.Common.{◌≡◌, ◌++◌, map, take}
use Rattle.wm_spec.specs.declared.record.Record.TheVariants as records
use Rattle.wm_state.specs.Copied.{piece_for}
use Rattle.wm_replay.proofs.rebases.push_key.Given as goal

abbrev pub invariant-loop-piece : goal.invariant-loop-piece
invariant-loop-piece l = l.news.items ≡ l.initial.news.items ++ map records.Piece (map (piece_for l.version l.own.table l.own.key) (take l.piece-index l.own.pieces))
