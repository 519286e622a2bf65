use Rattle.std.proofs.Common.{ap}
use Rattle.wm_codec.specs.Spelling.{counters, table, space, version, savepoint, row, piece, trace, lock, hist, turn, spelling, HasSpelling}
use Rattle.wm_codec.proofs.Appending.{tagged}
use Rattle.wm_codec.proofs.write.put_record.Goals as goal

pub returns-in-Counters : goal.returns-in-Counters
unfolding spelling HasSpelling
returns-in-Counters c =
    tagged c.put_counters.result counters 1 _ _ _ _ c.in-Counters.counters c.args.what.now (ap spelling c.in-Counters.is) (λ fits. rw c.in-Counters.is fits) c.tag_of.ensures c.in_ok-push.ensures.ok c.put_counters.ensures

pub returns-in-Table : goal.returns-in-Table
unfolding spelling HasSpelling
returns-in-Table c =
    tagged c.put_table.result table 2 _ _ _ _ c.in-Table.table c.args.what.now (ap spelling c.in-Table.is) (λ fits. rw c.in-Table.is fits) c.tag_of.ensures c.in_ok-push.ensures.ok (rw c.get.ensures at c.put_table.ensures)

pub returns-in-Space : goal.returns-in-Space
unfolding spelling HasSpelling
returns-in-Space c =
    tagged c.put_space.result space 3 _ _ _ _ c.in-Space.space c.args.what.now (ap spelling c.in-Space.is) (λ fits. rw c.in-Space.is fits) c.tag_of.ensures c.in_ok-push.ensures.ok (rw c.get-in-Space.ensures at c.put_space.ensures)

pub returns-in-Version : goal.returns-in-Version
unfolding spelling HasSpelling
returns-in-Version c =
    tagged c.put_version.result version 4 _ _ _ _ c.in-Version.version c.args.what.now (ap spelling c.in-Version.is) (λ fits. rw c.in-Version.is fits) c.tag_of.ensures c.in_ok-push.ensures.ok c.put_version.ensures

pub returns-in-Savepoint : goal.returns-in-Savepoint
unfolding spelling HasSpelling
returns-in-Savepoint c =
    tagged c.put_savepoint.result savepoint 5 _ _ _ _ c.in-Savepoint.savepoint c.args.what.now (ap spelling c.in-Savepoint.is) (λ fits. rw c.in-Savepoint.is fits) c.tag_of.ensures c.in_ok-push.ensures.ok (rw c.get-in-Savepoint.ensures at c.put_savepoint.ensures)

pub returns-in-Row : goal.returns-in-Row
unfolding spelling HasSpelling
returns-in-Row c =
    tagged c.put_row.result row 6 _ _ _ _ c.in-Row.row c.args.what.now (ap spelling c.in-Row.is) (λ fits. rw c.in-Row.is fits) c.tag_of.ensures c.in_ok-push.ensures.ok c.put_row.ensures

pub returns-in-Piece : goal.returns-in-Piece
unfolding spelling HasSpelling
returns-in-Piece c =
    tagged c.put_piece.result piece 7 _ _ _ _ c.in-Piece.piece c.args.what.now (ap spelling c.in-Piece.is) (λ fits. rw c.in-Piece.is fits) c.tag_of.ensures c.in_ok-push.ensures.ok c.put_piece.ensures

pub returns-in-Touch : goal.returns-in-Touch
unfolding spelling HasSpelling
returns-in-Touch c =
    tagged c.put_trace.result trace 8 _ _ _ _ c.in-Touch.touch c.args.what.now (ap spelling c.in-Touch.is) (λ fits. rw c.in-Touch.is fits) c.tag_of.ensures c.in_ok-push.ensures.ok c.put_trace.ensures

pub returns-in-Lock : goal.returns-in-Lock
unfolding spelling HasSpelling
returns-in-Lock c =
    tagged c.put_lock.result lock 9 _ _ _ _ c.in-Lock.lock c.args.what.now (ap spelling c.in-Lock.is) (λ fits. rw c.in-Lock.is fits) c.tag_of.ensures c.in_ok-push.ensures.ok (rw c.get-in-Lock.ensures at c.put_lock.ensures)

pub returns-in-Hist : goal.returns-in-Hist
unfolding spelling HasSpelling
returns-in-Hist c =
    tagged c.put_hist.result hist 10 _ _ _ _ c.in-Hist.hist c.args.what.now (ap spelling c.in-Hist.is) (λ fits. rw c.in-Hist.is fits) c.tag_of.ensures c.in_ok-push.ensures.ok (rw c.get-in-Hist.ensures at c.put_hist.ensures)

pub returns-in-Mark : goal.returns-in-Mark
unfolding spelling HasSpelling
returns-in-Mark c =
    tagged c.put_trace-in-Mark.result trace 11 _ _ _ _ c.in-Mark.mark c.args.what.now (ap spelling c.in-Mark.is) (λ fits. rw c.in-Mark.is fits) c.tag_of.ensures c.in_ok-push.ensures.ok c.put_trace-in-Mark.ensures

pub returns-in-Turn : goal.returns-in-Turn
unfolding spelling HasSpelling
returns-in-Turn c =
    tagged c.put_turn.result turn 12 _ _ _ _ c.in-Turn.turn c.args.what.now (ap spelling c.in-Turn.is) (λ fits. rw c.in-Turn.is fits) c.tag_of.ensures c.in_ok-push.ensures.ok c.put_turn.ensures
