use Rattle.std.specs.Vec.Iter.{into_iter_items, into_iter_len}
use Rattle.wm_syntax.specs.Views.{sets_view}
use Rattle.wm_dml.proofs.Shifted.{Moving}
use Rattle.wm_dml.proofs.moving.all_moves.Given as goal

abbrev pub invariant-loop-old : goal.invariant-loop-old
invariant-loop-old l =
    Moving l.table (sets_view l.sets) l.olds l.fn.rows.items l.moves.items l.old-iterator.a.rest.now (into_iter_items l.old-iterator.b) (into_iter_len l.old-iterator.b)
