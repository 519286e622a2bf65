use Rattle.std.specs.Vec.Iter.{into_iter_items, into_iter_len}
use Rattle.wm_dml.proofs.Replacing.{Replacing}
use Rattle.wm_dml.proofs.replaced_rows.all_replaced.Given as goal

abbrev pub invariant-loop-old : goal.invariant-loop-old
invariant-loop-old l =
    Replacing l.table l.within l.olds l.rows.items l.changes.items l.old-iterator.a.rest.now (into_iter_items l.old-iterator.b) (into_iter_len l.old-iterator.b)
