-- the first edit and those that were gone through are drafted
use Rattle.std.specs.Vec.Iter.{into_iter_items, into_iter_len}
use Rattle.wm_draft.proofs.Sequenced.{Goes}
use Rattle.wm_draft.proofs.drafting.draft_each.Given as goal

abbrev pub invariant-loop-edit : goal.invariant-loop-edit
invariant-loop-edit l = Goes l.fn.image l.fn.moment l.fn.edits.items l.yielded (into_iter_items l.edit-iterator) (into_iter_len l.edit-iterator) l.front l.last l.image
