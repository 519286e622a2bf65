use Rattle.wm_heap.proofs.Knowing.{knows_next}
use Rattle.wm_heap.proofs.heap.Heap.keep_slots.Goals as goal

pub returns-clause-room : goal.returns-clause-room
returns-clause-room c = λ all is from knows.
    knows_next c.prefer.new.self c.keep.new.self all c.args.page c.left.result c.args.slots.now (c.prefer.ensures all c.args.page knows) c.in_ok-keep.ensures c.left.ensures is from
