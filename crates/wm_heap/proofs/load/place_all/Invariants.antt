use Rattle.wm_heap.specs.Places.{at}
use Rattle.wm_heap.proofs.Loading.{Placing}
use Rattle.wm_heap.proofs.load.place_all.Given as goal

abbrev pub invariant-loop-slot : goal.invariant-loop-slot
invariant-loop-slot l = Placing (at l.fn.places.entries) (at l.places.entries) l.page l.slots l.slot-iterator
