use Rattle.std.proofs.Common.{◌≡◌, ◌++◌, take}
use Rattle.wm_heap.specs.Places.{spots_on}
use Rattle.wm_heap.proofs.heap.push_spots.Given as goal

abbrev pub invariant-loop-id : goal.invariant-loop-id
invariant-loop-id l = l.spots ≡ l.fn.spots ++ spots_on l.page (take l.id-index l.ids)
