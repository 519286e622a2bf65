use Rattle.std.proofs.Common.{◌≡◌, ◌++◌, ◌-◌, drop}
use Rattle.wm_heap.specs.Places.{spots_from, spots_of}
use Rattle.wm_heap.proofs.heap.Heap.spots.Given as goal

abbrev pub invariant-loop-page : goal.invariant-loop-page
invariant-loop-page l = l.spots ++ spots_from l.page (drop (l.page - 2) l.self.ids.items) ≡ spots_of l.self.ids.items
