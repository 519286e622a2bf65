use Rattle.std.proofs.Common.{◌≡◌, ℕ, cond, is_some, Some}
use Rattle.wm_heap.specs.Content.{bytes_at}
use Rattle.wm_heap.specs.Places.{at}
use Rattle.wm_heap.proofs.load.place_each.Given as goal

abbrev pub invariant-loop-slot : goal.invariant-loop-slot
invariant-loop-slot l = (id : ℕ) → cond (is_some (bytes_at l.slot-iterator id)) (Some l.page) (at l.places.entries id) ≡ cond (is_some (bytes_at l.slots id)) (Some l.page) (at l.fn.places.entries id)
