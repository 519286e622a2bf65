use Rattle.std.proofs.Common.{◌≡◌, ◌≤◌, ◌++◌, length, take}
use Rattle.wm_heap.specs.Places.{ids_of}
use Rattle.wm_heap.proofs.ids.Ids.set.Given as goal

abbrev pub invariant-loop-slot : goal.invariant-loop-slot
invariant-loop-slot l = record {
  put : take l.count l.self-inside.list.items ++ ids_of l.slot-iterator ≡ ids_of l.slots;
  within : l.count ≤ length l.self-inside.list.items;
}
