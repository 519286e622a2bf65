use Rattle.std.proofs.Common.{◌≡◌}
use Rattle.std.specs.List.{list_all}
use Rattle.wm_graph.specs.Parts.{as_lock, parts_of}
use Rattle.wm_index.specs.Kinds.{kind_at}
use Rattle.wm_state.specs.Editing.{stays_held}
use Rattle.wm_state.specs.Standing.{locks_by_making}
use Rattle.wm_space.proofs.LocksHeld.{is_before}
use Rattle.wm_space.proofs.locks.are_before.Given as goal

abbrev pub invariant-loop-id : goal.invariant-loop-id
invariant-loop-id l = list_all (is_before l.place) (kind_at as_lock l.image l.id-iterator) ≡ list_all (stays_held l.space l.place) (locks_by_making (parts_of l.image).locks)
