use Rattle.std.proofs.Common.{◌≡◌, ◌||◌, ℕ, drop}
use Rattle.std.specs.List.{list_any}
use Rattle.wm_index.specs.Sought.{LockAt, ids_with, is_sought}
use Rattle.wm_state.specs.Batches.{is_dropped}
use Rattle.wm_lifecycle.proofs.locks.ids_made_as.Given as goal

abbrev pub invariant-loop-making : goal.invariant-loop-making
invariant-loop-making l =
    (id : ℕ) → (is_dropped l.ids.keys id || list_any (λ making. is_dropped (ids_with (is_sought (LockAt making)) l.image) id) (drop l.making-index l.makings)) ≡ list_any (λ making. is_dropped (ids_with (is_sought (LockAt making)) l.image) id) l.makings
