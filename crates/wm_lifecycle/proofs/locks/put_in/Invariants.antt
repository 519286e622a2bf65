use Rattle.std.proofs.Common.{◌≡◌, ◌||◌, ℕ, drop}
use Rattle.wm_state.specs.Batches.{is_dropped}
use Rattle.wm_lifecycle.proofs.locks.put_in.Given as goal

abbrev pub invariant-loop-id : goal.invariant-loop-id
invariant-loop-id l = (id : ℕ) → (is_dropped l.set.keys id || is_dropped (drop l.id-index l.ids) id) ≡ (is_dropped l.initial.set.keys id || is_dropped l.ids id)
