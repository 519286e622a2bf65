use Rattle.std.proofs.Common.{◌≡◌, ℕ, ◌<◌, ◌&&◌, not, is_some, drop}
use Rattle.wm_base.specs.declared.instant.TheConstants.{END}
use Rattle.wm_graph.specs.Parts.{as_touch}
use Rattle.wm_period.specs.Pieces.{held_at}
use Rattle.wm_pending.proofs.Touching.{any_at, covers_at}
use Rattle.wm_pending.proofs.touched.erase_touched.Given as goal

abbrev pub invariant-loop-id : goal.invariant-loop-id
invariant-loop-id l = (t : ℕ) → t < END
    → (is_some (held_at l.pieces t) && not (any_at as_touch (covers_at l.since t) l.image (drop l.id-index l.id-items)))
    ≡ (is_some (held_at l.fn.pieces t) && not (any_at as_touch (covers_at l.since t) l.image l.id-items))
