use Rattle.std.proofs.Common.{◌≡◌, ℕ, ◌<◌, ◌&&◌, not, is_some, drop}
use Rattle.wm_base.specs.declared.instant.TheConstants.{END}
use Rattle.wm_graph.specs.Parts.{as_mark, parts_of}
use Rattle.wm_net.specs.Groups.{cell}
use Rattle.wm_period.specs.Pieces.{held_at}
use Rattle.wm_pending.proofs.Touching.{any_at}
use Rattle.wm_pending.specs.Lookups.{group_own}
use Rattle.wm_pending.specs.Settled.{settles_moment}
use Rattle.wm_pending.proofs.settled.erase_settled.Given as goal

abbrev pub invariant-loop-id : goal.invariant-loop-id
invariant-loop-id l = (t : ℕ) → t < END
    → (is_some (held_at l.pieces t) && not (any_at as_mark (settles_moment (parts_of l.image).touches l.marks l.touches (cell (group_own l.own) t)) l.image (drop l.id-index l.id-items)))
    ≡ (is_some (held_at l.fn.pieces t) && not (any_at as_mark (settles_moment (parts_of l.image).touches l.marks l.touches (cell (group_own l.own) t)) l.image l.id-items))
