-- what is laid, and what is held above the base from the version on that comes next
use Rattle.std.proofs.Common.{◌≡◌, ℕ, ◌<◌}
use Rattle.std.specs.Option.{option_or}
use Rattle.wm_base.specs.declared.instant.TheConstants.{END}
use Rattle.wm_graph.specs.Parts.{parts_of}
use Rattle.wm_period.specs.Pieces.{held_at}
use Rattle.wm_state.specs.Standing.{seen_above}
use Rattle.wm_telling.specs.Telling.{own_held}
use Rattle.wm_pending.proofs.path.own_of_key.Given as goal

abbrev pub invariant-loop-version : goal.invariant-loop-version
invariant-loop-version l = (t : ℕ) → t < END
    → option_or (held_at l.own t) (seen_above (parts_of l.image) l.space.base_version l.number (record { table = l.table; key = l.key; time = t }))
    ≡ own_held (parts_of l.image) l.space (record { table = l.table; key = l.key; time = t })

abbrev pub decreases-loop-version : goal.decreases-loop-version
decreases-loop-version l = l.number
