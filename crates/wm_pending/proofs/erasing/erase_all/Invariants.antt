use Rattle.std.proofs.Common.{◌≡◌, ℕ, None, is_some, cond, drop}
use Rattle.wm_period.specs.Pieces.{held_at}
use Rattle.wm_pending.proofs.erasing.erase_all.Given as goal

abbrev pub invariant-loop-other : goal.invariant-loop-other
invariant-loop-other l = (t : ℕ) → cond (is_some (held_at (drop l.other-index l.others) t)) None (held_at l.pieces t) ≡ cond (is_some (held_at l.others t)) None (held_at l.fn.pieces t)
