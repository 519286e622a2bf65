use Rattle.std.proofs.Common.{◌≤◌, ◌-◌, length, take}
use Rattle.wm_period.specs.Pieces.{EndBy}
use Rattle.wm_period.proofs.parts.push_gap.Given as goal

abbrev pub invariant-loop-next : goal.invariant-loop-next
invariant-loop-next l = (l.rest ≤ l.next) × (l.next ≤ length l.lower) × EndBy l.till (take l.next l.lower)

abbrev pub decreases-loop-next : goal.decreases-loop-next
decreases-loop-next l = length l.lower - l.next
