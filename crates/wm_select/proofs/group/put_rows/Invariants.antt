use Rattle.std.proofs.Common.{◌∷◌}
use Rattle.wm_select.specs.Groups.{AreGrouped}
use Rattle.wm_select.proofs.group.put_rows.Given as goal

-- those that were taken are in their groups
abbrev pub invariant-loop-row : goal.invariant-loop-row
invariant-loop-row l = AreGrouped (l.first ∷ l.others) l.columns l.yielded l.groups.entries
