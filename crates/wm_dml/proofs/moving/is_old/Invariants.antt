use Rattle.std.proofs.Common.{◌≡◌, drop}
use Rattle.std.specs.List.{list_any}
use Rattle.wm_base.specs.Period.{equals}
use Rattle.wm_dml.specs.declared.moving.Shift.{Shift}
use Rattle.wm_dml.proofs.moving.is_old.Given as goal

abbrev pub invariant-loop-shift : goal.invariant-loop-shift
invariant-loop-shift l = list_any (λ (s : Shift). equals s.old l.span) l.shifts ≡ list_any (λ (s : Shift). equals s.old l.span) (drop l.shift-index l.shifts)
