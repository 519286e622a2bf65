use Rattle.std.proofs.Common.{◌≡◌, ◌++◌, drop}
use Rattle.wm_dml.specs.Moving.{staying}
use Rattle.wm_dml.proofs.moving.staying_spans.Given as goal

abbrev pub invariant-loop-span : goal.invariant-loop-span
invariant-loop-span l = staying l.shifts l.spans ≡ l.stay.items ++ staying l.shifts (drop l.span-index l.spans)
