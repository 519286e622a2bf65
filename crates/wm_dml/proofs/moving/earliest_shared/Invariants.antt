use Rattle.std.proofs.Common.{◌≡◌, drop}
use Rattle.wm_dml.specs.Moving.{shared_with, earliest}
use Rattle.wm_dml.proofs.moving.earliest_shared.Given as goal

abbrev pub invariant-loop-span : goal.invariant-loop-span
invariant-loop-span l = earliest l.fn.best (shared_with l.period l.spans) ≡ earliest l.best (shared_with l.period (drop l.span-index l.spans))
