use Rattle.std.proofs.Common.{take}
use Rattle.wm_history.specs.Laid.{IsPutOver}
use Rattle.wm_history.proofs.dated.put_all_early.Given as goal

abbrev pub invariant-loop-id : goal.invariant-loop-id
invariant-loop-id l = IsPutOver l.image (take l.id-index l.ids) l.date l.fn.laid.entries l.laid.entries
