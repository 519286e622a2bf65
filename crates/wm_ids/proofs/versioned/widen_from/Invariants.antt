use Rattle.std.proofs.Common.{◌≡◌, drop}
use Rattle.wm_ids.specs.Versioned.{Widens, widened_from}
use Rattle.wm_ids.proofs.versioned.widen_from.Given as goal

abbrev pub invariant-loop-index : goal.invariant-loop-index
invariant-loop-index l = record {
  same : widened_from l.piece l.index l.versions ≡ widened_from l.piece l.place l.initial.versions;
  widens : Widens (drop l.index l.versions);
}
