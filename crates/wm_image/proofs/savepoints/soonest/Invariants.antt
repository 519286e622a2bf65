use Rattle.std.proofs.Common.{◌≡◌, drop}
use Rattle.std.specs.Option.{option_copied}
use Rattle.wm_graph.specs.Parts.{as_savepoint}
use Rattle.wm_index.specs.Indexed.{listed}
use Rattle.wm_index.specs.Kinds.{kind_at}
use Rattle.wm_image.specs.Soonest.{sooner, soonest}
use Rattle.wm_image.proofs.savepoints.soonest.Given as goal

abbrev pub invariant-loop-id : goal.invariant-loop-id
invariant-loop-id l =
    sooner (option_copied l.soonest) (soonest l.date (kind_at as_savepoint (listed l.kept.entries) (drop l.id-index l.ids)))
    ≡ soonest l.date (kind_at as_savepoint (listed l.kept.entries) l.ids)
