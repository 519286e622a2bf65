use Rattle.wm_rows.proofs.Paths.{GatheringOwn}
use Rattle.wm_rows.specs.Maps.{maps_of}
use Rattle.wm_tree.specs.Versions.{path_in}
use Rattle.wm_rows.proofs.layers.own_layer.Given as goal

abbrev pub invariant-loop-version : goal.invariant-loop-version
invariant-loop-version l = GatheringOwn (maps_of l.layers.entries) (path_in l.tree.versions l.fn.version) l.version-iterator l.base l.own.entries
