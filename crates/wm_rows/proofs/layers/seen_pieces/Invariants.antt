use Rattle.wm_rows.proofs.Paths.{Gathering}
use Rattle.wm_rows.specs.Maps.{maps_of}
use Rattle.wm_tree.specs.Versions.{path_in}
use Rattle.wm_rows.proofs.layers.seen_pieces.Given as goal

abbrev pub invariant-loop-version : goal.invariant-loop-version
invariant-loop-version l = Gathering (maps_of l.layers.entries) (path_in l.tree.versions l.fn.version) l.version-iterator l.row l.seen
