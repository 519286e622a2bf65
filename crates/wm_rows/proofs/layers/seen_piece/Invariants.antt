use Rattle.std.proofs.Common.{◌≡◌}
use Rattle.wm_rows.specs.Maps.{maps_of}
use Rattle.wm_rows.specs.Rows.{nearest}
use Rattle.wm_tree.specs.Versions.{path_in}
use Rattle.wm_rows.proofs.layers.seen_piece.Given as goal

abbrev pub invariant-loop-version : goal.invariant-loop-version
invariant-loop-version l = nearest (maps_of l.layers.entries) l.version-iterator l.row l.at ≡ nearest (maps_of l.layers.entries) (path_in l.tree.versions l.fn.version) l.row l.at
