use Rattle.std.proofs.Common.{◌≡◌, ◌++◌}
use Rattle.std.specs.List.{flat_map}
use Rattle.wm_index.specs.Sought.{OwnedBy, ids_with, is_sought}
use Rattle.wm_lifecycle.specs.Gone.{with_pieces}
use Rattle.wm_lifecycle.proofs.removals.all_with_pieces.Given as goal

abbrev pub invariant-loop-id : goal.invariant-loop-id
invariant-loop-id l = l.all.items ++ flat_map (with_pieces l.image) l.id-iterator ≡ flat_map (with_pieces l.image) (ids_with (is_sought (OwnedBy l.space)) l.image)
