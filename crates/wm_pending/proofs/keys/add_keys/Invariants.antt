use Rattle.std.proofs.Common.{◌≡◌, ◌||◌}
use Rattle.std.specs.BTreeSet.{contains}
use Rattle.wm_graph.specs.Parts.{as_piece}
use Rattle.wm_index.specs.Kinds.{kind_at}
use Rattle.wm_index.specs.Sought.{PiecesIn, ids_with, is_sought}
use Rattle.wm_pending.specs.Keys.{Place, has_piece_of, place_order}
use Rattle.wm_pending.proofs.keys.add_keys.Given as goal

abbrev pub invariant-loop-id : goal.invariant-loop-id
invariant-loop-id l =
    (q : Place) → (contains place_order l.keys q || has_piece_of q (kind_at as_piece l.image l.id-iterator)) ≡ (contains place_order l.fn.keys q || has_piece_of q (kind_at as_piece l.image (ids_with (is_sought (PiecesIn l.version)) l.image)))
