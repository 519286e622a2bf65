use Rattle.std.proofs.Common.{◌≡◌, ◌++◌, drop}
use Rattle.wm_append.specs.Layers.{view_of}
use Rattle.wm_index.specs.Kinds.{kind_at}
use Rattle.wm_append.proofs.redraw.push_pieces_at.Given as goal

abbrev pub invariant-loop-id : goal.invariant-loop-id
invariant-loop-id l = l.pieces.items ++ kind_at (view_of l.layer) l.image (drop l.id-index l.ids) ≡ l.fn.pieces.items ++ kind_at (view_of l.layer) l.image l.ids
