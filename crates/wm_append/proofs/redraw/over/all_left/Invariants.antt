use Rattle.std.proofs.Common.{◌≡◌}
use Rattle.std.specs.List.{flat_map}
use Rattle.wm_state.specs.Drawing.{left_by}
use Rattle.wm_append.proofs.redraw.over.all_left.Given as goal

abbrev pub invariant-loop-piece : goal.invariant-loop-piece
invariant-loop-piece l = l.left.items ≡ flat_map (left_by l.over) l.yielded
