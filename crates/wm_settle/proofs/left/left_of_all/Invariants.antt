use Rattle.std.proofs.Common.{◌≡◌}
use Rattle.std.specs.List.{flat_map}
use Rattle.wm_settle.specs.Leaving.{left_of}
use Rattle.wm_settle.proofs.left.left_of_all.Given as goal

abbrev pub invariant-loop-mark : goal.invariant-loop-mark
invariant-loop-mark l = l.news.items ≡ flat_map (left_of l.image l.space l.place) l.yielded
