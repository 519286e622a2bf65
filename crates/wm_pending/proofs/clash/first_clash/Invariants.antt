use Rattle.std.proofs.Common.{take}
use Rattle.std.specs.List.{All}
use Rattle.wm_graph.specs.Parts.{parts_of}
use Rattle.wm_pending.proofs.Clashing.{Quiet}
use Rattle.wm_pending.proofs.clash.first_clash.Given as goal

abbrev pub invariant-loop-key : goal.invariant-loop-key
invariant-loop-key l = All (Quiet (parts_of l.image) l.space l.parent) (take l.key-index l.own)
