use Rattle.wm_graph.specs.Parts.{parts_of}
use Rattle.wm_pending.proofs.Keyed.{Gathered}
use Rattle.wm_pending.proofs.own.own_pieces.Given as goal

abbrev pub invariant-loop-table : goal.invariant-loop-table
invariant-loop-table l = Gathered (parts_of l.image) l.space l.yielded l.own.items
