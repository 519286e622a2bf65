use Rattle.wm_graph.specs.Parts.{parts_of}
use Rattle.wm_history.proofs.Laying.{HeldTo}
use Rattle.wm_history.proofs.dated.born.Given as goal

abbrev pub invariant-loop-key : goal.invariant-loop-key
invariant-loop-key l = HeldTo (parts_of l.image) l.space.birth_version l.table.number l.initial.key-iterator l.key-iterator l.laid.entries
