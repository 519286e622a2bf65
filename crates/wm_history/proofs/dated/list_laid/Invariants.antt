use Rattle.wm_graph.specs.Parts.{parts_of}
use Rattle.wm_history.proofs.Listing.{IsListedTo}
use Rattle.wm_history.proofs.dated.list_laid.Given as goal

abbrev pub invariant-loop-layers : goal.invariant-loop-layers
invariant-loop-layers l = IsListedTo (parts_of l.image) l.asked.table l.asked.valid l.asked.within l.initial.layers-iterator l.layers-iterator l.rows
