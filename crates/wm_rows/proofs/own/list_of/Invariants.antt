use Rattle.wm_rows.proofs.Listing.{Flattening}
use Rattle.wm_rows.proofs.own.list_of.Given as goal

abbrev pub invariant-loop-row : goal.invariant-loop-row
invariant-loop-row l = Flattening l.layer.entries l.row-iterator l.list.items
