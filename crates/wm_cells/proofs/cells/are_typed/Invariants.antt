use Rattle.wm_cells.proofs.Pairing.{Pairing}
use Rattle.wm_graph.specs.Rules.{is_typed}
use Rattle.wm_cells.proofs.cells.are_typed.Given as goal

abbrev pub invariant-loop-place : goal.invariant-loop-place
invariant-loop-place l = Pairing (is_typed l.columns) l.places l.values l.place-iterator.a.rest.now l.place-iterator.b.rest.now
