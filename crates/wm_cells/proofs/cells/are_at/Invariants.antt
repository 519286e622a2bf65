use Rattle.wm_cells.proofs.Pairing.{Pairing}
use Rattle.wm_cells.specs.Pairs.{is_at}
use Rattle.wm_cells.proofs.cells.are_at.Given as goal

abbrev pub invariant-loop-place : goal.invariant-loop-place
invariant-loop-place l = Pairing (is_at l.values) l.places l.key l.place-iterator.a.rest.now l.place-iterator.b.rest.now
