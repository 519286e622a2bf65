use Rattle.std.proofs.Common.{◌≡◌, drop}
use Rattle.wm_cells.proofs.Weighing.{is_light_after}
use Rattle.wm_graph.specs.Rules.{values_at, is_light_key}
use Rattle.wm_cells.proofs.rows.are_light.Given as goal

abbrev pub invariant-loop-place : goal.invariant-loop-place
invariant-loop-place l = is_light_key (values_at l.places l.values) ≡ is_light_after l.total (values_at (drop l.place-index l.places) l.values)
