use Rattle.std.proofs.Common.{◌≡◌, drop}
use Rattle.wm_view_rows.specs.Rows.{key_value}
use Rattle.wm_view_rows.proofs.rows.key_value.Given as goal

abbrev pub invariant-loop-index : goal.invariant-loop-index
invariant-loop-index l = key_value (drop l.index l.places) (drop l.index l.key) l.place ≡ key_value l.places l.key l.place
