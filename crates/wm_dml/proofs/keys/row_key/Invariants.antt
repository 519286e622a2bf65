use Rattle.std.proofs.Common.{◌≡◌, ◌++◌, drop}
use Rattle.std.specs.Prelude.{option_map}
use Rattle.wm_graph.specs.Rules.{values_at}
use Rattle.wm_dml.proofs.keys.row_key.Given as goal

abbrev pub invariant-loop-place : goal.invariant-loop-place
invariant-loop-place l = values_at l.table.key_columns l.row ≡ option_map (λ vs. l.key ++ vs) (values_at (drop l.place-index l.table.key_columns) l.row)
