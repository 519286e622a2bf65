use Rattle.std.proofs.Common.{◌≡◌, ◌++◌, drop}
use Rattle.wm_view_rows.specs.Rows.{key_values}
use Rattle.wm_view_rows.proofs.rows.push_key.Given as goal

abbrev pub invariant-loop-place : goal.invariant-loop-place
invariant-loop-place l =
    l.values ++ key_values l.table.key_columns l.key l.place (drop l.place l.table.columns)
    ≡ l.initial.values ++ key_values l.table.key_columns l.key 0 l.table.columns
