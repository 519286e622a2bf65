use Rattle.std.proofs.Common.{◌≡◌, ◌++◌, drop}
use Rattle.std.specs.Prelude.{option_map}
use Rattle.wm_syntax.specs.Views.{sets_view}
use Rattle.wm_dml.specs.Changing.{updated_rows}
use Rattle.wm_dml.proofs.updated.all_updated.Given as goal

abbrev pub invariant-loop-row : goal.invariant-loop-row
invariant-loop-row l = updated_rows l.table (sets_view l.sets) l.rows ≡ option_map (λ rows. l.made.items ++ rows) (updated_rows l.table (sets_view l.sets) (drop l.row-index l.rows))
