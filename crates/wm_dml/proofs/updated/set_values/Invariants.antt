use Rattle.std.proofs.Common.{◌≡◌, ◌++◌, drop}
use Rattle.std.specs.Prelude.{option_map}
use Rattle.wm_syntax.specs.Views.{sets_view}
use Rattle.wm_dml.specs.Changing.{set_values}
use Rattle.wm_dml.proofs.updated.set_values.Given as goal

abbrev pub invariant-loop-place : goal.invariant-loop-place
invariant-loop-place l =
    set_values l.columns (sets_view l.sets) l.row l.declared l.row.values
    ≡ option_map (λ vs. l.made.items ++ vs) (set_values l.columns (sets_view l.sets) l.row (drop l.place l.declared) (drop l.place l.row.values))
