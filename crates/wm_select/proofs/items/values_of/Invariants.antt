use Rattle.std.proofs.Common.{◌≡◌, ◌++◌, drop, map, option_map}
use Rattle.wm_base.specs.declared.row.Row.{Row}
use Rattle.wm_syntax.specs.Views.{expr_view}
use Rattle.wm_spec.specs.Expressions.{value_of}
use Rattle.wm_select.specs.Query.{all_there}
use Rattle.wm_select.proofs.items.values_of.Given as goal

-- the values so far, and those of the rows that are left
abbrev pub invariant-loop-row : goal.invariant-loop-row
invariant-loop-row l =
    option_map (λ vs. l.values.items ++ vs) (all_there (map (λ (row : Row). value_of (expr_view l.expr) l.columns row) (drop l.row-index l.rows)))
    ≡ all_there (map (λ (row : Row). value_of (expr_view l.expr) l.columns row) l.rows)
