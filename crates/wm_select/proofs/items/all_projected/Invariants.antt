use Rattle.std.proofs.Common.{◌≡◌, ◌++◌, [], ◌∷◌, drop, map, option_map}
use Rattle.wm_base.specs.declared.row.Row.{Row}
use Rattle.wm_syntax.specs.Views.{projection_view}
use Rattle.wm_select.specs.Query.{all_there, projected}
use Rattle.wm_select.proofs.items.all_projected.Given as goal

-- the rows so far, and those of the tuples that are left
abbrev pub invariant-loop-tuple : goal.invariant-loop-tuple
invariant-loop-tuple l =
    option_map (λ rs. l.rows.items ++ rs) (all_there (map (λ (t : Row). projected (projection_view l.projection) l.columns (t ∷ [])) (drop l.tuple-index l.tuples)))
    ≡ all_there (map (λ (t : Row). projected (projection_view l.projection) l.columns (t ∷ [])) l.tuples)
