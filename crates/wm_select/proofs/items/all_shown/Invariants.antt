use Rattle.std.proofs.Common.{◌≡◌, ◌++◌, drop, map, option_map}
use Rattle.wm_syntax.specs.Views.{projection_view}
use Rattle.wm_select.specs.Query.{all_there, shown_of}
use Rattle.wm_select.proofs.items.all_shown.Given as goal

-- what is shown so far, and what is left to show
abbrev pub invariant-loop-group : goal.invariant-loop-group
invariant-loop-group l =
    option_map (λ ss. l.shown.items ++ ss) (all_there (map (shown_of (projection_view l.projection) l.columns) (drop l.group-index l.groups)))
    ≡ all_there (map (shown_of (projection_view l.projection) l.columns) l.groups)
