use Rattle.std.proofs.Common.{◌≡◌, drop}
use Rattle.std.specs.Str.{bytes_eq}
use Rattle.wm_graph.specs.Rules.{differ}
use Rattle.wm_cells.proofs.names.names_differ.Given as goal

abbrev pub invariant-loop-place : goal.invariant-loop-place
invariant-loop-place g l =
    differ (λ x y. bytes_eq (g.T.Named.name_of x) (g.T.Named.name_of y)) l.items ≡ differ (λ x y. bytes_eq (g.T.Named.name_of x) (g.T.Named.name_of y)) (drop l.place l.items)
