use Rattle.std.proofs.lemmas.List.Filters.{FiltersInPlace}
use Rattle.wm_tree.specs.Versions.{is_outside}
use Rattle.wm_tree.proofs.tree.drop_versions.Given as goal

abbrev pub invariant-loop-index : goal.invariant-loop-index
invariant-loop-index l = FiltersInPlace (is_outside l.space) l.initial.versions.items l.versions.items l.kept l.index
