use Rattle.std.proofs.Common.{◌≡◌, ◌<◌, true, false, not, length, ap, arith}
use Rattle.std.proofs.lemmas.Bool.{eq-eqb, ne_eqb}
use Rattle.std.proofs.lemmas.List.Filters.{FiltersInPlace-more_set, FiltersInPlace-more_no}
use Rattle.wm_tree.specs.Versions.{is_outside}
use Rattle.wm_tree.proofs.tree.drop_versions.Goals as goal
use Rattle.wm_tree.proofs.tree.drop_versions.Goals.{then-version-space, else-version-space}

pub loop-index-preserved : goal.loop-index-preserved
loop-index-preserved c =
    elim c.if-version-space.branch [
      | then-version-space w ↦
          let outside : is_outside c.args.space c.index-version.result.now ≡ true = ap not (ne_eqb _ _ w.if-version-space.true) in
          let within : c.loop-index.index < length c.loop-index.versions.items = omega arith in
          rw (w.versions-is, w.kept-is) (FiltersInPlace-more_set c.loop-index.invariant within outside c.index-version.ensures)
      | else-version-space w ↦
          let inside : is_outside c.args.space c.index-version.result.now ≡ false = ap not (eq-eqb _ _ w.if-version-space.false) in
          let within : c.loop-index.index < length c.loop-index.versions.items = omega arith in
          rw (w.versions-is, w.kept-is) (FiltersInPlace-more_no c.loop-index.invariant within inside c.index-version.ensures)
    ]
