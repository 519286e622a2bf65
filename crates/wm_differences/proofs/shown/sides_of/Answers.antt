use Rattle.wm_graph.specs.Parts.{parts_of}
use Rattle.wm_pending.specs.declared.sides.Sides.{Sides}
use Rattle.wm_differences.proofs.Comparing.{laid_seen, sides_differ}
use Rattle.wm_differences.specs.Shown.{versions_of}
use Rattle.wm_differences.proofs.shown.sides_of.Goals as goal

pub returns : goal.returns
returns c = λ table key hold.
    let s : Sides = record { contested = c.in_ok-contested.contested; base = c.in_ok-base.base; parent = c.in_ok-parent.parent; child = c.in_ok-child.child } in
    sides_differ (parts_of c.args.image.now) (versions_of c.args.versions) table key c.requires.rules s c.in_ok-contested.ensures
    (laid_seen c.args.image.now table key c.args.held.now c.args.versions.base s.base hold c.in_ok-base.ensures)
    (laid_seen c.args.image.now table key c.args.held.now c.args.versions.first s.parent hold c.in_ok-parent.ensures)
    (laid_seen c.args.image.now table key c.args.held.now c.args.versions.second s.child hold c.in_ok-child.ensures)
