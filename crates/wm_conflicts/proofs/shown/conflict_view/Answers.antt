use Rattle.std.proofs.Common.{List, map, subst, sym}
use Rattle.wm_graph.specs.Parts.{parts_of}
use Rattle.wm_telling.specs.Telling.{AreOwn}
use Rattle.wm_pending.specs.Clashes.{AreConflicts}
use Rattle.wm_pending.specs.Owned.{key_pieces}
use Rattle.wm_pending.specs.declared.clash.Conflict.{Conflict}
use Rattle.wm_pending.specs.declared.own.OwnKey.{OwnKey}
use Rattle.wm_conflicts.proofs.Showing.{shown_all, shown_more}
use Rattle.wm_conflicts.proofs.shown.conflict_view.Goals as goal

pub conflicts-requires-clause-own : goal.conflicts-requires-clause-own
conflicts-requires-clause-own c =
    subst (λ (ks : List OwnKey). AreOwn (parts_of c.args.image.now) c.args.space.now (map key_pieces ks)) (sym c.as_slice.ensures.value) c.in_ok-own.ensures

pub loop-conflict-preserved : goal.loop-conflict-preserved
loop-conflict-preserved c =
    shown_more (parts_of c.args.image.now) c.args.space.now c.args.parent.now c.args.table.now c.deref-conflict-items.result.now c.loop-conflict.conflict-index c.conflict-item.result c.loop-conflict.rows
    c.push_conflict.new.rows c.loop-conflict-test.true c.conflict-item.is c.loop-conflict.invariant c.in_ok-push_conflict.ensures

pub returns : goal.returns
returns c =
    shown_all (parts_of c.args.image.now) c.args.space.now c.args.parent.now c.args.table.now c.deref-conflict-items.result.now c.loop-conflict.conflict-index c.loop-conflict.rows c.loop-conflict-test.false
    (subst (λ (cs : List Conflict). AreConflicts (parts_of c.args.image.now) c.args.space.now c.args.parent.now c.args.table.now.number cs) (sym c.deref-conflict-items.ensures.value) c.in_ok-found.ensures)
    c.loop-conflict.invariant
