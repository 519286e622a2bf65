use Rattle.std.proofs.Common.{◌==◌, List, length, sym, ap, ◌∙◌}
use Rattle.wm_graph.specs.Parts.{parts_of}
use Rattle.wm_period.specs.declared.piece.Piece.{Piece}
use Rattle.wm_pending.proofs.Clashing.{sides_none, sides_tell}
use Rattle.wm_pending.proofs.Fronting.{empty_holds}
use Rattle.wm_pending.specs.declared.sides.Sides.{Sides}
use Rattle.wm_pending.proofs.clash.sides_of.Goals as goal

pub returns-then-is_empty : goal.returns-then-is_empty
returns-then-is_empty c =
    let s : Sides = record { contested = c.in_ok-contested.contested; base = c.new.result; parent = c.new-then-is_empty.result; child = c.new-then-is_empty-2.result } in
    sides_none (parts_of c.args.image.now) c.args.asked c.args.own.now s c.requires.order c.in_ok-contested.ensures
    (empty_holds c.in_ok-contested.contested (ap (λ (ps : List Piece). length ps == 0) (sym c.list.ensures.value) ∙ sym c.is_empty.ensures ∙ c.if-is_empty.true))

pub returns : goal.returns
returns c =
    let s : Sides = record { contested = c.in_ok-contested.contested; base = c.in_ok-base.base; parent = c.in_ok-parent.parent; child = c.in_ok-child.child } in
    sides_tell (parts_of c.args.image.now) c.args.asked c.args.own.now s c.requires.order c.list.ensures.in_order c.in_ok-contested.ensures c.in_ok-base.ensures c.in_ok-parent.ensures c.in_ok-child.ensures
