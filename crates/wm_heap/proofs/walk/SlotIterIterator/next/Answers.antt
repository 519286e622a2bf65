use Rattle.std.proofs.Common.{sym, ◌∙◌}
use Rattle.wm_heap.proofs.Fronts.{slots_at-none, slots_at-no_slot, slots_at-slot, fewer_slots}
use Rattle.wm_heap.proofs.walk.SlotIterIterator.next.Goals as goal

pub returns-then-self-eq0-clause-steps : goal.returns-then-self-eq0-clause-steps
returns-then-self-eq0-clause-steps c =
    let empty = sym c.self.view_is ∙ slots_at-none c.self.inside.left c.self.inside.rest.now c.if-self-eq0.true in
    (empty, empty)

pub returns-in_err-slot-clause-steps : goal.returns-in_err-slot-clause-steps
returns-in_err-slot-clause-steps c =
    let empty = sym c.self.view_is ∙ slots_at-no_slot c.self.inside.left c.self.inside.rest.now (sym c.in_err-slot.ensures) in
    rw c.from_residual.ensures (empty, empty)

pub returns-clause-steps : goal.returns-clause-steps
returns-clause-steps c = sym c.self.view_is ∙ slots_at-slot c.self.inside.left c.self.inside.rest.now c.in_ok-slot.rest.now _ c.if-self-eq0.false (sym c.in_ok-slot.ensures)

pub returns-clause-goes : goal.returns-clause-goes
returns-clause-goes c = record {
  on = λ _. (tt, tt, fewer_slots _ _ _ (returns-clause-steps c));
  keeps = tt;
  rests = λ _. tt;
}
