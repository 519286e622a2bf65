use Rattle.std.proofs.Common.{not, eqb, filter, ap, ◌∙◌}
use Rattle.wm_heap.specs.declared.slot.Slot.{Slot}
use Rattle.wm_heap.proofs.Packed.{packed_again, slots_at-packed}
use Rattle.wm_heap.proofs.slot.Slots.without.Goals as goal

pub invariant_of-slots : goal.invariant_of-slots
invariant_of-slots c = packed_again _ _ _ c.drop_slots.ensures

pub returns : goal.returns
returns c = slots_at-packed _ _ _ c.drop_slots.ensures ∙ ap (λ l. filter (λ (s : Slot). not (eqb s.id c.args.id)) l) c.slots.view_is
