use Rattle.std.proofs.Common.{◌++◌, ◌∷◌, [], ◌∙◌, ap, subst, rules}
use Rattle.wm_codec.specs.Writing.{Appends}
use Rattle.wm_heap.specs.Slots.{slot}
use Rattle.wm_heap.proofs.Packed.{packed_again, packed_count, packed_more, slots_at-packed}
use Rattle.wm_heap.proofs.slot.Slots.push.Goals as goal

pub overflow_add-self : goal.overflow_add-self
overflow_add-self c =
    let few = packed_count _ _ c.self.inside.bytes c.self.invariant in
    search rules

pub invariant_of-self-2 : goal.invariant_of-self-2
invariant_of-self-2 c =
    let put = subst (λ bytes. Appends slot c.self.inside.bytes.items c.append_slot.new.bytes.items (record { id = c.args.slot.id; bytes = bytes })) c.as_slice.ensures c.in_ok-append_slot.ensures.ok in
    packed_again _ _ _ (packed_more _ _ c.self.inside.bytes.items c.append_slot.new.bytes.items c.args.slot c.self.invariant put)

pub returns-clause-ok : goal.returns-clause-ok
returns-clause-ok c =
    let put = subst (λ bytes. Appends slot c.self.inside.bytes.items c.append_slot.new.bytes.items (record { id = c.args.slot.id; bytes = bytes })) c.as_slice.ensures c.in_ok-append_slot.ensures.ok in
    slots_at-packed _ _ _ (packed_more _ _ c.self.inside.bytes.items c.append_slot.new.bytes.items c.args.slot c.self.invariant put) ∙ ap (λ slots. slots ++ c.args.slot ∷ []) c.self.view_is
