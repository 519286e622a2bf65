use Rattle.std.proofs.Common.{◌++◌, ◌∷◌, [], ap, subst, refl, ◌∙◌, Some}
use Rattle.wm_heap.specs.Draft.{Puts}
use Rattle.wm_heap.proofs.Standing.{puts_set}
use Rattle.wm_heap.proofs.heap.Heap.put_behind.Goals as goal

pub returns-clause-puts : goal.returns-clause-puts
returns-clause-puts c =
    subst (λ slots. Puts c.args.page slots c.args.id (Some c.args.page) c.args.self.now (record { ids = c.set_slots.new.self.ids; places = c.set_page_of.new.places; room = c.set_slots.new.self.room }) c.args.changed.now.entries c.set_slots.new.changed.entries)
    (c.in_ok-push.ensures.ok ∙ ap (λ s. c.args.slots ++ s ∷ []) c.in_ok-slot_of.ensures)
    (puts_set c.args.page c.args.id c.push.new.self (Some c.args.page) c.args.self.now c.set_slots.new.self (record { ids = c.set_slots.new.self.ids; places = c.set_page_of.new.places; room = c.set_slots.new.self.room }) c.args.changed.now.entries c.set_slots.new.changed.entries
    c.in_ok-set_slots.ensures.ok c.in_ok-set_slots.ensures.places refl c.in_ok-set_page_of.ensures.ok)
