use Rattle.std.proofs.Common.{refl, None}
use Rattle.wm_heap.proofs.Standing.{puts_set}
use Rattle.wm_heap.proofs.heap.Heap.take_out.Goals as goal

pub returns-clause-puts : goal.returns-clause-puts
returns-clause-puts c =
    puts_set c.args.page c.args.id c.args.slots None c.args.self.now c.set_slots.new.self (record { ids = c.set_slots.new.self.ids; places = c.clear_page_of.new.places; room = c.set_slots.new.self.room }) c.args.changed.now.entries c.set_slots.new.changed.entries
    c.in_ok-set_slots.ensures.ok c.in_ok-set_slots.ensures.places refl c.clear_page_of.ensures
