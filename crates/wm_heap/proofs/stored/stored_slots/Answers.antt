use Rattle.std.proofs.Common.{sym, ◌∙◌, arith}
use Rattle.wm_heap.proofs.Sizes.{used-slots_of}
use Rattle.wm_heap.proofs.stored.stored_slots.Goals as goal

pub returns-in-Some-clause-room : goal.returns-in-Some-clause-room
returns-in-Some-clause-room g c =
    let fits = used-slots_of c.page.new.into c.in-Some.slots (sym c.in_ok-slots.ensures ∙ c.in-Some.is) in
    omega (arith, fits)
