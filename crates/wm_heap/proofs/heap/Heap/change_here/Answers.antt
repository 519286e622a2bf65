use Rattle.std.proofs.Common.{ℕ, ◌≤◌, List, Option, sym, subst, arith}
use Rattle.wm_heap.specs.Draft.{Puts, slots_with, place_with}
use Rattle.wm_heap.specs.Slots.{used}
use Rattle.wm_heap.proofs.Sizes.{used-push}
use Rattle.wm_heap.proofs.Standing.{slot_with}
use Rattle.wm_heap.proofs.heap.Heap.change_here.Goals as goal

pub returns-in_default-clause-room : goal.returns-in_default-clause-room
returns-in_default-clause-room c = subst (λ (o : Option (List ℕ)). used (slots_with c.args.slots c.args.blob.now.id o) ≤ 4096) (sym c.in_default.is) c.requires.fits

pub returns-in_default-clause-puts : goal.returns-in_default-clause-puts
returns-in_default-clause-puts c =
    subst (λ (o : Option (List ℕ)). Puts c.args.page (slots_with c.args.slots c.args.blob.now.id o) c.args.blob.now.id (place_with c.args.page o) c.args.self.now c.take_out.new.self c.args.changed.now.entries c.take_out.new.changed.entries)
    (sym c.in_default.is) c.in_ok-take_out.ensures.puts

pub returns-then-stays-clause-room : goal.returns-then-stays-clause-room
returns-then-stays-clause-room c =
    let fits = c.stays.ensures c.if-stays.true in
    let len = c.len.ensures.value in
    let size = used-push c.args.slots (slot_with c.args.blob.now.id c.in-Some.bytes) in
    subst (λ (o : Option (List ℕ)). used (slots_with c.args.slots c.args.blob.now.id o) ≤ 4096) (sym c.in-Some.is) (omega (arith, fits, len, size))

pub returns-then-stays-clause-puts : goal.returns-then-stays-clause-puts
returns-then-stays-clause-puts c =
    subst (λ (o : Option (List ℕ)). Puts c.args.page (slots_with c.args.slots c.args.blob.now.id o) c.args.blob.now.id (place_with c.args.page o) c.args.self.now c.put_behind.new.self c.args.changed.now.entries c.put_behind.new.changed.entries)
    (sym c.in-Some.is) c.in_ok-put_behind.ensures.puts
