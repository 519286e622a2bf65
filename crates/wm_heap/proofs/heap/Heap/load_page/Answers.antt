use Rattle.std.proofs.Common.{[], ◌∷◌, length, length-append, is_some, unwrap_or, sym, ap, subst, arith}
use Rattle.std.proofs.lemmas.Result.{err_from_is_err_and}
use Rattle.wm_heap.specs.Content.{slots_in}
use Rattle.wm_heap.specs.Places.{ids_of, place_of}
use Rattle.wm_heap.specs.Room.{KnowsRoom}
use Rattle.wm_heap.proofs.Loading.{heap_fault, heap_more, heap_twice}
use Rattle.wm_heap.proofs.heap.Heap.load_page.Goals as goal

pub returns-in_err-slots-clause-fault : goal.returns-in_err-slots-clause-fault
returns-in_err-slots-clause-fault g c = λ t.
    let p = err_from_is_err_and c.from_residual.result c.from_residual.ensures.1 in
    rw (p.1, p.2) (heap_fault c.args.self.now (g.G.Pages.held c.args.pages.now) (g.G.Pages.in_file c.args.pages.now) c.page_count-page.result (g.G.Pages.in_use c.args.pages.now) c.in_err-slots.field-0.0 c.page_count-page.ensures c.requires.next (c.requires.heap t) (c.requires.undamaged t)
    (c.in_err-slots.ensures.fault t (λ id. is_some (place_of c.args.self.now id))))

pub returns-in_err-keep_slots-clause-fault : goal.returns-in_err-keep_slots-clause-fault
returns-in_err-keep_slots-clause-fault g c = λ t.
    let p = err_from_is_err_and c.from_residual-in_err-keep_slots.result c.from_residual-in_err-keep_slots.ensures.1 in
    rw (p.1, p.2) (heap_twice c.args.self.now (g.G.Pages.held c.args.pages.now) (g.G.Pages.in_file c.args.pages.now) c.page_count-page.result (g.G.Pages.in_use c.args.pages.now) c.in_ok-slots.slots c.in_err-keep_slots.field-0.0 c.page_count-page.ensures c.requires.next (c.requires.heap t) (c.requires.undamaged t)
    c.in_ok-slots.ensures.whole (c.in_ok-slots.ensures.slots t) c.in_err-keep_slots.ensures.twice)

pub returns-clause-heap : goal.returns-clause-heap
returns-clause-heap g c = λ t.
    (heap_more c.args.self.now c.keep_slots.new.self (g.G.Pages.held c.args.pages.now) (g.G.Pages.in_file c.args.pages.now) c.page_count-page.result c.in_ok-slots.slots c.page_count-page.ensures (c.requires.heap t) (c.requires.undamaged t) c.in_ok-slots.ensures.whole (c.in_ok-slots.ensures.slots t)
    c.in_ok-keep_slots.ensures.ok c.in_ok-keep_slots.ensures.placed c.in_ok-keep_slots.ensures.ids).0

pub returns-clause-undamaged : goal.returns-clause-undamaged
returns-clause-undamaged g c = λ t.
    (heap_more c.args.self.now c.keep_slots.new.self (g.G.Pages.held c.args.pages.now) (g.G.Pages.in_file c.args.pages.now) c.page_count-page.result c.in_ok-slots.slots c.page_count-page.ensures (c.requires.heap t) (c.requires.undamaged t) c.in_ok-slots.ensures.whole (c.in_ok-slots.ensures.slots t)
    c.in_ok-keep_slots.ensures.ok c.in_ok-keep_slots.ensures.placed c.in_ok-keep_slots.ensures.ids).1

pub returns-clause-room : goal.returns-clause-room
returns-clause-room g c = λ t knows.
    let held = g.G.Pages.held c.args.pages.now in
    let count = c.page_count-page.ensures in
    let ids = c.in_ok-keep_slots.ensures.ids in
    let next = c.in_ok-keep_slots.ensures.room (slots_in held) (ap (λ o. unwrap_or o []) (c.in_ok-slots.ensures.slots t)) (omega arith) (subst (KnowsRoom c.args.self.now.room (slots_in held)) (sym count) knows) in
    subst (KnowsRoom c.keep_slots.new.self.room (slots_in held)) (omega (arith, count, ap length ids, length-append c.args.self.now.ids.items (ids_of c.in_ok-slots.slots ∷ []))) next
