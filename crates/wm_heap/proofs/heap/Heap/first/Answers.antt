use Rattle.std.proofs.Common.{◌≡◌, ℕ, ◌++◌, ◌∷◌, [], List, cond, is_some, Some, unwrap_or, sym, ap, ◌∙◌, arith}
use Rattle.wm_heap.specs.Blobs.{slots_put}
use Rattle.wm_heap.specs.Content.{bytes_at, slots_in}
use Rattle.wm_heap.specs.Slots.{slots_of, page_of}
use Rattle.wm_heap.specs.Places.{at, ids_of}
use Rattle.wm_heap.proofs.Knowing.{knows_next}
use Rattle.wm_heap.proofs.First.{once_put, first_heap, first_sound}
use Rattle.wm_heap.proofs.heap.Heap.first.Goals as goal

pub returns-clause-heap : goal.returns-clause-heap
returns-clause-heap c = λ held page_is.
    let slots : c.in_ok-slots.slots ≡ slots_put c.args.batch.now = c.in_ok-slots.ensures ∙ ap slots_put c.as_slice.ensures in
    let pages = c.in_ok-pages.ensures in
    first_heap (record { ids = c.push.new.self; places = c.place_each.new.places; room = c.keep.new.self }) held (slots_put c.args.batch.now)
    (ap (λ l. slots_of (page_of l)) (sym slots) ∙ pages.again ∙ ap (λ l. Some l) slots)
    (once_put c.args.batch.now c.requires.once)
    (c.in_ok-push.ensures.items ∙ ap (λ l. l ++ c.in_ok-ids_of_slots.field-0 ∷ []) c.new-ids.ensures.items ∙ ap (λ (l : List ℕ). l ∷ []) (c.in_ok-ids_of_slots.ensures ∙ ap ids_of slots))
    (λ id. c.in_ok-place_each.ensures id ∙ ap (λ l. cond (is_some (bytes_at l id)) (Some 2) (at c.new-places.result.entries id)) slots ∙ ap (λ es. cond (is_some (bytes_at (slots_put c.args.batch.now) id)) (Some 2) (at es id)) c.new-places.ensures.empty)
    page_is

pub returns-clause-sound : goal.returns-clause-sound
returns-clause-sound c = λ held whole page_is fits.
    first_sound (record { ids = c.push.new.self; places = c.place_each.new.places; room = c.keep.new.self }) held whole (returns-clause-heap c held page_is) fits

pub returns-clause-room : goal.returns-clause-room
returns-clause-room c = λ held page_is.
    let slots : c.in_ok-slots.slots ≡ slots_put c.args.batch.now = c.in_ok-slots.ensures ∙ ap slots_put c.as_slice.ensures in
    let page : slots_in held 2 ≡ c.in_ok-slots.slots = ap (λ b. unwrap_or (slots_of b) []) (page_is ∙ ap page_of (sym slots)) ∙ ap (λ o. unwrap_or o []) c.in_ok-pages.ensures.again in
    knows_next c.prefer.new.self c.keep.new.self (slots_in held) 2 c.left.result c.in_ok-slots.slots (c.prefer.ensures (slots_in held) 2 (c.new-room.ensures (slots_in held))) c.in_ok-keep.ensures c.left.ensures page (omega arith)
