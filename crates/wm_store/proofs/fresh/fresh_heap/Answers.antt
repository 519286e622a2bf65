use Rattle.std.proofs.Common.{◌≡◌, ℕ, ◌≤◌, ◌∷◌, [], List, Some, None, sym, ap, subst, ◌∙◌}
use Rattle.wm_heap.specs.Blobs.{AreBlobs, slots_put}
use Rattle.wm_heap.specs.Content.{fault_of, slots_in}
use Rattle.wm_heap.specs.Places.{IsHeapOf}
use Rattle.wm_heap.specs.Plan.{root_of}
use Rattle.wm_heap.specs.Room.{KnowsRoom}
use Rattle.wm_heap.specs.Slots.{used, slots_of, page_of}
use Rattle.wm_store.specs.Fresh.{fresh_changes}
use Rattle.wm_store.specs.Spelled.{FitPages, HaveSpellings, blobs_of}
use Rattle.wm_store.proofs.Committing.{blobs_once}
use Rattle.wm_store.proofs.Freshly.{fresh_fit, fresh_once, fresh_room}
use Rattle.wm_store.proofs.fresh.fresh_heap.Goals as goal

pub spell_changes-requires : goal.spell_changes-requires
spell_changes-requires c = subst FitPages (sym (c.as_slice.ensures ∙ c.in_ok-changes.ensures)) (fresh_fit c.args.limit)

pub first-requires-clause-once : goal.first-requires-clause-once
first-requires-clause-once c = subst AreBlobs (sym (c.in_ok-blobs.ensures.blobs ∙ ap blobs_of (c.as_slice.ensures ∙ c.in_ok-changes.ensures))) (blobs_once (fresh_changes c.args.limit) (fresh_once c.args.limit))

pub first-requires-clause-room : goal.first-requires-clause-room
first-requires-clause-room c = subst (λ b. used (slots_put b) ≤ 4096) (sym (c.in_ok-blobs.ensures.blobs ∙ ap blobs_of (c.as_slice.ensures ∙ c.in_ok-changes.ensures))) (fresh_room c.args.limit)

pub returns-clause-spelled : goal.returns-clause-spelled
returns-clause-spelled c = subst HaveSpellings (c.as_slice.ensures ∙ c.in_ok-changes.ensures) c.in_ok-blobs.ensures.spelled

pub returns-clause-pages : goal.returns-clause-pages
returns-clause-pages c = c.in_ok-heap.ensures.pages ∙ ap (λ b. (1, root_of 3) ∷ (2, page_of (slots_put b)) ∷ []) (c.in_ok-blobs.ensures.blobs ∙ ap blobs_of (c.as_slice.ensures ∙ c.in_ok-changes.ensures))

pub returns-clause-again : goal.returns-clause-again
returns-clause-again c = subst (λ b. slots_of (page_of (slots_put b)) ≡ Some (slots_put b)) (c.in_ok-blobs.ensures.blobs ∙ ap blobs_of (c.as_slice.ensures ∙ c.in_ok-changes.ensures)) c.in_ok-heap.ensures.again

pub returns-clause-heap : goal.returns-clause-heap
returns-clause-heap c = subst (λ b. (held : ℕ → List ℕ) → held 2 ≡ page_of (slots_put b) → IsHeapOf c.in_ok-heap.heap held 3) (c.in_ok-blobs.ensures.blobs ∙ ap blobs_of (c.as_slice.ensures ∙ c.in_ok-changes.ensures)) c.in_ok-heap.ensures.heap

pub returns-clause-room : goal.returns-clause-room
returns-clause-room c = subst (λ b. (held : ℕ → List ℕ) → held 2 ≡ page_of (slots_put b) → KnowsRoom c.in_ok-heap.heap.room (slots_in held) 3) (c.in_ok-blobs.ensures.blobs ∙ ap blobs_of (c.as_slice.ensures ∙ c.in_ok-changes.ensures)) c.in_ok-heap.ensures.room

pub returns-clause-sound : goal.returns-clause-sound
returns-clause-sound c = subst (λ b. (held : ℕ → List ℕ) (whole : ℕ) → held 2 ≡ page_of (slots_put b) → 3 ≤ whole → fault_of held 3 whole ≡ None) (c.in_ok-blobs.ensures.blobs ∙ ap blobs_of (c.as_slice.ensures ∙ c.in_ok-changes.ensures)) c.in_ok-heap.ensures.sound
