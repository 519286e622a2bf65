use Rattle.std.proofs.Common.{◌≡◌, ℕ, ◌+◌, ◌<◌, List, length, cond, filter, not, eqb, Some, None, Option, refl, sym, ap, subst, ◌∙◌, arith}
use Rattle.wm_heap.specs.declared.slot.Slot.{Slot}
use Rattle.wm_heap.specs.Draft.{Stands, Done, IsLean, slots_now, slots_with, slot_size, place_with}
use Rattle.wm_heap.specs.Places.{page_count}
use Rattle.wm_heap.specs.Room.{KnowsRoom, Spreads}
use Rattle.wm_heap.specs.Slots.{used}
use Rattle.wm_heap.proofs.Knowing.{spread_here, spread_then}
use Rattle.wm_heap.proofs.Sizes.{used-filter}
use Rattle.wm_heap.proofs.Standing.{put_goes, puts_over, changed_here, lean_here, lean_then, then_ok, done_then, at_pages}
use Rattle.wm_heap.proofs.heap.Heap.change_on.Goals.{then-page-lt2-via-then-page-lt2, then-page-lt2-via-else-page-lt2+then-page-page_count}
use Rattle.wm_heap.proofs.heap.Heap.change_on.Goals as goal

pub returns-then-page-lt2-clause-sound : goal.returns-then-page-lt2-clause-sound
returns-then-page-lt2-clause-sound g c = λ t e.
    let there = (c.requires.stands t).placed.there c.args.blob.now.id c.args.page c.requires.here in
    let low = there.0 in
    let high = there.1 in
    elim c.then-page-lt2.branch [
      | then-page-lt2-via-then-page-lt2 w ↦ (let test = w.if-page-lt2.true in omega arith)
      | then-page-lt2-via-else-page-lt2+then-page-page_count w ↦ (let test = w.if-page-page_count.true in let count = w.page_count.ensures in omega arith)
    ]

pub change_here-requires-clause-fits : goal.change_here-requires-clause-fits
change_here-requires-clause-fits g c =
    let fits = c.in_ok-found.ensures.room in
    let fewer = used-filter (λ (s : Slot). not (eqb s.id c.args.blob.now.id)) c.in_ok-found.found in
    let same = ap used c.without-slots.ensures in
    omega (arith, fits, fewer, same)

pub returns-then-all-clause-goes : goal.returns-then-all-clause-goes
returns-then-all-clause-goes g c =
    let what : Option (List ℕ) = cond c.in_ok-all.all c.args.blob.now.bytes None in
    let puts = puts_over c.args.page c.args.blob.now.id (slots_with c.without-slots.result c.args.blob.now.id what) (place_with c.args.page what) c.args.self.now c.args.self.now c.change_here.new.self c.args.changed.now.entries c.take_slots.new.changed.entries c.change_here.new.changed.entries refl refl c.in_ok-found.ensures.others c.in_ok-all.ensures.puts in
    let count = c.page_count.ensures in
    let high = c.if-page-page_count.false in
    put_goes c.args.page c.args.blob.now.id (slots_with c.without-slots.result c.args.blob.now.id what) (place_with c.args.page what) c.args.self.now c.change_here.new.self c.args.changed.now.entries c.change_here.new.changed.entries puts c.if-page-lt2.false (omega arith) c.in_ok-all.ensures.room c.requires.room

pub returns-in_default-clause-goes : goal.returns-in_default-clause-goes
returns-in_default-clause-goes g c =
    let what : Option (List ℕ) = cond c.in_ok-all.all c.args.blob.now.bytes None in
    let puts = puts_over c.args.page c.args.blob.now.id (slots_with c.without-slots.result c.args.blob.now.id what) (place_with c.args.page what) c.args.self.now c.args.self.now c.change_here.new.self c.args.changed.now.entries c.take_slots.new.changed.entries c.change_here.new.changed.entries refl refl c.in_ok-found.ensures.others c.in_ok-all.ensures.puts in
    let count = c.page_count.ensures in
    let high = c.if-page-page_count.false in
    put_goes c.args.page c.args.blob.now.id (slots_with c.without-slots.result c.args.blob.now.id what) (place_with c.args.page what) c.args.self.now c.change_here.new.self c.args.changed.now.entries c.change_here.new.changed.entries puts c.if-page-lt2.false (omega arith) c.in_ok-all.ensures.room c.requires.room

pub returns-then-all-clause-done : goal.returns-then-all-clause-done
returns-then-all-clause-done g c = λ t.
    let what : Option (List ℕ) = cond c.in_ok-all.all c.args.blob.now.bytes None in
    let puts = puts_over c.args.page c.args.blob.now.id (slots_with c.without-slots.result c.args.blob.now.id what) (place_with c.args.page what) c.args.self.now c.args.self.now c.change_here.new.self c.args.changed.now.entries c.take_slots.new.changed.entries c.change_here.new.changed.entries refl refl c.in_ok-found.ensures.others c.in_ok-all.ensures.puts in
    let first = changed_here c.args.self.now c.change_here.new.self c.args.changed.now.entries c.change_here.new.changed.entries (g.G.Pages.held c.args.pages.now) (g.G.Pages.in_use c.args.pages.now) (g.G.Pages.in_file c.args.pages.now) c.args.page c.args.blob.now.id c.without-slots.result what
    (c.requires.stands t) c.requires.here (c.without-slots.ensures ∙ ap (λ l. filter (λ (s : Slot). not (eqb s.id c.args.blob.now.id)) l) (c.in_ok-found.ensures.value t)) puts in
    subst (λ (o : Option (List ℕ)). Done c.args.self.now c.change_here.new.self c.args.changed.now.entries c.change_here.new.changed.entries (g.G.Pages.held c.args.pages.now) (g.G.Pages.in_use c.args.pages.now) (g.G.Pages.in_file c.args.pages.now) c.args.blob.now.id o) (ap (λ b. cond b c.args.blob.now.bytes None) c.if-all.true) first

pub returns-in_default-clause-done : goal.returns-in_default-clause-done
returns-in_default-clause-done g c = λ t.
    let what : Option (List ℕ) = cond c.in_ok-all.all c.args.blob.now.bytes None in
    let puts = puts_over c.args.page c.args.blob.now.id (slots_with c.without-slots.result c.args.blob.now.id what) (place_with c.args.page what) c.args.self.now c.args.self.now c.change_here.new.self c.args.changed.now.entries c.take_slots.new.changed.entries c.change_here.new.changed.entries refl refl c.in_ok-found.ensures.others c.in_ok-all.ensures.puts in
    let first = changed_here c.args.self.now c.change_here.new.self c.args.changed.now.entries c.change_here.new.changed.entries (g.G.Pages.held c.args.pages.now) (g.G.Pages.in_use c.args.pages.now) (g.G.Pages.in_file c.args.pages.now) c.args.page c.args.blob.now.id c.without-slots.result what
    (c.requires.stands t) c.requires.here (c.without-slots.ensures ∙ ap (λ l. filter (λ (s : Slot). not (eqb s.id c.args.blob.now.id)) l) (c.in_ok-found.ensures.value t)) puts in
    subst (λ (o : Option (List ℕ)). Done c.args.self.now c.change_here.new.self c.args.changed.now.entries c.change_here.new.changed.entries (g.G.Pages.held c.args.pages.now) (g.G.Pages.in_use c.args.pages.now) (g.G.Pages.in_file c.args.pages.now) c.args.blob.now.id o) (ap (λ b. cond b c.args.blob.now.bytes None) c.if-all.false ∙ sym c.in_default.is) first

pub add-requires-clause-stands : goal.add-requires-clause-stands
add-requires-clause-stands g c = λ t.
    let what : Option (List ℕ) = cond c.in_ok-all.all c.args.blob.now.bytes None in
    let puts = puts_over c.args.page c.args.blob.now.id (slots_with c.without-slots.result c.args.blob.now.id what) (place_with c.args.page what) c.args.self.now c.args.self.now c.change_here.new.self c.args.changed.now.entries c.take_slots.new.changed.entries c.change_here.new.changed.entries refl refl c.in_ok-found.ensures.others c.in_ok-all.ensures.puts in
    let first = changed_here c.args.self.now c.change_here.new.self c.args.changed.now.entries c.change_here.new.changed.entries (g.G.Pages.held c.args.pages.now) (g.G.Pages.in_use c.args.pages.now) (g.G.Pages.in_file c.args.pages.now) c.args.page c.args.blob.now.id c.without-slots.result what
    (c.requires.stands t) c.requires.here (c.without-slots.ensures ∙ ap (λ l. filter (λ (s : Slot). not (eqb s.id c.args.blob.now.id)) l) (c.in_ok-found.ensures.value t)) puts in
    at_pages (λ h u f. Stands c.change_here.new.self c.change_here.new.changed.entries h u f) (g.G.Pages.held c.take_slots.new.pages) (g.G.Pages.held c.args.pages.now) (g.G.Pages.in_use c.take_slots.new.pages) (g.G.Pages.in_use c.args.pages.now) (g.G.Pages.in_file c.take_slots.new.pages) (g.G.Pages.in_file c.args.pages.now)
    (sym (c.in_ok-found.ensures.told t)) (sym c.in_ok-found.ensures.in_use) (sym c.in_ok-found.ensures.in_file) first.stands

pub returns-clause-done : goal.returns-clause-done
returns-clause-done g c = λ t.
    let what : Option (List ℕ) = cond c.in_ok-all.all c.args.blob.now.bytes None in
    let puts = puts_over c.args.page c.args.blob.now.id (slots_with c.without-slots.result c.args.blob.now.id what) (place_with c.args.page what) c.args.self.now c.args.self.now c.change_here.new.self c.args.changed.now.entries c.take_slots.new.changed.entries c.change_here.new.changed.entries refl refl c.in_ok-found.ensures.others c.in_ok-all.ensures.puts in
    let first = changed_here c.args.self.now c.change_here.new.self c.args.changed.now.entries c.change_here.new.changed.entries (g.G.Pages.held c.args.pages.now) (g.G.Pages.in_use c.args.pages.now) (g.G.Pages.in_file c.args.pages.now) c.args.page c.args.blob.now.id c.without-slots.result what
    (c.requires.stands t) c.requires.here (c.without-slots.ensures ∙ ap (λ l. filter (λ (s : Slot). not (eqb s.id c.args.blob.now.id)) l) (c.in_ok-found.ensures.value t)) puts in
    then_ok c.add.result
    (Done c.change_here.new.self c.add.new.self c.change_here.new.changed.entries c.add.new.changed.entries (g.G.Pages.held c.take_slots.new.pages) (g.G.Pages.in_use c.take_slots.new.pages) (g.G.Pages.in_file c.take_slots.new.pages) c.args.blob.now.id (Some c.in-Some.bytes))
    (Done c.args.self.now c.add.new.self c.args.changed.now.entries c.add.new.changed.entries (g.G.Pages.held c.args.pages.now) (g.G.Pages.in_use c.args.pages.now) (g.G.Pages.in_file c.args.pages.now) c.args.blob.now.id c.args.blob.now.bytes)
    (λ added.
    let second = at_pages (λ h u f. Done c.change_here.new.self c.add.new.self c.change_here.new.changed.entries c.add.new.changed.entries h u f c.args.blob.now.id (Some c.in-Some.bytes)) (g.G.Pages.held c.args.pages.now) (g.G.Pages.held c.take_slots.new.pages) (g.G.Pages.in_use c.args.pages.now) (g.G.Pages.in_use c.take_slots.new.pages) (g.G.Pages.in_file c.args.pages.now) (g.G.Pages.in_file c.take_slots.new.pages)
    (c.in_ok-found.ensures.told t) c.in_ok-found.ensures.in_use c.in_ok-found.ensures.in_file added in
    subst (λ (o : Option (List ℕ)). Done c.args.self.now c.add.new.self c.args.changed.now.entries c.add.new.changed.entries (g.G.Pages.held c.args.pages.now) (g.G.Pages.in_use c.args.pages.now) (g.G.Pages.in_file c.args.pages.now) c.args.blob.now.id o)
    (sym c.in-Some.is)
    (done_then c.args.self.now c.change_here.new.self c.add.new.self c.args.changed.now.entries c.change_here.new.changed.entries c.add.new.changed.entries (g.G.Pages.held c.args.pages.now) (g.G.Pages.in_use c.args.pages.now) (g.G.Pages.in_file c.args.pages.now) c.args.blob.now.id what (Some c.in-Some.bytes) first second))
    (c.add.ensures.done t)

pub returns-then-all-clause-lean : goal.returns-then-all-clause-lean
returns-then-all-clause-lean g c = λ t.
    let what : Option (List ℕ) = cond c.in_ok-all.all c.args.blob.now.bytes None in
    let puts = puts_over c.args.page c.args.blob.now.id (slots_with c.without-slots.result c.args.blob.now.id what) (place_with c.args.page what) c.args.self.now c.args.self.now c.change_here.new.self c.args.changed.now.entries c.take_slots.new.changed.entries c.change_here.new.changed.entries refl refl c.in_ok-found.ensures.others c.in_ok-all.ensures.puts in
    let count = c.page_count.ensures in
    let high = c.if-page-page_count.false in
    let first = lean_here c.args.self.now c.change_here.new.self c.args.changed.now.entries c.change_here.new.changed.entries (g.G.Pages.held c.args.pages.now) c.args.page c.args.blob.now.id c.without-slots.result what (omega arith)
    (c.without-slots.ensures ∙ ap (λ l. filter (λ (s : Slot). not (eqb s.id c.args.blob.now.id)) l) (c.in_ok-found.ensures.value t)) puts in
    subst (λ (o : Option (List ℕ)). IsLean c.args.self.now c.change_here.new.self c.args.changed.now.entries c.change_here.new.changed.entries (g.G.Pages.held c.args.pages.now) (slot_size o)) (ap (λ b. cond b c.args.blob.now.bytes None) c.if-all.true) first

pub returns-in_default-clause-lean : goal.returns-in_default-clause-lean
returns-in_default-clause-lean g c = λ t.
    let what : Option (List ℕ) = cond c.in_ok-all.all c.args.blob.now.bytes None in
    let puts = puts_over c.args.page c.args.blob.now.id (slots_with c.without-slots.result c.args.blob.now.id what) (place_with c.args.page what) c.args.self.now c.args.self.now c.change_here.new.self c.args.changed.now.entries c.take_slots.new.changed.entries c.change_here.new.changed.entries refl refl c.in_ok-found.ensures.others c.in_ok-all.ensures.puts in
    let count = c.page_count.ensures in
    let high = c.if-page-page_count.false in
    let first = lean_here c.args.self.now c.change_here.new.self c.args.changed.now.entries c.change_here.new.changed.entries (g.G.Pages.held c.args.pages.now) c.args.page c.args.blob.now.id c.without-slots.result what (omega arith)
    (c.without-slots.ensures ∙ ap (λ l. filter (λ (s : Slot). not (eqb s.id c.args.blob.now.id)) l) (c.in_ok-found.ensures.value t)) puts in
    subst (λ (o : Option (List ℕ)). IsLean c.args.self.now c.change_here.new.self c.args.changed.now.entries c.change_here.new.changed.entries (g.G.Pages.held c.args.pages.now) (slot_size o)) (ap (λ b. cond b c.args.blob.now.bytes None) c.if-all.false ∙ sym c.in_default.is) first

pub returns-clause-lean : goal.returns-clause-lean
returns-clause-lean g c = λ t.
    let what : Option (List ℕ) = cond c.in_ok-all.all c.args.blob.now.bytes None in
    let puts = puts_over c.args.page c.args.blob.now.id (slots_with c.without-slots.result c.args.blob.now.id what) (place_with c.args.page what) c.args.self.now c.args.self.now c.change_here.new.self c.args.changed.now.entries c.take_slots.new.changed.entries c.change_here.new.changed.entries refl refl c.in_ok-found.ensures.others c.in_ok-all.ensures.puts in
    let count = c.page_count.ensures in
    let high = c.if-page-page_count.false in
    let first = lean_here c.args.self.now c.change_here.new.self c.args.changed.now.entries c.change_here.new.changed.entries (g.G.Pages.held c.args.pages.now) c.args.page c.args.blob.now.id c.without-slots.result what (omega arith)
    (c.without-slots.ensures ∙ ap (λ l. filter (λ (s : Slot). not (eqb s.id c.args.blob.now.id)) l) (c.in_ok-found.ensures.value t)) puts in
    let low : c.args.page < page_count c.args.self.now = omega arith in
    let same : page_count c.change_here.new.self ≡ page_count c.args.self.now = (let grown = puts.count in omega arith) in
    let nothing = subst (λ (o : Option (List ℕ)). IsLean c.args.self.now c.change_here.new.self c.args.changed.now.entries c.change_here.new.changed.entries (g.G.Pages.held c.args.pages.now) (slot_size o)) (ap (λ b. cond b c.args.blob.now.bytes None) c.if-all.false) first in
    then_ok c.add.result
    (IsLean c.change_here.new.self c.add.new.self c.change_here.new.changed.entries c.add.new.changed.entries (g.G.Pages.held c.take_slots.new.pages) (slot_size (Some c.in-Some.bytes)))
    (IsLean c.args.self.now c.add.new.self c.args.changed.now.entries c.add.new.changed.entries (g.G.Pages.held c.args.pages.now) (slot_size c.args.blob.now.bytes))
    (λ added.
    let second = subst (λ h. IsLean c.change_here.new.self c.add.new.self c.change_here.new.changed.entries c.add.new.changed.entries h (slot_size (Some c.in-Some.bytes))) (c.in_ok-found.ensures.told t) added in
    subst (λ (o : Option (List ℕ)). IsLean c.args.self.now c.add.new.self c.args.changed.now.entries c.add.new.changed.entries (g.G.Pages.held c.args.pages.now) (slot_size o))
    (sym c.in-Some.is)
    (lean_then c.args.self.now c.change_here.new.self c.add.new.self c.args.changed.now.entries c.change_here.new.changed.entries c.add.new.changed.entries (g.G.Pages.held c.args.pages.now) (10 + length c.in-Some.bytes) same nothing second))
    (c.add.ensures.lean t)

pub returns-then-all-clause-spread : goal.returns-then-all-clause-spread
returns-then-all-clause-spread g c = λ t knows.
    let what : Option (List ℕ) = cond c.in_ok-all.all c.args.blob.now.bytes None in
    let puts = puts_over c.args.page c.args.blob.now.id (slots_with c.without-slots.result c.args.blob.now.id what) (place_with c.args.page what) c.args.self.now c.args.self.now c.change_here.new.self c.args.changed.now.entries c.take_slots.new.changed.entries c.change_here.new.changed.entries refl refl c.in_ok-found.ensures.others c.in_ok-all.ensures.puts in
    let count = c.page_count.ensures in
    let high = c.if-page-page_count.false in
    spread_here c.args.page c.args.blob.now.id (slot_size c.args.blob.now.bytes) (slots_with c.without-slots.result c.args.blob.now.id what) (place_with c.args.page what) c.args.self.now c.change_here.new.self c.args.changed.now.entries c.change_here.new.changed.entries (g.G.Pages.held c.args.pages.now) c.args.self.now.room puts c.in_ok-all.ensures.keeps c.if-page-lt2.false (omega arith) knows

pub returns-in_default-clause-spread : goal.returns-in_default-clause-spread
returns-in_default-clause-spread g c = λ t knows.
    let what : Option (List ℕ) = cond c.in_ok-all.all c.args.blob.now.bytes None in
    let puts = puts_over c.args.page c.args.blob.now.id (slots_with c.without-slots.result c.args.blob.now.id what) (place_with c.args.page what) c.args.self.now c.args.self.now c.change_here.new.self c.args.changed.now.entries c.take_slots.new.changed.entries c.change_here.new.changed.entries refl refl c.in_ok-found.ensures.others c.in_ok-all.ensures.puts in
    let count = c.page_count.ensures in
    let high = c.if-page-page_count.false in
    spread_here c.args.page c.args.blob.now.id (slot_size c.args.blob.now.bytes) (slots_with c.without-slots.result c.args.blob.now.id what) (place_with c.args.page what) c.args.self.now c.change_here.new.self c.args.changed.now.entries c.change_here.new.changed.entries (g.G.Pages.held c.args.pages.now) c.args.self.now.room puts c.in_ok-all.ensures.keeps c.if-page-lt2.false (omega arith) knows

pub returns-clause-spread : goal.returns-clause-spread
returns-clause-spread g c = λ t knows.
    let what : Option (List ℕ) = cond c.in_ok-all.all c.args.blob.now.bytes None in
    let puts = puts_over c.args.page c.args.blob.now.id (slots_with c.without-slots.result c.args.blob.now.id what) (place_with c.args.page what) c.args.self.now c.args.self.now c.change_here.new.self c.args.changed.now.entries c.take_slots.new.changed.entries c.change_here.new.changed.entries refl refl c.in_ok-found.ensures.others c.in_ok-all.ensures.puts in
    let count = c.page_count.ensures in
    let high = c.if-page-page_count.false in
    let told = c.in_ok-found.ensures.told t in
    let low : c.args.page < page_count c.args.self.now = omega arith in
    let same : page_count c.change_here.new.self ≡ page_count c.args.self.now = (let grown = puts.count in omega arith) in
    let first = lean_here c.args.self.now c.change_here.new.self c.args.changed.now.entries c.change_here.new.changed.entries (g.G.Pages.held c.args.pages.now) c.args.page c.args.blob.now.id c.without-slots.result what low
    (c.without-slots.ensures ∙ ap (λ l. filter (λ (s : Slot). not (eqb s.id c.args.blob.now.id)) l) (c.in_ok-found.ensures.value t)) puts in
    let nothing = subst (λ (o : Option (List ℕ)). IsLean c.args.self.now c.change_here.new.self c.args.changed.now.entries c.change_here.new.changed.entries (g.G.Pages.held c.args.pages.now) (slot_size o)) (ap (λ b. cond b c.args.blob.now.bytes None) c.if-all.false) first in
    let here = spread_here c.args.page c.args.blob.now.id 0 (slots_with c.without-slots.result c.args.blob.now.id what) (place_with c.args.page what) c.args.self.now c.change_here.new.self c.args.changed.now.entries c.change_here.new.changed.entries (g.G.Pages.held c.args.pages.now) c.args.self.now.room puts c.in_ok-all.ensures.keeps c.if-page-lt2.false (omega arith) knows in
    then_ok c.add.result
    (Spreads c.change_here.new.self c.add.new.self c.change_here.new.changed.entries c.add.new.changed.entries (g.G.Pages.held c.take_slots.new.pages) (slot_size (Some c.in-Some.bytes)))
    (Spreads c.args.self.now c.add.new.self c.args.changed.now.entries c.add.new.changed.entries (g.G.Pages.held c.args.pages.now) (slot_size c.args.blob.now.bytes))
    (λ added.
    let second = subst (λ h. Spreads c.change_here.new.self c.add.new.self c.change_here.new.changed.entries c.add.new.changed.entries h (slot_size (Some c.in-Some.bytes))) told added in
    subst (λ (o : Option (List ℕ)). Spreads c.args.self.now c.add.new.self c.args.changed.now.entries c.add.new.changed.entries (g.G.Pages.held c.args.pages.now) (slot_size o))
    (sym c.in-Some.is)
    (spread_then c.args.self.now c.change_here.new.self c.add.new.self c.args.changed.now.entries c.change_here.new.changed.entries c.add.new.changed.entries (g.G.Pages.held c.args.pages.now) (10 + length c.in-Some.bytes) same nothing second))
    (c.add.ensures.spread t (subst (λ h. KnowsRoom c.change_here.new.self.room (slots_now c.change_here.new.changed.entries h) (page_count c.change_here.new.self)) (sym told) here.knows))
