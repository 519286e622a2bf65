use Rattle.std.proofs.Common.{◌≡◌, ℕ, ◌+◌, ◌<◌, ◌≤◌, ◌++◌, ◌∷◌, [], eqb, false, length, Some, Option, IfSome, refl, sym, ap, subst, arith}
use Rattle.wm_heap.specs.declared.room.Roomy.{Roomy}
use Rattle.wm_heap.specs.Draft.{slots_now}
use Rattle.wm_heap.specs.Places.{at}
use Rattle.wm_heap.specs.Room.{KnowsRoom, quarters}
use Rattle.wm_heap.specs.Slots.{used}
use Rattle.wm_heap.proofs.Knowing.{spread_here, spread_new}
use Rattle.wm_heap.proofs.Sizes.{used-push}
use Rattle.wm_heap.proofs.Standing.{slot_with, put_goes, puts_over, added_there, added_new, lean_there, lean_new}
use Rattle.wm_heap.proofs.heap.Heap.add.Goals as goal

pub returns-in_default-clause-goes : goal.returns-in_default-clause-goes
returns-in_default-clause-goes g c =
    let count = c.page_count-count.ensures in
    let small = c.requires.small in
    let none = ap used c.new.ensures in
    let size = used-push c.new.result (slot_with c.args.id c.args.bytes.now) in
    put_goes c.page_count-count.result c.args.id (c.new.result ++ slot_with c.args.id c.args.bytes.now ∷ []) (Some c.page_count-count.result) c.args.self.now c.put_behind.new.self c.args.changed.now.entries c.put_behind.new.changed.entries
    (puts_over c.page_count-count.result c.args.id (c.new.result ++ slot_with c.args.id c.args.bytes.now ∷ []) (Some c.page_count-count.result) c.args.self.now (record { ids = c.args.self.now.ids; places = c.args.self.now.places; room = c.take_roomy.new.room }) c.put_behind.new.self c.args.changed.now.entries c.take_roomy.new.changed.entries c.put_behind.new.changed.entries refl refl
    (λ p e. ap (λ l. at l p) (c.in_ok-roomy.ensures.kept c.in_default.is)) c.in_ok-put_behind.ensures.puts)
    (omega arith) (omega arith) (omega (arith, small, none, size)) c.requires.room

pub returns-in_default-clause-done : goal.returns-in_default-clause-done
returns-in_default-clause-done g c = λ t.
    let count = c.page_count-count.ensures in
    added_new c.args.self.now c.put_behind.new.self c.args.changed.now.entries c.put_behind.new.changed.entries (g.G.Pages.held c.args.pages.now) (g.G.Pages.in_use c.args.pages.now) (g.G.Pages.in_file c.args.pages.now)
    c.page_count-count.result c.args.id c.new.result c.args.bytes.now (c.requires.stands t) c.requires.absent count c.new.ensures
    (puts_over c.page_count-count.result c.args.id (c.new.result ++ slot_with c.args.id c.args.bytes.now ∷ []) (Some c.page_count-count.result) c.args.self.now (record { ids = c.args.self.now.ids; places = c.args.self.now.places; room = c.take_roomy.new.room }) c.put_behind.new.self c.args.changed.now.entries c.take_roomy.new.changed.entries c.put_behind.new.changed.entries refl refl
    (λ p e. ap (λ l. at l p) (c.in_ok-roomy.ensures.kept c.in_default.is)) c.in_ok-put_behind.ensures.puts)

pub returns-in_default-clause-lean : goal.returns-in_default-clause-lean
returns-in_default-clause-lean g c = λ t.
    let count = c.page_count-count.ensures in
    let len = c.len.ensures.value in
    lean_new c.args.self.now c.put_behind.new.self c.args.changed.now.entries c.put_behind.new.changed.entries (g.G.Pages.held c.args.pages.now) c.page_count-count.result c.args.id c.new.result c.args.bytes.now count c.new.ensures
    (λ some. (let full = c.in_ok-roomy.ensures.none t c.in_default.is some in omega (arith, full, len)))
    (puts_over c.page_count-count.result c.args.id (c.new.result ++ slot_with c.args.id c.args.bytes.now ∷ []) (Some c.page_count-count.result) c.args.self.now (record { ids = c.args.self.now.ids; places = c.args.self.now.places; room = c.take_roomy.new.room }) c.put_behind.new.self c.args.changed.now.entries c.take_roomy.new.changed.entries c.put_behind.new.changed.entries refl refl
    (λ p e. ap (λ l. at l p) (c.in_ok-roomy.ensures.kept c.in_default.is)) c.in_ok-put_behind.ensures.puts)

pub returns-in_default-clause-spread : goal.returns-in_default-clause-spread
returns-in_default-clause-spread g c = λ t knows.
    let count = c.page_count-count.ensures in
    let slots = slots_now c.args.changed.now.entries (g.G.Pages.held c.args.pages.now) in
    let known = subst (KnowsRoom c.args.self.now.room slots) (sym count) knows in
    spread_new c.page_count-count.result c.args.id (10 + length c.args.bytes.now) (c.new.result ++ slot_with c.args.id c.args.bytes.now ∷ []) (Some c.page_count-count.result) c.args.self.now c.put_behind.new.self c.args.changed.now.entries c.put_behind.new.changed.entries (g.G.Pages.held c.args.pages.now) c.take_roomy.new.room
    (puts_over c.page_count-count.result c.args.id (c.new.result ++ slot_with c.args.id c.args.bytes.now ∷ []) (Some c.page_count-count.result) c.args.self.now (record { ids = c.args.self.now.ids; places = c.args.self.now.places; room = c.take_roomy.new.room }) c.put_behind.new.self c.args.changed.now.entries c.take_roomy.new.changed.entries c.put_behind.new.changed.entries refl refl
    (λ p e. ap (λ l. at l p) (c.in_ok-roomy.ensures.kept c.in_default.is)) c.in_ok-put_behind.ensures.puts)
    c.in_ok-put_behind.ensures.keeps count
    (λ p from till. subst (λ n. 4096 < used (slots p) + quarters (10 + n)) c.len.ensures.value (c.in_ok-roomy.ensures.spread t known c.in_default.is p from till))
    (subst (KnowsRoom c.take_roomy.new.room slots) count (c.in_ok-roomy.ensures.knows t known))

pub returns-clause-goes : goal.returns-clause-goes
returns-clause-goes g c =
    let count = c.page_count-count.ensures in
    let page = c.in-Some.roomy.page in
    let slots = c.in-Some.roomy.slots in
    let was = c.args.changed.now.entries in
    let mid = c.take_roomy.new.changed.entries in
    let from : 2 ≤ page = subst (λ (o : Option Roomy). IfSome o (λ r. 2 ≤ r.page)) c.in-Some.is c.in_ok-roomy.ensures.from in
    let till : page < c.page_count-count.result = subst (λ (o : Option Roomy). IfSome o (λ r. r.page < c.page_count-count.result)) c.in-Some.is c.in_ok-roomy.ensures.till in
    let fits : used slots + 10 + c.len.result ≤ 4096 = subst (λ (o : Option Roomy). IfSome o (λ r. used r.slots + 10 + c.len.result ≤ 4096)) c.in-Some.is c.in_ok-roomy.ensures.room in
    let others = subst (λ (o : Option Roomy). IfSome o (λ r. (p : ℕ) → eqb p r.page ≡ false → at mid p ≡ at was p)) c.in-Some.is c.in_ok-roomy.ensures.others in
    let len = c.len.ensures.value in
    let size = used-push slots (slot_with c.args.id c.args.bytes.now) in
    put_goes page c.args.id (slots ++ slot_with c.args.id c.args.bytes.now ∷ []) (Some page) c.args.self.now c.put_behind-2.new.self was c.put_behind-2.new.changed.entries
    (puts_over page c.args.id (slots ++ slot_with c.args.id c.args.bytes.now ∷ []) (Some page) c.args.self.now (record { ids = c.args.self.now.ids; places = c.args.self.now.places; room = c.take_roomy.new.room }) c.put_behind-2.new.self was mid c.put_behind-2.new.changed.entries refl refl others c.in_ok-put_behind-2.ensures.puts)
    from (omega arith) (omega (arith, fits, len, size)) c.requires.room

pub returns-clause-done : goal.returns-clause-done
returns-clause-done g c = λ t.
    let count = c.page_count-count.ensures in
    let page = c.in-Some.roomy.page in
    let slots = c.in-Some.roomy.slots in
    let was = c.args.changed.now.entries in
    let mid = c.take_roomy.new.changed.entries in
    let from : 2 ≤ page = subst (λ (o : Option Roomy). IfSome o (λ r. 2 ≤ r.page)) c.in-Some.is c.in_ok-roomy.ensures.from in
    let till : page < c.page_count-count.result = subst (λ (o : Option Roomy). IfSome o (λ r. r.page < c.page_count-count.result)) c.in-Some.is c.in_ok-roomy.ensures.till in
    let others = subst (λ (o : Option Roomy). IfSome o (λ r. (p : ℕ) → eqb p r.page ≡ false → at mid p ≡ at was p)) c.in-Some.is c.in_ok-roomy.ensures.others in
    let value : slots ≡ slots_now was (g.G.Pages.held c.args.pages.now) page = subst (λ (o : Option Roomy). IfSome o (λ r. r.slots ≡ slots_now was (g.G.Pages.held c.args.pages.now) r.page)) c.in-Some.is (c.in_ok-roomy.ensures.value t) in
    added_there c.args.self.now c.put_behind-2.new.self was c.put_behind-2.new.changed.entries (g.G.Pages.held c.args.pages.now) (g.G.Pages.in_use c.args.pages.now) (g.G.Pages.in_file c.args.pages.now)
    page c.args.id slots c.args.bytes.now (c.requires.stands t) c.requires.absent from (omega arith) value
    (puts_over page c.args.id (slots ++ slot_with c.args.id c.args.bytes.now ∷ []) (Some page) c.args.self.now (record { ids = c.args.self.now.ids; places = c.args.self.now.places; room = c.take_roomy.new.room }) c.put_behind-2.new.self was mid c.put_behind-2.new.changed.entries refl refl others c.in_ok-put_behind-2.ensures.puts)

pub returns-clause-lean : goal.returns-clause-lean
returns-clause-lean g c = λ t.
    let count = c.page_count-count.ensures in
    let page = c.in-Some.roomy.page in
    let slots = c.in-Some.roomy.slots in
    let was = c.args.changed.now.entries in
    let mid = c.take_roomy.new.changed.entries in
    let till : page < c.page_count-count.result = subst (λ (o : Option Roomy). IfSome o (λ r. r.page < c.page_count-count.result)) c.in-Some.is c.in_ok-roomy.ensures.till in
    let others = subst (λ (o : Option Roomy). IfSome o (λ r. (p : ℕ) → eqb p r.page ≡ false → at mid p ≡ at was p)) c.in-Some.is c.in_ok-roomy.ensures.others in
    let value : slots ≡ slots_now was (g.G.Pages.held c.args.pages.now) page = subst (λ (o : Option Roomy). IfSome o (λ r. r.slots ≡ slots_now was (g.G.Pages.held c.args.pages.now) r.page)) c.in-Some.is (c.in_ok-roomy.ensures.value t) in
    lean_there c.args.self.now c.put_behind-2.new.self was c.put_behind-2.new.changed.entries (g.G.Pages.held c.args.pages.now) page c.args.id slots c.args.bytes.now (omega arith) value
    (puts_over page c.args.id (slots ++ slot_with c.args.id c.args.bytes.now ∷ []) (Some page) c.args.self.now (record { ids = c.args.self.now.ids; places = c.args.self.now.places; room = c.take_roomy.new.room }) c.put_behind-2.new.self was mid c.put_behind-2.new.changed.entries refl refl others c.in_ok-put_behind-2.ensures.puts)

pub returns-clause-spread : goal.returns-clause-spread
returns-clause-spread g c = λ t knows.
    let count = c.page_count-count.ensures in
    let page = c.in-Some.roomy.page in
    let slots = c.in-Some.roomy.slots in
    let was = c.args.changed.now.entries in
    let mid = c.take_roomy.new.changed.entries in
    let stored = slots_now was (g.G.Pages.held c.args.pages.now) in
    let known = subst (KnowsRoom c.args.self.now.room stored) (sym count) knows in
    let from : 2 ≤ page = subst (λ (o : Option Roomy). IfSome o (λ r. 2 ≤ r.page)) c.in-Some.is c.in_ok-roomy.ensures.from in
    let till : page < c.page_count-count.result = subst (λ (o : Option Roomy). IfSome o (λ r. r.page < c.page_count-count.result)) c.in-Some.is c.in_ok-roomy.ensures.till in
    let others = subst (λ (o : Option Roomy). IfSome o (λ r. (p : ℕ) → eqb p r.page ≡ false → at mid p ≡ at was p)) c.in-Some.is c.in_ok-roomy.ensures.others in
    spread_here page c.args.id (10 + length c.args.bytes.now) (slots ++ slot_with c.args.id c.args.bytes.now ∷ []) (Some page) c.args.self.now c.put_behind-2.new.self was c.put_behind-2.new.changed.entries (g.G.Pages.held c.args.pages.now) c.take_roomy.new.room
    (puts_over page c.args.id (slots ++ slot_with c.args.id c.args.bytes.now ∷ []) (Some page) c.args.self.now (record { ids = c.args.self.now.ids; places = c.args.self.now.places; room = c.take_roomy.new.room }) c.put_behind-2.new.self was mid c.put_behind-2.new.changed.entries refl refl others c.in_ok-put_behind-2.ensures.puts)
    c.in_ok-put_behind-2.ensures.keeps from (omega arith) (subst (KnowsRoom c.take_roomy.new.room stored) count (c.in_ok-roomy.ensures.knows t known))
