use Rattle.std.proofs.Common.{◌≡◌, ℕ, ◌+◌, ◌-◌, ◌*◌, ◌<◌, ◌≤◌, Bool, true, false, not, eqb, List, [], ◌++◌, length, is_some, Result, Ok, Err, IfOk, OnOk, sym, subst, arith}
use Rattle.std.specs.List.{list_any}
use Rattle.std.proofs.lemmas.Result.{IfOk-weaker}
use Rattle.wm_page.specs.Batch.{entries}
use Rattle.wm_heap.specs.declared.slot.Slot.{Slot}
use Rattle.wm_heap.specs.Blobs.{change_something, moves, slots_put}
use Rattle.wm_heap.specs.Content.{bytes_at, content, slots_in}
use Rattle.wm_heap.specs.Places.{page_count, place_of}
use Rattle.wm_heap.specs.Plan.{IsChanged, laid}
use Rattle.wm_heap.specs.Room.{KnowsRoom}
use Rattle.wm_heap.specs.Slots.{used}
use Rattle.wm_heap.proofs.Altering.{changed_altering, place_told, length-some, AreBlobs-some, AreSmall-some}
use Rattle.wm_heap.proofs.Standing.{then_ok}
use Rattle.wm_store.proofs.Altering.{adds_late, none_put, puts_few, some_put}
use Rattle.wm_store.specs.Few.{AddsLate, PutsFew}
use Rattle.wm_store.proofs.changes.change_pages.Goals as goal

pub plan-requires-clause-once : goal.plan-requires-clause-once
plan-requires-clause-once g c = AreBlobs-some c.in_ok-left.left c.args.blobs c.in_ok-left.ensures.some c.requires.once

pub plan-requires-clause-small : goal.plan-requires-clause-small
plan-requires-clause-small g c = AreSmall-some c.in_ok-left.left c.args.blobs c.in_ok-left.ensures.some c.requires.small

pub returns-clause-few : goal.returns-clause-few
returns-clause-few g c =
    let fewer = length-some c.in_ok-left.left c.args.blobs c.in_ok-left.ensures.some in
    IfOk-weaker c.plan.result (λ b. length b.pages ≤ 2 * length c.in_ok-left.left + 2) (λ b. length b.pages ≤ 2 * length c.args.blobs + 2) (λ b few. omega (arith, few, fewer)) c.plan.ensures.few

pub returns-clause-idle : goal.returns-clause-idle
returns-clause-idle g c =
    let there : ℕ → Bool = λ id. is_some (place_of c.args.heap.now id) in
    IfOk-weaker c.plan.result (λ b. eqb (length b.pages) 0 ≡ not (change_something there c.in_ok-left.left)) (λ b. change_something there c.args.blobs ≡ false → b.pages ≡ [])
    (λ b nothing. none_put there c.args.blobs c.in_ok-left.left b.pages c.in_ok-left.ensures.some nothing) c.plan.ensures.nothing

pub returns-clause-moved : goal.returns-clause-moved
returns-clause-moved g c =
    let there : ℕ → Bool = λ id. is_some (place_of c.args.heap.now id) in
    IfOk-weaker c.plan.result (λ b. eqb (length b.pages) 0 ≡ not (change_something there c.in_ok-left.left)) (λ b. list_any (moves there) c.args.blobs ≡ true → 0 < length b.pages)
    (λ b nothing. some_put there c.args.blobs c.in_ok-left.left b.pages c.in_ok-left.ensures.moved nothing) c.plan.ensures.nothing

-- what is said of pages by two clauses
by_both : {X E : Type 0} (r : Result X E) (P Q R : X → Type 0) → ((x : X) → P x → Q x → R x) → IfOk r P → IfOk r Q → IfOk r R
by_both (Ok x) P Q R say p q = say x p q
by_both (Err e) P Q R say p q = tt

pub returns-clause-altered : goal.returns-clause-altered
returns-clause-altered g c = λ t.
    let there : ℕ → Bool = λ id. is_some (place_of c.args.heap.now id) in
    let standing = bytes_at (content (g.G.Pages.held c.args.pages.now) (g.G.Pages.in_use c.args.pages.now)) in
    by_both c.plan.result (λ b. eqb (length b.pages) 0 ≡ not (change_something there c.in_ok-left.left)) (λ b. length b.pages ≤ 2 * length c.in_ok-left.left + 2) (λ b. PutsFew c.args.blobs b.pages standing)
    (λ b nothing few. puts_few there standing c.args.blobs c.in_ok-left.left b.pages (λ id. place_told c.args.heap.now (g.G.Pages.held c.args.pages.now) (g.G.Pages.in_use c.args.pages.now) id (c.requires.heap t)) c.requires.once
    (c.in_ok-left.ensures.altering t) (c.in_ok-left.ensures.read t) nothing few) c.plan.ensures.nothing c.plan.ensures.few

pub returns-clause-changed : goal.returns-clause-changed
returns-clause-changed g c = λ t.
    let held = g.G.Pages.held c.args.pages.now in
    let in_use = g.G.Pages.in_use c.args.pages.now in
    IfOk-weaker c.plan.result (λ b. IsChanged c.plan.new.self c.in_ok-left.left (entries b.pages) held in_use) (λ b. IsChanged c.plan.new.self c.args.blobs (entries b.pages) held in_use)
    (λ b changed. changed_altering c.plan.new.self c.args.blobs c.in_ok-left.left (entries b.pages) held in_use c.requires.once (c.in_ok-left.ensures.altering t) changed)
    (subst (λ held. IfOk c.plan.result (λ b. IsChanged c.plan.new.self c.in_ok-left.left (entries b.pages) held in_use)) (c.in_ok-left.ensures.told t)
    (subst (λ n. IfOk c.plan.result (λ b. IsChanged c.plan.new.self c.in_ok-left.left (entries b.pages) (g.G.Pages.held c.altering.new.pages) n)) c.in_ok-left.ensures.in_use (c.plan.ensures.changed t)))

pub returns-clause-knows : goal.returns-clause-knows
returns-clause-knows g c = λ t knows.
    let told = c.in_ok-left.ensures.told t in
    subst (λ held. IfOk c.plan.result (λ b. KnowsRoom c.plan.new.self.room (slots_in (laid (entries b.pages) held)) (page_count c.plan.new.self))) told
    (c.plan.ensures.knows t (subst (λ held. KnowsRoom c.args.heap.now.room (slots_in held) (page_count c.args.heap.now)) (sym told) knows))

-- a page is added only where both say so
late_where : {X E : Type 0} (r : Result X E) (old new : ℕ) (held : ℕ → List ℕ) (put : List Slot) → OnOk r (old < new → 2 < old → 4096 < used (slots_in held (old - 1) ++ put)) → OnOk r (old < new → (p : ℕ) → 2 ≤ p → p < old → 4096 < used (slots_in held p ++ put) + 1024) → OnOk r (AddsLate old new held put)
late_where (Ok x) old new held put last each = record { each = each; last = last }
late_where (Err e) old new held put last each = tt

pub returns-clause-late : goal.returns-clause-late
returns-clause-late g c = λ t knows.
    let before = page_count c.args.heap.now in
    let after = page_count c.plan.new.self in
    let held = g.G.Pages.held c.altering.new.pages in
    let told = c.in_ok-left.ensures.told t in
    subst (λ held. OnOk c.plan.result (AddsLate before after held (slots_put c.args.blobs))) told
    (then_ok c.plan.result (AddsLate before after held (slots_put c.in_ok-left.left)) (AddsLate before after held (slots_put c.args.blobs))
    (λ late. adds_late before after held c.in_ok-left.left c.args.blobs c.in_ok-left.ensures.some late)
    (late_where c.plan.result before after held (slots_put c.in_ok-left.left) (c.plan.ensures.lean t)
    (c.plan.ensures.spread t (subst (λ held. KnowsRoom c.args.heap.now.room (slots_in held) before) (sym told) knows))))
