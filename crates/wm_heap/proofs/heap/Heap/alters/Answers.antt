use Rattle.std.proofs.Common.{◌≡◌, ◌↔◌, ℕ, List, Option, true, not, is_some, Err, sym, ap, subst, ◌∙◌, arith}
use Rattle.std.proofs.lemmas.Result.{err_from_is_err_and}
use Rattle.wm_base.proofs.Plain.{none_since}
use Rattle.wm_faults.specs.declared.fault.StoreFault.TheVariants as faults
use Rattle.wm_heap.specs.Blobs.{AreBytes}
use Rattle.wm_heap.specs.Content.{bytes_at, content}
use Rattle.wm_heap.proofs.Altering.{alters_told, alters_nowhere, alters_dropped}
use Rattle.wm_heap.proofs.Getting.{bytes_there, bytes_nowhere, page_there}
use Rattle.wm_heap.proofs.heap.Heap.alters.Goals as goal

pub returns-in_default-clause-alters : goal.returns-in_default-clause-alters
returns-in_default-clause-alters g c = λ t.
    c.is_some.ensures ∙ alters_nowhere (bytes_at (content (g.G.Pages.held c.args.pages.now) (g.G.Pages.in_use c.args.pages.now))) c.args.blob.now
    (bytes_nowhere c.args.self.now (g.G.Pages.held c.args.pages.now) (g.G.Pages.in_use c.args.pages.now) c.args.blob.now.id (c.requires.heap t) (sym c.page_of.ensures ∙ c.in_default.is))

pub returns-in_default-clause-read : goal.returns-in_default-clause-read
returns-in_default-clause-read g c = λ t some.
    subst AreBytes (sym (bytes_nowhere c.args.self.now (g.G.Pages.held c.args.pages.now) (g.G.Pages.in_use c.args.pages.now) c.args.blob.now.id (c.requires.heap t) (sym c.page_of.ensures ∙ c.in_default.is))) tt

pub returns-then-is_none-clause-alters : goal.returns-then-is_none-clause-alters
returns-then-is_none-clause-alters g c = λ t.
    let here = sym c.page_of.ensures ∙ c.in-Some.is in
    sym (alters_dropped (bytes_at (content (g.G.Pages.held c.args.pages.now) (g.G.Pages.in_use c.args.pages.now))) c.args.blob.now
    (ap is_some (bytes_there c.args.self.now (g.G.Pages.held c.args.pages.now) (g.G.Pages.in_use c.args.pages.now) c.args.blob.now.id c.in-Some.page (c.requires.heap t) here)
    ∙ (page_there c.args.self.now (g.G.Pages.held c.args.pages.now) (g.G.Pages.in_use c.args.pages.now) c.args.blob.now.id c.in-Some.page (c.requires.heap t) here).2)
    (none_since c.args.blob.now.bytes (c.is_none.ensures ∙ ap not c.if-is_none.true)))

pub returns-in_err-read-clause-sound : goal.returns-in_err-read-clause-sound
returns-in_err-read-clause-sound g c = λ t e.
    let p = err_from_is_err_and c.from_residual.result c.from_residual.ensures.1 in
    let there = page_there c.args.self.now (g.G.Pages.held c.args.pages.now) (g.G.Pages.in_use c.args.pages.now) c.args.blob.now.id c.in-Some.page (c.requires.heap t) (sym c.page_of.ensures ∙ c.in-Some.is) in
    let whole = c.requires.whole t in
    let low = there.0 in
    let same : c.in_err-read.field-0.0 ≡ faults.Changed = (let f = rw (p.1, p.2) at e in cc) in
    c.in_err-read.ensures.sound t there.0 (omega arith) there.1 (ap (λ v. Err v) same)

pub returns-clause-alters : goal.returns-clause-alters
returns-clause-alters g c = λ t.
    let is = ap (λ slots. bytes_at slots c.args.blob.now.id) (c.in_ok-read.ensures.value t)
    ∙ sym (bytes_there c.args.self.now (g.G.Pages.held c.args.pages.now) (g.G.Pages.in_use c.args.pages.now) c.args.blob.now.id c.in-Some.page (c.requires.heap t) (sym c.page_of.ensures ∙ c.in-Some.is)) in
    alters_told (bytes_at (content (g.G.Pages.held c.args.pages.now) (g.G.Pages.in_use c.args.pages.now))) c.args.blob.now c.hold-same.result
    (subst (λ (o : Option (List ℕ)). (c.hold-same.result ≡ true) ↔ (o ≡ c.args.blob.now.bytes)) is c.hold-same.ensures.same)

pub returns-clause-read : goal.returns-clause-read
returns-clause-read g c = λ t some.
    subst AreBytes (ap (λ slots. bytes_at slots c.args.blob.now.id) (c.in_ok-read.ensures.value t)
    ∙ sym (bytes_there c.args.self.now (g.G.Pages.held c.args.pages.now) (g.G.Pages.in_use c.args.pages.now) c.args.blob.now.id c.in-Some.page (c.requires.heap t) (sym c.page_of.ensures ∙ c.in-Some.is))) c.hold-same.ensures.bytes
