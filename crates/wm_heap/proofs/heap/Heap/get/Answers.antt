use Rattle.std.proofs.Common.{◌≡◌, sym, ap, ◌∙◌, arith, Err}
use Rattle.wm_faults.specs.declared.fault.StoreFault.TheVariants as faults
use Rattle.std.proofs.lemmas.Result.{err_from_is_err_and}
use Rattle.wm_heap.specs.Content.{bytes_at}
use Rattle.wm_heap.proofs.Getting.{bytes_there, bytes_nowhere, page_there}
use Rattle.wm_heap.proofs.heap.Heap.get.Goals as goal

pub returns-in_default-clause-bytes : goal.returns-in_default-clause-bytes
returns-in_default-clause-bytes g c = λ t.
    sym (bytes_nowhere c.args.self.now (g.G.Pages.held c.args.pages.now) (g.G.Pages.in_use c.args.pages.now) c.args.id (c.requires.heap t) (sym c.page_of.ensures ∙ c.in_default.is))

pub returns-in_err-slots-clause-sound : goal.returns-in_err-slots-clause-sound
returns-in_err-slots-clause-sound g c = λ t e.
    let p = err_from_is_err_and c.from_residual.result c.from_residual.ensures.1 in
    let there = page_there c.args.self.now (g.G.Pages.held c.args.pages.now) (g.G.Pages.in_use c.args.pages.now) c.args.id c.in-Some.page (c.requires.heap t) (sym c.page_of.ensures ∙ c.in-Some.is) in
    let whole = c.requires.whole t in
    let low = there.0 in
    let same : c.in_err-slots.field-0.0 ≡ faults.Changed = (let f = rw (p.1, p.2) at e in cc) in
    c.in_err-slots.ensures.sound t there.0 (omega arith) there.1 (ap (λ v. Err v) same)

pub returns-in-Some-2-clause-bytes : goal.returns-in-Some-2-clause-bytes
returns-in-Some-2-clause-bytes g c = λ t.
    sym c.in-Some-2.is ∙ c.in_ok-bytes.ensures ∙ ap (λ slots. bytes_at slots c.args.id) (c.in_ok-slots.ensures.value t)
    ∙ sym (bytes_there c.args.self.now (g.G.Pages.held c.args.pages.now) (g.G.Pages.in_use c.args.pages.now) c.args.id c.in-Some.page (c.requires.heap t) (sym c.page_of.ensures ∙ c.in-Some.is))
