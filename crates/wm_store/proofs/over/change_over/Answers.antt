use Rattle.std.proofs.Common.{IfOk, OnOk, sym, ap, subst, ◌∙◌}
use Rattle.wm_page.specs.Batch.{entries}
use Rattle.wm_heap.specs.Blobs.{slots_put}
use Rattle.wm_heap.specs.Content.{bytes_at, content, slots_in}
use Rattle.wm_heap.specs.Places.{page_count}
use Rattle.wm_heap.specs.Plan.{IsChanged, laid}
use Rattle.wm_heap.specs.Room.{KnowsRoom}
use Rattle.wm_journal.specs.Disk.{page}
use Rattle.wm_station.specs.History.{now}
use Rattle.wm_store.specs.Few.{AddsLate, PutsFew}
use Rattle.wm_store.proofs.over.change_over.Goals as goal

pub returns-clause-altered : goal.returns-clause-altered
returns-clause-altered g c = λ t.
    subst (λ n. IfOk c.change_pages.result (λ b. PutsFew c.args.blobs b.pages (bytes_at (content (page (now (g.P.Station.history c.args.station.now))) n)))) c.new-pages.ensures.count
    (subst (λ h. IfOk c.change_pages.result (λ b. PutsFew c.args.blobs b.pages (bytes_at (content (page (now h)) c.new-pages.result.count)))) (ap g.P.Station.history c.new-pages.ensures.station ∙ c.in-Ok.ensures.told t) (c.change_pages.ensures.altered t))

pub returns-clause-late : goal.returns-clause-late
returns-clause-late g c = λ t knows.
    let told = ap g.P.Station.history c.new-pages.ensures.station ∙ c.in-Ok.ensures.told t in
    subst (λ h. OnOk c.change_pages.result (AddsLate (page_count c.args.heap.now) (page_count c.change_pages.new.heap) (page (now h)) (slots_put c.args.blobs))) told
    (c.change_pages.ensures.late t (subst (λ h. KnowsRoom c.args.heap.now.room (slots_in (page (now h))) (page_count c.args.heap.now)) (sym told) knows))

pub returns-clause-changed : goal.returns-clause-changed
returns-clause-changed g c = λ t.
    subst (λ n. IfOk c.change_pages.result (λ b. IsChanged c.change_pages.new.heap c.args.blobs (entries b.pages) (page (now (g.P.Station.history c.args.station.now))) n)) c.new-pages.ensures.count
    (subst (λ h. IfOk c.change_pages.result (λ b. IsChanged c.change_pages.new.heap c.args.blobs (entries b.pages) (page (now h)) c.new-pages.result.count)) (ap g.P.Station.history c.new-pages.ensures.station ∙ c.in-Ok.ensures.told t) (c.change_pages.ensures.changed t))

pub returns-clause-knows : goal.returns-clause-knows
returns-clause-knows g c = λ t knows.
    let told = ap g.P.Station.history c.new-pages.ensures.station ∙ c.in-Ok.ensures.told t in
    subst (λ h. IfOk c.change_pages.result (λ b. KnowsRoom c.change_pages.new.heap.room (slots_in (laid (entries b.pages) (page (now h)))) (page_count c.change_pages.new.heap))) told
    (c.change_pages.ensures.knows t (subst (λ h. KnowsRoom c.args.heap.now.room (slots_in (page (now h))) (page_count c.args.heap.now)) (sym told) knows))
