use Rattle.std.proofs.Common.{rules, ◌≡◌, Ok, IfErr, IfOk, ap, subst, ◌∙◌}
use Rattle.wm_heap.specs.Content.{slots_in}
use Rattle.wm_heap.specs.Places.{IsHeapOf}
use Rattle.wm_heap.specs.Room.{KnowsRoom}
use Rattle.wm_journal.specs.Disk.{page}
use Rattle.wm_station.specs.History.{now}
use Rattle.wm_store.specs.Answers.{FindsIn}
use Rattle.wm_store.specs.Opened.{pages_opened}
use Rattle.wm_store.proofs.Mending.{opened_at, size_found}
use Rattle.wm_store.proofs.Pasts.{past_injective}
use Rattle.wm_store.proofs.over.load_over.Goals as goal

pub returns-clause-heap : goal.returns-clause-heap
returns-clause-heap g c = λ t.
    subst (λ n. IfOk c.load_pages.result (λ r. IsHeapOf r.0 (page (now (g.P.Station.history c.args.station.now))) n)) c.new-pages.ensures.count
    (subst (λ h. IfOk c.load_pages.result (λ r. IsHeapOf r.0 (page (now h)) c.new-pages.result.count)) (ap g.P.Station.history c.new-pages.ensures.station ∙ c.in-Ok.ensures.told t) (c.load_pages.ensures.heap t))

pub returns-clause-room : goal.returns-clause-room
returns-clause-room g c = λ t.
    subst (λ n. IfOk c.load_pages.result (λ r. KnowsRoom r.0.room (slots_in (page (now (g.P.Station.history c.args.station.now)))) n)) c.new-pages.ensures.count
    (subst (λ h. IfOk c.load_pages.result (λ r. KnowsRoom r.0.room (slots_in (page (now h))) c.new-pages.result.count)) (ap g.P.Station.history c.new-pages.ensures.station ∙ c.in-Ok.ensures.told t) (c.load_pages.ensures.room t))

pub returns-clause-size : goal.returns-clause-size
returns-clause-size g c = λ t.
    size_found c.load_pages.result (now (g.P.Station.history c.args.station.now)) c.args.count c.new-pages.result.whole (page (now (g.P.Station.history c.new-pages.result.station.now))) c.requires (c.new-pages.ensures.whole ∙ c.in-Ok.ensures.whole t)
    (subst (λ n. IfOk c.load_pages.result (λ r. pages_opened (page (now (g.P.Station.history c.new-pages.result.station.now))) n c.new-pages.result.whole ≡ Ok r.1)) c.new-pages.ensures.count (c.load_pages.ensures.records t))

pub returns-clause-records : goal.returns-clause-records
returns-clause-records g c = λ t.
    subst (λ opened. IfOk c.load_pages.result (λ r. opened ≡ Ok r.1))
    (ap (λ n. pages_opened (page (now (g.P.Station.history c.new-pages.result.station.now))) n c.new-pages.result.whole) c.new-pages.ensures.count
    ∙ opened_at (g.P.Station.history c.args.station.now) (g.P.Station.history c.new-pages.result.station.now) c.args.count c.new-pages.result.whole (ap g.P.Station.history c.new-pages.ensures.station ∙ c.in-Ok.ensures.told t) (c.new-pages.ensures.whole ∙ c.in-Ok.ensures.whole t))
    (c.load_pages.ensures.records t)

pub returns-clause-fault : goal.returns-clause-fault
returns-clause-fault g c = λ t.
    subst (λ opened. IfErr c.load_pages.result (λ e. FindsIn e opened))
    (ap (λ n. pages_opened (page (now (g.P.Station.history c.new-pages.result.station.now))) n c.new-pages.result.whole) c.new-pages.ensures.count
    ∙ opened_at (g.P.Station.history c.args.station.now) (g.P.Station.history c.new-pages.result.station.now) c.args.count c.new-pages.result.whole (ap g.P.Station.history c.new-pages.ensures.station ∙ c.in-Ok.ensures.told t) (c.new-pages.ensures.whole ∙ c.in-Ok.ensures.whole t))
    (c.load_pages.ensures.fault t)

pub returns-clause-told : goal.returns-clause-told
returns-clause-told g c = λ t.
    let told : g.P.Station.history c.load_pages.new.pages.station.now ≡ g.P.Station.history c.args.station.now =
    past_injective _ _ (c.load_pages.ensures.past t) ∙ ap g.P.Station.history c.new-pages.ensures.station ∙ c.in-Ok.ensures.told t in
    search rules ∙ told
