use Rattle.std.proofs.Common.{◌≤◌, refl, sym, subst, ◌∙◌, lit≤}
use Rattle.wm_page.specs.Batch.{entries}
use Rattle.wm_station.specs.History.{now}
use Rattle.wm_journal.specs.Disk.{page}
use Rattle.wm_heap.specs.Blobs.{slots_put}
use Rattle.wm_heap.specs.Content.{slots_in}
use Rattle.wm_heap.specs.Places.{IsHeapOf}
use Rattle.wm_heap.specs.Plan.{root_of}
use Rattle.wm_heap.specs.Room.{KnowsRoom}
use Rattle.wm_heap.specs.Slots.{page_of}
use Rattle.wm_store.specs.Fresh.{fresh_changes, fresh_records}
use Rattle.wm_store.specs.Spelled.{blobs_of}
use Rattle.wm_store.proofs.Freshly.{made_opens, second_page}
use Rattle.wm_store.proofs.Storing.{rests_hold, count_held}
use Rattle.wm_store.proofs.store.Store.make.Goals as goal

pub returns-clause-held : goal.returns-clause-held
returns-clause-held g c = λ t.
    rests_hold (g.P.Station.history c.make.new.station) c.in_ok-journal.journal (fresh_records c.args.limit) (c.in_ok-journal.ensures.rests t) (subst (λ n. 3 ≤ n) (sym c.in_ok-journal.ensures.count) (lit≤ tt))
    (made_opens (g.P.Station.history c.make.new.station) c.in_ok-journal.journal (blobs_of (fresh_changes c.args.limit)) (entries c.in_ok-heap.pages.pages) c.args.limit c.in_ok-heap.ensures.spelled refl c.in_ok-heap.ensures.pages c.in_ok-heap.ensures.again c.in_ok-heap.ensures.sound (c.in_ok-journal.ensures.pages t) c.in_ok-journal.ensures.count)

pub returns-clause-store : goal.returns-clause-store
returns-clause-store g c = λ t. record {
  rests = c.in_ok-journal.ensures.rests t;
  heap =
      subst (λ n. IsHeapOf c.in_ok-heap.heap (page (now (g.P.Station.history c.make.new.station))) n) (sym c.in_ok-journal.ensures.count)
      (c.in_ok-heap.ensures.heap (page (now (g.P.Station.history c.make.new.station)))
      (c.in_ok-journal.ensures.pages t 2 (lit≤ tt) (lit≤ tt) ∙ second_page (entries c.in_ok-heap.pages.pages) (root_of 3) (page_of (slots_put (blobs_of (fresh_changes c.args.limit)))) c.in_ok-heap.ensures.pages));
  opens = (
    fresh_records c.args.limit,
    (rests_hold (g.P.Station.history c.make.new.station) c.in_ok-journal.journal (fresh_records c.args.limit) (c.in_ok-journal.ensures.rests t) (subst (λ n. 3 ≤ n) (sym c.in_ok-journal.ensures.count) (lit≤ tt))
        (made_opens (g.P.Station.history c.make.new.station) c.in_ok-journal.journal (blobs_of (fresh_changes c.args.limit)) (entries c.in_ok-heap.pages.pages) c.args.limit c.in_ok-heap.ensures.spelled refl c.in_ok-heap.ensures.pages c.in_ok-heap.ensures.again c.in_ok-heap.ensures.sound (c.in_ok-journal.ensures.pages t) c.in_ok-journal.ensures.count)).here.opens,
  );
}

pub returns-clause-room : goal.returns-clause-room
returns-clause-room g c = λ t.
    subst (λ n. KnowsRoom c.in_ok-heap.heap.room (slots_in (page (now (g.P.Station.history c.make.new.station)))) n) (sym c.in_ok-journal.ensures.count)
    (c.in_ok-heap.ensures.room (page (now (g.P.Station.history c.make.new.station)))
    (c.in_ok-journal.ensures.pages t 2 (lit≤ tt) (lit≤ tt) ∙ second_page (entries c.in_ok-heap.pages.pages) (root_of 3) (page_of (slots_put (blobs_of (fresh_changes c.args.limit)))) c.in_ok-heap.ensures.pages))

pub returns-clause-count : goal.returns-clause-count
returns-clause-count g c = λ t. count_held (g.P.Station.history c.make.new.station) c.in_ok-journal.journal (c.in_ok-journal.ensures.rests t) ∙ c.in_ok-journal.ensures.count
