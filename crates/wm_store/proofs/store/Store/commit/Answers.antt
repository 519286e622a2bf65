use Rattle.std.proofs.Common.{◌≡◌, ℕ, ◌≤◌, ◌<◌, true, [], refl, sym, ap, subst, ◌∙◌, arith}
use Rattle.wm_page.specs.Batch.{entries}
use Rattle.wm_station.specs.History.{now}
use Rattle.wm_station.specs.Moments.{Ended}
use Rattle.wm_journal.specs.Disk.{page}
use Rattle.wm_journal.specs.Store.{OldOrNew, over}
use Rattle.wm_heap.specs.Blobs.{AreBlobs, AreSmall, slots_put}
use Rattle.wm_heap.specs.Content.{slots_in}
use Rattle.wm_heap.specs.Places.{page_count}
use Rattle.wm_heap.specs.Room.{KnowsRoom}
use Rattle.wm_store.specs.Few.{AddsLate}
use Rattle.wm_store.specs.Spelled.{blobs_of}
use Rattle.wm_store.proofs.Committing.{blobs_once, blobs_small, count_planned, few_rewritten}
use Rattle.wm_store.proofs.Storing.{as_planned, before_plan, takes_pages, takes_root, takes_grown, store_after, room_after, held_after, store_same, room_same, held_same, kept_same, old_or_after}
use Rattle.wm_store.proofs.Unchanging.{few_planned, nothing_planned}
use Rattle.wm_store.proofs.store.Store.commit.Goals as goal

pub returns-in_err-blobs-clause-any_moment : goal.returns-in_err-blobs-clause-any_moment
returns-in_err-blobs-clause-any_moment g c = λ t old held.
    kept_same (g.P.Station.history c.args.station.now) (g.P.Station.history c.args.station.now) c.args.self.now.journal c.args.batch.now.changes old refl (c.requires.store t).rests (subst (λ n. 3 ≤ n) c.count-count.ensures.value c.count-count.ensures.enough) held.opens

pub change_over-requires-clause-once : goal.change_over-requires-clause-once
change_over-requires-clause-once g c = subst AreBlobs (sym (c.in_ok-blobs.ensures.blobs ∙ ap blobs_of c.as_slice.ensures)) (blobs_once c.args.batch.now.changes c.requires.changes)

pub change_over-requires-clause-small : goal.change_over-requires-clause-small
change_over-requires-clause-small g c = subst AreSmall (sym c.in_ok-blobs.ensures.blobs) (blobs_small c.as_slice.result.now c.in_ok-blobs.ensures.spelled)

pub returns-in_err-pages-clause-any_moment : goal.returns-in_err-pages-clause-any_moment
returns-in_err-pages-clause-any_moment g c = λ t old held.
    kept_same (g.P.Station.history c.args.station.now) (g.P.Station.history c.change_over.new.station) c.args.self.now.journal c.args.batch.now.changes old (c.in_err-pages.ensures.told t) (c.requires.store t).rests (subst (λ n. 3 ≤ n) c.count-count.ensures.value c.count-count.ensures.enough) held.opens

pub returns-then-is_empty-clause-store : goal.returns-then-is_empty-clause-store
returns-then-is_empty-clause-store g c = λ t.
    store_same (g.P.Station.history c.args.station.now) (g.P.Station.history c.change_over.new.station) (record { journal = c.args.self.now.journal; heap = c.change_over.new.heap }) c.args.batch.now.changes (entries c.in_ok-pages.pages.pages) (c.requires.store t).opens.0
    (c.in_ok-pages.ensures.told t) (ap entries (c.is_empty.ensures.0 c.if-is_empty.true)) (as_planned (g.P.Station.history c.args.station.now) c.args.self.now.heap c.change_over.new.heap c.args.self.now.journal c.count-count.result c.page_count.result c.args.batch.now.changes c.as_slice.result.now c.in_ok-blobs.blobs (entries c.in_ok-pages.pages.pages)
    (c.requires.store t).rests c.count-count.ensures.enough c.count-count.ensures.value c.page_count.ensures c.if-page_count-count.false c.in_ok-pages.ensures.plan c.in_ok-blobs.ensures.spelled c.as_slice.ensures c.in_ok-blobs.ensures.blobs (c.in_ok-pages.ensures.changed t)) (c.requires.store t).opens.1

pub returns-then-is_empty-clause-held : goal.returns-then-is_empty-clause-held
returns-then-is_empty-clause-held g c = λ t old held.
    held_same (g.P.Station.history c.args.station.now) (g.P.Station.history c.change_over.new.station) c.args.self.now.journal c.change_over.new.heap c.args.batch.now.changes (entries c.in_ok-pages.pages.pages) old
    (c.in_ok-pages.ensures.told t) (ap entries (c.is_empty.ensures.0 c.if-is_empty.true)) (as_planned (g.P.Station.history c.args.station.now) c.args.self.now.heap c.change_over.new.heap c.args.self.now.journal c.count-count.result c.page_count.result c.args.batch.now.changes c.as_slice.result.now c.in_ok-blobs.blobs (entries c.in_ok-pages.pages.pages)
    (c.requires.store t).rests c.count-count.ensures.enough c.count-count.ensures.value c.page_count.ensures c.if-page_count-count.false c.in_ok-pages.ensures.plan c.in_ok-blobs.ensures.spelled c.as_slice.ensures c.in_ok-blobs.ensures.blobs (c.in_ok-pages.ensures.changed t)) held.opens

pub returns-then-is_empty-clause-any_moment : goal.returns-then-is_empty-clause-any_moment
returns-then-is_empty-clause-any_moment g c = λ t old held.
    kept_same (g.P.Station.history c.args.station.now) (g.P.Station.history c.change_over.new.station) c.args.self.now.journal c.args.batch.now.changes old (c.in_ok-pages.ensures.told t) (c.requires.store t).rests (subst (λ n. 3 ≤ n) c.count-count.ensures.value c.count-count.ensures.enough) held.opens

pub commit-requires-clause-pages : goal.commit-requires-clause-pages
commit-requires-clause-pages g c = takes_pages c.args.self.now.journal (page_count c.change_over.new.heap) (entries c.in_ok-pages.pages.pages) (before_plan c.args.self.now.journal c.count-count.result c.page_count.result (page_count c.args.self.now.heap) (page_count c.change_over.new.heap) (entries c.in_ok-pages.pages.pages) c.count-count.ensures.value c.page_count.ensures c.if-page_count-count.false c.in_ok-pages.ensures.plan)

pub commit-requires-clause-root : goal.commit-requires-clause-root
commit-requires-clause-root g c = takes_root c.args.self.now.journal (page_count c.change_over.new.heap) (entries c.in_ok-pages.pages.pages) (subst (λ n. 3 ≤ n) c.count-count.ensures.value c.count-count.ensures.enough) (before_plan c.args.self.now.journal c.count-count.result c.page_count.result (page_count c.args.self.now.heap) (page_count c.change_over.new.heap) (entries c.in_ok-pages.pages.pages) c.count-count.ensures.value c.page_count.ensures c.if-page_count-count.false c.in_ok-pages.ensures.plan)

pub commit-requires-clause-grown : goal.commit-requires-clause-grown
commit-requires-clause-grown g c = takes_grown c.args.self.now.journal (page_count c.change_over.new.heap) (entries c.in_ok-pages.pages.pages) (before_plan c.args.self.now.journal c.count-count.result c.page_count.result (page_count c.args.self.now.heap) (page_count c.change_over.new.heap) (entries c.in_ok-pages.pages.pages) c.count-count.ensures.value c.page_count.ensures c.if-page_count-count.false c.in_ok-pages.ensures.plan)

pub returns-clause-store : goal.returns-clause-store
returns-clause-store g c = λ t.
    store_after (g.P.Station.history c.args.station.now) (g.P.Station.history c.commit.new.station) c.args.self.now.journal (record { journal = c.commit.new.self; heap = c.change_over.new.heap }) c.args.batch.now.changes (entries c.in_ok-pages.pages.pages) (c.requires.store t).opens.0
    (as_planned (g.P.Station.history c.args.station.now) c.args.self.now.heap c.change_over.new.heap c.args.self.now.journal c.count-count.result c.page_count.result c.args.batch.now.changes c.as_slice.result.now c.in_ok-blobs.blobs (entries c.in_ok-pages.pages.pages)
    (c.requires.store t).rests c.count-count.ensures.enough c.count-count.ensures.value c.page_count.ensures c.if-page_count-count.false c.in_ok-pages.ensures.plan c.in_ok-blobs.ensures.spelled c.as_slice.ensures c.in_ok-blobs.ensures.blobs (c.in_ok-pages.ensures.changed t)) (c.requires.store t).opens.1 c.in_ok-commit.ensures.count (c.in_ok-commit.ensures.rests t)
    (subst (λ h. (p : ℕ) → 1 ≤ p → p < c.commit.new.self → page (now (g.P.Station.history c.commit.new.station)) p ≡ over (entries c.in_ok-pages.pages.pages) (page (now h)) p) (c.in_ok-pages.ensures.told t) (c.in_ok-commit.ensures.pages t))

pub returns-clause-held : goal.returns-clause-held
returns-clause-held g c = λ t old held.
    held_after (g.P.Station.history c.args.station.now) (g.P.Station.history c.commit.new.station) c.args.self.now.journal c.commit.new.self c.change_over.new.heap c.args.batch.now.changes (entries c.in_ok-pages.pages.pages) old
    (as_planned (g.P.Station.history c.args.station.now) c.args.self.now.heap c.change_over.new.heap c.args.self.now.journal c.count-count.result c.page_count.result c.args.batch.now.changes c.as_slice.result.now c.in_ok-blobs.blobs (entries c.in_ok-pages.pages.pages)
    (c.requires.store t).rests c.count-count.ensures.enough c.count-count.ensures.value c.page_count.ensures c.if-page_count-count.false c.in_ok-pages.ensures.plan c.in_ok-blobs.ensures.spelled c.as_slice.ensures c.in_ok-blobs.ensures.blobs (c.in_ok-pages.ensures.changed t)) held.opens c.in_ok-commit.ensures.count (c.in_ok-commit.ensures.rests t)
    (subst (λ h. (p : ℕ) → 1 ≤ p → p < c.commit.new.self → page (now (g.P.Station.history c.commit.new.station)) p ≡ over (entries c.in_ok-pages.pages.pages) (page (now h)) p) (c.in_ok-pages.ensures.told t) (c.in_ok-commit.ensures.pages t))

pub returns-clause-any_moment : goal.returns-clause-any_moment
returns-clause-any_moment g c = λ t old held.
    old_or_after (g.P.Station.history c.args.station.now) (g.P.Station.history c.commit.new.station) c.args.self.now.journal (page_count c.change_over.new.heap) c.change_over.new.heap c.args.batch.now.changes (entries c.in_ok-pages.pages.pages) old
    (as_planned (g.P.Station.history c.args.station.now) c.args.self.now.heap c.change_over.new.heap c.args.self.now.journal c.count-count.result c.page_count.result c.args.batch.now.changes c.as_slice.result.now c.in_ok-blobs.blobs (entries c.in_ok-pages.pages.pages)
    (c.requires.store t).rests c.count-count.ensures.enough c.count-count.ensures.value c.page_count.ensures c.if-page_count-count.false c.in_ok-pages.ensures.plan c.in_ok-blobs.ensures.spelled c.as_slice.ensures c.in_ok-blobs.ensures.blobs (c.in_ok-pages.ensures.changed t)) held.opens
    (subst (λ h. Ended h (g.P.Station.history c.commit.new.station) (OldOrNew (page (now h)) c.args.self.now.journal (entries c.in_ok-pages.pages.pages))) (c.in_ok-pages.ensures.told t) (c.in_ok-commit.ensures.any_moment t))

pub returns-in_err-commit-clause-any_moment : goal.returns-in_err-commit-clause-any_moment
returns-in_err-commit-clause-any_moment g c = λ t old held.
    old_or_after (g.P.Station.history c.args.station.now) (g.P.Station.history c.commit.new.station) c.args.self.now.journal (page_count c.change_over.new.heap) c.change_over.new.heap c.args.batch.now.changes (entries c.in_ok-pages.pages.pages) old
    (as_planned (g.P.Station.history c.args.station.now) c.args.self.now.heap c.change_over.new.heap c.args.self.now.journal c.count-count.result c.page_count.result c.args.batch.now.changes c.as_slice.result.now c.in_ok-blobs.blobs (entries c.in_ok-pages.pages.pages)
    (c.requires.store t).rests c.count-count.ensures.enough c.count-count.ensures.value c.page_count.ensures c.if-page_count-count.false c.in_ok-pages.ensures.plan c.in_ok-blobs.ensures.spelled c.as_slice.ensures c.in_ok-blobs.ensures.blobs (c.in_ok-pages.ensures.changed t)) held.opens
    (subst (λ h. Ended h (g.P.Station.history c.commit.new.station) (OldOrNew (page (now h)) c.args.self.now.journal (entries c.in_ok-pages.pages.pages))) (c.in_ok-pages.ensures.told t) (c.in_err-commit.ensures.any_moment t))

pub returns-in_err-pages-clause-nothing : goal.returns-in_err-pages-clause-nothing
returns-in_err-pages-clause-nothing g c = λ t old held nothing. c.in_err-pages.ensures.told t

pub returns-then-is_empty-clause-nothing : goal.returns-then-is_empty-clause-nothing
returns-then-is_empty-clause-nothing g c = λ t old held nothing. c.in_ok-pages.ensures.told t

pub returns-clause-nothing : goal.returns-clause-nothing
returns-clause-nothing g c = λ t old held nothing.
    absurd (let none : c.in_ok-pages.pages.pages ≡ [] = nothing_planned (g.P.Station.history c.args.station.now) c.args.self.now.journal c.count-count.result c.args.batch.now.changes c.as_slice.result.now c.in_ok-blobs.blobs c.in_ok-pages.pages.pages old (c.requires.store t).rests
    c.count-count.ensures.enough c.count-count.ensures.value held.opens c.as_slice.ensures c.in_ok-blobs.ensures.blobs (c.in_ok-pages.ensures.altered t) nothing in
    let yes : c.is_empty.result ≡ true = c.is_empty.ensures.1 none in
    let no = c.if-is_empty.false in
    cc)

pub returns-in_err-commit-clause-nothing : goal.returns-in_err-commit-clause-nothing
returns-in_err-commit-clause-nothing g c = λ t old held nothing.
    absurd (let none : c.in_ok-pages.pages.pages ≡ [] = nothing_planned (g.P.Station.history c.args.station.now) c.args.self.now.journal c.count-count.result c.args.batch.now.changes c.as_slice.result.now c.in_ok-blobs.blobs c.in_ok-pages.pages.pages old (c.requires.store t).rests
    c.count-count.ensures.enough c.count-count.ensures.value held.opens c.as_slice.ensures c.in_ok-blobs.ensures.blobs (c.in_ok-pages.ensures.altered t) nothing in
    let yes : c.is_empty.result ≡ true = c.is_empty.ensures.1 none in
    let no = c.if-is_empty.false in
    cc)

pub returns-then-is_empty-clause-few : goal.returns-then-is_empty-clause-few
returns-then-is_empty-clause-few g c = λ t. record {
  rewritten = [];
  few = omega arith;
  pages = λ p from till. ap (λ h. page (now h) p) (c.in_ok-pages.ensures.told t);
}

pub returns-clause-few : goal.returns-clause-few
returns-clause-few g c = λ t. record {
  rewritten = entries c.in_ok-pages.pages.pages;
  few = few_rewritten c.args.batch.now.changes c.in_ok-blobs.blobs c.in_ok-pages.pages.pages (c.in_ok-blobs.ensures.blobs ∙ ap blobs_of c.as_slice.ensures) c.in_ok-pages.ensures.few;
  pages = subst (λ h. (p : ℕ) → 1 ≤ p → p < c.commit.new.self → page (now (g.P.Station.history c.commit.new.station)) p ≡ over (entries c.in_ok-pages.pages.pages) (page (now h)) p) (c.in_ok-pages.ensures.told t) (c.in_ok-commit.ensures.pages t);
}

pub returns-then-is_empty-clause-pages : goal.returns-then-is_empty-clause-pages
returns-then-is_empty-clause-pages g c = λ t old held ids only. record {
  rewritten = [];
  few = omega arith;
  pages = λ p from till. ap (λ h. page (now h) p) (c.in_ok-pages.ensures.told t);
}

pub returns-clause-pages : goal.returns-clause-pages
returns-clause-pages g c = λ t old held ids only. record {
  rewritten = entries c.in_ok-pages.pages.pages;
  few = few_planned (g.P.Station.history c.args.station.now) c.args.self.now.journal c.count-count.result c.args.batch.now.changes c.as_slice.result.now c.in_ok-blobs.blobs c.in_ok-pages.pages.pages old (c.requires.store t).rests
      c.count-count.ensures.enough c.count-count.ensures.value held.opens c.as_slice.ensures c.in_ok-blobs.ensures.blobs (c.in_ok-pages.ensures.altered t) ids only;
  pages = subst (λ h. (p : ℕ) → 1 ≤ p → p < c.commit.new.self → page (now (g.P.Station.history c.commit.new.station)) p ≡ over (entries c.in_ok-pages.pages.pages) (page (now h)) p) (c.in_ok-pages.ensures.told t) (c.in_ok-commit.ensures.pages t);
}

pub returns-then-is_empty-clause-room : goal.returns-then-is_empty-clause-room
returns-then-is_empty-clause-room g c = λ t knows.
    let held = page (now (g.P.Station.history c.args.station.now)) in
    let before = sym c.count-count.ensures.value ∙ sym c.if-page_count-count.false ∙ c.page_count.ensures in
    room_same (g.P.Station.history c.args.station.now) (g.P.Station.history c.change_over.new.station) (record { journal = c.args.self.now.journal; heap = c.change_over.new.heap }) (entries c.in_ok-pages.pages.pages)
    (c.in_ok-pages.ensures.told t) (ap entries (c.is_empty.ensures.0 c.if-is_empty.true)) (before_plan c.args.self.now.journal c.count-count.result c.page_count.result (page_count c.args.self.now.heap) (page_count c.change_over.new.heap) (entries c.in_ok-pages.pages.pages) c.count-count.ensures.value c.page_count.ensures c.if-page_count-count.false c.in_ok-pages.ensures.plan)
    (c.in_ok-pages.ensures.knows t (subst (KnowsRoom c.args.self.now.heap.room (slots_in held)) before knows))

pub returns-clause-room : goal.returns-clause-room
returns-clause-room g c = λ t knows.
    let held = page (now (g.P.Station.history c.args.station.now)) in
    let before = sym c.count-count.ensures.value ∙ sym c.if-page_count-count.false ∙ c.page_count.ensures in
    room_after (g.P.Station.history c.args.station.now) (g.P.Station.history c.commit.new.station) c.args.self.now.journal (record { journal = c.commit.new.self; heap = c.change_over.new.heap }) (entries c.in_ok-pages.pages.pages)
    (before_plan c.args.self.now.journal c.count-count.result c.page_count.result (page_count c.args.self.now.heap) (page_count c.change_over.new.heap) (entries c.in_ok-pages.pages.pages) c.count-count.ensures.value c.page_count.ensures c.if-page_count-count.false c.in_ok-pages.ensures.plan)
    (c.in_ok-pages.ensures.knows t (subst (KnowsRoom c.args.self.now.heap.room (slots_in held)) before knows)) c.in_ok-commit.ensures.count
    (subst (λ h. (p : ℕ) → 1 ≤ p → p < c.commit.new.self → page (now (g.P.Station.history c.commit.new.station)) p ≡ over (entries c.in_ok-pages.pages.pages) (page (now h)) p) (c.in_ok-pages.ensures.told t) (c.in_ok-commit.ensures.pages t))

pub returns-clause-late : goal.returns-clause-late
returns-clause-late g c = λ t knows.
    let held = page (now (g.P.Station.history c.args.station.now)) in
    let before = sym c.count-count.ensures.value ∙ sym c.if-page_count-count.false ∙ c.page_count.ensures in
    let plan = before_plan c.args.self.now.journal c.count-count.result c.page_count.result (page_count c.args.self.now.heap) (page_count c.change_over.new.heap) (entries c.in_ok-pages.pages.pages) c.count-count.ensures.value c.page_count.ensures c.if-page_count-count.false c.in_ok-pages.ensures.plan in
    let after = c.in_ok-commit.ensures.count ∙ count_planned c.args.self.now.journal (page_count c.change_over.new.heap) (entries c.in_ok-pages.pages.pages) plan in
    let late = c.in_ok-pages.ensures.late t (subst (KnowsRoom c.args.self.now.heap.room (slots_in held)) before knows) in
    subst (λ n. AddsLate n c.commit.new.self held (slots_put (blobs_of c.args.batch.now.changes))) (sym before)
    (subst (λ n. AddsLate (page_count c.args.self.now.heap) n held (slots_put (blobs_of c.args.batch.now.changes))) (sym after)
    (subst (λ bs. AddsLate (page_count c.args.self.now.heap) (page_count c.change_over.new.heap) held (slots_put bs)) (c.in_ok-blobs.ensures.blobs ∙ ap blobs_of c.as_slice.ensures) late))
