use Rattle.std.proofs.Common.{◌≡◌, ◌+◌, ◌++◌, cond, None, Some, Ok, refl, sym, ap, subst, ◌∙◌, arith}
use Rattle.std.proofs.lemmas.Result.{err_from_is_err_and}
use Rattle.std.specs.Option.{option_or}
use Rattle.wm_heap.specs.Asking.{Finds}
use Rattle.wm_heap.specs.Content.{fault_of, slots_in}
use Rattle.wm_heap.specs.Places.{page_count, IsHeapOf}
use Rattle.wm_heap.specs.Room.{KnowsRoom}
use Rattle.wm_store.specs.Opened.{are_records, pages_opened, records_in}
use Rattle.wm_store.proofs.Reading.{read_none, read_more, pages_damaged, pages_without, pages_read}
use Rattle.wm_store.proofs.records.load_pages.Goals as goal

pub loop-page-init : goal.loop-page-init
loop-page-init g c = record {
  few = omega arith;
  count = c.new-heap.ensures.count;
  told = λ t. refl;
  past = λ t. refl;
  source = refl;
  in_use = refl;
  in_file = refl;
  faults = refl;
  heap = λ t. subst (IsHeapOf c.new-heap.result (g.G.Pages.held c.args.pages.now)) (sym c.new-heap.ensures.count) (c.new-heap.ensures.heap (g.G.Pages.held c.args.pages.now));
  room = λ t. subst (KnowsRoom c.new-heap.result.room (slots_in (g.G.Pages.held c.args.pages.now))) (sym c.new-heap.ensures.count) (c.new-heap.ensures.room (slots_in (g.G.Pages.held c.args.pages.now)));
  sound = λ t. ap (λ n. fault_of (g.G.Pages.held c.args.pages.now) n (g.G.Pages.in_file c.args.pages.now)) c.new-heap.ensures.count;
  read = λ t. read_none (g.G.Pages.held c.args.pages.now) c.new-reader.result.records c.new-reader.result.unread c.new-reader.ensures.records c.new-reader.ensures.unread;
}

pub load_page-requires-clause-next : goal.load_page-requires-clause-next
load_page-requires-clause-next g c =
    let count = c.loop-page.invariant.count in
    let same = c.loop-page.invariant.in_use in
    let test = c.loop-page-test.true in
    let end = c.count-page-end.ensures in
    omega (arith, count, same, test, end)

pub load_page-requires-clause-heap : goal.load_page-requires-clause-heap
load_page-requires-clause-heap g c = λ t.
    let inv = c.loop-page.invariant in
    subst (λ held. IsHeapOf c.loop-page.heap held (page_count c.loop-page.heap)) (sym (inv.told t)) (inv.heap t)

pub load_page-requires-clause-undamaged : goal.load_page-requires-clause-undamaged
load_page-requires-clause-undamaged g c = λ t.
    let inv = c.loop-page.invariant in
    subst (λ held. fault_of held (page_count c.loop-page.heap) (g.G.Pages.in_file c.loop-page.pages) ≡ None) (sym (inv.told t))
    (subst (λ n. fault_of (g.G.Pages.held c.args.pages.now) (page_count c.loop-page.heap) n ≡ None) (sym inv.in_file) (inv.sound t))

pub loop-page-preserved : goal.loop-page-preserved
loop-page-preserved g c =
    let inv = c.loop-page.invariant in
    let did = c.in_ok-slots.ensures in
    let low = c.loop-page.auto.page in
    let test = c.loop-page-test.true in
    record {
      few = omega arith;
      count = did.count ∙ ap (λ n. n + 1) inv.count;
      told = λ t. did.told t ∙ inv.told t;
      past = λ t. did.past t ∙ inv.past t;
      source = did.source ∙ inv.source;
      in_use = did.in_use ∙ inv.in_use;
      in_file = did.in_file ∙ inv.in_file;
      faults = did.cause.done ∙ inv.faults;
      heap = λ t. subst (λ held. IsHeapOf c.load_page.new.self held (page_count c.load_page.new.self)) (inv.told t) (did.heap t);
      room = λ t.
          subst (λ held. KnowsRoom c.load_page.new.self.room (slots_in held) (page_count c.load_page.new.self)) (inv.told t)
          (did.room t (subst (λ held. KnowsRoom c.loop-page.heap.room (slots_in held) (page_count c.loop-page.heap)) (sym (inv.told t)) (inv.room t)));
      sound = λ t.
          subst (λ n. fault_of (g.G.Pages.held c.args.pages.now) (page_count c.load_page.new.self) n ≡ None) inv.in_file
          (subst (λ held. fault_of held (page_count c.load_page.new.self) (g.G.Pages.in_file c.loop-page.pages) ≡ None) (inv.told t) (did.undamaged t));
      read = λ t.
          let is : c.in_ok-slots.slots ≡ slots_in (g.G.Pages.held c.args.pages.now) c.loop-page.page =
          did.slots t ∙ ap (λ held. slots_in held (page_count c.loop-page.heap)) (inv.told t) ∙ ap (slots_in (g.G.Pages.held c.args.pages.now)) inv.count in
          read_more (g.G.Pages.held c.args.pages.now) c.loop-page.page c.loop-page.reader.records c.read.new.self.records c.loop-page.reader.unread c.read.new.self.unread low (inv.read t)
          (subst (λ slots. c.read.new.self.unread ≡ option_or c.loop-page.reader.unread (cond (are_records slots) None (Some c.loop-page.page))) is c.in_ok-read.ensures.unread)
          (subst (λ slots. c.read.new.self.unread ≡ None → c.read.new.self.records ≡ c.loop-page.reader.records ++ records_in slots) is c.in_ok-read.ensures.read);
    }

pub returns-in_err-slots-clause-fault : goal.returns-in_err-slots-clause-fault
returns-in_err-slots-clause-fault g c = λ t.
    let p = err_from_is_err_and c.from_residual.result c.from_residual.ensures.1 in
    let inv = c.loop-page.invariant in
    rw (p.1, p.2) (pages_damaged (g.G.Pages.held c.args.pages.now) (g.G.Pages.in_use c.args.pages.now) (g.G.Pages.in_file c.args.pages.now) c.in_err-slots.field-0.0
    (subst (λ held. Finds c.in_err-slots.field-0.0 (fault_of held (g.G.Pages.in_use c.args.pages.now) (g.G.Pages.in_file c.args.pages.now))) (inv.told t)
    (subst (λ n. Finds c.in_err-slots.field-0.0 (fault_of (g.G.Pages.held c.loop-page.pages) (g.G.Pages.in_use c.args.pages.now) n)) inv.in_file
    (subst (λ n. Finds c.in_err-slots.field-0.0 (fault_of (g.G.Pages.held c.loop-page.pages) n (g.G.Pages.in_file c.loop-page.pages))) inv.in_use (c.in_err-slots.ensures.fault t)))))

pub returns-in_err-records-clause-fault : goal.returns-in_err-records-clause-fault
returns-in_err-records-clause-fault g c = λ t.
    let p = err_from_is_err_and c.from_residual-in_err-records.result c.from_residual-in_err-records.ensures.1 in
    let inv = c.loop-page.invariant in
    let test = c.loop-page-test.false in
    let few = inv.few in
    let end = c.count-page-end.ensures in
    let enough = c.requires in
    rw (p.1, p.2) (pages_without (g.G.Pages.held c.args.pages.now) c.loop-page.page (g.G.Pages.in_use c.args.pages.now) (g.G.Pages.in_file c.args.pages.now) c.loop-page.reader.records c.loop-page.reader.unread c.in_err-records.field-0.0 (omega (arith, test, few, end, enough))
    (subst (λ n. fault_of (g.G.Pages.held c.args.pages.now) n (g.G.Pages.in_file c.args.pages.now) ≡ None) inv.count (inv.sound t)) (inv.read t) c.in_err-records.ensures.damage)

pub returns-clause-heap : goal.returns-clause-heap
returns-clause-heap g c = λ t.
    let inv = c.loop-page.invariant in
    let test = c.loop-page-test.false in
    let few = inv.few in
    let end = c.count-page-end.ensures in
    let enough = c.requires in
    let count = inv.count in
    let all : page_count c.loop-page.heap ≡ g.G.Pages.in_use c.args.pages.now = omega (arith, test, few, end, enough, count) in
    subst (IsHeapOf c.loop-page.heap (g.G.Pages.held c.args.pages.now)) all (inv.heap t)

pub returns-clause-room : goal.returns-clause-room
returns-clause-room g c = λ t.
    let inv = c.loop-page.invariant in
    let test = c.loop-page-test.false in
    let few = inv.few in
    let end = c.count-page-end.ensures in
    let enough = c.requires in
    let count = inv.count in
    let all : page_count c.loop-page.heap ≡ g.G.Pages.in_use c.args.pages.now = omega (arith, test, few, end, enough, count) in
    subst (KnowsRoom c.loop-page.heap.room (slots_in (g.G.Pages.held c.args.pages.now))) all (inv.room t)

pub returns-clause-records : goal.returns-clause-records
returns-clause-records g c = λ t.
    let inv = c.loop-page.invariant in
    let test = c.loop-page-test.false in
    let few = inv.few in
    let end = c.count-page-end.ensures in
    let enough = c.requires in
    let read = c.in_ok-records.ensures.records in
    subst (λ records. pages_opened (g.G.Pages.held c.args.pages.now) (g.G.Pages.in_use c.args.pages.now) (g.G.Pages.in_file c.args.pages.now) ≡ Ok records) (sym read.1)
    (pages_read (g.G.Pages.held c.args.pages.now) c.loop-page.page (g.G.Pages.in_use c.args.pages.now) (g.G.Pages.in_file c.args.pages.now) c.loop-page.reader.records c.loop-page.reader.unread (omega (arith, test, few, end, enough))
    (subst (λ n. fault_of (g.G.Pages.held c.args.pages.now) n (g.G.Pages.in_file c.args.pages.now) ≡ None) inv.count (inv.sound t)) (inv.read t) read.0)
