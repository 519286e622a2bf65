use Rattle.std.proofs.Common.{◌≡◌, ◌<◌, ◌+◌, None, refl, sym, ap, subst, ◌∙◌, arith}
use Rattle.std.proofs.lemmas.Result.{err_from_is_err_and}
use Rattle.wm_heap.specs.Asking.{Finds}
use Rattle.wm_heap.specs.Content.{fault_of, slots_in}
use Rattle.wm_heap.specs.Places.{page_count, IsHeapOf}
use Rattle.wm_heap.specs.Room.{KnowsRoom}
use Rattle.wm_heap.proofs.Loading.{heap_all, whole_more}
use Rattle.wm_heap.proofs.heap.Heap.load.Goals as goal

pub loop-init : goal.loop-init
loop-init g c = record {
  few = omega arith;
  count = c.new-heap.ensures.count;
  whole = λ p from till. absurd (omega arith);
  told = λ t. refl;
  past = λ t. refl;
  source = refl;
  in_use = refl;
  in_file = refl;
  faults = refl;
  heap = λ t. subst (IsHeapOf c.new-heap.result (g.G.Pages.held c.args.pages.now)) (sym c.new-heap.ensures.count) (c.new-heap.ensures.heap (g.G.Pages.held c.args.pages.now));
  room = λ t. subst (KnowsRoom c.new-heap.result.room (slots_in (g.G.Pages.held c.args.pages.now))) (sym c.new-heap.ensures.count) (c.new-heap.ensures.room (slots_in (g.G.Pages.held c.args.pages.now)));
  sound = λ t. ap (λ n. fault_of (g.G.Pages.held c.args.pages.now) n (g.G.Pages.in_file c.args.pages.now)) c.new-heap.ensures.count;
}

pub load_page-requires-clause-next : goal.load_page-requires-clause-next
load_page-requires-clause-next g c =
    let count = c.loop.invariant.count in
    let same = c.loop.invariant.in_use in
    let test = c.loop-test.true in
    let end = c.count-end.ensures in
    omega (arith, count, same, test, end)

pub load_page-requires-clause-heap : goal.load_page-requires-clause-heap
load_page-requires-clause-heap g c = λ t.
    let inv = c.loop.invariant in
    subst (λ held. IsHeapOf c.loop.heap held (page_count c.loop.heap)) (sym (inv.told t)) (inv.heap t)

pub load_page-requires-clause-undamaged : goal.load_page-requires-clause-undamaged
load_page-requires-clause-undamaged g c = λ t.
    let inv = c.loop.invariant in
    subst (λ held. fault_of held (page_count c.loop.heap) (g.G.Pages.in_file c.loop.pages) ≡ None) (sym (inv.told t))
    (subst (λ n. fault_of (g.G.Pages.held c.args.pages.now) (page_count c.loop.heap) n ≡ None) (sym inv.in_file) (inv.sound t))

pub loop-preserved : goal.loop-preserved
loop-preserved g c =
    let inv = c.loop.invariant in
    let did = c.in_ok-load_page.ensures in
    let low = c.loop.auto.counter in
    let test = c.loop-test.true in
    record {
      few = omega arith;
      count = did.count ∙ ap (λ n. n + 1) inv.count;
      whole = whole_more c.loop.counter (g.G.Pages.in_file c.args.pages.now) inv.whole (subst (λ n. c.loop.counter < n) inv.in_file (subst (λ n. n < g.G.Pages.in_file c.loop.pages) inv.count did.whole));
      told = λ t. did.told t ∙ inv.told t;
      past = λ t. did.past t ∙ inv.past t;
      source = did.source ∙ inv.source;
      in_use = did.in_use ∙ inv.in_use;
      in_file = did.in_file ∙ inv.in_file;
      faults = did.cause.done ∙ inv.faults;
      heap = λ t. subst (λ held. IsHeapOf c.load_page.new.self held (page_count c.load_page.new.self)) (inv.told t) (did.heap t);
      room = λ t.
          subst (λ held. KnowsRoom c.load_page.new.self.room (slots_in held) (page_count c.load_page.new.self)) (inv.told t)
          (did.room t (subst (λ held. KnowsRoom c.loop.heap.room (slots_in held) (page_count c.loop.heap)) (sym (inv.told t)) (inv.room t)));
      sound = λ t.
          subst (λ n. fault_of (g.G.Pages.held c.args.pages.now) (page_count c.load_page.new.self) n ≡ None) inv.in_file
          (subst (λ held. fault_of held (page_count c.load_page.new.self) (g.G.Pages.in_file c.loop.pages) ≡ None) (inv.told t) (did.undamaged t));
    }

pub returns-in_err-load_page-clause-fault : goal.returns-in_err-load_page-clause-fault
returns-in_err-load_page-clause-fault g c = λ t.
    let p = err_from_is_err_and c.from_residual.result c.from_residual.ensures.1 in
    let inv = c.loop.invariant in
    rw (p.1, p.2) (
    subst (λ held. Finds c.in_err-load_page.field-0.0 (fault_of held (g.G.Pages.in_use c.args.pages.now) (g.G.Pages.in_file c.args.pages.now))) (inv.told t)
    (subst (λ n. Finds c.in_err-load_page.field-0.0 (fault_of (g.G.Pages.held c.loop.pages) (g.G.Pages.in_use c.args.pages.now) n)) inv.in_file
    (subst (λ n. Finds c.in_err-load_page.field-0.0 (fault_of (g.G.Pages.held c.loop.pages) n (g.G.Pages.in_file c.loop.pages))) inv.in_use (c.in_err-load_page.ensures.fault t))))

pub returns-clause-heap : goal.returns-clause-heap
returns-clause-heap g c = λ t.
    let inv = c.loop.invariant in
    let test = c.loop-test.false in
    let few = inv.few in
    let end = c.count-end.ensures in
    (heap_all c.loop.heap (g.G.Pages.held c.args.pages.now) (g.G.Pages.in_file c.args.pages.now) c.loop.counter (g.G.Pages.in_use c.args.pages.now) inv.count (omega arith) (omega arith) (inv.heap t) (inv.sound t)).0

pub returns-clause-undamaged : goal.returns-clause-undamaged
returns-clause-undamaged g c = λ t.
    let inv = c.loop.invariant in
    let test = c.loop-test.false in
    let few = inv.few in
    let end = c.count-end.ensures in
    (heap_all c.loop.heap (g.G.Pages.held c.args.pages.now) (g.G.Pages.in_file c.args.pages.now) c.loop.counter (g.G.Pages.in_use c.args.pages.now) inv.count (omega arith) (omega arith) (inv.heap t) (inv.sound t)).1
