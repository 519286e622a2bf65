use Rattle.std.proofs.Common.{◌<◌, ◌≤◌, length, get_or, refl, sym, ap, subst, ◌∙◌, arith}
use Rattle.wm_heap.specs.Draft.{Done, IsLean, slot_size, slots_now}
use Rattle.wm_heap.specs.Places.{page_count}
use Rattle.wm_heap.specs.Room.{KnowsRoom, Spreads}
use Rattle.wm_heap.proofs.Standing.{at_pages}
use Rattle.wm_heap.proofs.Planning.{going_begun, going_on, leaning_begun, leaning_on, spreading_begun, spreading_on, telling_begun, telling_on, planned, planned_few, planned_knows, planned_lean, planned_none, planned_spread, planned_told}
use Rattle.wm_heap.proofs.heap.Heap.plan.Goals as goal

pub loop-blob-init : goal.loop-blob-init
loop-blob-init g c = record {
  going = going_begun c.args.self.now c.new-changed.result.entries c.args.batch.now c.new-changed.ensures.empty c.requires.once c.requires.small;
  few = omega (arith, ap length c.new-changed.ensures.empty);
  within = omega arith;
  told = λ t. refl;
  past = λ t. refl;
  source = refl;
  in_use = refl;
  in_file = refl;
  faults = refl;
  telling = λ t. telling_begun c.args.self.now c.new-changed.result.entries (g.G.Pages.held c.args.pages.now) (g.G.Pages.in_use c.args.pages.now) (g.G.Pages.in_file c.args.pages.now) c.args.batch.now c.new-changed.ensures.empty (c.requires.heap t) (c.requires.whole t);
  leaning = λ t. leaning_begun c.args.self.now c.new-changed.result.entries (g.G.Pages.held c.args.pages.now) c.args.batch.now c.new-changed.ensures.empty;
  spreading = λ t knows. spreading_begun c.args.self.now c.new-changed.result.entries (g.G.Pages.held c.args.pages.now) c.args.batch.now c.new-changed.ensures.empty knows;
}

pub loop-blob-preserved : goal.loop-blob-preserved
loop-blob-preserved g c =
    let inv = c.loop-blob.invariant in
    let did = c.in_ok-change.ensures in
    let items = c.as_slice-blob-items.ensures in
    let within : c.loop-blob.blob-index < length c.args.batch.now = subst (λ bs. c.loop-blob.blob-index < length bs) items c.loop-blob-test.true in
    let is = c.blob-item.is ∙ ap (λ bs. get_or bs c.loop-blob.blob-index c.blob-item.result) items in
    record {
      going = going_on c.args.self.now c.loop-blob.self c.change.new.self c.loop-blob.changed.entries c.change.new.changed.entries c.args.batch.now c.loop-blob.blob-index c.blob-item.result within is inv.going did.goes;
      few = omega (arith, inv.few, did.few);
      within = omega (arith, within);
      told = λ t. did.told t ∙ inv.told t;
      past = λ t. did.past t ∙ inv.past t;
      source = did.source ∙ inv.source;
      in_use = did.in_use ∙ inv.in_use;
      in_file = did.in_file ∙ inv.in_file;
      faults = did.cause.done ∙ inv.faults;
      telling = λ t.
          telling_on c.loop-blob.self c.change.new.self c.loop-blob.changed.entries c.change.new.changed.entries (g.G.Pages.held c.args.pages.now) (g.G.Pages.in_use c.args.pages.now) (g.G.Pages.in_file c.args.pages.now) c.args.batch.now c.loop-blob.blob-index c.blob-item.result within is inv.going.once (inv.telling t)
          (at_pages (λ h u f. Done c.loop-blob.self c.change.new.self c.loop-blob.changed.entries c.change.new.changed.entries h u f c.blob-item.result.id c.blob-item.result.bytes) (g.G.Pages.held c.args.pages.now) (g.G.Pages.held c.loop-blob.pages) (g.G.Pages.in_use c.args.pages.now) (g.G.Pages.in_use c.loop-blob.pages) (g.G.Pages.in_file c.args.pages.now) (g.G.Pages.in_file c.loop-blob.pages)
          (inv.told t) inv.in_use inv.in_file (did.done t));
      leaning = λ t.
          leaning_on c.args.self.now c.loop-blob.self c.change.new.self c.loop-blob.changed.entries c.change.new.changed.entries (g.G.Pages.held c.args.pages.now) c.args.batch.now c.loop-blob.blob-index c.blob-item.result within is inv.going.grows.no_fewer (inv.leaning t)
          (subst (λ h. IsLean c.loop-blob.self c.change.new.self c.loop-blob.changed.entries c.change.new.changed.entries h (slot_size c.blob-item.result.bytes)) (inv.told t) (did.lean t));
      spreading = λ t knows.
          let before = inv.spreading t knows in
          spreading_on c.args.self.now c.loop-blob.self c.change.new.self c.loop-blob.changed.entries c.change.new.changed.entries (g.G.Pages.held c.args.pages.now) c.args.batch.now c.loop-blob.blob-index c.blob-item.result within is inv.going.grows.no_fewer (inv.leaning t) before
          (subst (λ h. Spreads c.loop-blob.self c.change.new.self c.loop-blob.changed.entries c.change.new.changed.entries h (slot_size c.blob-item.result.bytes)) (inv.told t)
          (did.spread t (subst (λ h. KnowsRoom c.loop-blob.self.room (slots_now c.loop-blob.changed.entries h) (page_count c.loop-blob.self)) (sym (inv.told t)) before.knows)));
    }

pub returns-clause-plan : goal.returns-clause-plan
returns-clause-plan g c =
    let inv = c.loop-blob.invariant in
    let done = c.in_ok-batch.ensures in
    planned c.args.self.now c.loop-blob.self c.loop-blob.changed.entries c.args.batch.now c.loop-blob.blob-index c.page_count-before.result c.page_count.result c.in_ok-batch.batch.pages c.page_count-before.ensures c.page_count.ensures done.pages done.root inv.going

pub returns-clause-nothing : goal.returns-clause-nothing
returns-clause-nothing g c =
    let inv = c.loop-blob.invariant in
    let end : length c.args.batch.now ≤ c.loop-blob.blob-index = subst (λ bs. length bs ≤ c.loop-blob.blob-index) c.as_slice-blob-items.ensures c.loop-blob-test.false in
    planned_none c.args.self.now c.loop-blob.self c.loop-blob.changed.entries c.args.batch.now c.loop-blob.blob-index c.page_count-before.result c.page_count.result c.in_ok-batch.batch.pages c.page_count-before.ensures c.page_count.ensures c.in_ok-batch.ensures.pages end inv.going

pub returns-clause-changed : goal.returns-clause-changed
returns-clause-changed g c = λ t.
    let inv = c.loop-blob.invariant in
    let done = c.in_ok-batch.ensures in
    let end : length c.args.batch.now ≤ c.loop-blob.blob-index = subst (λ bs. length bs ≤ c.loop-blob.blob-index) c.as_slice-blob-items.ensures c.loop-blob-test.false in
    planned_told c.loop-blob.self c.loop-blob.changed.entries (g.G.Pages.held c.args.pages.now) (g.G.Pages.in_use c.args.pages.now) (g.G.Pages.in_file c.args.pages.now) c.args.batch.now c.loop-blob.blob-index c.page_count-before.result c.page_count.result c.in_ok-batch.batch.pages c.page_count.ensures done.pages end done.again (inv.telling t)

pub returns-clause-lean : goal.returns-clause-lean
returns-clause-lean g c = λ t.
    let inv = c.loop-blob.invariant in
    let end : length c.args.batch.now ≤ c.loop-blob.blob-index = subst (λ bs. length bs ≤ c.loop-blob.blob-index) c.as_slice-blob-items.ensures c.loop-blob-test.false in
    planned_lean c.args.self.now c.loop-blob.self c.loop-blob.changed.entries (g.G.Pages.held c.args.pages.now) c.args.batch.now c.loop-blob.blob-index end (inv.leaning t)

pub returns-clause-few : goal.returns-clause-few
returns-clause-few g c =
    let inv = c.loop-blob.invariant in
    planned_few c.loop-blob.changed.entries c.page_count-before.result c.page_count.result c.loop-blob.blob-index (length c.args.batch.now) c.in_ok-batch.batch.pages c.in_ok-batch.ensures.pages inv.few inv.within

pub returns-clause-spread : goal.returns-clause-spread
returns-clause-spread g c = λ t knows.
    let inv = c.loop-blob.invariant in
    let end : length c.args.batch.now ≤ c.loop-blob.blob-index = subst (λ bs. length bs ≤ c.loop-blob.blob-index) c.as_slice-blob-items.ensures c.loop-blob-test.false in
    planned_spread c.args.self.now c.loop-blob.self c.loop-blob.changed.entries (g.G.Pages.held c.args.pages.now) c.args.batch.now c.loop-blob.blob-index end (inv.spreading t knows)

pub returns-clause-knows : goal.returns-clause-knows
returns-clause-knows g c = λ t knows.
    let done = c.in_ok-batch.ensures in
    planned_knows c.loop-blob.self c.loop-blob.changed.entries (g.G.Pages.held c.args.pages.now) c.page_count-before.result c.page_count.result c.in_ok-batch.batch.pages done.pages done.again (c.loop-blob.invariant.spreading t knows).knows
