use Rattle.std.proofs.Common.{◌≡◌, ℕ, ◌≤◌, ◌++◌, ◌⊎◌, inl, List, Some, refl, sym, ap, subst, ◌∙◌}
use Rattle.std.specs.List.{AllByRecursion}
use Rattle.wm_page.specs.Batch.{entries}
use Rattle.wm_heap.specs.declared.slot.Slot.{Slot}
use Rattle.wm_heap.specs.Draft.{written}
use Rattle.wm_heap.specs.Places.{at}
use Rattle.wm_heap.specs.Slots.{slots_of, page_of, used}
use Rattle.wm_heap.proofs.Pending.{room_each, pages_more, again_more, again_all}
use Rattle.wm_heap.proofs.draft.write_pages.Goals as goal

pub loop-page-init : goal.loop-page-init
loop-page-init c =
    let all : c.into_iter-page-iterator.result ≡ c.args.changed.now.entries = c.into_iter-page-iterator.ensures.into_iter_gives ∙ c.iter-page-items.ensures.rest in
    record {
      pages = ap (λ (l : List (ℕ × List Slot)). entries c.args.writes.now ++ written l) all;
      room = subst (λ (l : List (ℕ × List Slot)). AllByRecursion (λ e. used e.1 ≤ 4096) l) (sym all) (room_each c.args.changed.now.entries c.args.changed.now.entries c.requires c.iter-page-items.ensures.found);
      again = λ p slots e. inl (ap (λ (l : List (ℕ × List Slot)). at l p) all ∙ e);
    }

pub loop-page-preserved : goal.loop-page-preserved
loop-page-preserved c =
    let left = c.in-Some.ensures.steps in
    let all_room = subst (λ (l : List (ℕ × List Slot)). AllByRecursion (λ e. used e.1 ≤ 4096) l) left c.loop-page.invariant.room in
    record {
      pages =
          ap (λ ws. entries ws ++ written c.next.new.self) c.in_ok-push.ensures.ok
          ∙ pages_more c.loop-page.writes _ c.in-Some.page.now c.in-Some.slots.now c.next.new.self _ refl c.in_ok-bytes.ensures.page (ap (λ (l : List (ℕ × List Slot)). entries c.loop-page.writes ++ written l) (sym left) ∙ c.loop-page.invariant.pages);
      room = all_room.1;
      again = λ p slots e. again_more c.in-Some.page.now c.in-Some.slots.now c.next.new.self p slots c.in_ok-bytes.ensures.again (subst (λ (l : List (ℕ × List Slot)). (at l p ≡ Some slots) ⊎ (slots_of (page_of slots) ≡ Some slots)) left (c.loop-page.invariant.again p slots e));
    }

pub returns-clause-again : goal.returns-clause-again
returns-clause-again c = λ p slots e. again_all c.loop-page.page-iterator p slots c.in-None.ensures.steps.0 (c.loop-page.invariant.again p slots e)
