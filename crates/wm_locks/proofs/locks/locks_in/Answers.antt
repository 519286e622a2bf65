use Rattle.std.proofs.Common.{◌≡◌, ◌++◌, All, List, [], Some, sym, ap, subst, ◌∙◌}
use Rattle.std.proofs.lemmas.List.{append-nil}
use Rattle.std.proofs.lemmas.List.Elements.{All-nil}
use Rattle.std.specs.BTreeMap.{is_at}
use Rattle.std.specs.List.{flat_map}
use Rattle.std.specs.List.Sorted.{IsStrictlySortedBy}
use Rattle.std.specs.Map.{keys_of, lookup}
use Rattle.wm_base.specs.Key.{key_order}
use Rattle.wm_graph.specs.Parts.{as_lock}
use Rattle.wm_guard.specs.Barring.{comes_before}
use Rattle.wm_guard.specs.Orders.{nows}
use Rattle.wm_ids.proofs.TableLists.{no_keys}
use Rattle.wm_image.specs.Locked.{AreLockedKeys}
use Rattle.wm_index.specs.Kinds.{kind_at}
use Rattle.wm_locks.proofs.Looking.{Entries, block, block_more, in_told}
use Rattle.wm_ordering.specs.Sorting.{sorted}
use Rattle.wm_locks.proofs.locks.locks_in.Goals as goal

pub returns-in_default : goal.returns-in_default
returns-in_default c = ap nows c.new-locks.ensures.items ∙ in_told c.args.image.now c.law_of_order.ensures c.requires.rules c.args.table [] c.in_default.ensures (no_keys key_order) (All-nil _)

pub loop-ids-init : goal.loop-ids-init
loop-ids-init c = ap (λ xs. nows xs ++ flat_map (block c.args.image.now) c.into_iter-ids-iterator.result) c.new-locks.ensures.items

pub loop-ids-preserved : goal.loop-ids-preserved
loop-ids-preserved c =
    block_more c.args.image.now c.loop-ids.ids-iterator c.next.new.self (c.in-Some-2.field-0-0.now, c.in-Some-2.ids.now) (nows c.loop-ids.locks.items) (nows c.push_in_order.new.locks.items) _ c.in-Some-2.ensures.steps
    (c.in_ok-push_in_order.ensures ∙ ap (λ ids. nows c.loop-ids.locks.items ++ sorted comes_before (kind_at as_lock c.args.image.now ids)) c.as_slice.ensures) c.loop-ids.invariant

pub returns : goal.returns
returns c =
    let ss = c.args.image.now in
    let es : Entries = c.into_iter-ids-iterator.result in
    sym (append-nil (nows c.loop-ids.locks.items))
    ∙ ap (λ (rest : Entries). nows c.loop-ids.locks.items ++ flat_map (block ss) rest) (sym c.in-None.ensures.steps.0)
    ∙ c.loop-ids.invariant
    ∙ in_told ss c.law_of_order.ensures c.requires.rules c.args.table es
    (subst (AreLockedKeys ss c.args.table) (sym c.into_iter-ids-iterator.ensures.into_iter_gives.0) c.in-Some.ensures)
    (subst (λ (fs : Entries). IsStrictlySortedBy key_order (keys_of fs)) (sym c.into_iter-ids-iterator.ensures.into_iter_gives.0) c.into_iter-ids-iterator.ensures.into_iter_gives.5)
    (subst (λ (fs : Entries). All (λ e. lookup (is_at (key_order e.0)) fs ≡ Some e.1) fs) (sym c.into_iter-ids-iterator.ensures.into_iter_gives.0) c.into_iter-ids-iterator.ensures.into_iter_gives.6)
