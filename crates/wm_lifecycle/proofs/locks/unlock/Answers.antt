use Rattle.std.proofs.Common.{ℕ, List, ap, ◌∙◌}
use Rattle.std.specs.List.{list_any}
use Rattle.wm_index.specs.Sought.{LockAt, ids_with, is_sought}
use Rattle.wm_state.specs.Batches.{is_dropped}
use Rattle.wm_changes.proofs.Placed.{counters_at}
use Rattle.wm_graph.specs.Parts.{parts_of}
use Rattle.wm_lifecycle.proofs.PricedUnlock.{unlock_costs}
use Rattle.wm_lifecycle.proofs.Unlocked.{drafts_unlocks}
use Rattle.wm_spec.specs.Records.{record_at}
use Rattle.wm_lifecycle.proofs.locks.unlock.Goals as goal

pub returns-clause-drafts : goal.returns-clause-drafts
returns-clause-drafts c =
    let rs = c.args.image.now in
    drafts_unlocks rs c.args.moment c.args.work c.args.makings c.counters.result c.moved-counters.result c.id_of_counters-counters_id.result c.in_ok-set.set.keys c.as_slice-2.result.now c.new-changes.result c.push.new.self c.drop_all-pushed.new.changes c.put.result
    c.requires.rules c.requires.work c.id_of_counters-counters_id.ensures.ascend c.counters.ensures
    (counters_at c.counters.result (parts_of rs).counters (record_at rs c.id_of_counters-counters_id.result) c.counters.ensures c.id_of_counters-counters_id.ensures.there)
    (λ id. c.in_ok-set.ensures id ∙ ap (λ (ks : List ℕ). list_any (λ making. is_dropped (ids_with (is_sought (LockAt making)) rs) id) ks) c.as_slice.ensures)
    c.in_ok-dropped.ensures.differ (c.as_slice-2.ensures.value ∙ c.in_ok-dropped.ensures.ids) c.moved-counters.ensures c.new-changes.ensures c.put.ensures c.in_ok-push.ensures.ok c.in_ok-pushed.ensures

pub returns-clause-costs : goal.returns-clause-costs
returns-clause-costs c =
    let rs = c.args.image.now in
    unlock_costs rs c.args.makings c.counters.result c.moved-counters.result c.id_of_counters-counters_id.result c.in_ok-set.set.keys c.as_slice-2.result.now c.new-changes.result c.push.new.self c.drop_all-pushed.new.changes c.put.result
    c.requires.rules c.id_of_counters-counters_id.ensures.ascend
    (counters_at c.counters.result (parts_of rs).counters (record_at rs c.id_of_counters-counters_id.result) c.counters.ensures c.id_of_counters-counters_id.ensures.there)
    (λ id. c.in_ok-set.ensures id ∙ ap (λ (ks : List ℕ). list_any (λ making. is_dropped (ids_with (is_sought (LockAt making)) rs) id) ks) c.as_slice.ensures)
    c.in_ok-dropped.ensures.differ (c.as_slice-2.ensures.value ∙ c.in_ok-dropped.ensures.ids) c.new-changes.ensures c.put.ensures c.in_ok-push.ensures.ok c.in_ok-pushed.ensures
