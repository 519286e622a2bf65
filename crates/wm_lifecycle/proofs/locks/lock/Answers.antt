use Rattle.std.proofs.Common.{◌≡◌, ◌<◌, ◌+◌, ◌-◌, ◌^◌, ℕ, length, Some, refl, sym, ap, subst, ◌∙◌}
use Rattle.wm_changes.proofs.Placed.{counters_at, looked_up}
use Rattle.wm_graph.specs.Parts.{parts_of, space_of}
use Rattle.wm_lifecycle.proofs.Locking.{drafts_locks, length_made, makings_fit, placed}
use Rattle.wm_spec.specs.Records.{record_at}
use Rattle.wm_lifecycle.proofs.locks.lock.Goals as goal

pub overflow_sub-place : goal.overflow_sub-place
overflow_sub-place c =
    let rs = c.args.image.now in
    placed (parts_of rs) c.args.locks.space c.unwrap-found.result.now c.requires.rules
    (looked_up c.space.result c.unwrap-found.result (space_of (parts_of rs).spaces c.args.locks.space) c.unwrap-found.ensures c.space.ensures)

pub locks_made-requires : goal.locks_made-requires
locks_made-requires c =
    makings_fit (parts_of c.args.image.now) c.args.moment c.args.work (length c.args.locks.cells) c.lock_making-making.result c.requires.rules c.requires.work c.requires.room c.lock_making-making.ensures

pub put_all-requires : goal.put_all-requires
put_all-requires c =
    subst (λ (n : ℕ). c.in_ok-id.id + n < 2 ^ 64)
    (sym
    (ap length c.in_ok-news.ensures
    ∙ length_made c.args.locks.space (c.unwrap-found.result.now.next_place - 1) c.args.locks.mode c.args.locks.user c.lock_making-making.result c.args.locks.cells))
    (subst (λ (n : ℕ). c.in_ok-id.id + n < 2 ^ 64) c.len.ensures c.in_ok-id.ensures.left)

pub returns-clause-drafts : goal.returns-clause-drafts
returns-clause-drafts c =
    let rs = c.args.image.now in
    let found : space_of (parts_of rs).spaces c.args.locks.space ≡ Some c.unwrap-found.result.now = looked_up c.space.result c.unwrap-found.result (space_of (parts_of rs).spaces c.args.locks.space) c.unwrap-found.ensures c.space.ensures in
    drafts_locks rs c.args.moment c.args.work c.args.locks.space c.args.locks.mode c.args.locks.user c.args.locks.cells c.lock_making-making.result (c.unwrap-found.result.now.next_place - 1)
    c.counters.result c.moved-counters.result c.unwrap-found.result.now c.id_of_counters-counters_id.result c.in_ok-id.id c.in_ok-news.news.items c.new-changes.result c.push.new.self c.put_all.new.changes c.put.result
    c.requires.rules c.requires.work c.requires.room c.requires.can c.id_of_counters-counters_id.ensures.ascend c.counters.ensures
    (counters_at c.counters.result (parts_of rs).counters (record_at rs c.id_of_counters-counters_id.result) c.counters.ensures c.id_of_counters-counters_id.ensures.there)
    found c.in_ok-id.ensures.above refl c.lock_making-making.ensures c.moved-counters.ensures c.in_ok-news.ensures c.new-changes.ensures c.put.ensures c.in_ok-push.ensures.ok c.in_ok-put_all.ensures
