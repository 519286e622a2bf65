use Rattle.std.proofs.Common.{List, Bor, ap, ◌∙◌}
use Rattle.wm_graph.specs.Parts.{parts_of}
use Rattle.wm_guard.proofs.Alike.{locks_in-listed, makings_differ}
use Rattle.wm_guard.specs.Orders.{nows}
use Rattle.wm_spec.specs.declared.record.lock.Lock.{Lock}
use Rattle.wm_state.proofs.Apart.{ruled}
use Rattle.wm_views.proofs.locks.locks_shown.Goals as goal

pub rows_of_locks-requires-clause-locks : goal.rows_of_locks-requires-clause-locks
rows_of_locks-requires-clause-locks c =
    let p = parts_of c.args.image.now in
    let r = ruled p c.requires in
    ap (λ (bs : List (Bor Lock)). nows bs) c.as_slice.ensures.value ∙ c.in_ok-locks.ensures ∙ locks_in-listed c.args.table.now.number p.locks (makings_differ p r.counters.work r.locks)
