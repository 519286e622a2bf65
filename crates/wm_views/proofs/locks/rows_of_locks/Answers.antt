use Rattle.std.proofs.Common.{Bor}
use Rattle.wm_graph.specs.Parts.{parts_of}
use Rattle.wm_spec.specs.declared.record.lock.Lock.{Lock}
use Rattle.wm_view_rows.proofs.Locked.{lock_period}
use Rattle.wm_views.proofs.locks.rows_of_locks.Goals as goal

pub lock_row-requires-clause-some : goal.lock_row-requires-clause-some
lock_row-requires-clause-some c =
    (lock_period (parts_of c.args.image.now) c.args.table.now.number c.loop-lock.lock-index (λ (b : Bor Lock). b.now) c.args.locks.now c.lock-item.result c.requires.rules c.requires.locks c.loop-lock-test.true c.lock-item.is).0

pub lock_row-requires-clause-till : goal.lock_row-requires-clause-till
lock_row-requires-clause-till c =
    (lock_period (parts_of c.args.image.now) c.args.table.now.number c.loop-lock.lock-index (λ (b : Bor Lock). b.now) c.args.locks.now c.lock-item.result c.requires.rules c.requires.locks c.loop-lock-test.true c.lock-item.is).1
