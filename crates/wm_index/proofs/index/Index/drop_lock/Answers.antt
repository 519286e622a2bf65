use Rattle.wm_ids.specs.Ids.{without}
use Rattle.wm_index.proofs.Changing.{lock_changed}
use Rattle.wm_index.specs.Sought.{LockAt, LocksOn}
use Rattle.wm_index.proofs.index.Index.drop_lock.Goals as goal

pub drop_from-requires : goal.drop_from-requires
drop_from-requires c = c.requires (LockAt c.args.lock.now.making)

pub drop_on-requires : goal.drop_on-requires
drop_on-requires c = c.requires (LocksOn c.args.lock.now.cells.table c.args.lock.now.cells.key)

pub returns-clause-ids : goal.returns-clause-ids
returns-clause-ids c =
    lock_changed (without c.args.id) c.args.self.now c.drop_among.new.map c.drop_among-2.new.map c.drop_from.new.map c.drop_on.new.tables c.args.lock.now c.drop_among.ensures c.drop_among-2.ensures c.drop_from.ensures c.drop_on.ensures
