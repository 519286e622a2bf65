use Rattle.std.proofs.lemmas.Result.{on_ok_weaker}
use Rattle.wm_ids.specs.Ids.{placed}
use Rattle.wm_index.proofs.Changing.{lock_changed}
use Rattle.wm_index.specs.Sought.{LockAt, LocksOn}
use Rattle.wm_index.proofs.index.Index.add_lock.Goals as goal

pub add_to-requires : goal.add_to-requires
add_to-requires c = c.requires (LockAt c.args.lock.now.making)

pub add_on-requires : goal.add_on-requires
add_on-requires c = c.requires (LocksOn c.args.lock.now.cells.table c.args.lock.now.cells.key)

pub returns-clause-ids : goal.returns-clause-ids
returns-clause-ids c =
    on_ok_weaker c.add_on.result
    (lock_changed (placed c.args.id) c.args.self.now c.add_among.new.map c.add_among-2.new.map c.add_to.new.map c.add_on.new.tables c.args.lock.now c.in_ok-add_among.ensures c.in_ok-add_among-2.ensures c.in_ok-add_to.ensures)
    c.add_on.ensures
