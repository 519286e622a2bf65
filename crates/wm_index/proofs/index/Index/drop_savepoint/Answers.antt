use Rattle.wm_index.specs.Sought.{SavepointsOf, SavepointAt, KeptAs, KeptUnder}
use Rattle.wm_index.proofs.index.Index.drop_savepoint.Goals as goal

pub drop_from-requires : goal.drop_from-requires
drop_from-requires c = c.requires (SavepointsOf c.args.savepoint.now.space)

pub drop_from-requires-2 : goal.drop_from-requires-2
drop_from-requires-2 c = c.requires (SavepointAt c.args.savepoint.now.making)

pub drop_from-requires-3 : goal.drop_from-requires-3
drop_from-requires-3 c = c.requires (KeptAs c.args.savepoint.now.version)

pub drop_from-requires-4 : goal.drop_from-requires-4
drop_from-requires-4 c = c.requires (KeptUnder c.args.savepoint.now.base_version)
