use Rattle.wm_index.specs.Sought.{SavepointsOf, SavepointAt, KeptAs, KeptUnder}
use Rattle.wm_index.proofs.index.Index.add_savepoint.Goals as goal

pub add_to-requires : goal.add_to-requires
add_to-requires c = c.requires (SavepointsOf c.args.savepoint.now.space)

pub add_to-requires-2 : goal.add_to-requires-2
add_to-requires-2 c = c.requires (SavepointAt c.args.savepoint.now.making)

pub add_to-requires-3 : goal.add_to-requires-3
add_to-requires-3 c = c.requires (KeptAs c.args.savepoint.now.version)

pub add_to-requires-4 : goal.add_to-requires-4
add_to-requires-4 c = c.requires (KeptUnder c.args.savepoint.now.base_version)
