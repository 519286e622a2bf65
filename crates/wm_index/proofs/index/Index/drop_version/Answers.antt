use Rattle.wm_index.specs.Sought.{VersionAt, VersionIn, VersionsUnder}
use Rattle.wm_index.proofs.index.Index.drop_version.Goals as goal

pub drop_from-requires : goal.drop_from-requires
drop_from-requires c = c.requires (VersionAt c.args.version.now.number)

pub drop_in-requires : goal.drop_in-requires
drop_in-requires c = c.requires (VersionIn c.args.version.now.space c.args.version.now.number)

pub drop_from-requires-2 : goal.drop_from-requires-2
drop_from-requires-2 c = c.requires (VersionsUnder c.args.version.now.parent)
