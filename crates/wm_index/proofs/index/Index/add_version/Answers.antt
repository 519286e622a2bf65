use Rattle.wm_index.specs.Sought.{VersionAt, VersionIn, VersionsUnder}
use Rattle.wm_index.proofs.index.Index.add_version.Goals as goal

pub add_to-requires : goal.add_to-requires
add_to-requires c = c.requires (VersionAt c.args.version.now.number)

pub add_in-requires : goal.add_in-requires
add_in-requires c = c.requires (VersionIn c.args.version.now.space c.args.version.now.number)

pub add_to-requires-2 : goal.add_to-requires-2
add_to-requires-2 c = c.requires (VersionsUnder c.args.version.now.parent)
