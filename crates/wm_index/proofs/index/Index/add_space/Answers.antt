use Rattle.wm_index.specs.Sought.{Spaces, SpaceAt, BornAs, SeenUnder}
use Rattle.wm_index.proofs.index.Index.add_space.Goals as goal

pub add_id-requires : goal.add_id-requires
add_id-requires c = c.requires Spaces

pub add_to-requires : goal.add_to-requires
add_to-requires c = c.requires (SpaceAt c.args.space.now.number)

pub add_to-requires-2 : goal.add_to-requires-2
add_to-requires-2 c = c.requires (BornAs c.args.space.now.birth_version)

pub add_to-requires-3 : goal.add_to-requires-3
add_to-requires-3 c = c.requires (SeenUnder c.args.space.now.base_version)
