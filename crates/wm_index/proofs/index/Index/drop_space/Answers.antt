use Rattle.wm_index.specs.Sought.{Spaces, SpaceAt, BornAs, SeenUnder}
use Rattle.wm_index.proofs.index.Index.drop_space.Goals as goal

pub drop_id-requires : goal.drop_id-requires
drop_id-requires c = c.requires Spaces

pub drop_from-requires : goal.drop_from-requires
drop_from-requires c = c.requires (SpaceAt c.args.space.now.number)

pub drop_from-requires-2 : goal.drop_from-requires-2
drop_from-requires-2 c = c.requires (BornAs c.args.space.now.birth_version)

pub drop_from-requires-3 : goal.drop_from-requires-3
drop_from-requires-3 c = c.requires (SeenUnder c.args.space.now.base_version)
