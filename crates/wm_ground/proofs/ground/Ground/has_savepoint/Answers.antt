use Rattle.wm_graph.specs.Parts.{parts_of}
use Rattle.wm_ground.proofs.Losing.{has_where}
use Rattle.wm_ground.proofs.ground.Ground.has_savepoint.Goals as goal
use Rattle.wm_state.specs.Standing.{saved_in}

pub returns : goal.returns
returns c =
    has_where c.args.name.now c.as_bytes.result.now (saved_in (parts_of c.args.self.now.image.now) c.args.space.now.number) c.savepoint_named-savepoint.result c.is_some.result c.as_bytes.ensures c.savepoint_named-savepoint.ensures c.is_some.ensures
