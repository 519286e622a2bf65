use Rattle.wm_graph.specs.Parts.{parts_of}
use Rattle.wm_ground.proofs.Savepoints.{count_on}
use Rattle.wm_ground.proofs.ground.Ground.savepoint_count.Goals as goal

pub returns : goal.returns
returns c = count_on (parts_of c.args.self.now.image.now) c.args.space.now c.savepoint_count.result c.savepoint_count.ensures
