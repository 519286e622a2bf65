use Rattle.std.specs.Option.{option_copied}
use Rattle.wm_graph.specs.Parts.{parts_of}
use Rattle.wm_ground.proofs.Savepoints.{called_on}
use Rattle.wm_ground.proofs.ground.Ground.savepoint_called.Goals as goal

pub returns : goal.returns
returns c = called_on (parts_of c.args.self.now.image.now) c.args.space.now c.args.name.now (option_copied c.savepoint_named.result) c.savepoint_named.ensures
