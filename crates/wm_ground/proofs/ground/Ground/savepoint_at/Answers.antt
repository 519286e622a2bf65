use Rattle.std.specs.Option.{option_copied}
use Rattle.wm_graph.specs.Parts.{parts_of}
use Rattle.wm_ground.proofs.Savepoints.{made_on}
use Rattle.wm_ground.proofs.ground.Ground.savepoint_at.Goals as goal

pub returns : goal.returns
returns c = made_on (parts_of c.args.self.now.image.now) c.args.space.now c.args.making (option_copied c.savepoint.result) c.args.self.now.rules c.savepoint.ensures
