use Rattle.std.specs.Option.{option_copied}
use Rattle.wm_graph.specs.Parts.{parts_of}
use Rattle.wm_ground.proofs.Grounds.{child_on}
use Rattle.wm_ground.proofs.ground.Ground.child_of.Goals as goal

pub returns : goal.returns
returns c = child_on (parts_of c.args.self.now.image.now) c.args.self.now.sessions.now c.args.self.now.moment c.args.space (option_copied c.child_from.result) c.child_from.ensures
