use Rattle.std.specs.Option.{option_copied}
use Rattle.wm_graph.specs.Parts.{parts_of}
use Rattle.wm_ground.proofs.Grounds.{numbered_on}
use Rattle.wm_ground.proofs.ground.Ground.space_numbered.Goals as goal

pub returns : goal.returns
returns c = numbered_on (parts_of c.args.self.now.image.now) c.args.self.now.sessions.now c.args.self.now.moment c.args.number (option_copied c.space.result) c.space.ensures
