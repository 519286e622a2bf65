use Rattle.std.specs.Option.{option_copied}
use Rattle.wm_graph.specs.Parts.{parts_of}
use Rattle.wm_ground.proofs.Grounds.{named_on}
use Rattle.wm_ground.proofs.ground.Ground.space_named.Goals as goal

pub returns : goal.returns
returns c = named_on (parts_of c.args.self.now.image.now) c.args.self.now.sessions.now c.args.self.now.moment c.args.name.now (option_copied c.space_named.result) c.args.self.now.rules c.space_named.ensures
