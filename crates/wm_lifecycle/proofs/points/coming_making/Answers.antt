use Rattle.wm_graph.specs.Parts.{parts_of}
use Rattle.wm_image.proofs.Coming.{making_behind_is}
use Rattle.wm_lifecycle.proofs.points.coming_making.Goals as goal

pub returns : goal.returns
returns c = making_behind_is (parts_of c.args.image.now).savepoints c.next_making.result c.next_making.ensures.above c.next_making.ensures.none c.next_making.ensures.last
