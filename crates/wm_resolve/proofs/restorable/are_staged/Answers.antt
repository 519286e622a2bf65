use Rattle.wm_graph.specs.Parts.{parts_of}
use Rattle.wm_resolve.proofs.Restored.{staged_decides}
use Rattle.wm_resolve.proofs.restorable.are_staged.Goals as goal

pub returns : goal.returns
returns c = staged_decides (parts_of c.args.image.now) c.counters.result c.counters.ensures c.args.decisions.now c.all_staged.result c.all_staged.ensures
