use Rattle.wm_graph.specs.Parts.{parts_of}
use Rattle.wm_append.proofs.Spare.{free_used, leaf_so, leaf_used}
use Rattle.wm_append.proofs.append.is_spare.Goals as goal

pub returns-then-is_leaf-clause-leaf : goal.returns-then-is_leaf-clause-leaf
returns-then-is_leaf-clause-leaf c = λ free. leaf_so (parts_of c.args.image.now) c.args.version c.is_leaf.result c.is_leaf.ensures c.if-is_leaf.true

pub returns-then-is_leaf-clause-used : goal.returns-then-is_leaf-clause-used
returns-then-is_leaf-clause-used c = free_used (parts_of c.args.image.now) c.args.version c.is_free.result c.requires c.is_free.ensures.exact

pub returns-else-is_leaf-clause-used : goal.returns-else-is_leaf-clause-used
returns-else-is_leaf-clause-used c = leaf_used (parts_of c.args.image.now) c.args.version c.is_leaf.result c.is_leaf.ensures
