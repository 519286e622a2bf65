use Rattle.wm_base.specs.Orders.{key_order-decides}
use Rattle.wm_base.proofs.key.Key.equals.Goals as goal

pub returns : goal.returns
returns c = key_order-decides _ _ _ _ c.is_eq.ensures c.compare.ensures
