use Rattle.std.proofs.Common.{◌≡◌, take}
use Rattle.std.specs.BTreeSet.{contains}
use Rattle.wm_graph.specs.Parts.{as_touch}
use Rattle.wm_index.specs.Kinds.{kind_at}
use Rattle.wm_pending.specs.Keys.{Place, place_order}
use Rattle.wm_pending.specs.Touched.{has_touch_of}
use Rattle.wm_pending.proofs.touched.keys_of.Given as goal

abbrev pub invariant-loop-id : goal.invariant-loop-id
invariant-loop-id l = (q : Place) → contains place_order l.keys q ≡ has_touch_of q (kind_at as_touch l.image (take l.id-index l.ids))
