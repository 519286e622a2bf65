-- for a key that is not there, nothing is held above the version that comes next
use Rattle.std.proofs.Common.{◌≡◌, false}
use Rattle.std.specs.BTreeSet.{contains}
use Rattle.wm_graph.specs.Parts.{parts_of}
use Rattle.wm_pending.specs.Keys.{place_order}
use Rattle.wm_spec.specs.Lists.{Cell}
use Rattle.wm_state.specs.Standing.{seen_above}
use Rattle.wm_telling.specs.Telling.{own_held}
use Rattle.wm_pending.proofs.keys.own_keys.Given as goal

abbrev pub invariant-loop-version : goal.invariant-loop-version
invariant-loop-version l = (c : Cell) → contains place_order l.keys (c.table, c.key) ≡ false → own_held (parts_of l.image) l.space c ≡ seen_above (parts_of l.image) l.space.base_version l.number c

abbrev pub decreases-loop-version : goal.decreases-loop-version
decreases-loop-version l = l.number
