-- those of the ids that were taken have taken what they cover
use Rattle.std.proofs.Common.{◌≡◌, [], ◌∷◌, take}
use Rattle.wm_append.specs.Layers.{mark_in}
use Rattle.wm_index.specs.Kinds.{kind_at}
use Rattle.wm_settled.specs.Settling.{cut, greater}
use Rattle.wm_state.specs.Drafts.{mark_piece}
use Rattle.wm_settle.proofs.left.left_of.Given as goal

abbrev pub invariant-loop-id : goal.invariant-loop-id
invariant-loop-id l = l.left.items ≡ cut (greater l.position (kind_at (mark_in l.space) l.image (take l.id-index l.ids))) (mark_piece l.place l.fn.mark ∷ [])
