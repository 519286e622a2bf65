use Rattle.std.proofs.Common.{◌≡◌, ℕ, ◌++◌, map, take}
use Rattle.wm_decided.specs.Counted.{group_in, mark_by, places_over}
use Rattle.wm_state.specs.Editing.{settled_by}
use Rattle.wm_decided.proofs.netted.push_marks.Given as goal

abbrev pub invariant-loop-piece : goal.invariant-loop-piece
invariant-loop-piece l = (place : ℕ) → map (settled_by place) l.marks.items
    ≡ map (settled_by place) l.fn.marks.items ++ map (mark_by l.decisions place (group_in l.key)) (places_over (take l.piece-index l.pieces))
