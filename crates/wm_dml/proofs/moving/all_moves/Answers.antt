use Rattle.std.proofs.Common.{inl, inr, refl, rules}
use Rattle.wm_dml.proofs.Shifted.{moving_begins, moving_more, moving_ends, moving_stops}
use Rattle.wm_dml.proofs.moving.all_moves.Goals as goal

pub loop-old-init : goal.loop-old-init
loop-old-init c = moving_begins c.new-moves.ensures.items (search rules) (search rules) (search rules)

pub loop-old-preserved : goal.loop-old-preserved
loop-old-preserved c =
    moving_more c.loop-old.invariant c.in-Some.ensures.steps.0 c.in-Some.ensures.steps.1.0 c.in-Some.ensures.steps.1.1 refl c.in_ok-push_move.ensures

pub returns : goal.returns
returns c =
    elim c.in-None.ensures.steps [
      | inl s ↦ moving_ends c.loop-old.invariant s.1.0
      | inr s ↦ moving_stops c.loop-old.invariant s.1.0
    ]
