use Rattle.std.proofs.Common.{true, false, None, Some, refl, sym, ◌∙◌}
use Rattle.wm_graph.specs.Parts.{parts_of}
use Rattle.wm_ground.proofs.Bridge.{if_ok}
use Rattle.wm_ground.specs.Grounds.{outline_on}
use Rattle.wm_ground.specs.Outcomes.{outcome_view}
use Rattle.wm_outline.specs.Outline.{outline_by}
use Rattle.wm_space.proofs.Rolled.{told_early, told_late}
use Rattle.wm_state.specs.Standing.{saved_fields}
use Rattle.wm_space.proofs.rolling.roll.Goals as goal

pub returns-in-Some : goal.returns-in-Some
returns-in-Some c =
    told_early (outline_on c.args.ground) (outline_by (parts_of c.args.ground.image.now) c.args.space.now) (saved_fields c.args.savepoint.now) _ c.in-Some.refusal (outcome_view c.refused.result) c.in-Some.is c.in_ok-refusal.ensures
    c.refused.ensures

pub returns-then-is_still : goal.returns-then-is_still
returns-then-is_still c =
    told_late (outline_on c.args.ground) (outline_by (parts_of c.args.ground.image.now) c.args.space.now) (saved_fields c.args.savepoint.now) _ None true (outcome_view c.answered.result) c.in_default.is c.in_ok-refusal.ensures
    c.if-is_still.ensures refl c.answered.ensures

pub returns-in-Some-2 : goal.returns-in-Some-2
returns-in-Some-2 c =
    told_late (outline_on c.args.ground) (outline_by (parts_of c.args.ground.image.now) c.args.space.now) (saved_fields c.args.savepoint.now) _ (Some c.in-Some-2.ended) false (outcome_view c.refused-in-Some-2.result) c.in_default.is
    c.in_ok-refusal.ensures c.if-is_still.ensures (sym c.in-Some-2.is ∙ c.in_ok-ended.ensures) c.refused-in-Some-2.ensures

pub returns : goal.returns
returns c =
    if_ok c.done.result _ _
    (λ p is.
    told_late (outline_on c.args.ground) (outline_by (parts_of c.args.ground.image.now) c.args.space.now) (saved_fields c.args.savepoint.now) _ None false (outcome_view p) c.in_default.is c.in_ok-refusal.ensures c.if-is_still.ensures
    (sym c.in_default-2.is ∙ c.in_ok-ended.ensures) is)
    c.done.ensures
