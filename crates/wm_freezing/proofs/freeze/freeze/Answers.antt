use Rattle.std.proofs.Common.{Some, None, sym, ◌∙◌}
use Rattle.wm_freezing.proofs.Freezing.{freezing_order}
use Rattle.wm_freezing.proofs.freeze.freeze.Goals as goal
use Rattle.wm_graph.specs.Parts.{parts_of}
use Rattle.wm_ground.proofs.Bridge.{if_ok}
use Rattle.wm_ground.specs.Grounds.{outline_on}
use Rattle.wm_ground.specs.Outcomes.{outcome_view}
use Rattle.wm_guard.specs.Access.{hold_view}
use Rattle.wm_model.specs.Step.{freezing}
use Rattle.wm_outcome.proofs.Named.{told_first}
use Rattle.wm_outline.specs.Outline.{outline_by}

pub returns-in-Some : goal.returns-in-Some
returns-in-Some c =
    let hold = hold_view c.args.hold in
    let o = outline_on c.args.ground in
    let x = outline_by (parts_of c.args.ground.image.now) c.args.space.now in
    told_first (freezing hold o x) (Some c.in-Some.refusal) (outcome_view c.refused.result) (freezing_order hold o x) (sym c.in-Some.is ∙ c.in_ok-refusal.ensures) c.refused.ensures

pub returns-in-None : goal.returns-in-None
returns-in-None c =
    let hold = hold_view c.args.hold in
    let o = outline_on c.args.ground in
    let x = outline_by (parts_of c.args.ground.image.now) c.args.space.now in
    if_ok c.held.result _ _
    (λ p is. told_first (freezing hold o x) None (outcome_view p) (freezing_order hold o x) (sym c.in-None.is ∙ c.in_ok-refusal.ensures) is) c.held.ensures
