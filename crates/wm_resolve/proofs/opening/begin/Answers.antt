use Rattle.std.proofs.Common.{None, Some, sym, ◌∙◌}
use Rattle.wm_graph.specs.Parts.{parts_of}
use Rattle.wm_ground.proofs.Bridge.{if_ok}
use Rattle.wm_ground.specs.Grounds.{outline_on}
use Rattle.wm_ground.specs.Outcomes.{outcome_view}
use Rattle.wm_outcome.proofs.Named.{told_first}
use Rattle.wm_outcome.proofs.Opening.{begin_resolve_order, beginning}
use Rattle.wm_outline.specs.Outline.{outline_by}
use Rattle.wm_resolve.proofs.opening.begin.Goals as goal

pub returns-in-Some : goal.returns-in-Some
returns-in-Some c =
    let o = outline_on c.args.ground in
    let x = outline_by (parts_of c.args.ground.image.now) c.args.space.now in
    told_first (beginning c.args.session.now c.args.name.now o x) (Some c.in-Some.refusal) (outcome_view c.refused.result) (begin_resolve_order c.args.session.now c.args.name.now o x) (sym c.in-Some.is ∙ c.in_ok-refusal.ensures) c.refused.ensures

pub returns-in-None : goal.returns-in-None
returns-in-None c =
    let o = outline_on c.args.ground in
    let x = outline_by (parts_of c.args.ground.image.now) c.args.space.now in
    if_ok c.setting.result _ _
    (λ p is. told_first (beginning c.args.session.now c.args.name.now o x) None (outcome_view p) (begin_resolve_order c.args.session.now c.args.name.now o x) (sym c.in-None.is ∙ c.in_ok-refusal.ensures) is) c.setting.ensures
