use Rattle.std.proofs.Common.{◌≡◌, IfOk, [], Option, refl, sym, ap, subst, ◌∙◌}
use Rattle.wm_ground.specs.Grounds.{outline_on}
use Rattle.wm_ground.specs.Outcomes.{outcome_view}
use Rattle.wm_model.specs.Seating.{Stay}
use Rattle.wm_model.specs.Step.{Answer, Outcome, bearing, for_named, no_workspace, outcome, refusal_of, space_numbered}
use Rattle.wm_outcome.proofs.Named.{homeless, one_fault}
use Rattle.wm_outline.specs.Outline.{SpaceOutline}
use Rattle.wm_space.proofs.bearing.bear_at_home.Goals as goal

pub returns-in-Some : goal.returns-in-Some
returns-in-Some c =
    let o = outline_on c.args.ground in
    subst (λ (x : Option SpaceOutline). IfOk c.bear.result (λ p. outcome_view p ≡ outcome (for_named (no_workspace []) (bearing c.args.session.now c.args.name.now o) x)))
    (sym c.in-Some.ensures ∙ ap (λ n. space_numbered n o) c.space.ensures) c.bear.ensures

pub returns-in-None : goal.returns-in-None
returns-in-None c =
    let o = outline_on c.args.ground in
    homeless [] (no_workspace []) (bearing c.args.session.now c.args.name.now o) (space_numbered c.args.session.now.space o) _ (outcome_view c.answered.result) (one_fault (refusal_of (no_workspace []))) refl
    (ap (λ n. space_numbered n o) (sym c.space.ensures) ∙ c.in-None.ensures) refl
    (c.answered.ensures ∙ ap (λ (a : Answer). let q : Outcome = record { edits = []; seating = Stay; answer = a } in q) (c.no_workspace.ensures ∙ ap no_workspace (c.from_vec.ensures ∙ c.new.ensures.items)))
