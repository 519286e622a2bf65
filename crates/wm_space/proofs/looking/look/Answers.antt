use Rattle.std.proofs.Common.{ℕ, List, [], Option, refl, sym, ap, ◌∙◌}
use Rattle.wm_ground.proofs.Bridge.{if_ok}
use Rattle.wm_ground.specs.Grounds.{outline_on}
use Rattle.wm_ground.specs.Outcomes.{outcome_view}
use Rattle.wm_model.specs.Seating.{Stay}
use Rattle.wm_model.specs.Seating.{Set}
use Rattle.wm_model.specs.Step.Sessions as settings
use Rattle.wm_model.specs.Step.{Answer, Outcome, for_named, no_workspace, outcome, refusal_of, setting, space_named}
use Rattle.wm_outcome.proofs.Named.{homeless, one_fault}
use Rattle.wm_outcome.proofs.Told.{told_set}
use Rattle.wm_outline.specs.Outline.{SpaceOutline}
use Rattle.wm_print.specs.Texts.{Fine}
use Rattle.wm_space.proofs.looking.look.Goals as goal

pub returns-in-Some : goal.returns-in-Some
returns-in-Some c =
    let name = c.args.name.now in
    if_ok c.setting.result _ _
    (λ p is.
    told_set c.args.session.now (settings.Conflict name) (outcome_view p)
    (is ∙ ap (λ (n : List ℕ). let q : Outcome = record { edits = []; seating = Set c.args.session.now.name (settings.Conflict n); answer = Fine } in q) c.in_ok-workspace.ensures)
    ∙ sym (ap (λ (y : Option SpaceOutline). outcome (for_named (no_workspace name) (λ (x : SpaceOutline). setting [] c.args.session.now (settings.Conflict c.args.name.now)) y)) c.in-Some.ensures))
    c.setting.ensures

pub returns-in-None : goal.returns-in-None
returns-in-None c =
    let name = c.args.name.now in
    let o = outline_on c.args.ground in
    homeless [] (no_workspace name) (λ (x : SpaceOutline). setting [] c.args.session.now (settings.Conflict c.args.name.now)) (space_named name o) _ (outcome_view c.answered.result) (one_fault (refusal_of (no_workspace name))) refl c.in-None.ensures refl
    (c.answered.ensures ∙ ap (λ (a : Answer). let q : Outcome = record { edits = []; seating = Stay; answer = a } in q) (c.no_workspace.ensures ∙ ap no_workspace c.in_ok-workspace.ensures))
