use Rattle.std.proofs.Common.{[], None, Some, refl, sym, ap, ◌∙◌}
use Rattle.wm_graph.specs.Parts.{parts_of}
use Rattle.wm_ground.proofs.Bridge.{if_ok}
use Rattle.wm_ground.specs.Grounds.{outline_on}
use Rattle.wm_ground.specs.Outcomes.{outcome_view}
use Rattle.wm_model.specs.Planning.{Stay}
use Rattle.wm_model.specs.Step.{Answer, Outcome, no_workspace, refusal_of, removing, space_named}
use Rattle.wm_outcome.proofs.Named.{found_so, homeless, one_fault}
use Rattle.wm_outcome.proofs.Removing.{removing_order}
use Rattle.wm_outline.specs.Outline.{outline_by}
use Rattle.wm_space.proofs.removing.remove.Goals as goal

pub returns-in_default : goal.returns-in_default
returns-in_default c =
    let name = c.args.name.now in
    let o = outline_on c.args.ground in
    homeless [] (no_workspace name) (removing name o) (space_named name o) _ (outcome_view c.answered.result) (one_fault (refusal_of (no_workspace name))) refl c.in_default.ensures refl
    (c.answered.ensures ∙ ap (λ (a : Answer). let q : Outcome = record { edits = []; seating = Stay; answer = a } in q) (c.no_workspace.ensures ∙ ap no_workspace c.in_ok-copy_of.ensures))

pub returns-in-Some-2 : goal.returns-in-Some-2
returns-in-Some-2 c =
    let name = c.args.name.now in
    let o = outline_on c.args.ground in
    let x = outline_by (parts_of c.args.ground.image.now) c.in-Some.space.now in
    found_so [] (no_workspace name) (removing name o) (space_named name o) x (Some c.in-Some-2.refusal) (outcome_view c.refused.result) (removing_order name o x) refl c.in-Some.ensures (sym c.in-Some-2.is ∙ c.in_ok-refusal.ensures)
    c.refused.ensures

pub returns-in-None : goal.returns-in-None
returns-in-None c =
    let name = c.args.name.now in
    let o = outline_on c.args.ground in
    let x = outline_by (parts_of c.args.ground.image.now) c.in-Some.space.now in
    if_ok c.done_seated.result _ _
    (λ p is. found_so [] (no_workspace name) (removing name o) (space_named name o) x None (outcome_view p) (removing_order name o x) refl c.in-Some.ensures (sym c.in-None.is ∙ c.in_ok-refusal.ensures) is) c.done_seated.ensures
