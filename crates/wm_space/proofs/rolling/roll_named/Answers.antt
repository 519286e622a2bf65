use Rattle.std.proofs.Common.{[], refl, ap, ◌∙◌}
use Rattle.wm_graph.specs.Parts.{parts_of}
use Rattle.wm_ground.specs.Grounds.{outline_on}
use Rattle.wm_ground.specs.Outcomes.{outcome_view}
use Rattle.wm_model.specs.Planning.{Stay}
use Rattle.wm_model.specs.Step.{Answer, Outcome, for_savepoint, no_savepoint, no_workspace, refusal_of, rolling, savepoint_called, space_named}
use Rattle.wm_outcome.proofs.Named.{homeless, one_fault}
use Rattle.wm_outline.specs.Outline.{outline_by}
use Rattle.wm_space.proofs.Rolled.{told_unsaved}
use Rattle.wm_space.proofs.rolling.roll_named.Goals as goal

pub returns-in_default : goal.returns-in_default
returns-in_default c =
    let workspace = c.args.workspace.now in
    let name = c.args.name.now in
    let o = outline_on c.args.ground in
    homeless [] (no_workspace workspace) (λ x. for_savepoint (no_savepoint name) (rolling o x) (savepoint_called name x)) (space_named workspace o) _ (outcome_view c.answered.result) (one_fault (refusal_of (no_workspace workspace))) refl
    c.in_default.ensures refl
    (c.answered.ensures ∙ ap (λ (a : Answer). let q : Outcome = record { edits = []; seating = Stay; answer = a } in q) (c.no_workspace.ensures ∙ ap no_workspace c.in_ok-copy_of.ensures))

pub returns-in_ok-copy_of-in-None : goal.returns-in_ok-copy_of-in-None
returns-in_ok-copy_of-in-None c =
    let o = outline_on c.args.ground in
    told_unsaved c.args.workspace.now c.args.name.now o (space_named c.args.workspace.now o) (outline_by (parts_of c.args.ground.image.now) c.in-Some.space.now) (outcome_view c.answered-in-None.result) c.in-Some.ensures c.in-None.ensures
    (c.answered-in-None.ensures ∙ ap (λ (a : Answer). let q : Outcome = record { edits = []; seating = Stay; answer = a } in q) (c.no_savepoint.ensures ∙ ap no_savepoint c.in_ok-copy_of-in-None.ensures))
