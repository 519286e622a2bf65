use Rattle.std.proofs.Common.{[], None, Some, refl, sym, ap, ◌∙◌}
use Rattle.wm_base.specs.declared.refusal.FormRefusal.TheVariants.{Wm013, Wm014}
use Rattle.wm_base.specs.declared.refusal.Refusal.TheVariants as refusals
use Rattle.wm_base.specs.declared.refusal.SpaceRefusal.TheVariants.{Wm020, Wm022}
use Rattle.wm_calls.specs.Faults.{argument_fault}
use Rattle.wm_grammar.specs.declared.procedure.Procedure.TheVariants as procedures
use Rattle.wm_ground.proofs.Bridge.{if_ok}
use Rattle.wm_ground.specs.Grounds.{outline_on}
use Rattle.wm_ground.specs.Outcomes.{outcome_view}
use Rattle.wm_model.specs.Planning.{Set, Stay}
use Rattle.wm_model.specs.Step.Sessions as settings
use Rattle.wm_model.specs.Step.{Answer, Outcome, difference_given, lost_savepoints, lost_workspaces, no_savepoint, no_workspace}
use Rattle.wm_print.specs.Texts.{Fine}
use Rattle.wm_state.specs.State.{Difference}
use Rattle.wm_space.proofs.TwoPoints.{compares}
use Rattle.wm_space.proofs.comparing.set_difference.Goals as goal

pub returns-in-Some : goal.returns-in-Some
returns-in-Some c =
    let o = outline_on c.args.ground in
    compares c.args.session.now c.args.args.now o (outcome_view c.answered.result) (Some c.in-Some.count) (argument_fault procedures.SetDiffVersions c.args.args.now) (lost_workspaces o (difference_given c.args.args.now))
    (lost_savepoints o (difference_given c.args.args.now)) (Some (refusals.Form (Wm014 c.in-Some.count)))
    (record { count_is = sym c.in-Some.is ∙ c.count_asked.ensures; fault_is = refl; workspace_is = refl; savepoint_is = refl }) refl
    (c.answered.ensures ∙ ap (λ (a : Answer). let q : Outcome = record { edits = []; seating = Stay; answer = a } in q) c.miscounted.ensures)

pub returns-in-Some-2 : goal.returns-in-Some-2
returns-in-Some-2 c =
    let o = outline_on c.args.ground in
    compares c.args.session.now c.args.args.now o (outcome_view c.answered-in-Some-2.result) None (Some c.in-Some-2.parameter) (lost_workspaces o (difference_given c.args.args.now)) (lost_savepoints o (difference_given c.args.args.now))
    (Some (refusals.Form (Wm013 c.in-Some-2.parameter)))
    (record { count_is = sym c.in_default.is ∙ c.count_asked.ensures; fault_is = sym c.in-Some-2.is ∙ c.in_ok-parameter.ensures; workspace_is = refl; savepoint_is = refl }) refl
    (c.answered-in-Some-2.ensures ∙ ap (λ (a : Answer). let q : Outcome = record { edits = []; seating = Stay; answer = a } in q) c.mistyped.ensures)

pub returns-in-Some-lost_workspaces : goal.returns-in-Some-lost_workspaces
returns-in-Some-lost_workspaces c =
    let o = outline_on c.args.ground in
    compares c.args.session.now c.args.args.now o (outcome_view c.answered-in-Some-lost_workspaces.result) None None (Some c.in-Some-lost_workspaces.name.now) (lost_savepoints o (difference_given c.args.args.now))
    (Some (refusals.Space (Wm020 c.in-Some-lost_workspaces.name.now)))
    (record {
      count_is = sym c.in_default.is ∙ c.count_asked.ensures;
      fault_is = sym c.in_default-2.is ∙ c.in_ok-parameter.ensures;
      workspace_is = c.in-Some-lost_workspaces.ensures ∙ ap (lost_workspaces o) c.in_ok-points.ensures;
      savepoint_is = refl;
    }) refl
    (c.answered-in-Some-lost_workspaces.ensures ∙ ap (λ (a : Answer). let q : Outcome = record { edits = []; seating = Stay; answer = a } in q) (c.no_workspace.ensures ∙ ap no_workspace c.in_ok-copy.ensures))

pub returns-in-Some-lost_savepoints : goal.returns-in-Some-lost_savepoints
returns-in-Some-lost_savepoints c =
    let o = outline_on c.args.ground in
    compares c.args.session.now c.args.args.now o (outcome_view c.answered-in-Some-lost_savepoints.result) None None None (Some c.in-Some-lost_savepoints.name.now) (Some (refusals.Space (Wm022 c.in-Some-lost_savepoints.name.now)))
    (record {
      count_is = sym c.in_default.is ∙ c.count_asked.ensures;
      fault_is = sym c.in_default-2.is ∙ c.in_ok-parameter.ensures;
      workspace_is = c.in_default-lost_workspaces.ensures ∙ ap (lost_workspaces o) c.in_ok-points.ensures;
      savepoint_is = c.in-Some-lost_savepoints.ensures ∙ ap (lost_savepoints o) c.in_ok-points.ensures;
    }) refl
    (c.answered-in-Some-lost_savepoints.ensures ∙ ap (λ (a : Answer). let q : Outcome = record { edits = []; seating = Stay; answer = a } in q) (c.no_savepoint.ensures ∙ ap no_savepoint c.in_ok-copy-2.ensures))

pub returns : goal.returns
returns c =
    let o = outline_on c.args.ground in
    if_ok c.compare.result _ _
    (λ p is.
    compares c.args.session.now c.args.args.now o (outcome_view p) None None None None None
    (record {
      count_is = sym c.in_default.is ∙ c.count_asked.ensures;
      fault_is = sym c.in_default-2.is ∙ c.in_ok-parameter.ensures;
      workspace_is = c.in_default-lost_workspaces.ensures ∙ ap (lost_workspaces o) c.in_ok-points.ensures;
      savepoint_is = c.in_default-lost_savepoints.ensures ∙ ap (lost_savepoints o) c.in_ok-points.ensures;
    }) refl
    (is ∙ ap (λ (d : Difference). let q : Outcome = record { edits = []; seating = Set c.args.session.now.name (settings.Compare d); answer = Fine } in q) c.in_ok-points.ensures))
    c.compare.ensures
