use Rattle.std.proofs.Common.{ℕ, List, [], unwrap_or, refl, sym, ap, ◌∙◌}
use Rattle.wm_calls.specs.Arguments.{text_given}
use Rattle.wm_calls.specs.Faults.{argument_fault}
use Rattle.wm_grammar.specs.declared.procedure.Parameter.TheVariants as parameters
use Rattle.wm_grammar.specs.declared.procedure.Procedure.TheVariants as procedures
use Rattle.wm_ground.proofs.Bridge.{if_ok}
use Rattle.wm_ground.specs.Grounds.{outline_on}
use Rattle.wm_ground.specs.Outcomes.{outcome_view}
use Rattle.wm_model.specs.Step.{Outcome, Plan, bearing, first_fault, for_home, mistyped, names_no_workspace}
use Rattle.wm_outcome.proofs.Bearing.{bearing_from}
use Rattle.wm_outcome.proofs.Naming.{front, fronted, name_clear, name_told, text_lacks}
use Rattle.wm_outcome.proofs.Ordered.{from_home}
use Rattle.wm_plan.specs.Views.{seating_view}
use Rattle.wm_space.proofs.bearing.create_workspace_plan.Goals as goal

pub returns-in_default : goal.returns-in_default
returns-in_default c =
    let o = outline_on c.args.ground in
    let args = c.args.args.now in
    let act : List ℕ → Plan = λ n. for_home (bearing c.args.session.now n o) c.args.session.now o in
    let says = c.lacking.ensures.answer ∙ ap (λ f. mistyped (unwrap_or f [])) c.in_ok-fault_of.ensures in
    text_lacks (text_given procedures.CreateWorkspace args parameters.Workspace) (argument_fault procedures.CreateWorkspace args) (fronted procedures.CreateWorkspace args names_no_workspace act) (outcome_view c.lacking.result)
    (sym c.in_default.ensures) (λ i. let q : Outcome = record { edits = c.lacking.ensures.edits i; seating = seating_view (c.lacking.ensures.seating i); answer = says i } in q)

pub returns-in-Some-2 : goal.returns-in-Some-2
returns-in-Some-2 c =
    let o = outline_on c.args.ground in
    let args = c.args.args.now in
    let name = c.in-Some.name.now in
    name_told procedures.CreateWorkspace args names_no_workspace (λ n. for_home (bearing c.args.session.now n o) c.args.session.now o) (text_given procedures.CreateWorkspace args parameters.Workspace)
    (argument_fault procedures.CreateWorkspace args) name c.in-Some-2.refusal (outcome_view c.refused.result) (sym c.in-Some.ensures) (from_home 19 (bearing c.args.session.now name o) c.args.session.now o refl (bearing_from c.args.session.now name o))
    (sym c.in-Some-2.is ∙ c.in_ok-refusal.ensures ∙ ap (λ b. first_fault (front procedures.CreateWorkspace args name b)) (c.names_no_workspace-is_reserved.ensures ∙ ap names_no_workspace c.as_bytes.ensures)) c.refused.ensures

pub returns : goal.returns
returns c =
    let o = outline_on c.args.ground in
    let args = c.args.args.now in
    let name = c.in-Some.name.now in
    if_ok c.bear_at_home.result _ _
    (λ p is.
    name_clear procedures.CreateWorkspace args names_no_workspace (λ n. for_home (bearing c.args.session.now n o) c.args.session.now o) (text_given procedures.CreateWorkspace args parameters.Workspace)
    (argument_fault procedures.CreateWorkspace args) name (outcome_view p) (sym c.in-Some.ensures) (from_home 19 (bearing c.args.session.now name o) c.args.session.now o refl (bearing_from c.args.session.now name o))
    (sym c.in_default-2.is ∙ c.in_ok-refusal.ensures ∙ ap (λ b. first_fault (front procedures.CreateWorkspace args name b)) (c.names_no_workspace-is_reserved.ensures ∙ ap names_no_workspace c.as_bytes.ensures)) is)
    c.bear_at_home.ensures
