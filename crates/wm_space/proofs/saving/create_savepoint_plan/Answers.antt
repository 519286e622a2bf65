use Rattle.std.proofs.Common.{ℕ, List, [], unwrap_or, refl, sym, ap, ◌∙◌}
use Rattle.wm_calls.specs.Arguments.{text_given}
use Rattle.wm_calls.specs.Faults.{argument_fault}
use Rattle.wm_grammar.specs.declared.procedure.Parameter.TheVariants as parameters
use Rattle.wm_grammar.specs.declared.procedure.Procedure.TheVariants as procedures
use Rattle.wm_ground.proofs.Bridge.{if_ok}
use Rattle.wm_ground.specs.Grounds.{outline_on}
use Rattle.wm_ground.specs.Outcomes.{outcome_view}
use Rattle.wm_model.specs.Step.{Outcome, Plan, first_fault, for_named, mistyped, names_no_savepoint, no_workspace, outcome, saving, space_named, workspace_given}
use Rattle.wm_outcome.proofs.Naming.{front, fronted, name_clear, name_told, text_lacks}
use Rattle.wm_outcome.proofs.Ordered.{from_named}
use Rattle.wm_outcome.proofs.Saving.{saving_from}
use Rattle.wm_outline.specs.Outline.{Outline}
use Rattle.wm_plan.specs.Views.{seating_view}
use Rattle.wm_space.proofs.saving.create_savepoint_plan.Goals as goal

-- the plan for each name
abbrev saves : List ℕ → Outline → List ℕ → Plan
saves workspace o name = for_named (no_workspace workspace) (saving name o) (space_named workspace o)

pub returns-in_default : goal.returns-in_default
returns-in_default c =
    let args = c.args.args.now in
    let says = c.lacking.ensures.answer ∙ ap (λ f. mistyped (unwrap_or f [])) c.in_ok-fault_of.ensures in
    text_lacks (text_given procedures.CreateSavepoint args parameters.SavepointName) (argument_fault procedures.CreateSavepoint args)
    (fronted procedures.CreateSavepoint args names_no_savepoint (saves (workspace_given procedures.CreateSavepoint args) (outline_on c.args.ground))) (outcome_view c.lacking.result) (sym c.in_default.ensures)
    (λ i. let q : Outcome = record { edits = c.lacking.ensures.edits i; seating = seating_view (c.lacking.ensures.seating i); answer = says i } in q)

pub returns-in-Some-2 : goal.returns-in-Some-2
returns-in-Some-2 c =
    let o = outline_on c.args.ground in
    let args = c.args.args.now in
    let name = c.in-Some.name.now in
    let workspace = workspace_given procedures.CreateSavepoint args in
    name_told procedures.CreateSavepoint args names_no_savepoint (saves workspace o) (text_given procedures.CreateSavepoint args parameters.SavepointName) (argument_fault procedures.CreateSavepoint args) name c.in-Some-2.refusal
    (outcome_view c.refused.result) (sym c.in-Some.ensures) (from_named 19 (no_workspace workspace) (saving name o) (space_named workspace o) refl (saving_from name o))
    (sym c.in-Some-2.is ∙ c.in_ok-refusal.ensures ∙ ap (λ b. first_fault (front procedures.CreateSavepoint args name b)) (c.names_no_savepoint-is_reserved.ensures ∙ ap names_no_savepoint c.as_bytes.ensures)) c.refused.ensures

pub returns : goal.returns
returns c =
    let o = outline_on c.args.ground in
    let args = c.args.args.now in
    let name = c.in-Some.name.now in
    let workspace = workspace_given procedures.CreateSavepoint args in
    if_ok c.save_named.result _ _
    (λ p is.
    name_clear procedures.CreateSavepoint args names_no_savepoint (saves workspace o) (text_given procedures.CreateSavepoint args parameters.SavepointName) (argument_fault procedures.CreateSavepoint args) name (outcome_view p)
    (sym c.in-Some.ensures) (from_named 19 (no_workspace workspace) (saving name o) (space_named workspace o) refl (saving_from name o))
    (sym c.in_default-2.is ∙ c.in_ok-refusal.ensures ∙ ap (λ b. first_fault (front procedures.CreateSavepoint args name b)) (c.names_no_savepoint-is_reserved.ensures ∙ ap names_no_savepoint c.as_bytes.ensures))
    (is ∙ ap (λ w. outcome (saves w o name)) c.bytes_given-workspace.ensures))
    c.save_named.ensures
