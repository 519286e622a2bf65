use Rattle.std.proofs.Common.{ℕ, true, false, List, [], Option, None, Some, unwrap_or, sym, ap, ◌∙◌}
use Rattle.wm_calls.specs.Faults.{argument_fault}
use Rattle.wm_grammar.specs.declared.procedure.Procedure.TheVariants as procedures
use Rattle.wm_ground.proofs.Bridge.{if_ok}
use Rattle.wm_ground.specs.Grounds.{outline_on}
use Rattle.wm_ground.specs.Outcomes.{outcome_view}
use Rattle.wm_model.specs.Planning.{Stay}
use Rattle.wm_model.specs.Step.{Answer, Outcome, mistyped, outcome, reserved_name}
use Rattle.wm_outcome.proofs.Rolling.{rollback_lacks, rolled}
use Rattle.wm_space.proofs.Rolled.{rollback_told, told_lacking}
use Rattle.wm_space.proofs.rolling.rollback_plan.Goals as goal

pub returns-in_default : goal.returns-in_default
returns-in_default c =
    told_lacking c.lacking.result (mistyped (unwrap_or (argument_fault procedures.RollbackToSp c.args.args.now) [])) c.lacking.ensures.edits c.lacking.ensures.seating
    (c.lacking.ensures.answer ∙ ap (λ (fault : Option (List ℕ)). mistyped (unwrap_or fault [])) c.in_ok-fault.ensures)
    ∙ rollback_lacks c.args.args.now (outline_on c.args.ground) (sym c.in_default.ensures)

pub returns-then-is_latest : goal.returns-then-is_latest
returns-then-is_latest c =
    rollback_told c.args.args.now (outline_on c.args.ground) c.as_bytes-name.result.now true _ (outcome_view c.answered.result) (sym c.in-Some.ensures ∙ ap Some (sym c.as_bytes-name.ensures)) c.if-is_latest.ensures c.in_ok-fault.ensures
    (c.answered.ensures ∙ ap (λ (a : Answer). let q : Outcome = record { edits = []; seating = Stay; answer = a } in q) (c.reserved_name.ensures ∙ ap reserved_name c.in_ok-copy_of.ensures))

pub returns-in-Some-fault : goal.returns-in-Some-fault
returns-in-Some-fault c =
    rollback_told c.args.args.now (outline_on c.args.ground) c.as_bytes-name.result.now false (Some c.in-Some-fault.parameter) (outcome_view c.answered-in-Some-fault.result) (sym c.in-Some.ensures ∙ ap Some (sym c.as_bytes-name.ensures))
    c.if-is_latest.ensures (sym c.in-Some-fault.is ∙ c.in_ok-fault.ensures)
    (c.answered-in-Some-fault.ensures ∙ ap (λ (a : Answer). let q : Outcome = record { edits = []; seating = Stay; answer = a } in q) c.mistyped.ensures)

pub returns : goal.returns
returns c =
    let name = c.as_bytes-name.result.now in
    if_ok c.roll_named.result _ _
    (λ p is.
    rollback_told c.args.args.now (outline_on c.args.ground) name false None (outcome_view p) (sym c.in-Some.ensures ∙ ap Some (sym c.as_bytes-name.ensures)) c.if-is_latest.ensures (sym c.in_default-fault.is ∙ c.in_ok-fault.ensures)
    (is ∙ ap (λ (w : List ℕ). outcome (rolled w name (outline_on c.args.ground))) c.bytes_given-workspace.ensures))
    c.roll_named.ensures
