use Rattle.std.proofs.Common.{[], sym, ap, ◌∙◌}
use Rattle.wm_calls.specs.Faults.{argument_fault}
use Rattle.wm_ground.specs.Outcomes.{outcome_view}
use Rattle.wm_model.specs.Seating.{Stay}
use Rattle.wm_model.specs.Step.{Answer, Outcome}
use Rattle.wm_locking.proofs.Lines.{set_clear, set_told}
use Rattle.wm_locking.proofs.setting.set_locking.Goals as goal

pub returns-in-Some : goal.returns-in-Some
returns-in-Some c =
    set_told c.args.session.now (argument_fault c.args.procedure c.args.args.now) c.args.mode (outcome_view c.answered.result) c.in-Some.parameter (sym c.in-Some.is ∙ c.in_ok-parameter.ensures)
    (c.answered.ensures ∙ ap (λ (a : Answer). let q : Outcome = record { edits = []; seating = Stay; answer = a } in q) c.mistyped.ensures)

pub returns : goal.returns
returns c =
    set_clear c.args.session.now (argument_fault c.args.procedure c.args.args.now) c.args.mode (outcome_view c.seated.result) c.in_ok-name.name (sym c.in_default.is ∙ c.in_ok-parameter.ensures) (c.in_ok-name.ensures ∙ c.name.ensures) c.seated.ensures
