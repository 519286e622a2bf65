use Rattle.std.proofs.Common.{◌≡◌, Option, Some, None, IfOk, refl, sym, ap, subst, ◌∙◌}
use Rattle.wm_grammar.specs.Calls.{procedure_of}
use Rattle.wm_grammar.specs.declared.procedure.Procedure.{Procedure}
use Rattle.wm_model.proofs.Doing.{does_nothing}
use Rattle.wm_model.specs.Step.{not_built}
use Rattle.wm_plan.specs.Views.{answer_view}
use Rattle.wm_engine.proofs.Performing.{answering}
use Rattle.wm_engine.specs.ForkLines.{forks_call}
use Rattle.wm_engine.specs.NetLines.{nets_call}
use Rattle.wm_engine.specs.Performing.{Performs, called_with}
use Rattle.wm_engine.proofs.plan.call.call.Goals as goal

pub returns-in-Some : goal.returns-in-Some
returns-in-Some c =
    let is : procedure_of c.args.name.now ≡ Some c.in-Some.procedure = ap procedure_of (sym c.as_bytes.ensures) ∙ sym c.in-Some.ensures in
    subst (λ (o : Option Procedure). IfOk c.call_of.result (Performs c.args.ground (called_with c.args.session.now o c.args.called) (forks_call o) (nets_call o c.args.called.given.args.now))) (sym is) c.call_of.ensures

pub returns-in-None : goal.returns-in-None
returns-in-None c =
    let g = c.args.ground in
    let none : procedure_of c.args.name.now ≡ (let nothing : Option Procedure = None in nothing) = ap procedure_of (sym c.as_bytes.ensures) ∙ sym c.in-None.ensures in
    subst (λ (o : Option Procedure). Performs g (called_with c.args.session.now o c.args.called) (forks_call o) (nets_call o c.args.called.given.args.now) c.answered.result) (sym none)
    (answering g _ c.answered.result _ _ not_built c.answered.ensures.edits c.answered.ensures.seating (ap answer_view c.answered.ensures.answer ∙ c.not_built.ensures)
    (does_nothing g.image.now g.sessions.now g.moment not_built _ (λ s st. refl)))
