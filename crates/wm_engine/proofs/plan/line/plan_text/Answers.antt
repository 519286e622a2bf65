use Rattle.std.proofs.Common.{Result, IfOk, refl, sym, ap, subst, ◌∙◌}
use Rattle.wm_grammar.specs.Scanned.{symbols_of}
use Rattle.wm_grammar.specs.Parsed.{Bad}
use Rattle.wm_model.specs.Step.{run_parsed, syntax, bad_literal}
use Rattle.wm_plan.specs.Views.{answer_view}
use Rattle.wm_syntax.specs.Trees.{Line}
use Rattle.wm_engine.proofs.Performing.{answering_alone}
use Rattle.wm_engine.proofs.Timely.{line_timely}
use Rattle.wm_engine.specs.ForkLines.{is_fork}
use Rattle.wm_engine.specs.NetLines.{nets_into}
use Rattle.wm_engine.specs.Performing.{PerformsAt}
use Rattle.wm_engine.proofs.plan.line.plan_text.Goals as goal

pub plan_read-planned-requires : goal.plan_read-planned-requires
plan_read-planned-requires c = record { timely = line_timely 64 (symbols_of c.args.text.now) _ c.in-Ok.ensures.found.0 }

pub returns-in-Ok : goal.returns-in-Ok
returns-in-Ok c =
    subst (λ (x : Result Line Bad). IfOk c.plan_read-planned.result (PerformsAt c.args.ground (run_parsed x) (is_fork x) (nets_into x))) (sym c.in-Ok.ensures.is) c.plan_read-planned.ensures

pub returns-in-Err-Syntax : goal.returns-in-Err-Syntax
returns-in-Err-Syntax c =
    let wrong = rw c.in-Err-Syntax.field-0-is at c.in-Err-Syntax.ensures.is in
    let answered = c.answered in
    answering_alone c.args.ground _ answered.result _ _ (syntax c.in-Err-Syntax.column) answered.ensures.edits answered.ensures.seating answered.ensures.moment (ap answer_view answered.ensures.answer ∙ c.syntax.ensures) (λ s st. rw wrong refl)

pub returns-in-Err-Literal : goal.returns-in-Err-Literal
returns-in-Err-Literal c =
    let wrong = rw c.in-Err-Literal.field-0-is at c.in-Err-Literal.ensures.is in
    let answered = c.answered-in-Err-Literal in
    answering_alone c.args.ground _ answered.result _ _ (bad_literal c.in-Err-Literal.column) answered.ensures.edits answered.ensures.seating answered.ensures.moment (ap answer_view answered.ensures.answer ∙ c.bad_literal.ensures) (λ s st. rw wrong refl)
