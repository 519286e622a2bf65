use Rattle.std.proofs.Common.{◌≡◌, ℕ, Bool, List, Option, Some, Result, Ok, Err, IfOk, sym, ap, ◌∙◌}
use Rattle.wm_base.specs.declared.memory.Memory.{Memory}
use Rattle.wm_ground.specs.declared.ground.Ground.{Ground}
use Rattle.wm_model.proofs.Doing.{run_none, run_some}
use Rattle.wm_model.specs.Step.{run_for, run_statement, session_of, no_session}
use Rattle.wm_plan.specs.Views.{answer_view, seating_view}
use Rattle.wm_plan.specs.declared.planned.Planned.{Planned}
use Rattle.wm_spending.specs.Nets.{Net}
use Rattle.wm_state.specs.State.{Session}
use Rattle.wm_syntax.specs.Trees.{Statement}
use Rattle.wm_syntax.specs.Views.{statement_view}
use Rattle.wm_engine.proofs.Performing.{answering}
use Rattle.wm_engine.specs.Performing.{Performs}
use Rattle.wm_engine.proofs.plan.statement.run.Goals as goal

-- where the session is open, its statement is run for it
runs_for : (g : Ground) (name : List ℕ) (session : Session) (statement : Statement) (forks : Bool) (net : Option Net) (r : Result Planned Memory) → session_of name g.sessions.now ≡ Some session
    → IfOk r (Performs g (run_statement session statement) forks net) → IfOk r (Performs g (λ s. run_for name (session_of name s.sessions) statement s) forks net)
runs_for g name session statement forks net (Ok p) some h = record {
  does = run_some g.image.now g.sessions.now g.moment name session statement p.edits.items (seating_view p.seating) (answer_view p.answer) some h.does;
  idle = h.idle;
  few = h.few;
  nets = h.nets;
}
runs_for g name session statement forks net (Err e) some h = tt

pub returns-in_default : goal.returns-in_default
returns-in_default c =
    let g = c.args.ground in
    let name = c.args.name.now in
    answering g _ c.answered.result _ _ (no_session name) c.answered.ensures.edits c.answered.ensures.seating (ap answer_view c.answered.ensures.answer ∙ c.no_session.ensures ∙ ap no_session c.in_ok-copy.ensures)
    (run_none g.image.now g.sessions.now g.moment name (statement_view c.args.statement.now) g.rules (sym c.in_default.ensures))

pub returns : goal.returns
returns c = runs_for c.args.ground c.args.name.now c.in-Some.session.now (statement_view c.args.statement.now) _ _ c.run_statement.result (sym c.in-Some.ensures) c.run_statement.ensures

pub run_statement-requires : goal.run_statement-requires
run_statement-requires c = record { «open» = record { name = c.args.name.now; found = sym c.in-Some.ensures } }
