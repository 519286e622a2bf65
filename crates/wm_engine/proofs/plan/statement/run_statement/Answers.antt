use Rattle.std.proofs.Common.{refl, sym, ap, ◌∙◌}
use Rattle.wm_ground.proofs.Bridge.{does_barred, edits_barred, forks_barred, idles_barred}
use Rattle.wm_model.specs.Step.{frozen_fault, statement_done}
use Rattle.wm_outcome.proofs.Plans.{outline_at}
use Rattle.wm_outline.specs.Outline.{outline}
use Rattle.wm_spending.specs.Nets.{AreNets, Nothing}
use Rattle.wm_syntax.specs.Views.{statement_view}
use Rattle.wm_engine.proofs.plan.statement.run_statement.Goals as goal

pub returns-in-Ok : goal.returns-in-Ok
returns-in-Ok c =
    let g = c.args.ground in
    let session = c.args.session.now in
    let statement = statement_view c.args.statement.now in
    let done = c.in_ok-planned.planned in
    let found = c.in-Ok.fault in
    let h = c.in_ok-planned.ensures in
    let is = c.barred.ensures in
    record {
      does = does_barred done c.barred.result found is g.image.now g.sessions.now g.moment (statement_done session statement) (λ s. frozen_fault session statement (outline s))
          (λ s st. ap (frozen_fault session statement) (sym (outline_at g.image.now g.sessions.now g.moment s st)) ∙ sym c.in-Ok.ensures) h.does;
      idle = idles_barred done c.barred.result found is h.idle;
      few = λ forks. forks_barred done c.barred.result found is (h.few forks);
      nets = λ net named. edits_barred done c.barred.result found is (AreNets g.image.now net) (h.nets net named) (Nothing refl);
    }
