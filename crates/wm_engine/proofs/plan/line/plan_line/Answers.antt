use Rattle.std.proofs.Common.{false, None, Ok, refl}
use Rattle.std.proofs.lemmas.Bool.{false≢true}
use Rattle.wm_model.specs.Step.{connect_plan, disconnect_plan}
use Rattle.wm_outcome.proofs.Connecting.{connect_fits, disconnect_fits}
use Rattle.wm_plan.proofs.Planning.{early}
use Rattle.wm_spending.specs.Nets.{Nothing}
use Rattle.wm_engine.proofs.Performing.{at_once, fitting_plain}
use Rattle.wm_engine.proofs.plan.line.plan_line.Goals as goal

pub returns-in_ok-planned-in-Connect : goal.returns-in_ok-planned-in-Connect
returns-in_ok-planned-in-Connect c =
    let g = c.args.ground in
    let p = c.in_ok-planned-in-Connect.planned in
    rw c.in-Connect.is
    (at_once g _ p false None
    (fitting_plain g _ (connect_plan c.in-Connect.session c.in-Connect.user) (Ok p) c.in_ok-planned-in-Connect.ensures
    (connect_fits g.image.now g.sessions.now g.moment g.rules (early g.moment g.early) c.in-Connect.session c.in-Connect.user) (λ s. refl)))

pub returns-in_ok-planned-in-Disconnect : goal.returns-in_ok-planned-in-Disconnect
returns-in_ok-planned-in-Disconnect c =
    let g = c.args.ground in
    let p = c.in_ok-planned-in-Disconnect.planned in
    rw c.in-Disconnect.is
    (at_once g _ p false None
    (fitting_plain g _ (disconnect_plan c.in-Disconnect.session) (Ok p) c.in_ok-planned-in-Disconnect.ensures
    (disconnect_fits g.image.now g.sessions.now g.moment g.rules (early g.moment g.early) c.in-Disconnect.session) (λ s. refl)))

pub returns-in-At : goal.returns-in-At
returns-in-At c =
    let g = c.args.ground in
    let at = c.at_moment.ensures in
    rw c.in-At.is
    (record {
      does = at.does g.image.now g.sessions.now g.rules;
      moment = at.moment;
      idle = λ said. (at.edits, at.seating);
      stays = at.stays;
      few = λ no. absurd (false≢true no);
      nets = λ net named. Nothing at.edits;
    })

pub returns-in_ok-planned-in-Run : goal.returns-in_ok-planned-in-Run
returns-in_ok-planned-in-Run c = rw c.in-Run.is (at_once c.args.ground _ c.in_ok-planned-in-Run.planned _ _ c.in_ok-planned-in-Run.ensures)
