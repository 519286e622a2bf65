use Rattle.std.proofs.Common.{sym, ◌∙◌}
use Rattle.wm_freezing.proofs.Freezing.{freeze_clear, freeze_told, hold_is}
use Rattle.wm_freezing.proofs.freeze.freeze_plan.Goals as goal
use Rattle.wm_ground.proofs.Bridge.{if_ok}
use Rattle.wm_ground.specs.Grounds.{outline_on}
use Rattle.wm_ground.specs.Outcomes.{outcome_view}
use Rattle.wm_guard.specs.Access.{hold_view}

pub returns-in-Some-clause-does : goal.returns-in-Some-clause-does
returns-in-Some-clause-does c =
    freeze_told c.args.session.now c.args.args.now (outline_on c.args.ground) (outcome_view c.refused.result) c.bytes_given-name.result.now c.in_ok-given.given (hold_view c.hold_given-hold.result) c.bytes_given-name.ensures
    c.in_ok-given.ensures
    (hold_is c.args.session.now c.args.args.now (hold_view c.hold_given-hold.result) c.in_ok-given.given c.user-own.result.now c.writer_or.result.now c.in_ok-given.ensures c.user-own.ensures.user c.writer_or.ensures
    c.hold_given-hold.ensures)
    c.in-Some.refusal (sym c.in-Some.is ∙ c.in_ok-refusal.ensures) c.refused.ensures

pub returns-clause-does : goal.returns-clause-does
returns-clause-does c =
    if_ok c.freeze_named.result _ _
    (λ p is.
    freeze_clear c.args.session.now c.args.args.now (outline_on c.args.ground) (outcome_view p) c.bytes_given-name.result.now c.in_ok-given.given (hold_view c.hold_given-hold.result) c.bytes_given-name.ensures
    c.in_ok-given.ensures
    (hold_is c.args.session.now c.args.args.now (hold_view c.hold_given-hold.result) c.in_ok-given.given c.user-own.result.now c.writer_or.result.now c.in_ok-given.ensures c.user-own.ensures.user c.writer_or.ensures
    c.hold_given-hold.ensures)
    (sym c.in-None.is ∙ c.in_ok-refusal.ensures) is)
    c.freeze_named.ensures
