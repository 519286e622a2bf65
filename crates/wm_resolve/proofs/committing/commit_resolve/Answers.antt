use Rattle.std.proofs.Common.{[], sym, ap, ◌∙◌}
use Rattle.wm_model.specs.Planning.{Set, Stay}
use Rattle.wm_model.specs.Step.{commit_resolve, no_resolve, no_workspace}
use Rattle.wm_model.specs.Step.Sessions as settings
use Rattle.wm_plan.proofs.Planning.{told}
use Rattle.wm_plan.specs.Views.{answer_view, seating_view}
use Rattle.wm_resolve.proofs.CommittingLine.{commit_empty, commit_to}
use Rattle.wm_model.proofs.MergedEdits.{nothing_listed}
use Rattle.wm_resolve.proofs.OpeningLine.{resolve_closed, resolve_nameless}
use Rattle.wm_resolve.proofs.Plans.{opens_named, sets_open}
use Rattle.wm_resolve.proofs.committing.commit_resolve.Goals as goal

pub returns-in_default-clause-does : goal.returns-in_default-clause-does
returns-in_default-clause-does c = λ xs among.
    told c.args.image.now xs c.args.moment c.answered.result [] Stay (no_workspace c.args.name.now) (commit_resolve c.args.session.now c.args.name.now) c.answered.ensures.edits (ap seating_view c.answered.ensures.seating)
    (ap answer_view c.answered.ensures.answer ∙ c.no_workspace.ensures ∙ ap no_workspace c.in_ok-copy_of.ensures)
    (resolve_nameless c.args.image.now xs c.args.moment c.args.session.now c.args.name.now (commit_to c.args.session.now) c.requires.rules (sym c.in_default.ensures))

pub returns-then-not-has_open-clause-does : goal.returns-then-not-has_open-clause-does
returns-then-not-has_open-clause-does c = λ xs among.
    told c.args.image.now xs c.args.moment c.answered-then-not-has_open.result [] Stay (no_resolve c.in-Some.space.now.name) (commit_resolve c.args.session.now c.args.name.now) c.answered-then-not-has_open.ensures.edits
    (ap seating_view c.answered-then-not-has_open.ensures.seating) (ap answer_view c.answered-then-not-has_open.ensures.answer ∙ c.no_resolve.ensures ∙ ap no_resolve c.in_ok-copy.ensures)
    (resolve_closed c.args.image.now xs c.args.moment c.args.session.now c.args.name.now (commit_to c.args.session.now) c.in-Some.space.now (record { rules = c.requires.rules; found = sym c.in-Some.ensures })
    (sym c.has_open.ensures ∙ c.if-not-has_open.true))

pub returns-then-is_empty-clause-does : goal.returns-then-is_empty-clause-does
returns-then-is_empty-clause-does c =
    sets_open c.args.image.now c.args.moment c.args.session.now c.setting.result (Set c.args.session.now.name settings.End) (commit_resolve c.args.session.now c.args.name.now) c.setting.ensures
    (λ xs. commit_empty c.args.image.now xs c.args.moment c.args.session.now c.args.name.now c.in-Some.space.now (record { rules = c.requires.rules; found = sym c.in-Some.ensures }) (sym c.has_open.ensures ∙ c.if-not-has_open.false)
    (sym c.decisions_of-decisions.ensures ∙ nothing_listed c.decisions_of-decisions.result.now (sym c.is_empty.ensures ∙ c.if-is_empty.true)))

pub returns-clause-does : goal.returns-clause-does
returns-clause-does c =
    opens_named c.args.image.now c.args.moment c.args.session.now c.commit_decisions.result (commit_resolve c.args.session.now) c.args.name.now c.in-Some.space.now (record { rules = c.requires.rules; found = sym c.in-Some.ensures })
    c.commit_decisions.ensures.does
