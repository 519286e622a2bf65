use Rattle.std.proofs.Common.{[], sym, ap, ◌∙◌, subst}
use Rattle.std.proofs.lemmas.Result.{IfOk-weaker}
use Rattle.std.specs.Option.{option_copied}
use Rattle.wm_syntax.specs.Views.{filter_view}
use Rattle.wm_model.specs.Planning.{Stay}
use Rattle.wm_model.specs.Step.{empty_period, no_resolve, no_workspace}
use Rattle.wm_model.proofs.Recorded.{named_numbered}
use Rattle.wm_plan.proofs.Planning.{told}
use Rattle.wm_plan.specs.Planning.{DoesIt}
use Rattle.wm_plan.specs.Views.{answer_view, seating_view}
use Rattle.wm_resolve.proofs.Decided.{family_named, parent_found}
use Rattle.wm_resolve.proofs.DecidingLine.{resolve_empty, resolve_homeless, resolve_unopened}
use Rattle.wm_resolve.specs.Deciding.{resolve_to}
use Rattle.wm_resolve.proofs.deciding.resolve_in.Goals as goal

pub returns-in_default-clause-does : goal.returns-in_default-clause-does
returns-in_default-clause-does c = λ xs m.
    told c.args.image.now xs m c.answered.result [] Stay (no_workspace c.args.asked.workspace.now)
    (resolve_to c.args.session.now c.args.asked.workspace.now c.args.table.now (filter_view c.args.asked.condition.now) c.args.asked.keep c.args.asked.empty) c.answered.ensures.edits
    (ap seating_view c.answered.ensures.seating) (ap answer_view c.answered.ensures.answer ∙ c.no_workspace.ensures ∙ ap no_workspace c.in_ok-copy_of.ensures)
    (resolve_homeless c.args.image.now xs m c.args.session.now c.args.asked.workspace.now c.args.table.now (filter_view c.args.asked.condition.now) c.args.asked.keep c.args.asked.empty c.requires.rules
    (sym c.in_default.ensures))

pub returns-then-asked-clause-does : goal.returns-then-asked-clause-does
returns-then-asked-clause-does c = λ xs m.
    told c.args.image.now xs m c.answered-then-asked.result [] Stay empty_period
    (resolve_to c.args.session.now c.args.asked.workspace.now c.args.table.now (filter_view c.args.asked.condition.now) c.args.asked.keep c.args.asked.empty) c.answered-then-asked.ensures.edits
    (ap seating_view c.answered-then-asked.ensures.seating) (ap answer_view c.answered-then-asked.ensures.answer ∙ c.empty_period.ensures)
    (resolve_empty c.args.image.now xs m c.args.session.now c.args.asked.workspace.now c.args.table.now (filter_view c.args.asked.condition.now) c.args.asked.keep c.args.asked.empty c.in-Some.space.now
    (record { rules = c.requires.rules; found = sym c.in-Some.ensures }) c.if-asked.true)

pub returns-then-not-has_open-clause-does : goal.returns-then-not-has_open-clause-does
returns-then-not-has_open-clause-does c = λ xs m.
    told c.args.image.now xs m c.answered-then-not-has_open.result [] Stay (no_resolve c.in-Some.space.now.name)
    (resolve_to c.args.session.now c.args.asked.workspace.now c.args.table.now (filter_view c.args.asked.condition.now) c.args.asked.keep c.args.asked.empty) c.answered-then-not-has_open.ensures.edits
    (ap seating_view c.answered-then-not-has_open.ensures.seating) (ap answer_view c.answered-then-not-has_open.ensures.answer ∙ c.no_resolve.ensures ∙ ap no_resolve c.in_ok-copy.ensures)
    (resolve_unopened c.args.image.now xs m c.args.session.now c.args.asked.workspace.now c.args.table.now (filter_view c.args.asked.condition.now) c.args.asked.keep c.args.asked.empty c.in-Some.space.now
    (record { rules = c.requires.rules; found = sym c.in-Some.ensures }) c.if-asked.false (sym c.has_open.ensures ∙ c.if-not-has_open.true))

pub unwrap-parent-requires : goal.unwrap-parent-requires
unwrap-parent-requires c =
    parent_found c.args.image.now c.args.asked.workspace.now c.in-Some.space.now c.args.session.now c.space.result (record { rules = c.requires.rules; found = sym c.in-Some.ensures }) (sym c.has_open.ensures ∙ c.if-not-has_open.false)
    c.space.ensures

pub decide_on-requires-clause-family : goal.decide_on-requires-clause-family
decide_on-requires-clause-family c =
    let family = family_named c.args.image.now c.args.asked.workspace.now c.in-Some.space.now c.args.session.now c.space.result c.unwrap-parent.result.now (record { rules = c.requires.rules; found = sym c.in-Some.ensures })
    (sym c.has_open.ensures ∙ c.if-not-has_open.false) c.space.ensures (ap option_copied c.unwrap-parent.ensures) in
    record { child = named_numbered c.args.image.now c.args.asked.workspace.now c.in-Some.space.now family.space; parent = family.parent }

pub decide_on-requires-clause-open : goal.decide_on-requires-clause-open
decide_on-requires-clause-open c = sym c.has_open.ensures ∙ c.if-not-has_open.false

pub returns-clause-does : goal.returns-clause-does
returns-clause-does c =
    IfOk-weaker c.decide_on.result _ _
    (λ p does xs m.
    subst (λ e. DoesIt c.args.image.now xs m p (resolve_to c.args.session.now c.args.asked.workspace.now c.args.table.now (filter_view c.args.asked.condition.now) c.args.asked.keep e)) (sym c.if-asked.false)
    (does xs m c.args.asked.workspace.now
    (family_named c.args.image.now c.args.asked.workspace.now c.in-Some.space.now c.args.session.now c.space.result c.unwrap-parent.result.now (record { rules = c.requires.rules; found = sym c.in-Some.ensures })
    (sym c.has_open.ensures ∙ c.if-not-has_open.false) c.space.ensures (ap option_copied c.unwrap-parent.ensures))))
    c.decide_on.ensures.does
