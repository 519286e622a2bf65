use Rattle.std.proofs.Common.{arith, sym, ap, ◌∙◌}
use Rattle.std.specs.Option.{option_copied}
use Rattle.wm_model.proofs.MergingLine.{merge_homeless, merge_liveless}
use Rattle.wm_model.specs.Step.{merge_workspace, no_parent, no_workspace}
use Rattle.wm_plan.specs.Views.{answer_view}
use Rattle.wm_merge.specs.Views.{asked_view}
use Rattle.wm_merge.proofs.Answered.{told_nothing}
use Rattle.wm_merge.proofs.Asked.{family_of}
use Rattle.wm_merge.proofs.MergePlans.{merges_named}
use Rattle.wm_merge.proofs.Parents.{family_named, parent_found}
use Rattle.wm_merge.proofs.NetPlans.{nets_named}
use Rattle.wm_spending.specs.Nets.{Nothing, merge_of}
use Rattle.wm_merge.proofs.merging.merge_workspace.Goals as goal

pub returns-in_default-clause-does : goal.returns-in_default-clause-does
returns-in_default-clause-does c =
    told_nothing c.args.image.now c.args.sessions.now c.args.moment c.answered.result (no_workspace c.args.name.now) (merge_workspace c.args.session.now (asked_view c.args.asked) c.args.name.now) c.answered.ensures.edits
    c.answered.ensures.seating (ap answer_view c.answered.ensures.answer ∙ c.no_workspace.ensures ∙ ap no_workspace c.in_ok-copy_of.ensures)
    (merge_homeless c.args.image.now c.args.sessions.now c.args.moment c.args.session.now c.args.name.now (asked_view c.args.asked) c.requires.rules (sym c.in_default.ensures))

pub returns-then-space-eq0-clause-does : goal.returns-then-space-eq0-clause-does
returns-then-space-eq0-clause-does c =
    told_nothing c.args.image.now c.args.sessions.now c.args.moment c.answered-then-space-eq0.result (no_parent c.args.name.now) (merge_workspace c.args.session.now (asked_view c.args.asked) c.args.name.now)
    c.answered-then-space-eq0.ensures.edits c.answered-then-space-eq0.ensures.seating (ap answer_view c.answered-then-space-eq0.ensures.answer ∙ c.no_parent.ensures ∙ ap no_parent c.in_ok-copy_of-2.ensures)
    (merge_liveless c.args.image.now c.args.sessions.now c.args.moment c.args.session.now c.args.name.now (asked_view c.args.asked) c.in-Some.space.now (record { rules = c.requires.rules; found = sym c.in-Some.ensures })
    c.if-space-eq0.true)

pub unwrap-parent-requires : goal.unwrap-parent-requires
unwrap-parent-requires c =
    parent_found c.args.image.now c.args.name.now c.in-Some.space.now c.space.result (record { rules = c.requires.rules; found = sym c.in-Some.ensures }) (omega (arith, c.if-space-eq0.false)) c.space.ensures

pub merge_into-requires-clause-family : goal.merge_into-requires-clause-family
merge_into-requires-clause-family c =
    family_of c.args.image.now c.args.name.now c.in-Some.space.now c.unwrap-parent.result.now
    (family_named c.args.image.now c.args.name.now c.in-Some.space.now c.space.result c.unwrap-parent.result.now (record { rules = c.requires.rules; found = sym c.in-Some.ensures }) (omega (arith, c.if-space-eq0.false))
    c.space.ensures (ap option_copied c.unwrap-parent.ensures))

pub returns-clause-does : goal.returns-clause-does
returns-clause-does c =
    merges_named c.args.image.now c.args.sessions.now c.args.moment c.merge_into.result c.args.session.now (asked_view c.args.asked) c.args.name.now c.in-Some.space.now c.unwrap-parent.result.now
    (family_named c.args.image.now c.args.name.now c.in-Some.space.now c.space.result c.unwrap-parent.result.now (record { rules = c.requires.rules; found = sym c.in-Some.ensures }) (omega (arith, c.if-space-eq0.false))
    c.space.ensures (ap option_copied c.unwrap-parent.ensures))
    c.merge_into.ensures.does

-- ---- its edits

pub returns-in_default-clause-nets : goal.returns-in_default-clause-nets
returns-in_default-clause-nets c = λ stays. Nothing c.answered.ensures.edits

pub returns-then-space-eq0-clause-nets : goal.returns-then-space-eq0-clause-nets
returns-then-space-eq0-clause-nets c = λ stays. Nothing c.answered-then-space-eq0.ensures.edits

pub returns-clause-nets : goal.returns-clause-nets
returns-clause-nets c = λ stays.
    nets_named merge_of c.args.image.now c.merge_into.result c.args.name.now c.in-Some.space.now c.unwrap-parent.result.now
    (family_named c.args.image.now c.args.name.now c.in-Some.space.now c.space.result c.unwrap-parent.result.now (record { rules = c.requires.rules; found = sym c.in-Some.ensures }) (omega (arith, c.if-space-eq0.false))
    c.space.ensures (ap option_copied c.unwrap-parent.ensures))
    (c.merge_into.ensures.nets stays)
