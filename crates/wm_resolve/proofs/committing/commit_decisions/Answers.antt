use Rattle.std.proofs.Common.{[], map, Some, None, true, false, refl, sym, ap, ◌∙◌, codes}
use Rattle.wm_graph.specs.Rules.{is_short}
use Rattle.wm_model.specs.Planning.{Set, Stay}
use Rattle.wm_model.specs.Step.{at_its_end, commit_resolve, not_built}
use Rattle.wm_model.specs.Step.Sessions as settings
use Rattle.wm_plan.proofs.Planning.{early, told}
use Rattle.wm_plan.specs.declared.answer.Answer.TheVariants as plan_answers
use Rattle.wm_plan.specs.declared.seating.Seating.TheVariants as plan_seatings
use Rattle.wm_plan.specs.declared.session.Setting.TheVariants as plan_settings
use Rattle.wm_plan.specs.Views.{answer_view, seating_view}
use Rattle.wm_print.specs.Texts.{Fine, Refused}
use Rattle.wm_state.specs.Editing.{entry_of}
use Rattle.wm_model.proofs.Recorded.{named_numbered}
use Rattle.wm_resolve.proofs.Committed.{barred_told, commits_of, long_test, some_decisions}
use Rattle.wm_resolve.proofs.CommittingLine.{commit_locked, commit_long, commit_spent, commit_unstaged, does_commit}
use Rattle.wm_resolve.proofs.Settling.{drafts_commit}
use Rattle.wm_resolve.specs.Committed.{commit_edits}
use Rattle.wm_resolve.proofs.committing.commit_decisions.Goals as goal

pub returns-in-Some-clause-does : goal.returns-in-Some-clause-does
returns-in-Some-clause-does c = λ xs workspace names among.
    told c.args.image.now xs c.args.moment c.answered.result [] Stay (Refused c.in-Some.refusal) (commit_resolve c.args.session.now workspace) c.answered.ensures.edits (ap seating_view c.answered.ensures.seating)
    (ap answer_view c.answered.ensures.answer)
    (commit_locked c.args.image.now xs c.args.moment c.args.session.now workspace c.args.space.now c.args.decisions.now (map entry_of c.in_ok-netted.netted.entries.items)
    (commits_of c.args.image.now c.args.moment c.args.session.now workspace c.args.space.now c.args.decisions.now c.in_ok-netted.netted.entries.items c.user-user.result.now names c.requires.open c.requires.decisions c.requires.some
    c.user-user.ensures.user c.in_ok-netted.ensures.entries)
    c.in-Some.refusal (barred_told c.args.image.now xs c.args.moment c.args.space.now.number c.args.session.now c.user-user.result.now c.as_slice-entries.result.now c.in_ok-netted.netted.entries.items (Some c.in-Some.refusal) _ c.user-user.ensures.user c.as_slice-entries.ensures.value (c.in_ok-refusal.ensures xs c.args.moment) c.in-Some.is))

pub returns-then-is_long-clause-does : goal.returns-then-is_long-clause-does
returns-then-is_long-clause-does c = λ xs workspace names among.
    told c.args.image.now xs c.args.moment c.answered-then-is_long.result [] Stay (at_its_end (codes "LOG")) (commit_resolve c.args.session.now workspace) c.answered-then-is_long.ensures.edits (ap seating_view c.answered-then-is_long.ensures.seating)
    (ap answer_view c.answered-then-is_long.ensures.answer ∙ c.in_ok-at_its_end.ensures)
    (commit_long c.args.image.now xs c.args.moment c.args.session.now workspace c.args.space.now c.args.decisions.now (map entry_of c.in_ok-netted.netted.entries.items)
    (commits_of c.args.image.now c.args.moment c.args.session.now workspace c.args.space.now c.args.decisions.now c.in_ok-netted.netted.entries.items c.user-user.result.now names c.requires.open c.requires.decisions c.requires.some
    c.user-user.ensures.user c.in_ok-netted.ensures.entries)
    (barred_told c.args.image.now xs c.args.moment c.args.space.now.number c.args.session.now c.user-user.result.now c.as_slice-entries.result.now c.in_ok-netted.netted.entries.items None _ c.user-user.ensures.user c.as_slice-entries.ensures.value (c.in_ok-refusal.ensures xs c.args.moment) c.in_default.is)
    (long_test c.args.space.now.log_length c.as_slice-entries.result.now c.in_ok-netted.netted.entries.items true c.as_slice-entries.ensures.value c.if-is_long.ensures))

pub returns-then-is_spent-clause-does : goal.returns-then-is_spent-clause-does
returns-then-is_spent-clause-does c = λ xs workspace names among.
    told c.args.image.now xs c.args.moment c.answered-then-is_spent.result [] Stay (at_its_end (codes "WORK")) (commit_resolve c.args.session.now workspace) c.answered-then-is_spent.ensures.edits
    (ap seating_view c.answered-then-is_spent.ensures.seating) (ap answer_view c.answered-then-is_spent.ensures.answer ∙ c.in_ok-at_its_end-2.ensures)
    (commit_spent c.args.image.now xs c.args.moment c.args.session.now workspace c.args.space.now c.args.decisions.now (map entry_of c.in_ok-netted.netted.entries.items)
    (commits_of c.args.image.now c.args.moment c.args.session.now workspace c.args.space.now c.args.decisions.now c.in_ok-netted.netted.entries.items c.user-user.result.now names c.requires.open c.requires.decisions c.requires.some
    c.user-user.ensures.user c.in_ok-netted.ensures.entries)
    c.counters.result (barred_told c.args.image.now xs c.args.moment c.args.space.now.number c.args.session.now c.user-user.result.now c.as_slice-entries.result.now c.in_ok-netted.netted.entries.items None _ c.user-user.ensures.user c.as_slice-entries.ensures.value (c.in_ok-refusal.ensures xs c.args.moment) c.in_default.is)
    (long_test c.args.space.now.log_length c.as_slice-entries.result.now c.in_ok-netted.netted.entries.items false c.as_slice-entries.ensures.value c.if-is_long.ensures) c.counters.ensures (sym c.if-is_spent.ensures))

pub returns-then-not-are_staged-clause-does : goal.returns-then-not-are_staged-clause-does
returns-then-not-are_staged-clause-does c = λ xs workspace names among.
    told c.args.image.now xs c.args.moment c.answered-then-not-are_staged.result [] Stay not_built (commit_resolve c.args.session.now workspace) c.answered-then-not-are_staged.ensures.edits
    (ap seating_view c.answered-then-not-are_staged.ensures.seating) (ap answer_view c.answered-then-not-are_staged.ensures.answer ∙ c.not_built.ensures)
    (commit_unstaged c.args.image.now xs c.args.moment c.args.session.now workspace c.args.space.now c.args.decisions.now (map entry_of c.in_ok-netted.netted.entries.items)
    (commits_of c.args.image.now c.args.moment c.args.session.now workspace c.args.space.now c.args.decisions.now c.in_ok-netted.netted.entries.items c.user-user.result.now names c.requires.open c.requires.decisions c.requires.some
    c.user-user.ensures.user c.in_ok-netted.ensures.entries)
    not_built among (λ staged. absurd (let it = sym (c.are_staged.ensures.1 staged) ∙ c.if-not-are_staged.true in cc)))

pub returns-clause-does : goal.returns-clause-does
returns-clause-does c = λ xs workspace names among.
    let short = long_test c.args.space.now.log_length c.as_slice-entries.result.now c.in_ok-netted.netted.entries.items false c.as_slice-entries.ensures.value c.if-is_long.ensures in
    told c.args.image.now xs c.args.moment (record { edits = c.in_ok-commit_edits.field-0; seating = plan_seatings.Set c.in_ok-name.name plan_settings.End; answer = plan_answers.Fine }) (commit_edits c.args.space.now.number c.in_ok-netted.netted.entries.items c.in_ok-netted.netted.marks.items) (Set c.args.session.now.name settings.End) Fine (commit_resolve c.args.session.now workspace)
    c.in_ok-commit_edits.ensures (ap (λ n. Set n settings.End) (c.in_ok-name.ensures ∙ c.name.ensures)) refl
    (does_commit c.args.image.now xs c.args.moment c.args.session.now workspace c.args.space.now c.args.decisions.now (map entry_of c.in_ok-netted.netted.entries.items)
    (commits_of c.args.image.now c.args.moment c.args.session.now workspace c.args.space.now c.args.decisions.now c.in_ok-netted.netted.entries.items c.user-user.result.now names c.requires.open c.requires.decisions c.requires.some
    c.user-user.ensures.user c.in_ok-netted.ensures.entries)
    c.counters.result c.in_ok-netted.netted.entries.items c.in_ok-netted.netted.marks.items
    (barred_told c.args.image.now xs c.args.moment c.args.space.now.number c.args.session.now c.user-user.result.now c.as_slice-entries.result.now c.in_ok-netted.netted.entries.items None _ c.user-user.ensures.user c.as_slice-entries.ensures.value (c.in_ok-refusal.ensures xs c.args.moment) c.in_default.is) refl c.in_ok-netted.ensures.marks
    (drafts_commit c.args.image.now c.args.moment c.user-user.result.now c.args.space.now.number c.args.space.now c.counters.result c.args.decisions.now c.in_ok-netted.netted.entries.items c.in_ok-netted.netted.marks.items c.law_of_order.ensures c.requires.rules
    (c.are_staged.ensures.0 c.if-not-are_staged.false) (some_decisions c.args.decisions.now c.requires.some) c.in_ok-netted.ensures.entries c.in_ok-netted.ensures.marks (ap is_short c.user-user.ensures.user ∙ c.user-user.ensures.short)
    (named_numbered c.args.image.now workspace c.args.space.now names) short c.counters.ensures (sym c.if-is_spent.ensures) (early c.args.moment c.requires.moment))
    short c.counters.ensures (sym c.if-is_spent.ensures))
