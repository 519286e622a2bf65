use Rattle.std.proofs.Common.{[], map, true, false, sym, ap, ◌∙◌, codes, inl, inr}
use Rattle.std.proofs.lemmas.Result.{IfOk-weaker}
use Rattle.wm_model.specs.Merged.{refresh_edits}
use Rattle.wm_model.specs.Planning.{Stay}
use Rattle.wm_model.specs.Step.{at_its_end, not_built, refresh_workspace}
use Rattle.wm_pending.specs.Owned.{key_pieces}
use Rattle.wm_space.proofs.Ended.{told_ended}
use Rattle.wm_plan.proofs.Planning.{early, told}
use Rattle.wm_plan.specs.Views.{answer_view, seating_view}
use Rattle.wm_print.specs.Texts.{Fine}
use Rattle.wm_state.specs.Editing.{entry_of}
use Rattle.wm_merge.proofs.Answered.{listed_test, log_test, told_nothing}
use Rattle.wm_merge.proofs.Asked.{drafts_refresh}
use Rattle.wm_merge.proofs.RefreshPlans.{lacks_refresh, may_refresh}
use Rattle.wm_model.proofs.RefreshingLine.{does_refresh, refresh_long, refresh_spent, refresh_unready}
use Rattle.wm_merge.proofs.refreshing.refresh_with.Goals as goal

pub returns-then-is_long-clause-does : goal.returns-then-is_long-clause-does
returns-then-is_long-clause-does c =
    told_ended c.ended.result (codes "LOG") _ c.ended.ensures.edits c.ended.ensures.seating c.ended.ensures.answer
    (λ p edits seats says xs session workspace parent refreshes.
    told c.args.image.now xs c.args.moment p [] Stay (at_its_end (codes "LOG")) (refresh_workspace session workspace) edits seats says
    (refresh_long c.args.image.now xs c.args.moment session workspace c.args.space.now parent (map entry_of c.args.entries.items) refreshes
    (listed_test c.args.space.now.log_length c.args.entries.items true (log_test c.args.space.now.log_length c.as_slice.result.now c.args.entries.items true c.as_slice.ensures.value c.if-is_long.ensures))))

pub returns-then-is_spent-clause-does : goal.returns-then-is_spent-clause-does
returns-then-is_spent-clause-does c =
    told_ended c.ended-then-is_spent.result (codes "WORK") _ c.ended-then-is_spent.ensures.edits c.ended-then-is_spent.ensures.seating c.ended-then-is_spent.ensures.answer
    (λ p edits seats says xs session workspace parent refreshes.
    told c.args.image.now xs c.args.moment p [] Stay (at_its_end (codes "WORK")) (refresh_workspace session workspace) edits seats says
    (refresh_spent c.args.image.now xs c.args.moment session workspace c.args.space.now parent (map entry_of c.args.entries.items) c.counters.result refreshes
    (listed_test c.args.space.now.log_length c.args.entries.items false (log_test c.args.space.now.log_length c.as_slice.result.now c.args.entries.items false c.as_slice.ensures.value c.if-is_long.ensures))
    c.counters.ensures (sym c.if-is_spent.ensures)))

pub returns-then-not-can_refresh-clause-does : goal.returns-then-not-can_refresh-clause-does
returns-then-not-can_refresh-clause-does c = λ xs session workspace parent refreshes.
    told_nothing c.args.image.now xs c.args.moment c.answered.result not_built (refresh_workspace session workspace) c.answered.ensures.edits c.answered.ensures.seating
    (ap answer_view c.answered.ensures.answer ∙ c.not_built.ensures)
    (refresh_unready c.args.image.now xs c.args.moment session workspace c.args.space.now parent (map key_pieces c.args.own.now) (map entry_of c.args.entries.items) not_built refreshes c.requires.own
    (lacks_refresh c.args.image.now c.args.space.now (map key_pieces c.args.own.now) c.as_slice-2.result.now c.args.entries.items c.as_slice-2.ensures.value c.if-not-can_refresh.ensures))

pub returns-clause-does : goal.returns-clause-does
returns-clause-does c = λ xs session workspace parent refreshes.
    let short = log_test c.args.space.now.log_length c.as_slice.result.now c.args.entries.items false c.as_slice.ensures.value c.if-is_long.ensures in
    let may = may_refresh c.args.image.now c.args.space.now (map key_pieces c.args.own.now) c.as_slice-2.result.now c.args.entries.items c.as_slice-2.ensures.value c.requires.own c.if-not-can_refresh.ensures in
    told c.args.image.now xs c.args.moment c.done.result (refresh_edits c.args.space.now.number c.args.entries.items) Stay Fine (refresh_workspace session workspace) (c.done.ensures.edits ∙ c.in_ok-refresh_edits.ensures)
    (ap seating_view c.done.ensures.seating) (ap answer_view c.done.ensures.answer)
    (does_refresh c.args.image.now xs c.args.moment session workspace c.args.space.now parent c.counters.result c.args.entries.items refreshes
    (drafts_refresh c.args.image.now c.args.moment xs session workspace c.args.space.now parent (map key_pieces c.args.own.now) c.counters.result c.args.entries.items c.law_of_order.ensures refreshes may short
    c.counters.ensures (sym c.if-is_spent.ensures) (early c.args.moment c.requires.moment))
    short c.counters.ensures (sym c.if-is_spent.ensures))

-- ---- its edits

pub returns-then-is_long-clause-edits : goal.returns-then-is_long-clause-edits
returns-then-is_long-clause-edits c = IfOk-weaker c.ended.result _ _ (λ p none. inl none) c.ended.ensures.edits

pub returns-then-is_spent-clause-edits : goal.returns-then-is_spent-clause-edits
returns-then-is_spent-clause-edits c = IfOk-weaker c.ended-then-is_spent.result _ _ (λ p none. inl none) c.ended-then-is_spent.ensures.edits

pub returns-then-not-can_refresh-clause-edits : goal.returns-then-not-can_refresh-clause-edits
returns-then-not-can_refresh-clause-edits c = inl c.answered.ensures.edits

pub returns-clause-edits : goal.returns-clause-edits
returns-clause-edits c = inr (c.done.ensures.edits ∙ c.in_ok-refresh_edits.ensures)
