use Rattle.std.proofs.Common.{[], ℕ, List, Bool, map, sym, ap, ◌∙◌, codes, inl, inr}
use Rattle.std.proofs.lemmas.Result.{IfOk-weaker}
use Rattle.wm_graph.specs.Parts.{parts_of}
use Rattle.wm_model.proofs.MergingLine.{does_merge, merge_idle, merge_long, merge_spent, merge_unready}
use Rattle.wm_model.specs.Merged.{freeing, is_even_at, makings_of, merge_edits}
use Rattle.wm_model.specs.Planning.{Stay}
use Rattle.wm_model.specs.Step.{at_its_end, counter_limit, merge_workspace, not_built}
use Rattle.wm_space.proofs.Ended.{told_ended}
use Rattle.wm_plan.proofs.Planning.{early, told}
use Rattle.wm_plan.specs.Views.{answer_view, seating_view}
use Rattle.wm_print.specs.Texts.{Fine}
use Rattle.wm_state.specs.Editing.{entry_of}
use Rattle.wm_merge.specs.Views.{asked_view}
use Rattle.wm_merge.proofs.Answered.{told_nothing}
use Rattle.wm_merge.proofs.AskedMerge.{drafts_merge}
use Rattle.wm_merge.proofs.MergePlans.{even_told, idle_told, lacks_merge, may_merge, room_of}
use Rattle.wm_merge.proofs.merging.merge_with.Goals as goal

pub returns-then-is_idle-clause-does : goal.returns-then-is_idle-clause-does
returns-then-is_idle-clause-does c = λ xs session workspace merges.
    told_nothing c.args.image.now xs c.args.moment c.answered.result Fine (merge_workspace session (asked_view c.args.asked) workspace) c.answered.ensures.edits c.answered.ensures.seating (ap answer_view c.answered.ensures.answer)
    (merge_idle c.args.image.now xs c.args.moment session workspace (asked_view c.args.asked) c.args.family.space.now c.args.family.parent.now (map entry_of c.args.brought.own.items) (map entry_of c.args.brought.gained.items) merges
    (idle_told (asked_view c.args.asked) c.args.family.space.now c.args.family.parent.now c.args.brought.own.items c.is_even-even.result c.as_slice-2.result.now c.in_ok-makings.makings.items _ _ (even_told c.args.family.space.now c.args.family.parent.now c.as_slice.result.now c.args.brought.own.items c.is_even-even.result c.as_slice.ensures.value c.is_even-even.ensures) c.as_slice-2.ensures.value c.in_ok-makings.ensures c.if-is_idle.ensures))

pub returns-then-are_long-clause-does : goal.returns-then-are_long-clause-does
returns-then-are_long-clause-does c =
    told_ended c.ended.result (codes "LOG") _ c.ended.ensures.edits c.ended.ensures.seating c.ended.ensures.answer
    (λ p edits seats says xs session workspace merges.
    told c.args.image.now xs c.args.moment p [] Stay (at_its_end (codes "LOG")) (merge_workspace session (asked_view c.args.asked) workspace) edits seats says
    (merge_long c.args.image.now xs c.args.moment session workspace (asked_view c.args.asked) c.args.family.space.now c.args.family.parent.now (map entry_of c.args.brought.own.items) (map entry_of c.args.brought.gained.items) merges
    (idle_told (asked_view c.args.asked) c.args.family.space.now c.args.family.parent.now c.args.brought.own.items c.is_even-even.result c.as_slice-2.result.now c.in_ok-makings.makings.items _ _ (even_told c.args.family.space.now c.args.family.parent.now c.as_slice.result.now c.args.brought.own.items c.is_even-even.result c.as_slice.ensures.value c.is_even-even.ensures) c.as_slice-2.ensures.value c.in_ok-makings.ensures c.if-is_idle.ensures)
    (sym c.if-are_long.ensures)))

pub returns-then-is_spent-clause-does : goal.returns-then-is_spent-clause-does
returns-then-is_spent-clause-does c =
    told_ended c.ended-then-is_spent.result (codes "WORK") _ c.ended-then-is_spent.ensures.edits c.ended-then-is_spent.ensures.seating c.ended-then-is_spent.ensures.answer
    (λ p edits seats says xs session workspace merges.
    told c.args.image.now xs c.args.moment p [] Stay (at_its_end (codes "WORK")) (merge_workspace session (asked_view c.args.asked) workspace) edits seats says
    (merge_spent c.args.image.now xs c.args.moment session workspace (asked_view c.args.asked) c.args.family.space.now c.args.family.parent.now (map entry_of c.args.brought.own.items) (map entry_of c.args.brought.gained.items)
    c.counters.result merges
    (idle_told (asked_view c.args.asked) c.args.family.space.now c.args.family.parent.now c.args.brought.own.items c.is_even-even.result c.as_slice-2.result.now c.in_ok-makings.makings.items _ _ (even_told c.args.family.space.now c.args.family.parent.now c.as_slice.result.now c.args.brought.own.items c.is_even-even.result c.as_slice.ensures.value c.is_even-even.ensures) c.as_slice-2.ensures.value c.in_ok-makings.ensures c.if-is_idle.ensures)
    (sym c.if-are_long.ensures) c.counters.ensures (sym c.if-is_spent.ensures)))

pub returns-then-not-can_merge-clause-does : goal.returns-then-not-can_merge-clause-does
returns-then-not-can_merge-clause-does c = λ xs session workspace merges.
    told_nothing c.args.image.now xs c.args.moment c.answered-then-not-can_merge.result not_built (merge_workspace session (asked_view c.args.asked) workspace) c.answered-then-not-can_merge.ensures.edits
    c.answered-then-not-can_merge.ensures.seating (ap answer_view c.answered-then-not-can_merge.ensures.answer ∙ c.not_built.ensures)
    (merge_unready c.args.image.now xs c.args.moment session workspace (asked_view c.args.asked) c.args.family.space.now c.args.family.parent.now (map entry_of c.args.brought.own.items) (map entry_of c.args.brought.gained.items)
    not_built merges
    (lacks_merge c.args.image.now c.args.family.space.now c.as_slice-own.result.now c.args.brought.own.items c.as_slice-gained.result.now c.args.brought.gained.items c.as_slice-own.ensures.value c.as_slice-gained.ensures.value c.if-not-can_merge.ensures))

pub returns-clause-does : goal.returns-clause-does
returns-clause-does c = λ xs session workspace merges.
    let even = even_told c.args.family.space.now c.args.family.parent.now c.as_slice.result.now c.args.brought.own.items c.is_even-even.result c.as_slice.ensures.value c.is_even-even.ensures in
    let may = may_merge c.args.image.now c.args.family.space.now c.as_slice-own.result.now c.args.brought.own.items c.as_slice-gained.result.now c.args.brought.gained.items c.as_slice-own.ensures.value c.as_slice-gained.ensures.value c.if-not-can_merge.ensures in
    let room = room_of counter_limit _ _ (sym c.if-are_long.ensures) in
    told c.args.image.now xs c.args.moment c.done.result
    (merge_edits (asked_view c.args.asked) (is_even_at c.args.family.space.now c.args.family.parent.now (map entry_of c.args.brought.own.items)) c.args.family.space.now.number c.args.family.parent.now.number c.args.brought.own.items
    c.args.brought.gained.items (makings_of c.args.family.space.now.number (parts_of c.args.image.now).locks))
    (freeing (asked_view c.args.asked) c.args.family.space.now.number) Fine (merge_workspace session (asked_view c.args.asked) workspace)
    (c.done.ensures.edits ∙ c.in_ok-edits.ensures
    ∙ ap (λ (e : Bool). merge_edits (asked_view c.args.asked) e c.args.family.space.now.number c.args.family.parent.now.number c.args.brought.own.items c.args.brought.gained.items c.in_ok-makings.makings.items) even
    ∙ ap (λ (xs : List ℕ). merge_edits (asked_view c.args.asked) (is_even_at c.args.family.space.now c.args.family.parent.now (map entry_of c.args.brought.own.items)) c.args.family.space.now.number c.args.family.parent.now.number c.args.brought.own.items c.args.brought.gained.items xs) c.in_ok-makings.ensures)
    (ap seating_view c.done.ensures.seating ∙ c.freeing.ensures) (ap answer_view c.done.ensures.answer)
    (does_merge c.args.image.now xs c.args.moment session workspace (asked_view c.args.asked) c.args.family.space.now c.args.family.parent.now c.counters.result c.args.brought.own.items c.args.brought.gained.items merges
    (idle_told (asked_view c.args.asked) c.args.family.space.now c.args.family.parent.now c.args.brought.own.items c.is_even-even.result c.as_slice-2.result.now c.in_ok-makings.makings.items _ _ even c.as_slice-2.ensures.value c.in_ok-makings.ensures c.if-is_idle.ensures)
    (drafts_merge c.args.image.now c.args.moment xs session (asked_view c.args.asked) workspace c.args.family.space.now c.args.family.parent.now c.counters.result c.args.brought.own.items c.args.brought.gained.items merges may
    c.counters.ensures room.0 room.1 (makings_of c.args.family.space.now.number (parts_of c.args.image.now).locks) c.law_of_order.ensures (sym c.if-is_spent.ensures) (early c.args.moment c.requires.moment))
    (sym c.if-are_long.ensures) c.counters.ensures (sym c.if-is_spent.ensures))

-- ---- its edits

pub returns-then-is_idle-clause-edits : goal.returns-then-is_idle-clause-edits
returns-then-is_idle-clause-edits c = inl c.answered.ensures.edits

pub returns-then-are_long-clause-edits : goal.returns-then-are_long-clause-edits
returns-then-are_long-clause-edits c = IfOk-weaker c.ended.result _ _ (λ p none. inl none) c.ended.ensures.edits

pub returns-then-is_spent-clause-edits : goal.returns-then-is_spent-clause-edits
returns-then-is_spent-clause-edits c = IfOk-weaker c.ended-then-is_spent.result _ _ (λ p none. inl none) c.ended-then-is_spent.ensures.edits

pub returns-then-not-can_merge-clause-edits : goal.returns-then-not-can_merge-clause-edits
returns-then-not-can_merge-clause-edits c = inl c.answered-then-not-can_merge.ensures.edits

pub returns-clause-edits : goal.returns-clause-edits
returns-clause-edits c =
    let even = even_told c.args.family.space.now c.args.family.parent.now c.as_slice.result.now c.args.brought.own.items c.is_even-even.result c.as_slice.ensures.value c.is_even-even.ensures in
    inr
    (c.done.ensures.edits ∙ c.in_ok-edits.ensures
    ∙ ap (λ (e : Bool). merge_edits (asked_view c.args.asked) e c.args.family.space.now.number c.args.family.parent.now.number c.args.brought.own.items c.args.brought.gained.items c.in_ok-makings.makings.items) even
    ∙ ap (λ (xs : List ℕ). merge_edits (asked_view c.args.asked) (is_even_at c.args.family.space.now c.args.family.parent.now (map entry_of c.args.brought.own.items)) c.args.family.space.now.number c.args.family.parent.now.number c.args.brought.own.items c.args.brought.gained.items xs) c.in_ok-makings.ensures)
