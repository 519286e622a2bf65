use Rattle.std.proofs.Common.{ℕ, ◌==◌, List, Some, length, eqb-true, sym, ap, ◌∙◌}
use Rattle.std.proofs.lemmas.Bool.{false≢true}
use Rattle.wm_ground.proofs.Bridge.{if_ok}
use Rattle.wm_ground.specs.Grounds.{outline_on}
use Rattle.wm_ground.specs.Outcomes.{outcome_view}
use Rattle.wm_locking.proofs.LockingRows.{none_there}
use Rattle.wm_locking.proofs.Sites.{editing_is}
use Rattle.wm_locking.proofs.Unlocking.{freed_done, none_freed, some_freed}
use Rattle.wm_locking.proofs.unlock_rows.unlock.Goals as goal

pub returns-then-is_empty : goal.returns-then-is_empty
returns-then-is_empty c =
    none_freed c.args.makings.items (outline_on c.args.ground) (outcome_view c.answered.result) (sym c.as_slice-list.ensures.value ∙ none_there c.as_slice-list.result.now (eqb-true (length c.as_slice-list.result.now) 0 (sym c.if-is_empty.ensures))) c.answered.ensures

pub returns-in-Some : goal.returns-in-Some
returns-in-Some c =
    some_freed c.args.makings.items (outline_on c.args.ground) (Some c.in-Some.refusal) (outcome_view c.refused.result) (λ none. false≢true (c.if-is_empty.ensures ∙ ap (λ (xs : List ℕ). length xs == 0) (c.as_slice-list.ensures.value ∙ none)))
    (sym c.in-Some.is ∙ c.in_ok-refusal.ensures) c.refused.ensures

pub returns : goal.returns
returns c =
    if_ok c.editing.result _ _
    (λ p is.
    freed_done c.args.makings.items c.from_vec.result (length c.as_slice-list.result.now) (outline_on c.args.ground) (outcome_view p) (λ none. false≢true (c.if-is_empty.ensures ∙ ap (λ (xs : List ℕ). length xs == 0) (c.as_slice-list.ensures.value ∙ none))) (sym c.in_default.is ∙ c.in_ok-refusal.ensures)
    c.from_vec.ensures (ap (λ (xs : List ℕ). length xs) c.as_slice-list.ensures.value) is)
    (editing_is c.editing.result _ _ c.editing.ensures.edits c.editing.ensures.seating c.editing.ensures.answer)
