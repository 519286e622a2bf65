use Rattle.std.proofs.Common.{ℕ, List, [], ◌∷◌, Some, None, refl, sym, ap, ◌∙◌}
use Rattle.wm_outcome.proofs.Told.{told_one}
use Rattle.wm_freezing.proofs.unfreeze.freed.Goals as goal
use Rattle.wm_freezing.specs.Freeing.{freeing}
use Rattle.wm_ground.proofs.Bridge.{if_ok}
use Rattle.wm_ground.specs.Grounds.{outline_on}
use Rattle.wm_ground.specs.Outcomes.{outcome_view}
use Rattle.wm_model.specs.Seating.{Stay}
use Rattle.wm_model.specs.Step.{Outcome, spent}
use Rattle.wm_print.specs.Texts.{Fine}
use Rattle.wm_spec.specs.declared.record.space.FreezeMode.TheVariants as modes
use Rattle.wm_state.specs.declared.edit.Edit.TheVariants as edits

pub returns-in-Some : goal.returns-in-Some
returns-in-Some c =
    told_one (freeing (outline_on c.args.ground) c.args.space) (Some c.in-Some.refusal) (spent (outline_on c.args.ground)) (outcome_view c.refused.result) refl (sym c.in-Some.is ∙ c.in_ok-refusal.ensures) c.refused.ensures

pub returns-in-None : goal.returns-in-None
returns-in-None c =
    let o = outline_on c.args.ground in
    let n = c.args.space in
    if_ok c.done.result _ _
    (λ p is.
    told_one (freeing o n) None (spent o) (outcome_view p) refl (sym c.in-None.is ∙ c.in_ok-refusal.ensures)
    (is ∙ ap (λ (writer : List ℕ). let q : Outcome = record { edits = edits.Freeze n modes.Free writer ∷ []; seating = Stay; answer = Fine } in q) (c.from_vec.ensures ∙ c.new.ensures.items)))
    c.done.ensures
