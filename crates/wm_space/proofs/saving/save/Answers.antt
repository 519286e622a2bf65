use Rattle.std.proofs.Common.{[], ◌∷◌, None, Some, sym, ◌∙◌}
use Rattle.wm_graph.specs.Parts.{parts_of}
use Rattle.wm_ground.proofs.Bridge.{if_ok}
use Rattle.wm_ground.specs.Grounds.{outline_on}
use Rattle.wm_ground.specs.Outcomes.{outcome_view}
use Rattle.wm_model.specs.Seating.{Stay}
use Rattle.wm_model.specs.Step.{Outcome, saving}
use Rattle.wm_outcome.proofs.Named.{told_first}
use Rattle.wm_outcome.proofs.Saving.{saving_order}
use Rattle.wm_outline.specs.Outline.{outline_by}
use Rattle.wm_print.specs.Texts.{Fine}
use Rattle.wm_state.specs.declared.edit.Edit.TheVariants as edits
use Rattle.wm_space.proofs.saving.save.Goals as goal

pub returns-in-Some : goal.returns-in-Some
returns-in-Some c =
    let o = outline_on c.args.ground in
    let x = outline_by (parts_of c.args.ground.image.now) c.args.space.now in
    told_first (saving c.args.name.now o x) (Some c.in-Some.refusal) (outcome_view c.refused.result) (saving_order c.args.name.now o x) (sym c.in-Some.is ∙ c.in_ok-refusal.ensures) c.refused.ensures

pub returns-in_ok-name-in-None : goal.returns-in_ok-name-in-None
returns-in_ok-name-in-None c =
    let o = outline_on c.args.ground in
    let x = outline_by (parts_of c.args.ground.image.now) c.args.space.now in
    if_ok c.done.result _ _
    (λ p is. told_first (saving c.args.name.now o x) None (outcome_view p) (saving_order c.args.name.now o x) (sym c.in-None.is ∙ c.in_ok-refusal.ensures)
    (is ∙ (λ i. let q : Outcome = record { edits = edits.Save c.args.space.now.number (c.in_ok-name-in-None.ensures i) ∷ []; seating = Stay; answer = Fine } in q)))
    c.done.ensures
