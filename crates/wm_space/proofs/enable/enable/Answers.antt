use Rattle.std.proofs.Common.{[], ◌∷◌, None, Some, sym, ap, ◌∙◌}
use Rattle.wm_ground.proofs.Bridge.{if_ok}
use Rattle.wm_ground.specs.Grounds.{outline_on}
use Rattle.wm_ground.specs.Outcomes.{outcome_view}
use Rattle.wm_model.specs.Seating.{Stay}
use Rattle.wm_model.specs.Step.{Outcome, enabling}
use Rattle.wm_outcome.proofs.Named.{told_first}
use Rattle.wm_outcome.proofs.Tables.{enable_order}
use Rattle.wm_print.specs.Texts.{Fine}
use Rattle.wm_state.specs.State.{Readiness}
use Rattle.wm_state.specs.declared.edit.Edit.TheVariants as edits
use Rattle.wm_space.proofs.enable.enable.Goals as goal

pub returns-in-Some : goal.returns-in-Some
returns-in-Some c =
    let o = outline_on c.args.ground in
    told_first (enabling c.args.name c.args.args.now o c.args.table.now) (Some c.in-Some.refusal) (outcome_view c.refused.result) (enable_order c.args.name c.args.args.now o c.args.table.now) (sym c.in-Some.is ∙ c.in_ok-refusal.ensures)
    c.refused.ensures

pub returns : goal.returns
returns c =
    let o = outline_on c.args.ground in
    if_ok c.done.result _ _
    (λ p is.
    told_first (enabling c.args.name c.args.args.now o c.args.table.now) None (outcome_view p) (enable_order c.args.name c.args.args.now o c.args.table.now) (sym c.in_default.is ∙ c.in_ok-refusal.ensures)
    (is ∙ ap (λ (how : Readiness). let q : Outcome = record { edits = edits.Enable c.args.name how.valid how.history ∷ []; seating = Stay; answer = Fine } in q) c.in_ok-how.ensures))
    c.done.ensures
