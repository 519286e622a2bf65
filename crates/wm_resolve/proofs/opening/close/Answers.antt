use Rattle.std.proofs.Common.{ℕ, Bool, not, List, [], ◌∷◌, None, refl, sym, ap, ◌∙◌}
use Rattle.wm_ground.proofs.Bridge.{if_ok}
use Rattle.wm_ground.specs.Outcomes.{outcome_view}
use Rattle.wm_model.specs.Seating.{Stay}
use Rattle.wm_model.specs.Step.Sessions as settings
use Rattle.wm_model.specs.Step.{Answer, Outcome, Plan, has_open, no_resolve, refused_if, setting}
use Rattle.wm_outcome.proofs.Told.{told_one}
use Rattle.wm_state.specs.State.{Session}
use Rattle.wm_resolve.proofs.opening.close.Goals as goal

abbrev plan : Session → ℕ → List ℕ → Plan
plan session n name = setting (refused_if (not (has_open n session)) (no_resolve name) ∷ []) session settings.End

pub returns-then-not-has_open : goal.returns-then-not-has_open
returns-then-not-has_open c =
    let x = c.args.space.now in
    told_one (plan c.args.session.now x.number x.name) _ (refused_if (not (has_open x.number c.args.session.now)) (no_resolve x.name)) (outcome_view c.answered.result) refl
    (ap (λ (b : Bool). refused_if (not b) (no_resolve x.name)) (sym c.if-not-has_open.true ∙ c.has_open.ensures))
    (c.answered.ensures ∙ ap (λ (a : Answer). let q : Outcome = record { edits = []; seating = Stay; answer = a } in q) (c.no_resolve.ensures ∙ ap no_resolve c.in_ok-copy.ensures))

pub returns : goal.returns
returns c =
    let x = c.args.space.now in
    if_ok c.setting.result _ _
    (λ p is.
    told_one (plan c.args.session.now x.number x.name) None (refused_if (not (has_open x.number c.args.session.now)) (no_resolve x.name)) (outcome_view p) refl
    (ap (λ (b : Bool). refused_if (not b) (no_resolve x.name)) (sym c.if-not-has_open.false ∙ c.has_open.ensures)) is)
    c.setting.ensures
