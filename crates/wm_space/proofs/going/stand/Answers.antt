use Rattle.std.proofs.Common.{ℕ, [], ap, ◌∙◌}
use Rattle.wm_ground.proofs.Bridge.{if_ok}
use Rattle.wm_ground.specs.Outcomes.{outcome_view}
use Rattle.wm_model.specs.Seating.{Set}
use Rattle.wm_model.specs.Step.Sessions as settings
use Rattle.wm_model.specs.Step.{Outcome}
use Rattle.wm_outcome.proofs.Told.{told_set}
use Rattle.wm_plan.specs.Stands.{stand_view}
use Rattle.wm_print.specs.Texts.{Fine}
use Rattle.wm_space.proofs.going.stand.Goals as goal

pub returns : goal.returns
returns c =
    if_ok c.setting.result _ _
    (λ p is.
    told_set c.args.session.now (settings.Stand c.args.session.now.space (stand_view c.args.stand)) (outcome_view p)
    (is ∙ ap (λ (n : ℕ). let q : Outcome = record { edits = []; seating = Set c.args.session.now.name (settings.Stand n (stand_view c.args.stand)); answer = Fine } in q) c.space-space.ensures))
    c.setting.ensures
