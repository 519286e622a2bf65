use Rattle.std.proofs.Common.{[], refl, sym, ap, ◌∙◌}
use Rattle.wm_outcome.proofs.Told.{told_none, told_one}
use Rattle.wm_freezing.proofs.Thawing.{held_so, thawing_by}
use Rattle.wm_freezing.proofs.unfreeze.unfreeze.Goals as goal
use Rattle.wm_graph.specs.Parts.{parts_of}
use Rattle.wm_ground.specs.Grounds.{outline_on}
use Rattle.wm_ground.specs.Outcomes.{outcome_view}
use Rattle.wm_guard.specs.Access.{Free, OneSession}
use Rattle.wm_model.specs.Seating.{Stay}
use Rattle.wm_model.specs.Step.{Answer, Outcome, not_frozen, outcome, refusal_of}
use Rattle.wm_outline.specs.Outline.{outline_by}

pub returns-in_ok-copy-in-Free : goal.returns-in_ok-copy-in-Free
returns-in_ok-copy-in-Free c =
    let o = outline_on c.args.ground in
    let x = outline_by (parts_of c.args.ground.image.now) c.args.space.now in
    told_one (thawing_by Free o x) (refusal_of (not_frozen x.fields.name)) (refusal_of (not_frozen x.fields.name)) (outcome_view c.answered.result) refl refl
    (c.answered.ensures ∙ ap (λ (a : Answer). let q : Outcome = record { edits = []; seating = Stay; answer = a } in q) (c.not_frozen.ensures ∙ ap not_frozen c.in_ok-copy-in-Free.ensures))
    ∙ ap outcome (sym (held_so Free o x (sym c.in-Free.ensures)))

pub returns-in-OneSession : goal.returns-in-OneSession
returns-in-OneSession c =
    let o = outline_on c.args.ground in
    let x = outline_by (parts_of c.args.ground.image.now) c.args.space.now in
    told_none (thawing_by (OneSession c.in-OneSession.field-0.now) o x) (outcome_view c.seated.result) refl c.seated.ensures
    ∙ ap outcome (sym (held_so (OneSession c.in-OneSession.field-0.now) o x (sym c.in-OneSession.ensures)))
