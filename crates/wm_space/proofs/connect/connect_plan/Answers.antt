use Rattle.std.proofs.Common.{[], None, Some, sym, ap, ◌∙◌}
use Rattle.wm_ground.specs.Grounds.{outline_on}
use Rattle.wm_ground.specs.Outcomes.{outcome_view}
use Rattle.wm_model.specs.Seating.{Open}
use Rattle.wm_model.specs.Step.{Outcome, connect_plan, session_opened}
use Rattle.wm_outcome.proofs.Connecting.{connect_order}
use Rattle.wm_outcome.proofs.Named.{told_first}
use Rattle.wm_print.specs.Texts.{Fine}
use Rattle.wm_state.specs.State.{Session}
use Rattle.wm_space.proofs.connect.connect_plan.Goals as goal

pub returns-in-Some : goal.returns-in-Some
returns-in-Some c =
    let o = outline_on c.args.ground in
    told_first (connect_plan c.args.name.now c.args.user.now o) (Some c.in-Some.refusal) (outcome_view c.refused.result) (connect_order c.args.name.now c.args.user.now o) (sym c.in-Some.is ∙ c.in_ok-refusal.ensures) c.refused.ensures

pub returns : goal.returns
returns c =
    let o = outline_on c.args.ground in
    told_first (connect_plan c.args.name.now c.args.user.now o) None (outcome_view c.seated.result) (connect_order c.args.name.now c.args.user.now o) (sym c.in_default.is ∙ c.in_ok-refusal.ensures)
    (c.seated.ensures ∙ ap (λ (s : Session). let q : Outcome = record { edits = []; seating = Open s; answer = Fine } in q) (c.new-session.ensures ∙ (λ i. session_opened (c.in_ok-copy.ensures i) (c.in_ok-copy-2.ensures i))))
