use Rattle.std.proofs.Common.{ℕ, Bool, not, List, [], None, is_some, refl, ap, ◌∙◌}
use Rattle.wm_ground.specs.Grounds.{outline_on}
use Rattle.wm_ground.specs.Outcomes.{outcome_view}
use Rattle.wm_model.specs.Seating.{Close, Stay}
use Rattle.wm_model.specs.Step.{Answer, Outcome, disconnect_plan, no_session, refused_if, session_of}
use Rattle.wm_outcome.proofs.Told.{told_one}
use Rattle.wm_print.specs.Texts.{Fine}
use Rattle.wm_space.proofs.connect.disconnect_plan.Goals as goal

pub returns-then-not-is_open : goal.returns-then-not-is_open
returns-then-not-is_open c =
    let name = c.args.name.now in
    let o = outline_on c.args.ground in
    told_one (disconnect_plan name o) _ (refused_if (not (is_some (session_of name o.sessions))) (no_session name)) (outcome_view c.answered.result) refl (ap (λ (b : Bool). refused_if (not b) (no_session name)) c.if-not-is_open.ensures)
    (c.answered.ensures ∙ ap (λ (a : Answer). let q : Outcome = record { edits = []; seating = Stay; answer = a } in q) (c.no_session.ensures ∙ ap no_session c.in_ok-copy.ensures))

pub returns : goal.returns
returns c =
    let name = c.args.name.now in
    let o = outline_on c.args.ground in
    told_one (disconnect_plan name o) None (refused_if (not (is_some (session_of name o.sessions))) (no_session name)) (outcome_view c.seated.result) refl (ap (λ (b : Bool). refused_if (not b) (no_session name)) c.if-not-is_open.ensures)
    (c.seated.ensures ∙ ap (λ (n : List ℕ). let q : Outcome = record { edits = []; seating = Close n; answer = Fine } in q) c.in_ok-copy-2.ensures)
