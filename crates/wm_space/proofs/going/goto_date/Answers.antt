use Rattle.std.proofs.Common.{[], None, Some, unwrap_or, refl, sym, ap, ◌∙◌}
use Rattle.std.specs.Option.{option_and_then}
use Rattle.wm_base.specs.declared.refusal.FormRefusal.TheVariants.{Wm013}
use Rattle.wm_base.specs.declared.refusal.Refusal.TheVariants as refusals
use Rattle.wm_ground.specs.Grounds.{outline_on}
use Rattle.wm_ground.specs.Outcomes.{outcome_view}
use Rattle.wm_model.specs.Planning.{Set, Stay}
use Rattle.wm_model.specs.Step.Sessions as settings
use Rattle.wm_model.specs.Step.{Answer, Outcome, early_fault, space_numbered}
use Rattle.wm_print.specs.Texts.{Fine}
use Rattle.wm_state.specs.State.{Dated}
use Rattle.wm_space.proofs.Dating.{date_in, goes_dated}
use Rattle.wm_space.proofs.going.goto_date.Goals as goal

pub returns-in-Some : goal.returns-in-Some
returns-in-Some c =
    let o = outline_on c.args.ground in
    goes_dated c.args.session.now c.args.args.now o (outcome_view c.answered.result) (Some c.in-Some.parameter) (option_and_then (early_fault (date_in c.args.args.now)) (space_numbered c.args.session.now.space o))
    (Some (refusals.Form (Wm013 c.in-Some.parameter))) (sym c.in-Some.is ∙ c.in_ok-parameter.ensures) refl refl
    (c.answered.ensures ∙ ap (λ (a : Answer). let q : Outcome = record { edits = []; seating = Stay; answer = a } in q) c.mistyped.ensures)

pub returns-in-Some-2 : goal.returns-in-Some-2
returns-in-Some-2 c =
    let o = outline_on c.args.ground in
    let date = c.seconds-date.ensures.value ∙ c.unwrap_or.ensures ∙ (λ i. unwrap_or (c.moment_given-given.ensures i) (c.beginning.ensures i)) in
    goes_dated c.args.session.now c.args.args.now o (outcome_view c.refused.result) None (Some c.in-Some-2.refusal) (Some c.in-Some-2.refusal) (sym c.in_default.is ∙ c.in_ok-parameter.ensures)
    (sym c.in-Some-2.is ∙ c.in_ok-refusal.ensures ∙ (λ i. option_and_then (early_fault (date i)) (space_numbered (c.space-space.ensures i) o))) refl c.refused.ensures

pub returns : goal.returns
returns c =
    let o = outline_on c.args.ground in
    let date = c.seconds-date.ensures.value ∙ c.unwrap_or.ensures ∙ (λ i. unwrap_or (c.moment_given-given.ensures i) (c.beginning.ensures i)) in
    let name = c.in_ok-name.ensures ∙ c.name.ensures in
    goes_dated c.args.session.now c.args.args.now o (outcome_view c.seated.result) None None None (sym c.in_default.is ∙ c.in_ok-parameter.ensures)
    (sym c.in_default-2.is ∙ c.in_ok-refusal.ensures ∙ (λ i. option_and_then (early_fault (date i)) (space_numbered (c.space-space.ensures i) o))) refl
    (c.seated.ensures ∙ (λ i. let q : Outcome = record { edits = []; seating = Set (name i) (settings.Stand (c.space-space.ensures i) (Dated (date i))); answer = Fine } in q))
