use Rattle.std.proofs.Common.{◌≡◌, ℕ, ◌<◌, nat_lt, Bool, true, false, [], Some, unwrap_or, refl, sym, ap, ◌∙◌}
use Rattle.std.proofs.lemmas.Bool.{lt-ltb, ltb-true}
use Rattle.wm_base.specs.Period.{Span}
use Rattle.wm_ground.proofs.Bridge.{if_ok}
use Rattle.wm_ground.specs.Outcomes.{outcome_view}
use Rattle.wm_model.specs.Seating.{Set, Stay}
use Rattle.wm_model.specs.Step.Sessions as settings
use Rattle.wm_model.specs.Step.{Answer, Outcome}
use Rattle.wm_outcome.proofs.Going.{limits_empty, limits_misfit, limits_none, limits_some}
use Rattle.wm_print.specs.Texts.{Fine}
use Rattle.wm_space.proofs.valid_time.set_valid_time_plan.Goals as goal

lasts_not : (from till : ℕ) → (from < till → false ≡ true) → nat_lt from till ≡ false
lasts_not from till none = by_test (nat_lt from till) refl
  where
    by_test : (b : Bool) → nat_lt from till ≡ b → b ≡ false
    by_test true is = sym (none (ltb-true from till is))
    by_test false is = refl

pub returns-in-Some : goal.returns-in-Some
returns-in-Some c =
    limits_misfit c.args.session.now c.args.args.now (outcome_view c.answered.result) c.in-Some.parameter (sym c.in-Some.is ∙ c.in_ok-parameter.ensures) (c.answered.ensures ∙ ap (λ (a : Answer). let q : Outcome = record { edits = []; seating = Stay; answer = a } in q) c.mistyped.ensures)

pub returns-in_default-moment_given : goal.returns-in_default-moment_given
returns-in_default-moment_given c =
    if_ok c.setting.result _ _ (λ p is. limits_none c.args.session.now c.args.args.now (outcome_view p) (sym c.in_default.is ∙ c.in_ok-parameter.ensures) c.in_default-moment_given.ensures is) c.setting.ensures

pub returns-in-Some-new : goal.returns-in-Some-new
returns-in-Some-new c =
    let from = c.in-Some-moment_given.from in
    let till = c.unwrap_or.result in
    if_ok c.setting-in-Some-new.result _ _
    (λ p is.
    limits_some c.args.session.now c.args.args.now (outcome_view p) from till (sym c.in_default.is ∙ c.in_ok-parameter.ensures) c.in-Some-moment_given.ensures
    (c.unwrap_or.ensures ∙ (λ i. unwrap_or (c.moment_given-till.ensures i) (c.end.ensures i))) (lt-ltb from till (c.in-Some-new.ensures.valid.0 refl))
    (is ∙ ap (λ (k : Span). let q : Outcome = record { edits = []; seating = Set c.args.session.now.name (settings.Period (Some k)); answer = Fine } in q) c.in-Some-new.ensures.value))
    c.setting-in-Some-new.ensures

pub returns-in-None : goal.returns-in-None
returns-in-None c =
    let from = c.in-Some-moment_given.from in
    let till = c.unwrap_or.result in
    limits_empty c.args.session.now c.args.args.now (outcome_view c.answered-in-None.result) from till (sym c.in_default.is ∙ c.in_ok-parameter.ensures) c.in-Some-moment_given.ensures
    (c.unwrap_or.ensures ∙ (λ i. unwrap_or (c.moment_given-till.ensures i) (c.end.ensures i))) (lasts_not from till c.in-None.ensures.valid.1)
    (c.answered-in-None.ensures ∙ ap (λ (a : Answer). let q : Outcome = record { edits = []; seating = Stay; answer = a } in q) c.empty_period.ensures)
