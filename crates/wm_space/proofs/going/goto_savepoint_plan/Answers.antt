use Rattle.std.proofs.Common.{◌≡◌, true, false, ℕ, List, [], if◌then◌else◌, Bool, sym, ap, ◌∙◌}
use Rattle.wm_ground.proofs.Bridge.{if_ok}
use Rattle.wm_ground.specs.Grounds.{outline_on}
use Rattle.wm_ground.specs.Outcomes.{outcome_view}
use Rattle.wm_model.specs.Seating.{Stay}
use Rattle.std.specs.Str.{bytes_eq}
use Rattle.wm_grammar.specs.declared.procedure.Procedure.TheVariants as procedures
use Rattle.wm_model.specs.Step.{Answer, Outcome, latest, outcome, standing}
use Rattle.wm_outcome.proofs.Going.{savepoint_given, standing_by, standing_from, standing_home}
use Rattle.wm_outcome.proofs.Told.{misfit_clear, misfit_told}
use Rattle.wm_state.specs.State.{Latest}
use Rattle.wm_space.proofs.going.goto_savepoint_plan.Goals as goal

pub returns-in-Some : goal.returns-in-Some
returns-in-Some c =
    let o = outline_on c.args.ground in
    let name = savepoint_given c.args.args.now in
    misfit_told procedures.GotoSavepoint c.args.args.now (standing_by c.args.session.now name o) (outcome_view c.answered.result) c.in-Some.parameter (standing_from c.args.session.now name o) (sym c.in-Some.is ∙ c.in_ok-parameter.ensures)
    (c.answered.ensures ∙ ap (λ (a : Answer). let q : Outcome = record { edits = []; seating = Stay; answer = a } in q) c.mistyped.ensures)

pub returns-then-is_latest : goal.returns-then-is_latest
returns-then-is_latest c =
    let o = outline_on c.args.ground in
    let name = savepoint_given c.args.args.now in
    let newest : bytes_eq name latest ≡ true = ap (λ (n : List ℕ). bytes_eq n latest) (sym c.bytes_given-name.ensures) ∙ sym c.if-is_latest.ensures in
    if_ok c.stand.result _ _
    (λ p is.
    misfit_clear procedures.GotoSavepoint c.args.args.now (standing_by c.args.session.now name o) (outcome_view p) (sym c.in_default.is ∙ c.in_ok-parameter.ensures)
    (is ∙ ap (λ (b : Bool). outcome (if b then standing c.args.session.now Latest else standing_home c.args.session.now name o)) (sym newest)))
    c.stand.ensures

pub returns : goal.returns
returns c =
    let o = outline_on c.args.ground in
    let name = savepoint_given c.args.args.now in
    let other : bytes_eq name latest ≡ false = ap (λ (n : List ℕ). bytes_eq n latest) (sym c.bytes_given-name.ensures) ∙ sym c.if-is_latest.ensures in
    if_ok c.stand_home.result _ _
    (λ p is.
    misfit_clear procedures.GotoSavepoint c.args.args.now (standing_by c.args.session.now name o) (outcome_view p) (sym c.in_default.is ∙ c.in_ok-parameter.ensures)
    (is
    ∙ ap (λ (n : List ℕ). outcome (standing_home c.args.session.now n o)) c.bytes_given-name.ensures
    ∙ ap (λ (b : Bool). outcome (if b then standing c.args.session.now Latest else standing_home c.args.session.now name o)) (sym other)))
    c.stand_home.ensures
