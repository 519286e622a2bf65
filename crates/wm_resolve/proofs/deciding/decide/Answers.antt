use Rattle.std.proofs.Common.{[], List, length, ◌==◌, sym, ap, ◌∙◌, subst}
use Rattle.std.specs.List.{All}
use Rattle.wm_decided.specs.Staged.{IsStaged}
use Rattle.wm_graph.specs.Parts.{parts_of}
use Rattle.wm_model.specs.Planning.{Set, Stay}
use Rattle.wm_model.specs.Step.{not_built}
use Rattle.wm_model.specs.Step.Sessions as settings
use Rattle.wm_plan.proofs.Planning.{told}
use Rattle.wm_plan.specs.Views.{answer_view, seating_view}
use Rattle.wm_plan.specs.declared.answer.Answer.TheVariants as plan_answers
use Rattle.wm_plan.specs.declared.seating.Seating.TheVariants as plan_seatings
use Rattle.wm_plan.specs.declared.session.Setting.TheVariants as plan_settings
use Rattle.wm_print.specs.Texts.{Done}
use Rattle.wm_state.specs.State.{Decision}
use Rattle.wm_model.proofs.MergedEdits.{nothing_listed}
use Rattle.wm_resolve.proofs.Decided.{some_of}
use Rattle.wm_resolve.proofs.DecidingLine.{decides_none, decides_unstaged, does_decide}
use Rattle.wm_resolve.proofs.deciding.decide.Goals as goal

pub returns-then-is_empty-clause-does : goal.returns-then-is_empty-clause-does
returns-then-is_empty-clause-does c = λ xs m act decides.
    told c.args.image.now xs m c.answered.result [] Stay (Done 0) act c.answered.ensures.edits (ap seating_view c.answered.ensures.seating) (ap answer_view c.answered.ensures.answer)
    (decides_none c.args.image.now xs m c.args.session.now c.args.decisions.items act decides (nothing_listed c.args.decisions.items (ap (λ (ds : List Decision). length ds == 0) (sym c.as_slice-list.ensures.value) ∙ sym c.is_empty.ensures ∙ c.if-is_empty.true)))

pub returns-then-not-are_staged-clause-does : goal.returns-then-not-are_staged-clause-does
returns-then-not-are_staged-clause-does c = λ xs m act decides.
    told c.args.image.now xs m c.answered-then-not-are_staged.result [] Stay not_built act c.answered-then-not-are_staged.ensures.edits (ap seating_view c.answered-then-not-are_staged.ensures.seating)
    (ap answer_view c.answered-then-not-are_staged.ensures.answer ∙ c.not_built.ensures)
    (decides_unstaged c.args.image.now xs m c.args.session.now c.args.decisions.items act decides not_built
    (λ staged. absurd (let it = sym (c.are_staged.ensures.1 (subst (λ (ds : List Decision). All (IsStaged (parts_of c.args.image.now)) ds) (sym c.as_slice-list.ensures.value) staged)) ∙ c.if-not-are_staged.true in cc)))

pub returns-clause-does : goal.returns-clause-does
returns-clause-does c = λ xs m act decides.
    told c.args.image.now xs m (record { edits = c.new.result; seating = plan_seatings.Set c.in_ok-name.name (plan_settings.Decide c.args.decisions); answer = plan_answers.Done (length c.as_slice-list.result.now) }) []
    (Set c.args.session.now.name (settings.Decide c.args.decisions.items)) (Done (length c.args.decisions.items)) act c.new.ensures.items (ap (λ n. Set n (settings.Decide c.args.decisions.items)) (c.in_ok-name.ensures ∙ c.name.ensures)) (ap (λ (ds : List Decision). Done (length ds)) c.as_slice-list.ensures.value)
    (does_decide c.args.image.now xs m c.args.session.now c.args.decisions.items act decides (some_of c.args.decisions.items (ap (λ (ds : List Decision). length ds == 0) (sym c.as_slice-list.ensures.value) ∙ sym c.is_empty.ensures ∙ c.if-is_empty.false))
    (subst (λ (ds : List Decision). All (IsStaged (parts_of c.args.image.now)) ds) c.as_slice-list.ensures.value (c.are_staged.ensures.0 c.if-not-are_staged.false)))
