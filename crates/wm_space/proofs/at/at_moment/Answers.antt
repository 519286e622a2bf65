use Rattle.std.proofs.Common.{◌≡◌, ℕ, ◌<◌, ◌≤◌, Option, Some, subst, ap, ◌∙◌}
use Rattle.std.proofs.lemmas.Bool.{le-ltb, lt-ltb}
use Rattle.std.specs.Prelude.{IfSome}
use Rattle.wm_model.proofs.Timing.{moment_moves, moment_stays}
use Rattle.wm_model.specs.Step.{moment_back, set_moment}
use Rattle.wm_print.specs.Texts.{Fine}
use Rattle.wm_plan.proofs.Planning.{told_at}
use Rattle.wm_plan.specs.Views.{answer_view, seating_view}
use Rattle.wm_space.proofs.at.at_moment.Goals as goal

now_is : (o : Option ℕ) (now moment : ℕ) → o ≡ Some now → IfSome o (λ n. n ≡ moment) → now ≡ moment
now_is o now moment is value = subst (λ (x : Option ℕ). IfSome x (λ n. n ≡ moment)) is value

pub returns-then-next-moment-clause-does : goal.returns-then-next-moment-clause-does
returns-then-next-moment-clause-does c = λ rs xs rules.
    let before = subst (λ (n : ℕ). n < c.args.moment) c.seconds-next.ensures.value c.if-next-moment.true in
    let now = now_is c.new.result c.unwrap-now.result c.args.moment c.unwrap-now.ensures c.new.ensures.value in
    told_at rs xs c.args.moment c.answered.result c.args.moment (moment_back c.args.moment) (set_moment c.args.instant) c.answered.ensures.edits (ap seating_view c.answered.ensures.seating) c.answered.ensures.moment
    (ap answer_view c.answered.ensures.answer ∙ (c.moment_back.ensures ∙ ap moment_back now)) (moment_stays rs xs c.args.moment c.args.instant (lt-ltb c.args.instant c.args.moment before))

pub returns-clause-does : goal.returns-clause-does
returns-clause-does c = λ rs xs rules.
    let answered = c.answered-2 in
    let behind = subst (λ (n : ℕ). c.args.moment ≤ n) c.seconds-next.ensures.value c.if-next-moment.false in
    told_at rs xs c.args.moment answered.result c.args.instant Fine (set_moment c.args.instant) answered.ensures.edits (ap seating_view answered.ensures.seating) (answered.ensures.moment ∙ c.seconds-next.ensures.value)
    (ap answer_view answered.ensures.answer) (moment_moves rs xs c.args.moment c.args.instant (le-ltb c.args.instant c.args.moment behind))
