use Rattle.std.proofs.Common.{◌≡◌, ℕ, ◌<◌, ◌≤◌, nat_le, true, false, length, refl, sym, ap, ◌∙◌, arith}
use Rattle.std.proofs.lemmas.Bool.Decides.{nat_tests}
use Rattle.wm_model.specs.Step.{step, run_parsed, too_long_line, no_text}
use Rattle.wm_print.specs.Texts.{Nothing}
use Rattle.wm_grammar.specs.Parsed.{parsed}
use Rattle.wm_plan.proofs.Planning.{told_alone, timed_same}
use Rattle.wm_plan.specs.Views.{answer_view, seating_view}
use Rattle.wm_spending.specs.Nets.{Nothing}
use Rattle.wm_engine.proofs.Performing.{if_timed}
use Rattle.wm_engine.proofs.plan.line.plan.Goals as goal

long : (n : ℕ) → 16384 < n → nat_le n 16384 ≡ false
long n lt = grind (arith, nat_tests, lt)

short : (n : ℕ) → n ≤ 16384 → nat_le n 16384 ≡ true
short n le = grind (arith, nat_tests, le)

pub returns-then-text-gt-LINE_LIMIT-clause-does : goal.returns-then-text-gt-LINE_LIMIT-clause-does
unfolding step
returns-then-text-gt-LINE_LIMIT-clause-does c =
    told_alone c.args.image.now c.args.sessions.now c.args.moment c.answered.result too_long_line (λ s. step s c.args.text.now) c.answered.ensures.edits (ap seating_view c.answered.ensures.seating)
    c.answered.ensures.moment (ap answer_view c.answered.ensures.answer ∙ c.too_long_line.ensures) (λ s st. rw (long (length c.args.text.now) c.if-text-gt-LINE_LIMIT.true) refl)

pub returns-then-is_remark-clause-does : goal.returns-then-is_remark-clause-does
unfolding step
returns-then-is_remark-clause-does c =
    let answered = c.answered-then-is_remark in
    told_alone c.args.image.now c.args.sessions.now c.args.moment answered.result Nothing (λ s. step s c.args.text.now) answered.ensures.edits (ap seating_view answered.ensures.seating)
    answered.ensures.moment (ap answer_view answered.ensures.answer) (λ s st. rw (short (length c.args.text.now) c.if-text-gt-LINE_LIMIT.false, sym c.if-is_remark.ensures) refl)

pub returns-then-not-is_text-clause-does : goal.returns-then-not-is_text-clause-does
unfolding step
returns-then-not-is_text-clause-does c =
    let answered = c.answered-then-not-is_text in
    told_alone c.args.image.now c.args.sessions.now c.args.moment answered.result no_text (λ s. step s c.args.text.now) answered.ensures.edits (ap seating_view answered.ensures.seating)
    answered.ensures.moment (ap answer_view answered.ensures.answer ∙ c.no_text.ensures) (λ s st. rw (short (length c.args.text.now) c.if-text-gt-LINE_LIMIT.false, sym c.if-is_remark.ensures, sym c.if-not-is_text.ensures) refl)

pub returns-clause-does : goal.returns-clause-does
unfolding step
returns-clause-does c =
    let text = c.args.text.now in
    timed_same c.args.image.now c.args.sessions.now c.args.moment c.plan_text.result (run_parsed (parsed text)) (λ s. step s text)
    (λ s st. rw (short (length text) c.if-text-gt-LINE_LIMIT.false, sym c.if-is_remark.ensures, sym c.if-not-is_text.ensures) refl) (if_timed c.plan_text.result _ _ (λ t h. h.does) c.plan_text.ensures)

pub returns-clause-moment : goal.returns-clause-moment
returns-clause-moment c = if_timed c.plan_text.result _ _ (λ t h. h.moment) c.plan_text.ensures

pub returns-clause-idle : goal.returns-clause-idle
returns-clause-idle c = if_timed c.plan_text.result _ _ (λ t h. h.idle) c.plan_text.ensures

pub returns-clause-stays : goal.returns-clause-stays
returns-clause-stays c = if_timed c.plan_text.result _ _ (λ t h. h.stays) c.plan_text.ensures

pub returns-clause-few : goal.returns-clause-few
returns-clause-few c = λ forks. if_timed c.plan_text.result _ _ (λ t h. h.few forks) c.plan_text.ensures

pub returns-clause-nets : goal.returns-clause-nets
returns-clause-nets c = λ net named. if_timed c.plan_text.result _ _ (λ t h. h.nets net named) c.plan_text.ensures

-- ---- lines that refresh or merge

pub returns-then-text-gt-LINE_LIMIT-clause-nets : goal.returns-then-text-gt-LINE_LIMIT-clause-nets
returns-then-text-gt-LINE_LIMIT-clause-nets c = λ net named. Nothing c.answered.ensures.edits

pub returns-then-is_remark-clause-nets : goal.returns-then-is_remark-clause-nets
returns-then-is_remark-clause-nets c = λ net named. Nothing c.answered-then-is_remark.ensures.edits

pub returns-then-not-is_text-clause-nets : goal.returns-then-not-is_text-clause-nets
returns-then-not-is_text-clause-nets c = λ net named. Nothing c.answered-then-not-is_text.ensures.edits
