use Rattle.std.proofs.Common.{sym, ap, ◌∙◌}
use Rattle.wm_syntax.specs.Views.{sets_view}
use Rattle.wm_model.specs.Step.{not_built}
use Rattle.wm_change.proofs.Acting.{answers_full}
use Rattle.wm_change.proofs.Filled.{keyed_stand}
use Rattle.wm_change.proofs.Rowing.{updates}
use Rattle.wm_plan.specs.Views.{answer_view, seating_view}
use Rattle.wm_change.proofs.change.update_rows.Goals as goal

pub returns-then-not-are_filled-clause-does : goal.returns-then-not-are_filled-clause-does
returns-then-not-are_filled-clause-does c =
    answers_full c.args.site.image.now c.args.site.moment c.answered.result c.args.site.session.now c.args.site.space.now (updates c.args.site.session.now (sets_view c.args.sets.now) c.args.site.table.now c.args.within.now c.args.rows.now) not_built c.args.rows.now c.requires.site.rules
    c.requires.full (sym c.if-not-are_filled.ensures) c.answered.ensures.edits (ap seating_view c.answered.ensures.seating) (ap answer_view c.answered.ensures.answer ∙ c.not_built.ensures)

pub replace_all-requires-clause-stand : goal.replace_all-requires-clause-stand
replace_all-requires-clause-stand c = keyed_stand c.args.site.table.now c.args.rows.now c.requires.keyed (sym c.if-not-are_filled.ensures)

pub returns-clause-does : goal.returns-clause-does
returns-clause-does c = c.replace_all.ensures.does
