use Rattle.std.proofs.Common.{Some, refl, sym, ap, subst, ◌∙◌}
use Rattle.wm_syntax.specs.Views.{sets_view}
use Rattle.wm_dml.specs.Changing.{rows_fault, updated_rows}
use Rattle.wm_dml.specs.Standing.{MayReplace}
use Rattle.wm_model.proofs.Changing.{replaces, replaces_none, replaces_wrong}
use Rattle.wm_model.specs.Step.{change_all, out_of_range, replace_all}
use Rattle.wm_print.specs.Texts.{Refused}
use Rattle.wm_change.proofs.Acting.{answers_so, does_so}
use Rattle.wm_plan.specs.Views.{answer_view, seating_view}
use Rattle.wm_change.proofs.change.replace_all.Goals as goal

pub updated_rows-requires : goal.updated_rows-requires
updated_rows-requires c = c.requires.update.lasting

pub returns-in-Err-OutOfRange-clause-does : goal.returns-in-Err-OutOfRange-clause-does
returns-in-Err-OutOfRange-clause-does c =
    let sets = sets_view c.args.sets.now in
    let found = updated_rows c.args.site.table.now sets c.args.rows.now in
    answers_so c.args.site.image.now c.args.site.moment c.answered.result c.args.site.session.now c.args.site.space.now (replace_all c.args.site.session.now c.args.site.table.now c.args.within.now sets c.args.rows.now found) out_of_range c.requires.site.rules
    (λ s w. replaces_none c.args.site.session.now c.args.site.table.now c.args.within.now sets c.args.rows.now found s w (let h = rw c.in-Err-OutOfRange.field-0-is at c.in-Err-OutOfRange.ensures.out_of_range in h refl)) c.answered.ensures.edits
    (ap seating_view c.answered.ensures.seating) (ap answer_view c.answered.ensures.answer ∙ c.out_of_range.ensures)

pub returns-in-Some-clause-does : goal.returns-in-Some-clause-does
returns-in-Some-clause-does c =
    let sets = sets_view c.args.sets.now in
    let found = updated_rows c.args.site.table.now sets c.args.rows.now in
    answers_so c.args.site.image.now c.args.site.moment c.answered-in-Some.result c.args.site.session.now c.args.site.space.now (replace_all c.args.site.session.now c.args.site.table.now c.args.within.now sets c.args.rows.now found) (Refused c.in-Some.refusal) c.requires.site.rules
    (λ s w.
    replaces_wrong c.args.site.session.now c.args.site.table.now c.args.within.now sets c.args.rows.now found c.in-Ok.news.items c.in-Some.refusal s w c.in-Ok.ensures.ok
    (ap (rows_fault c.args.site.table.now) (sym c.as_slice.ensures.value) ∙ sym c.in_ok-refusal.ensures.fault ∙ c.in-Some.is))
    c.answered-in-Some.ensures.edits (ap seating_view c.answered-in-Some.ensures.seating) (ap answer_view c.answered-in-Some.ensures.answer)

pub change_all-requires-clause-lasting : goal.change_all-requires-clause-lasting
change_all-requires-clause-lasting c = c.requires.update.lasting

pub change_all-requires-clause-may_replace : goal.change_all-requires-clause-may_replace
change_all-requires-clause-may_replace c =
    subst (MayReplace c.args.site.table.now c.args.rows.now) c.as_slice.ensures.value
    (c.in_ok-refusal.ensures.may_replace c.in_default.is (sets_view c.args.sets.now) c.requires.update.filter c.args.rows.now c.requires.update.fine (c.in-Ok.ensures.ok ∙ ap (λ news. Some news) (sym c.as_slice.ensures.value)) c.requires.stand
    c.requires.update.well c.requires.update.keyed)

pub returns-clause-does : goal.returns-clause-does
returns-clause-does c =
    let sets = sets_view c.args.sets.now in
    let found = updated_rows c.args.site.table.now sets c.args.rows.now in
    does_so c.args.site.image.now c.args.site.moment c.change_all.result c.args.site.session.now c.args.site.space.now (change_all c.args.site.session.now c.args.site.table.now c.args.within.now sets c.args.rows.now c.in-Ok.news.items)
    (replace_all c.args.site.session.now c.args.site.table.now c.args.within.now sets c.args.rows.now found)
    (λ s w.
    replaces c.args.site.session.now c.args.site.table.now c.args.within.now sets c.args.rows.now found c.in-Ok.news.items s w c.in-Ok.ensures.ok
    (ap (rows_fault c.args.site.table.now) (sym c.as_slice.ensures.value) ∙ sym c.in_ok-refusal.ensures.fault ∙ c.in_default.is))
    c.change_all.ensures.does
