use Rattle.std.proofs.Common.{refl, sym, ap, ◌∙◌}
use Rattle.wm_syntax.specs.Views.{exprs_view}
use Rattle.wm_making.specs.Rows.{row_fault, row_of}
use Rattle.wm_model.proofs.Changing.{adds, adds_none, adds_wrong}
use Rattle.wm_model.proofs.Named.{named_is}
use Rattle.wm_model.specs.Step.{add_found, add_to, new_period, out_of_range}
use Rattle.wm_print.specs.Texts.{Refused}
use Rattle.wm_change.proofs.Acting.{answers_so, does_so}
use Rattle.wm_change.proofs.Inserting.{row_keyed}
use Rattle.wm_plan.specs.Views.{answer_view, seating_view}
use Rattle.wm_change.proofs.insert.add_row.Goals as goal

pub returns-in-Err-OutOfRange-clause-does : goal.returns-in-Err-OutOfRange-clause-does
returns-in-Err-OutOfRange-clause-does c =
    let i = c.args.insertion in
    let period = new_period c.args.session.now i.table.now i.names.now (exprs_view i.values.now) in
    let found = row_of i.table.now i.names.now (exprs_view i.values.now) in
    answers_so c.args.image.now c.args.moment c.answered.result c.args.session.now c.args.space.now (add_found c.args.session.now i.table.now period found) out_of_range c.requires.rules
    (λ s w. adds_none c.args.session.now i.table.now period found s w (let h = rw c.in-Err-OutOfRange.field-0-is at c.in-Err-OutOfRange.ensures.out_of_range in h refl)) c.answered.ensures.edits (ap seating_view c.answered.ensures.seating)
    (ap answer_view c.answered.ensures.answer ∙ c.out_of_range.ensures)

pub returns-in-Some-clause-does : goal.returns-in-Some-clause-does
returns-in-Some-clause-does c =
    let i = c.args.insertion in
    let period = new_period c.args.session.now i.table.now i.names.now (exprs_view i.values.now) in
    let found = row_of i.table.now i.names.now (exprs_view i.values.now) in
    answers_so c.args.image.now c.args.moment c.answered-in-Some.result c.args.session.now c.args.space.now (add_found c.args.session.now i.table.now period found) (Refused c.in-Some.refusal) c.requires.rules
    (λ s w. adds_wrong c.args.session.now i.table.now period found c.in-Ok.row c.in-Some.refusal s w c.in-Ok.ensures.ok (ap (row_fault i.table.now) (sym c.as_slice.ensures) ∙ sym c.in_ok-refusal.ensures.fault ∙ c.in-Some.is))
    c.answered-in-Some.ensures.edits (ap seating_view c.answered-in-Some.ensures.seating) (ap answer_view c.answered-in-Some.ensures.answer)

pub add_to-requires-clause-site : goal.add_to-requires-clause-site
add_to-requires-clause-site c = record {
  rules = c.requires.rules;
  moment = c.requires.moment;
  there = (named_is c.args.image.now c.args.insertion.name.now c.args.insertion.table.now c.requires.rules c.requires.fine.there).there;
  on = c.requires.fine.on;
  home = c.requires.home;
}

pub add_to-requires-clause-keyed : goal.add_to-requires-clause-keyed
add_to-requires-clause-keyed c = row_keyed c.args.image.now c.args.insertion c.in-Ok.row c.requires.rules c.requires.fine c.in-Ok.ensures.ok (rw c.as_slice.ensures at (c.in_ok-refusal.ensures.may_stand c.in_default.is))

pub returns-clause-does : goal.returns-clause-does
returns-clause-does c =
    let i = c.args.insertion in
    let period = new_period c.args.session.now i.table.now i.names.now (exprs_view i.values.now) in
    let found = row_of i.table.now i.names.now (exprs_view i.values.now) in
    does_so c.args.image.now c.args.moment c.add_to.result c.args.session.now c.args.space.now (add_to c.args.session.now i.table.now c.new_period-period.result c.in-Ok.row) (add_found c.args.session.now i.table.now period found)
    (λ s w. adds c.args.session.now i.table.now period found c.in-Ok.row s w c.in-Ok.ensures.ok (ap (row_fault i.table.now) (sym c.as_slice.ensures) ∙ sym c.in_ok-refusal.ensures.fault ∙ c.in_default.is)
    ∙ ap (λ p. add_to c.args.session.now i.table.now p c.in-Ok.row s w) (sym c.new_period-period.ensures))
    c.add_to.ensures.does
