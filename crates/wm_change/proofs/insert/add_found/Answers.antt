use Rattle.std.proofs.Common.{[], sym, ap, ◌∙◌}
use Rattle.wm_syntax.specs.Views.{exprs_view}
use Rattle.wm_graph.specs.Parts.{parts_of, space_of}
use Rattle.wm_model.proofs.Homes.{does_homeless}
use Rattle.wm_model.proofs.Newest.{newest_empty}
use Rattle.wm_model.specs.Planning.{Stay}
use Rattle.wm_model.specs.Step.{empty_period, insert, not_built, not_latest}
use Rattle.wm_change.proofs.Acting.{does_change, newest_away}
use Rattle.wm_change.proofs.Inserting.{is_good}
use Rattle.wm_plan.proofs.Planning.{told}
use Rattle.wm_change.proofs.Rowing.{insert_acts, insert_faults}
use Rattle.wm_plan.specs.Views.{answer_view, seating_view}
use Rattle.wm_change.proofs.insert.add_found.Goals as goal

pub returns-in_default-clause-does : goal.returns-in_default-clause-does
returns-in_default-clause-does c = λ xs among.
    let i = c.args.insertion in
    told c.args.image.now xs c.args.moment c.answered.result [] Stay not_built (insert c.args.session.now i.name.now i.names.now (exprs_view i.values.now) c.args.empty) c.answered.ensures.edits (ap seating_view c.answered.ensures.seating)
    (ap answer_view c.answered.ensures.answer ∙ c.not_built.ensures)
    (does_homeless c.args.image.now xs c.args.moment c.args.session.now not_built (insert c.args.session.now i.name.now i.names.now (exprs_view i.values.now) c.args.empty) among (ap (space_of (parts_of c.args.image.now).spaces) (sym c.space.ensures) ∙ sym c.in_default.ensures))

pub returns-in_default-stand-clause-does : goal.returns-in_default-stand-clause-does
returns-in_default-stand-clause-does c = λ xs among.
    let i = c.args.insertion in
    told c.args.image.now xs c.args.moment c.answered-in_default-stand.result [] Stay not_latest (insert c.args.session.now i.name.now i.names.now (exprs_view i.values.now) c.args.empty) c.answered-in_default-stand.ensures.edits (ap seating_view c.answered-in_default-stand.ensures.seating)
    (ap answer_view c.answered-in_default-stand.ensures.answer ∙ c.not_latest.ensures)
    (newest_away c.args.image.now xs c.args.moment c.args.session.now i.name.now (insert_faults i.names.now (exprs_view i.values.now)) c.args.empty (insert_acts c.args.session.now i.names.now (exprs_view i.values.now)) i.table.now c.in-Some.space.now c.stand.result c.in_default-stand.not-Latest
    (is_good c.args.image.now i c.requires.rules c.requires.fine) (ap (space_of (parts_of c.args.image.now).spaces) (sym c.space.ensures) ∙ sym c.in-Some.ensures) c.stand.ensures)

pub returns-then-empty-clause-does : goal.returns-then-empty-clause-does
returns-then-empty-clause-does c = λ xs among.
    let i = c.args.insertion in
    told c.args.image.now xs c.args.moment c.answered-then-empty.result [] Stay empty_period (insert c.args.session.now i.name.now i.names.now (exprs_view i.values.now) c.args.empty) c.answered-then-empty.ensures.edits
    (ap seating_view c.answered-then-empty.ensures.seating) (ap answer_view c.answered-then-empty.ensures.answer ∙ c.empty_period.ensures)
    (newest_empty c.args.image.now xs c.args.moment c.args.session.now i.name.now (insert_faults i.names.now (exprs_view i.values.now)) c.args.empty (insert_acts c.args.session.now i.names.now (exprs_view i.values.now)) i.table.now c.in-Some.space.now
    (record {
      good = is_good c.args.image.now i c.requires.rules c.requires.fine;
      found = ap (space_of (parts_of c.args.image.now).spaces) (sym c.space.ensures) ∙ sym c.in-Some.ensures;
      at = sym c.in-Latest.ensures;
    })
    c.if-empty.true)

pub add_row-requires-clause-lasting : goal.add_row-requires-clause-lasting
add_row-requires-clause-lasting c = c.requires.lasting c.if-empty.false

pub returns-clause-does : goal.returns-clause-does
returns-clause-does c =
    let i = c.args.insertion in
    does_change c.args.image.now c.args.moment c.add_row.result c.args.session.now i.name.now (insert_faults i.names.now (exprs_view i.values.now)) c.args.empty (insert_acts c.args.session.now i.names.now (exprs_view i.values.now)) i.table.now c.in-Some.space.now
    (record {
      good = is_good c.args.image.now i c.requires.rules c.requires.fine;
      found = ap (space_of (parts_of c.args.image.now).spaces) (sym c.space.ensures) ∙ sym c.in-Some.ensures;
      at = sym c.in-Latest.ensures;
    })
    c.if-empty.false c.add_row.ensures.does
