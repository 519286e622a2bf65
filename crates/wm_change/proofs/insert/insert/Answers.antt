use Rattle.std.proofs.Common.{[], false, sym, ap, ◌∙◌}
use Rattle.wm_syntax.specs.Views.{exprs_view}
use Rattle.wm_model.proofs.Newest.{newest_none, newest_off, newest_faulty}
use Rattle.wm_model.specs.Planning.{Stay, named}
use Rattle.wm_model.specs.Step.{insert, no_table, versioning}
use Rattle.wm_print.specs.Texts.{Refused}
use Rattle.wm_plan.proofs.Planning.{told}
use Rattle.wm_change.proofs.Rowing.{insert_acts, insert_faults}
use Rattle.wm_plan.specs.Views.{answer_view, seating_view}
use Rattle.wm_change.proofs.insert.insert.Goals as goal

pub returns-in_default-clause-does : goal.returns-in_default-clause-does
returns-in_default-clause-does c = λ xs among.
    told c.args.image.now xs c.args.moment c.answered.result [] Stay (no_table c.args.name.now) (insert c.args.session.now c.args.name.now c.args.names.now (exprs_view c.args.values.now) c.args.empty) c.answered.ensures.edits (ap seating_view c.answered.ensures.seating)
    (ap answer_view c.answered.ensures.answer ∙ c.no_table.ensures ∙ ap no_table c.in_ok-copy.ensures)
    (newest_none c.args.image.now xs c.args.moment c.args.session.now c.args.name.now (insert_faults c.args.names.now (exprs_view c.args.values.now)) c.args.empty (insert_acts c.args.session.now c.args.names.now (exprs_view c.args.values.now)) c.requires.rules (ap (named c.args.image.now) (sym c.as_bytes.ensures) ∙ sym c.in_default.ensures))

pub returns-then-not-table-clause-does : goal.returns-then-not-table-clause-does
returns-then-not-table-clause-does c = λ xs among.
    told c.args.image.now xs c.args.moment c.answered-then-not-table.result [] Stay (versioning c.args.name.now false) (insert c.args.session.now c.args.name.now c.args.names.now (exprs_view c.args.values.now) c.args.empty) c.answered-then-not-table.ensures.edits (ap seating_view c.answered-then-not-table.ensures.seating)
    (ap answer_view c.answered-then-not-table.ensures.answer ∙ c.versioning.ensures ∙ ap (λ n. versioning n false) c.in_ok-copy-2.ensures)
    (newest_off c.args.image.now xs c.args.moment c.args.session.now c.args.name.now (insert_faults c.args.names.now (exprs_view c.args.values.now)) c.args.empty (insert_acts c.args.session.now c.args.names.now (exprs_view c.args.values.now)) c.in-Some.table.now c.requires.rules (ap (named c.args.image.now) (sym c.as_bytes.ensures) ∙ sym c.in-Some.ensures) c.if-not-table.true)

pub returns-in-Some-2-clause-does : goal.returns-in-Some-2-clause-does
returns-in-Some-2-clause-does c = λ xs among.
    told c.args.image.now xs c.args.moment c.answered-in-Some-2.result [] Stay (Refused c.in-Some-2.refusal) (insert c.args.session.now c.args.name.now c.args.names.now (exprs_view c.args.values.now) c.args.empty) c.answered-in-Some-2.ensures.edits (ap seating_view c.answered-in-Some-2.ensures.seating)
    (ap answer_view c.answered-in-Some-2.ensures.answer)
    (newest_faulty c.args.image.now xs c.args.moment c.args.session.now c.args.name.now (insert_faults c.args.names.now (exprs_view c.args.values.now)) c.args.empty (insert_acts c.args.session.now c.args.names.now (exprs_view c.args.values.now)) c.in-Some.table.now c.in-Some-2.refusal (record { rules = c.requires.rules; some = ap (named c.args.image.now) (sym c.as_bytes.ensures) ∙ sym c.in-Some.ensures; on = c.if-not-table.false }) (sym c.in_ok-refusal.ensures.fault ∙ c.in-Some-2.is))

pub add_found-requires-clause-fine : goal.add_found-requires-clause-fine
add_found-requires-clause-fine c = record { there = ap (named c.args.image.now) (sym c.as_bytes.ensures) ∙ sym c.in-Some.ensures; on = c.if-not-table.false; good = sym c.in_ok-refusal.ensures.fault ∙ c.in_default-2.is }
