use Rattle.std.proofs.Common.{sym, ap, ◌∙◌}
use Rattle.wm_dml.specs.Standing.{change_keys}
use Rattle.wm_state.specs.Drawing.{are_sorted}
use Rattle.wm_change.proofs.Acting.{counted, none_counted, writes_none, writes_not, writes_up}
use Rattle.wm_change.proofs.ChangesWritten.{some_changes}
use Rattle.wm_change.proofs.Counted.{some_rows}
use Rattle.wm_plan.specs.Views.{answer_view, seating_view}
use Rattle.wm_change.proofs.write_all.write_all.Goals as goal

pub returns-then-not-are_sorted-clause-does : goal.returns-then-not-are_sorted-clause-does
returns-then-not-are_sorted-clause-does c =
    writes_not c.args.site.image.now c.args.site.moment c.answered.result c.args.site.session.now c.args.site.space.now c.args.site.table.now c.args.rows_changed c.args.changes.items c.requires.site.rules
    (ap (λ xs. are_sorted (change_keys xs)) (sym c.as_slice.ensures.value) ∙ sym c.if-not-are_sorted.ensures) c.answered.ensures.edits (ap seating_view c.answered.ensures.seating)
    (ap answer_view c.answered.ensures.answer ∙ c.not_built.ensures)

pub returns-then-len-eq0-clause-does : goal.returns-then-len-eq0-clause-does
returns-then-len-eq0-clause-does c =
    writes_none c.args.site.image.now c.args.site.moment c.answered-then-len-eq0.result c.args.site.session.now c.args.site.space.now c.args.site.table.now c.args.rows_changed c.args.changes.items c.requires.site.rules
    (none_counted c.args.changes.items c.len.result (counted c.args.changes c.len.result c.len.ensures) c.if-len-eq0.true) c.answered-then-len-eq0.ensures.edits
    (ap seating_view c.answered-then-len-eq0.ensures.seating) (ap answer_view c.answered-then-len-eq0.ensures.answer)

pub write_changes-requires-clause-keys : goal.write_changes-requires-clause-keys
write_changes-requires-clause-keys c = ap (λ xs. are_sorted (change_keys xs)) (sym c.as_slice.ensures.value) ∙ sym c.if-not-are_sorted.ensures

pub write_changes-requires-clause-counted : goal.write_changes-requires-clause-counted
write_changes-requires-clause-counted c = some_rows c.args.rows_changed c.args.changes.items c.requires.counted (some_changes c.args.changes c.len.result c.len.ensures c.if-len-eq0.false)

pub write_changes-requires-clause-some : goal.write_changes-requires-clause-some
write_changes-requires-clause-some c = some_changes c.args.changes c.len.result c.len.ensures c.if-len-eq0.false

pub returns-clause-does : goal.returns-clause-does
returns-clause-does c =
    writes_up c.args.site.image.now c.args.site.moment c.write_changes.result c.args.site.session.now c.args.site.space.now c.args.site.table.now c.args.rows_changed c.args.changes.items
    (ap (λ xs. are_sorted (change_keys xs)) (sym c.as_slice.ensures.value) ∙ sym c.if-not-are_sorted.ensures) c.write_changes.ensures.does
