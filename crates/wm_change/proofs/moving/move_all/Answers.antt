use Rattle.std.proofs.Common.{length, Some, None, sym, ap, ◌∙◌}
use Rattle.wm_dml.specs.Moving.{moving, shifts_of}
use Rattle.wm_dml.specs.Standing.{is_change}
use Rattle.wm_graph.specs.Parts.{parts_of}
use Rattle.wm_state.specs.Standing.{latest}
use Rattle.wm_model.specs.Step.{write_ascending}
use Rattle.wm_change.proofs.Acting.{does_so}
use Rattle.wm_change.proofs.MovedRows.{counted_moves, finds_so, move_new, move_there, part_filled, part_fits}
use Rattle.wm_change.proofs.Counted.{no_rows}
use Rattle.wm_change.specs.Changing.{is_filled_change}
use Rattle.wm_plan.specs.Views.{answer_view, seating_view}
use Rattle.wm_change.proofs.moving.move_all.Goals as goal

pub first_clash-requires-clause-shifts : goal.first_clash-requires-clause-shifts
first_clash-requires-clause-shifts c = λ key. c.in_ok-shifts.ensures key ∙ ap (shifts_of key) (c.as_slice.ensures.value ∙ sym c.as_slice-2.ensures.value)

pub moved-requires : goal.moved-requires
moved-requires c = λ key. c.in_ok-shifts.ensures key ∙ ap (shifts_of key) c.as_slice.ensures.value

pub returns-in-Some-clause-does : goal.returns-in-Some-clause-does
returns-in-Some-clause-does c =
    move_there c.args.site.image.now c.args.site.moment c.answered.result c.args.site.session.now c.args.site.space.now c.args.site.table.now c.args.moves.items c.in-Some.key c.in-Some.shared c.latest-version.result c.requires.site.rules
    (c.latest-version.ensures ∙ ap (latest (parts_of c.args.site.image.now)) c.space.ensures)
    (finds_so (parts_of c.args.site.image.now) c.latest-version.result c.args.site.table.now c.as_slice-2.result.now c.args.moves.items c.in_ok-clash.clash (Some (c.in-Some.key, c.in-Some.shared)) c.in_ok-clash.ensures c.as_slice-2.ensures.value c.in-Some.is)
    c.answered.ensures.edits (ap seating_view c.answered.ensures.seating) (ap answer_view c.answered.ensures.answer ∙ c.key_there.ensures)

pub write_all-requires-clause-fit : goal.write_all-requires-clause-fit
write_all-requires-clause-fit c = c.in_ok-changes.ensures.all (is_change c.args.site.table.now) c.requires.fit (λ m part e. part_fits c.args.site.table.now m part e)

pub write_all-requires-clause-last : goal.write_all-requires-clause-last
write_all-requires-clause-last c = c.in_ok-changes.ensures.lasting

pub write_all-requires-clause-counted : goal.write_all-requires-clause-counted
write_all-requires-clause-counted c = λ none. c.in_ok-changes.ensures.exact ∙ ap moving (no_rows c.args.moves.items c.len-count.result (counted_moves c.args.moves c.len-count.result c.len-count.ensures) none)

pub write_all-requires-clause-filled : goal.write_all-requires-clause-filled
write_all-requires-clause-filled c = c.in_ok-changes.ensures.all is_filled_change c.requires.filled (λ m part e. part_filled m part e)

pub returns-clause-does : goal.returns-clause-does
returns-clause-does c =
    let session = c.args.site.session.now in
    let t = c.args.site.table.now in
    let moves = c.args.moves.items in
    let count = c.len-count.result in
    move_new c.args.site.image.now c.args.site.moment c.write_all.result c.args.site.session.now c.args.site.space.now t moves c.latest-version.result (c.latest-version.ensures ∙ ap (latest (parts_of c.args.site.image.now)) c.space.ensures)
    (finds_so (parts_of c.args.site.image.now) c.latest-version.result t c.as_slice-2.result.now moves c.in_ok-clash.clash None c.in_ok-clash.ensures c.as_slice-2.ensures.value c.in_default.is)
    (does_so c.args.site.image.now c.args.site.moment c.write_all.result c.args.site.session.now c.args.site.space.now (write_ascending session t count c.in_ok-changes.changes.items) (write_ascending session t (length moves) (moving moves))
    (λ s w.
    ap (λ n. write_ascending session t n (moving moves) s w) (sym (counted_moves c.args.moves count c.len-count.ensures))
    ∙ ap (λ xs. write_ascending session t count xs s w) (sym c.in_ok-changes.ensures.exact)) c.write_all.ensures.does)
