use Rattle.std.proofs.Common.{length, refl, map, sym, ap, ◌∙◌}
use Rattle.std.specs.List.{list_all}
use Rattle.wm_dml.specs.Changing.{gone}
use Rattle.wm_model.specs.Step.{not_built, write_ascending}
use Rattle.wm_change.proofs.Acting.{answers_full, does_so}
use Rattle.wm_change.proofs.Filled.{gone_filled, keyed_stand}
use Rattle.wm_change.proofs.Counted.{no_rows}
use Rattle.wm_change.specs.Changing.{is_filled_change}
use Rattle.wm_plan.specs.Views.{answer_view, seating_view}
use Rattle.wm_change.proofs.change.delete_rows.Goals as goal

pub returns-then-not-are_filled-clause-does : goal.returns-then-not-are_filled-clause-does
returns-then-not-are_filled-clause-does c =
    let t = c.args.site.table.now in
    answers_full c.args.site.image.now c.args.site.moment c.answered.result c.args.site.session.now c.args.site.space.now (write_ascending c.args.site.session.now t (length c.args.rows.now) (map (gone t c.args.within.now) c.args.rows.now)) not_built c.args.rows.now c.requires.site.rules
    c.requires.full (sym c.if-not-are_filled.ensures) c.answered.ensures.edits (ap seating_view c.answered.ensures.seating) (ap answer_view c.answered.ensures.answer ∙ c.not_built.ensures)

pub write_all-requires-clause-fit : goal.write_all-requires-clause-fit
write_all-requires-clause-fit c = c.in_ok-changes.ensures.fit (keyed_stand c.args.site.table.now c.args.rows.now c.requires.keyed (sym c.if-not-are_filled.ensures))

pub write_all-requires-clause-last : goal.write_all-requires-clause-last
write_all-requires-clause-last c = c.in_ok-changes.ensures.lasting (keyed_stand c.args.site.table.now c.args.rows.now c.requires.keyed (sym c.if-not-are_filled.ensures))

pub write_all-requires-clause-filled : goal.write_all-requires-clause-filled
write_all-requires-clause-filled c = ap (list_all is_filled_change) c.in_ok-changes.ensures.exact ∙ gone_filled c.args.site.table.now c.args.within.now c.args.rows.now (sym c.if-not-are_filled.ensures)

pub write_all-requires-clause-counted : goal.write_all-requires-clause-counted
write_all-requires-clause-counted c = λ none. c.in_ok-changes.ensures.exact ∙ ap (map (gone c.args.site.table.now c.args.within.now)) (no_rows c.args.rows.now (length c.args.rows.now) refl none)

pub returns-clause-does : goal.returns-clause-does
returns-clause-does c =
    let t = c.args.site.table.now in
    let session = c.args.site.session.now in
    does_so c.args.site.image.now c.args.site.moment c.write_all.result c.args.site.session.now c.args.site.space.now (write_ascending session t (length c.args.rows.now) c.in_ok-changes.changes.items)
    (write_ascending session t (length c.args.rows.now) (map (gone t c.args.within.now) c.args.rows.now))
    (λ s w. ap (λ xs. write_ascending session t (length c.args.rows.now) xs s w) (sym c.in_ok-changes.ensures.exact)) c.write_all.ensures.does
