use Rattle.std.proofs.Common.{◌∷◌, [], sym, ap, ◌∙◌}
use Rattle.std.specs.List.{list_all}
use Rattle.wm_dml.specs.Changing.{added}
use Rattle.wm_dml.specs.Standing.{change_lasts, is_change}
use Rattle.wm_graph.specs.Parts.{parts_of}
use Rattle.wm_state.specs.Standing.{latest}
use Rattle.wm_model.specs.Step.{key_there, write_ascending}
use Rattle.wm_change.proofs.Acting.{does_so}
use Rattle.wm_change.proofs.Adding.{add_new, add_there}
use Rattle.wm_change.proofs.Filled.{added_filled}
use Rattle.wm_change.proofs.Inserting.{added_fits, added_lasts}
use Rattle.wm_change.specs.Changing.{is_filled_change}
use Rattle.wm_plan.specs.Views.{answer_view, seating_view}
use Rattle.wm_change.proofs.insert.add_to.Goals as goal

pub returns-in-Some-clause-does : goal.returns-in-Some-clause-does
returns-in-Some-clause-does c =
    add_there c.args.site.image.now c.args.site.moment c.answered.result c.args.site.session.now c.args.site.space.now c.args.site.table.now c.args.period c.in-Some.shared c.args.row c.in_ok-change.change.key c.latest-version.result c.in_ok-shared.shared c.requires.site.rules
    (c.latest-version.ensures ∙ ap (latest (parts_of c.args.site.image.now)) c.space.ensures) c.in_ok-shared.ensures (ap (λ x. x.key) c.in_ok-change.ensures) c.in-Some.is c.answered.ensures.edits (ap seating_view c.answered.ensures.seating)
    (ap answer_view c.answered.ensures.answer ∙ c.key_there.ensures ∙ ap (key_there c.in_ok-change.change.key) c.told_period-told.ensures)

pub write_all-requires-clause-fit : goal.write_all-requires-clause-fit
write_all-requires-clause-fit c = ap (list_all (is_change c.args.site.table.now)) (c.in_ok-changes.ensures ∙ ap (λ x. x ∷ []) c.in_ok-change.ensures) ∙ added_fits c.args.site.table.now c.args.period c.args.row c.requires.keyed

pub write_all-requires-clause-last : goal.write_all-requires-clause-last
write_all-requires-clause-last c = ap (list_all change_lasts) (c.in_ok-changes.ensures ∙ ap (λ x. x ∷ []) c.in_ok-change.ensures) ∙ added_lasts c.args.site.table.now c.args.period c.args.row c.till-till.ensures.order c.till-till.ensures.bound

pub write_all-requires-clause-filled : goal.write_all-requires-clause-filled
write_all-requires-clause-filled c = ap (list_all is_filled_change) (c.in_ok-changes.ensures ∙ ap (λ x. x ∷ []) c.in_ok-change.ensures) ∙ added_filled c.args.site.table.now c.args.period c.args.row c.requires.filled

pub returns-clause-does : goal.returns-clause-does
returns-clause-does c =
    add_new c.args.site.image.now c.args.site.moment c.write_all.result c.args.site.session.now c.args.site.space.now c.args.site.table.now c.args.period c.args.row c.in_ok-change.change.key c.latest-version.result c.in_ok-shared.shared
    (c.latest-version.ensures ∙ ap (latest (parts_of c.args.site.image.now)) c.space.ensures) c.in_ok-shared.ensures (ap (λ x. x.key) c.in_ok-change.ensures) c.in_default.is
    (does_so c.args.site.image.now c.args.site.moment c.write_all.result c.args.site.session.now c.args.site.space.now (write_ascending c.args.site.session.now c.args.site.table.now 1 c.in_ok-changes.changes.items)
    (write_ascending c.args.site.session.now c.args.site.table.now 1 (added c.args.site.table.now c.args.period c.args.row ∷ []))
    (λ s w. ap (λ xs. write_ascending c.args.site.session.now c.args.site.table.now 1 xs s w) (sym (c.in_ok-changes.ensures ∙ ap (λ x. x ∷ []) c.in_ok-change.ensures))) c.write_all.ensures.does)
