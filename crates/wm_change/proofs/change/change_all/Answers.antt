use Rattle.std.proofs.Common.{length, refl, sym, ap, ◌∙◌}
use Rattle.std.specs.List.{list_all}
use Rattle.wm_syntax.specs.Views.{sets_view}
use Rattle.wm_dml.specs.Moving.{moved_row}
use Rattle.wm_dml.specs.declared.moving.Move.{Move}
use Rattle.wm_model.proofs.Changing.{changes_moved, changes_replaced}
use Rattle.wm_model.specs.Step.{change_all, move_all, write_ascending}
use Rattle.wm_change.proofs.Acting.{does_so}
use Rattle.wm_change.proofs.Filled.{replacing_filled}
use Rattle.wm_change.proofs.MovedRows.{moved_filled}
use Rattle.wm_dml.specs.Changing.{replacing}
use Rattle.wm_change.proofs.Counted.{no_rows}
use Rattle.wm_change.specs.Changing.{is_filled_change}
use Rattle.wm_change.proofs.change.change_all.Goals as goal

pub move_all-requires-clause-fit : goal.move_all-requires-clause-fit
move_all-requires-clause-fit c = c.in_ok-moves.ensures.fit c.requires.may_replace.stand

pub move_all-requires-clause-filled : goal.move_all-requires-clause-filled
move_all-requires-clause-filled c =
    ap (list_all (λ (m : Move). is_filled_change (moved_row m))) c.in_ok-moves.ensures.exact
    ∙ moved_filled c.args.site.table.now (sets_view c.args.sets.now) c.args.rows.now c.args.news.items c.requires.may_replace.stand

pub returns-then-sets_period-clause-does : goal.returns-then-sets_period-clause-does
returns-then-sets_period-clause-does c =
    does_so c.args.site.image.now c.args.site.moment c.move_all.result c.args.site.session.now c.args.site.space.now (move_all c.args.site.session.now c.args.site.table.now c.in_ok-moves.moves.items)
    (change_all c.args.site.session.now c.args.site.table.now c.args.within.now (sets_view c.args.sets.now) c.args.rows.now c.args.news.items)
    (λ s w.
    changes_moved c.args.site.session.now c.args.site.table.now c.args.within.now (sets_view c.args.sets.now) c.args.rows.now c.args.news.items s w (sym c.if-sets_period.ensures)
    ∙ ap (λ ms. move_all c.args.site.session.now c.args.site.table.now ms s w) (sym c.in_ok-moves.ensures.exact))
    c.move_all.ensures.does

pub write_all-requires-clause-fit : goal.write_all-requires-clause-fit
write_all-requires-clause-fit c = c.in_ok-changes.ensures.fit c.requires.may_replace.stand

pub write_all-requires-clause-last : goal.write_all-requires-clause-last
write_all-requires-clause-last c = c.in_ok-changes.ensures.lasting c.requires.stand

pub write_all-requires-clause-counted : goal.write_all-requires-clause-counted
write_all-requires-clause-counted c = λ none.
    c.in_ok-changes.ensures.exact ∙ ap (λ rows. replacing c.args.site.table.now c.args.within.now rows c.args.news.items) (no_rows c.args.rows.now (length c.args.rows.now) refl none)

pub write_all-requires-clause-filled : goal.write_all-requires-clause-filled
write_all-requires-clause-filled c =
    ap (list_all is_filled_change) c.in_ok-changes.ensures.exact ∙ replacing_filled c.args.site.table.now c.args.within.now c.args.rows.now c.args.news.items c.requires.may_replace.stand

pub returns-clause-does : goal.returns-clause-does
returns-clause-does c =
    does_so c.args.site.image.now c.args.site.moment c.write_all.result c.args.site.session.now c.args.site.space.now (write_ascending c.args.site.session.now c.args.site.table.now (length c.args.rows.now) c.in_ok-changes.changes.items)
    (change_all c.args.site.session.now c.args.site.table.now c.args.within.now (sets_view c.args.sets.now) c.args.rows.now c.args.news.items)
    (λ s w.
    changes_replaced c.args.site.session.now c.args.site.table.now c.args.within.now (sets_view c.args.sets.now) c.args.rows.now c.args.news.items s w (sym c.if-sets_period.ensures)
    ∙ ap (λ xs. write_ascending c.args.site.session.now c.args.site.table.now (length c.args.rows.now) xs s w) (sym c.in_ok-changes.ensures.exact))
    c.write_all.ensures.does
