use Rattle.std.proofs.Common.{◌≡◌, List, true, IfOk, sym, subst}
use Rattle.wm_base.specs.declared.row.Row.{Row}
use Rattle.wm_graph.specs.Parts.{parts_of}
use Rattle.wm_view_rows.specs.declared.view.View.{View}
use Rattle.wm_views.proofs.Narrowing.{whole_conflicts, whole_differences, whole_history, whole_locks}
use Rattle.wm_views.specs.Looking.{look_view}
use Rattle.wm_views.specs.Narrowed.{AreShown, may_narrow}
use Rattle.wm_views.proofs.listing.rows_seen.Goals as goal

pub rows_shown-requires-clause-narrow : goal.rows_shown-requires-clause-narrow
rows_shown-requires-clause-narrow c = subst (λ (v : View). may_narrow v ((look_view (parts_of c.args.image.now) c.args.look.now).reading c.args.table.now) c.args.key ≡ true) c.in-Rows.is c.requires.narrow

pub returns-in-Rows : goal.returns-in-Rows
returns-in-Rows c =
    subst (λ (v : View). IfOk c.rows_shown.result (λ (rows : List Row). AreShown (parts_of c.args.image.now) (look_view (parts_of c.args.image.now) c.args.look.now) v c.args.table.now c.args.key rows)) (sym c.in-Rows.is) c.rows_shown.ensures

pub returns-in-Conflicts : goal.returns-in-Conflicts
returns-in-Conflicts c =
    subst (λ (v : View). IfOk c.conflicts_shown.result (λ (rows : List Row). AreShown (parts_of c.args.image.now) (look_view (parts_of c.args.image.now) c.args.look.now) v c.args.table.now c.args.key rows)) (sym c.in-Conflicts.is)
    (whole_conflicts (parts_of c.args.image.now) (look_view (parts_of c.args.image.now) c.args.look.now) c.args.table.now c.args.key c.conflicts_shown.result
    (subst (λ (v : View). may_narrow v ((look_view (parts_of c.args.image.now) c.args.look.now).reading c.args.table.now) c.args.key ≡ true) c.in-Conflicts.is c.requires.narrow) c.conflicts_shown.ensures)

pub returns-in-Differences : goal.returns-in-Differences
returns-in-Differences c =
    subst (λ (v : View). IfOk c.differences_shown.result (λ (rows : List Row). AreShown (parts_of c.args.image.now) (look_view (parts_of c.args.image.now) c.args.look.now) v c.args.table.now c.args.key rows)) (sym c.in-Differences.is)
    (whole_differences (parts_of c.args.image.now) (look_view (parts_of c.args.image.now) c.args.look.now) c.args.table.now c.args.key c.differences_shown.result
    (subst (λ (v : View). may_narrow v ((look_view (parts_of c.args.image.now) c.args.look.now).reading c.args.table.now) c.args.key ≡ true) c.in-Differences.is c.requires.narrow) c.differences_shown.ensures)

pub returns-in-History : goal.returns-in-History
returns-in-History c =
    subst (λ (v : View). IfOk c.history_view.result (λ (rows : List Row). AreShown (parts_of c.args.image.now) (look_view (parts_of c.args.image.now) c.args.look.now) v c.args.table.now c.args.key rows)) (sym c.in-History.is)
    (whole_history (parts_of c.args.image.now) (look_view (parts_of c.args.image.now) c.args.look.now) c.args.table.now c.args.key c.history_view.result
    (subst (λ (v : View). may_narrow v ((look_view (parts_of c.args.image.now) c.args.look.now).reading c.args.table.now) c.args.key ≡ true) c.in-History.is c.requires.narrow) c.history_view.ensures)

pub returns-in-Locks : goal.returns-in-Locks
returns-in-Locks c =
    subst (λ (v : View). IfOk c.locks_shown.result (λ (rows : List Row). AreShown (parts_of c.args.image.now) (look_view (parts_of c.args.image.now) c.args.look.now) v c.args.table.now c.args.key rows)) (sym c.in-Locks.is)
    (whole_locks (parts_of c.args.image.now) (look_view (parts_of c.args.image.now) c.args.look.now) c.args.table.now c.args.key c.locks_shown.result
    (subst (λ (v : View). may_narrow v ((look_view (parts_of c.args.image.now) c.args.look.now).reading c.args.table.now) c.args.key ≡ true) c.in-Locks.is c.requires.narrow) c.locks_shown.ensures)
