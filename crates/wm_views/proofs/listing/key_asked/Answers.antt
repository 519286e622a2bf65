use Rattle.std.proofs.Common.{sym, ap, ◌∙◌}
use Rattle.wm_syntax.specs.Views.{src_view}
use Rattle.wm_model.specs.Step.{source_name}
use Rattle.wm_view_rows.specs.Views.{view_named}
use Rattle.wm_views.proofs.Narrowing.{room_of_rows, rows_narrow}
use Rattle.wm_views.specs.Looking.{reading_view}
use Rattle.wm_views.proofs.listing.key_asked.Goals as goal

pub key_asked_at-requires-clause-room : goal.key_asked_at-requires-clause-room
key_asked_at-requires-clause-room c =
    room_of_rows (view_named c.args.source.now.table) (source_name (src_view c.args.source.now)) c.args.table.now c.args.before _
    (c.in-Rows.ensures ∙ ap view_named c.as_bytes.ensures) c.requires.room

pub returns-in-Version-clause-narrow : goal.returns-in-Version-clause-narrow
returns-in-Version-clause-narrow c =
    rows_narrow (view_named c.args.source.now.table) (reading_view c.args.reading) c.in-Version.field-0 c.key_asked_at.result (c.in-Rows.ensures ∙ ap view_named c.as_bytes.ensures) (ap reading_view (sym c.in-Version.is))
