use Rattle.std.proofs.Common.{codes}
use Rattle.wm_view_rows.specs.Columns.{text_column}
use Rattle.wm_view_rows.proofs.Keys.{three_more}
use Rattle.wm_view_rows.proofs.columns.push_locked.Goals as goal

pub returns : goal.returns
returns c =
    three_more c.args.list.now.items c.push_column.new.list.items c.push_column-2.new.list.items c.push_column-3.new.list.items
    (text_column c.args.source.now (codes "WM_WORKSPACE")) (text_column c.args.source.now (codes "WM_LOCKMODE")) (text_column c.args.source.now (codes "WM_USERNAME"))
    c.in_ok-push_column.ensures c.in_ok-push_column-2.ensures c.in_ok-push_column-3.ensures
