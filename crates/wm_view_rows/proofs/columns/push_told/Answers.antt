use Rattle.std.proofs.Common.{codes}
use Rattle.wm_view_rows.specs.Columns.{text_column, time_column}
use Rattle.wm_view_rows.proofs.Keys.{five_more}
use Rattle.wm_view_rows.proofs.columns.push_told.Goals as goal

pub returns : goal.returns
returns c =
    five_more c.args.list.now.items c.push_column.new.list.items c.push_column-2.new.list.items c.push_column-3.new.list.items c.push_column-4.new.list.items c.push_column-5.new.list.items
    (text_column c.args.source.now (codes "WM_WORKSPACE")) (text_column c.args.source.now (codes "WM_USERNAME")) (text_column c.args.source.now (codes "WM_OPTYPE"))
    (time_column c.args.source.now (codes "WM_CREATETIME")) (time_column c.args.source.now (codes "WM_RETIRETIME"))
    c.in_ok-push_column.ensures c.in_ok-push_column-2.ensures c.in_ok-push_column-3.ensures c.in_ok-push_column-4.ensures c.in_ok-push_column-5.ensures
