use Rattle.std.proofs.Common.{List, ◌++◌, ◌∷◌, [], ap, codes, ◌∙◌}
use Rattle.wm_listing.specs.declared.columns.Column.{Column as OneColumn}
use Rattle.wm_view_rows.specs.Columns.{text_column}
use Rattle.wm_view_rows.proofs.Keys.{two_more}
use Rattle.wm_view_rows.proofs.columns.difference_columns.Goals as goal

pub returns : goal.returns
returns c =
    let version : OneColumn = text_column c.args.source.now (codes "WM_DIFFVER") in
    let code : OneColumn = text_column c.args.source.now (codes "WM_CODE") in
    c.from_vec.ensures
    ∙ two_more c.into_vec-list.result.items c.push_column.new.list.items c.push_column-2.new.list.items version code c.in_ok-push_column.ensures c.in_ok-push_column-2.ensures
    ∙ ap (λ (columns : List OneColumn). columns ++ version ∷ code ∷ []) (c.into_vec-list.ensures ∙ c.in_ok-columns_of_table.ensures)
