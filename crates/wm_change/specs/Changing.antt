-- What is asked of changes of rows.
use Rattle.std.specs.Prelude.{Bool, true, ◌&&◌}
use Rattle.std.specs.List.{list_all}
use Rattle.std.specs.Option.{option_map_or}
use Rattle.wm_dml.specs.declared.change.RowChange.{RowChange}
use Rattle.wm_making.specs.Rows.{is_filled}

-- no text in the key is empty, nor in the row, where there is one
abbrev pub is_filled_change : RowChange → Bool
is_filled_change x = list_all is_filled x.key && option_map_or (list_all is_filled) x.row true
