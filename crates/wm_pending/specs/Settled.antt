-- What marks settle, as the code asks for them.
use Rattle.std.specs.Prelude.{Bool, false, ◌&&◌, not, nat_le, nat_lt, List, Option, Some, None}
use Rattle.std.specs.List.{list_any}
use Rattle.wm_graph.specs.Parts.{Parts}
use Rattle.wm_spec.specs.Lists.{Cell}
use Rattle.wm_spec.specs.declared.record.trace.Trace.{Trace}
use Rattle.wm_state.specs.Standing.{in_cells}
use Rattle.wm_pending.specs.Touched.{is_since, is_touched, since_position}
use Rattle.wm_pending.specs.declared.touched.Since.{Since}

-- a mark that is meant covers the cell, and no touch does since the position of the mark
abbrev pub settles : List Trace → Since → Since → Cell → Trace → Bool
settles touches marks since c x = (is_since marks x && in_cells x.cells c) && not (is_touched touches (since_position since x.position) c)

-- so does one of the marks
abbrev pub is_settled : Parts → Since → Since → Cell → Bool
is_settled p marks since c = list_any (settles p.touches marks since c) p.marks

-- a mark that is meant covers the moment of a cell, and no touch covers the cell since its position
abbrev pub settles_moment : List Trace → Since → Since → Cell → Trace → Bool
settles_moment touches marks since c x =
    (is_since marks x && (nat_le x.cells.from c.time && nat_lt c.time x.cells.till)) && not (is_touched touches (since_position since x.position) c)

-- so does a mark, where there is one
abbrev pub settles_at : List Trace → Since → Since → Cell → Option Trace → Bool
settles_at touches marks since c None = false
settles_at touches marks since c (Some x) = settles_moment touches marks since c x
