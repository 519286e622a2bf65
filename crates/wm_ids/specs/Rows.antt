-- The ids of rows, by stamp.
use Rattle.std.specs.Prelude.{ℕ, List, [], ◌∷◌, Option, Some, None}
use Rattle.std.specs.Ordering.{nat_cmp}
use Rattle.wm_chunks.specs.Numbers.{value_at}
use Rattle.wm_ids.specs.Ids.{ids_in}
use Rattle.wm_ids.specs.declared.rows.RowIds.{RowIds}

-- an id alone, or else others
abbrev pub one_or : Option ℕ → List ℕ → List ℕ
one_or None ids = ids
one_or (Some id) ids = id ∷ []

-- the ids of a stamp
abbrev pub row_ids : RowIds → ℕ → List ℕ
row_ids rows stamp = one_or (value_at rows.one.entries stamp) (ids_in nat_cmp rows.several.entries stamp)
