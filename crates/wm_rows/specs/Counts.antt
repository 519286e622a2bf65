-- How many versions store pieces of each key.
use Rattle.std.specs.Prelude.{ℕ, ◌≡◌, nat_lt, if◌then◌else◌, List, Option, Some, IsSome, is_some, unwrap_or}
use Rattle.std.specs.BTreeMap.{is_at}
use Rattle.std.specs.Bool.{then_some}
use Rattle.std.specs.List.{sum_by}
use Rattle.std.specs.List.Sorted.{IsStrictlySortedBy}
use Rattle.std.specs.Map.{lookup, keys_of, values_of}
use Rattle.std.specs.Ordering.{nat_cmp}
use Rattle.wm_base.specs.Key.{key_order}
use Rattle.wm_base.specs.declared.value.Value.{Value}
use Rattle.wm_period.specs.Pieces.{held_at}
use Rattle.wm_period.specs.declared.piece.Piece.{Piece}
use Rattle.wm_rows.specs.Maps.{map_at}
use Rattle.wm_rows.specs.Rows.{Groups, Layers, group_in, group_of}
use Rattle.wm_rows.specs.declared.row_key.RowKey.{RowKey}

-- a count for each key of a table that has one, by table
abbrev pub Counts : Type 0
Counts = List (ℕ × List (List Value × ℕ))

-- the count of a key, where it has one
abbrev pub entry_at : Counts → ℕ → List Value → Option ℕ
entry_at counts table key = lookup (is_at (key_order key)) (map_at counts table)

-- the count of a key, 0 where it has none
abbrev pub count_at : Counts → ℕ → List Value → ℕ
count_at counts table key = unwrap_or (entry_at counts table key) 0

-- a count, where it is not 0
abbrev pub positive : ℕ → Option ℕ
positive n = then_some (nat_lt 0 n) n

-- 1 where a version's groups have one of a row
abbrev pub stores : RowKey → Groups → ℕ
stores row groups = if is_some (group_in groups row) then 1 else 0

-- how many versions store a group of a row
abbrev pub times : Layers → RowKey → ℕ
times layers row = sum_by (stores row) (values_of layers)

-- pieces hold something at some moment
abbrev pub HasTime : List Piece → Type 0
HasTime pieces = (t : ℕ) × IsSome (held_at pieces t)

-- the counts are those of the layers, which stand in order, and each group holds something
pub record Counted (layers : Layers) (counts : Counts) : Type 0 where
  pub exact : (table : ℕ) (key : List Value) → entry_at counts table key ≡ positive (times layers (record { table = table; key = key }))
  pub order : IsStrictlySortedBy nat_cmp (keys_of layers)
  pub full : (version : ℕ) (row : RowKey) (pieces : List Piece) → group_of layers version row ≡ Some pieces → HasTime pieces
