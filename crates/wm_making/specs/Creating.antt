-- CREATE TABLE: what it makes, and what it is refused for by itself.
use Rattle.std.specs.Prelude.{ℕ, ◌+◌, Bool, true, false, not, ◌&&◌, ◌||◌, ◌==◌, nat_eq, nat_lt, length, if◌then◌else◌, List, [], ◌∷◌, ◌++◌, Option, Some, None, option_map, unwrap_or, is_some, codes}
use Rattle.std.specs.List.{list_any, list_all, position, starts_with, ends_with}
use Rattle.std.specs.Option.{option_or, option_map_or}
use Rattle.std.specs.Str.{bytes_eq}
use Rattle.wm_base.specs.declared.refusal.Refusal.{Refusal}
use Rattle.wm_base.specs.declared.refusal.Refusal.TheVariants as refusals
use Rattle.wm_base.specs.declared.refusal.FormRefusal.TheVariants.{Wm012, Wm014, Wm016}
use Rattle.wm_base.specs.declared.refusal.SpaceRefusal.TheVariants.{Wm024}
use Rattle.wm_syntax.specs.declared.statement.ColumnType.{ColumnType}
use Rattle.wm_syntax.specs.declared.statement.ColumnType.TheVariants as types
use Rattle.wm_syntax.specs.declared.statement.CreateItem.{CreateItem}
use Rattle.wm_syntax.specs.declared.statement.CreateItem.TheVariants.{Column, Primary}
use Rattle.wm_graph.specs.Rules.{is_short}
use Rattle.wm_spec.specs.declared.record.column.ColumnKind.{ColumnKind}
use Rattle.wm_spec.specs.declared.record.column.ColumnKind.TheVariants as kinds
use Rattle.wm_spec.specs.declared.record.column.TableColumn.{TableColumn}
use Rattle.wm_spec.specs.declared.record.table.Table.{Table}

-- ---- names

-- the item declares no column of a longer name
abbrev pub declares_short : CreateItem → Bool
declares_short (Column name of primary not_null) = is_short name
declares_short (Primary constraint key) = true

-- views have such names
abbrev pub names_view : List ℕ → Bool
names_view name =
    (ends_with nat_eq name (codes "_CONF") || ends_with nat_eq name (codes "_DIFF"))
    || (ends_with nat_eq name (codes "_HIST") || ends_with nat_eq name (codes "_LOCK"))

-- the product's own columns have such names
abbrev pub names_own_column : List ℕ → Bool
names_own_column name = starts_with nat_eq name (codes "WM_")

-- the first column that is declared under such a name
abbrev pub own_column : List CreateItem → Option (List ℕ)
own_column [] = None
own_column (Column name of primary not_null ∷ items) = if names_own_column name then Some name else own_column items
own_column (Primary constraint key ∷ items) = own_column items

-- the first reserved name: that of the table, or of a column
abbrev pub reserved_name : List ℕ → List CreateItem → Option (List ℕ)
reserved_name table items = if names_view table then Some table else own_column items

abbrev pub reserved : List ℕ → Refusal
reserved name = refusals.Space (Wm024 name)

-- what the names that would be made are refused for: one is too long, or is reserved
unfoldable pub names_fault : List ℕ → List CreateItem → Option Refusal
names_fault table items =
    if is_short table && list_all declares_short items then option_map reserved (reserved_name table items) else Some (refusals.Form (Wm016 30))

-- ---- shape

-- the item declares a column of this name
abbrev pub declares : List ℕ → CreateItem → Bool
declares name (Column other of primary not_null) = bytes_eq name other
declares name (Primary constraint key) = false

-- the first name that may not stand there, or stands there for the second time, behind the names that stand there already
abbrev pub misplaced : (List ℕ → Bool) → List (List ℕ) → List (List ℕ) → Option (List ℕ)
misplaced may before [] = None
misplaced may before (name ∷ names) =
    if may name && not (list_any (bytes_eq name) before) then misplaced may (before ++ name ∷ []) names else Some name

-- the first bad name of an item of the table, behind other items: it is declared for the second time, or the key names no column
-- of the table, or one for the second time
abbrev pub bad_column : List CreateItem → List CreateItem → CreateItem → Option (List ℕ)
bad_column table before (Column name of primary not_null) = if list_any (declares name) before then Some name else None
bad_column table before (Primary constraint key) = misplaced (λ name. list_any (declares name) table) [] key

-- the first one of the items, behind others
abbrev pub bad_columns : List CreateItem → List CreateItem → List CreateItem → Option (List ℕ)
bad_columns table before [] = None
bad_columns table before (item ∷ items) = option_or (bad_column table before item) (bad_columns table (before ++ item ∷ []) items)

-- how many columns the item declares
abbrev pub columns_in : CreateItem → ℕ
columns_in (Column name of primary not_null) = 1
columns_in (Primary constraint key) = 0

-- how many columns the item puts into the key
abbrev pub keys_in : CreateItem → ℕ
keys_in (Column name of primary not_null) = if primary then 1 else 0
keys_in (Primary constraint key) = length key

-- how many there may be, where an item brings too many behind so many columns and key columns: a 33rd column, or a second one of
-- the key
abbrev pub too_many : ℕ → ℕ → List CreateItem → Option ℕ
too_many columns keys [] = if columns == 0 then Some 1 else None
too_many columns keys (item ∷ items) =
    if nat_lt 32 (columns + columns_in item) then Some 32 else
    (if nat_lt 1 (keys + keys_in item) then Some 1 else too_many (columns + columns_in item) (keys + keys_in item) items)

abbrev pub no_column : List ℕ → Refusal
no_column name = refusals.Form (Wm012 name)

abbrev pub asked : ℕ → Refusal
asked count = refusals.Form (Wm014 count)

-- what the columns and the key are refused for
unfoldable pub shape_fault : List CreateItem → Option Refusal
shape_fault items = option_or (option_map no_column (bad_columns items [] items)) (option_map asked (too_many 0 0 items))

-- ---- the table

-- the name of the first column of the key
abbrev pub key_name : List CreateItem → Option (List ℕ)
key_name [] = None
key_name (Column name of primary not_null ∷ items) = if primary then Some name else key_name items
key_name (Primary constraint [] ∷ items) = key_name items
key_name (Primary constraint (name ∷ key) ∷ items) = Some name

abbrev pub kind_of : ColumnType → ColumnKind
kind_of types.Number = kinds.Number
kind_of (types.Text size) = kinds.Text
kind_of types.Time = kinds.Time

-- the most bytes of a text
abbrev pub size_of : ColumnType → ℕ
size_of types.Number = 0
size_of (types.Text size) = size
size_of types.Time = 0

-- the key is the column of this name
abbrev pub is_key : Option (List ℕ) → List ℕ → Bool
is_key key name = option_map_or (λ k. bytes_eq k name) key false

-- the columns that the items declare, of which one may be the key
abbrev pub columns_of : Option (List ℕ) → List CreateItem → List TableColumn
columns_of key [] = []
columns_of key (Column name of primary not_null ∷ items) =
    record { name = name; kind = kind_of of; size = size_of of; not_null = not_null || is_key key name } ∷ columns_of key items
columns_of key (Primary constraint names ∷ items) = columns_of key items

-- the place of the key among the columns
abbrev pub key_place : Option (List ℕ) → List TableColumn → ℕ
key_place key columns = unwrap_or (position (λ (c : TableColumn). is_key key c.name) columns) 0

-- the places of the key columns
abbrev pub key_places : Option (List ℕ) → List TableColumn → List ℕ
key_places key columns = if is_some key then key_place key columns ∷ [] else []

-- the table that the items declare
unfoldable pub table_of : ℕ → List ℕ → List CreateItem → Table
table_of number name items = record {
  number = number;
  name = name;
  versioned = false;
  valid = false;
  history = false;
  key_columns = key_places (key_name items) (columns_of (key_name items) items);
  columns = columns_of (key_name items) items;
}
