-- What UPDATE and DELETE get wrong.
use Rattle.std.specs.Prelude.{ℕ, Bool, false, ◌&&◌, ◌||◌, not, ◌==◌, List, [], ◌∷◌, ◌++◌, Option, None, Some, is_some, option_map, slice_get, bytes_eq}
use Rattle.std.specs.List.{list_any, find}
use Rattle.std.specs.Option.{option_or, option_map_or}
use Rattle.wm_listing.specs.declared.columns.Column.{Column}
use Rattle.wm_base.specs.declared.refusal.Refusal.{Refusal}
use Rattle.wm_syntax.specs.Trees.{Cond, Set}
use Rattle.wm_spec.specs.declared.record.column.TableColumn.{TableColumn}
use Rattle.wm_spec.specs.declared.record.table.Table.{Table}
use Rattle.wm_typing.specs.Columns.{columns_of_table}
use Rattle.wm_typing.specs.Lacking.{lacking_in_filter, lacks_in_sets}
use Rattle.wm_typing.specs.Names.{kind_named, unless, unknown_in_expr, unknown_in_filter}
use Rattle.wm_typing.specs.Refusals.{first_refusal}
use Rattle.wm_typing.specs.Types.{expr_kind, mistyped_in_expr, mistyped_in_filter}

-- ---- names

-- the name is that of exactly one column, or WM_VALID, and was not set before
abbrev pub may_set : List Column → List Set → List ℕ → Bool
may_set columns before name = is_some (kind_named None name columns) && not (list_any (λ (s : Set). bytes_eq s.name name) before)

-- the column that is set stands before the columns that its value names
abbrev pub unknown_in_set : List Column → List Set → Set → Option (List ℕ)
unknown_in_set columns before set = option_or (unless (may_set columns before set.name) set.name) (unknown_in_expr columns set.becomes)

-- a name that is set twice is wrong at its second place
abbrev pub unknown_in_sets : List Column → List Set → List Set → Option (List ℕ)
unknown_in_sets columns before [] = None
unknown_in_sets columns before (set ∷ sets) = option_or (unknown_in_set columns before set) (unknown_in_sets columns (before ++ set ∷ []) sets)

-- ---- types

-- a value may stand in a column: it has the column's type, or it is NULL and the column is not that of periods
abbrev pub may_stand : Option ℕ → Option ℕ → Bool
may_stand (Some column) (Some kind) = (kind == column) || ((kind == 0) && not (column == 4))
may_stand _ _ = false

-- a value that does not fit its column begins no later than a mark in it
abbrev pub mistyped_in_set : List Column → Set → Option (List ℕ)
mistyped_in_set columns set =
    option_or (unless (may_stand (kind_named None set.name columns) (expr_kind columns set.becomes)) set.name) (mistyped_in_expr columns set.becomes)

abbrev pub mistyped_in_sets : List Column → List Set → Option (List ℕ)
mistyped_in_sets columns [] = None
mistyped_in_sets columns (set ∷ sets) = option_or (mistyped_in_set columns set) (mistyped_in_sets columns sets)

-- ---- keys

-- the column at the place has the name
abbrev pub is_named_at : List TableColumn → List ℕ → ℕ → Bool
is_named_at columns name place = option_map_or (λ (c : TableColumn). bytes_eq c.name name) (slice_get columns place) false

-- the name is that of a key column
abbrev pub is_key : Table → List ℕ → Bool
is_key table name = list_any (is_named_at table.columns name) table.key_columns

-- the first key column that is set
abbrev pub key_set : Table → List Set → Option (List ℕ)
key_set table sets = option_map (λ (s : Set). s.name) (find (λ (s : Set). is_key table s.name) sets)

-- ---- valid time

-- the table, where WM_VALID is named in the condition and the table has none
abbrev pub lacking_where : List Column → Table → Option Cond → Option (List ℕ)
lacking_where columns table filter = unless (not (is_some (lacking_in_filter columns filter))) table.name

-- the table, where WM_VALID is named in the condition or in what is set and the table has none
abbrev pub lacking_anywhere : List Column → Table → List Set → Option Cond → Option (List ℕ)
lacking_anywhere columns table sets filter = option_or (unless (not (lacks_in_sets columns sets)) table.name) (lacking_where columns table filter)

-- ---- the first refusal

abbrev pub update_fault_in : List Column → Table → List Set → Option Cond → Option Refusal
update_fault_in columns table sets filter =
    first_refusal
    (option_or (unknown_in_sets columns [] sets) (unknown_in_filter columns filter))
    (option_or (mistyped_in_sets columns sets) (mistyped_in_filter columns filter))
    (key_set table sets)
    (lacking_anywhere columns table sets filter)

-- why an UPDATE of the table is refused for its names and types
unfoldable pub update_fault : Table → List Set → Option Cond → Option Refusal
update_fault table sets filter = update_fault_in (columns_of_table table.name table) table sets filter

abbrev pub delete_fault_in : List Column → Table → Option Cond → Option Refusal
delete_fault_in columns table filter = first_refusal (unknown_in_filter columns filter) (mistyped_in_filter columns filter) None (lacking_where columns table filter)

-- why a DELETE from the table is refused likewise
unfoldable pub delete_fault : Table → Option Cond → Option Refusal
delete_fault table filter = delete_fault_in (columns_of_table table.name table) table filter
