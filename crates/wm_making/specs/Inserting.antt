-- INSERT: what it is refused for by its names and its types.
use Rattle.std.specs.Prelude.{ℕ, ◌+◌, Bool, false, not, ◌&&◌, ◌||◌, ◌==◌, length, if◌then◌else◌, List, [], ◌∷◌, slice_get, Option, Some, None, is_none, is_some, option_map}
use Rattle.std.specs.List.{find, list_any}
use Rattle.std.specs.Option.{option_or, option_and_then}
use Rattle.std.specs.Str.{bytes_eq}
use Rattle.wm_base.specs.declared.refusal.Refusal.{Refusal}
use Rattle.wm_base.specs.declared.refusal.Refusal.TheVariants.{Form}
use Rattle.wm_base.specs.declared.refusal.FormRefusal.TheVariants.{Wm013, Wm017}
use Rattle.wm_syntax.specs.Trees.{Expr}
use Rattle.wm_graph.specs.Rules.{type_of}
use Rattle.wm_spec.specs.Operands.{wm_valid}
use Rattle.wm_spec.specs.declared.record.column.ColumnKind.{ColumnKind}
use Rattle.wm_spec.specs.declared.record.column.TableColumn.{TableColumn}
use Rattle.wm_spec.specs.declared.record.table.Table.{Table}
use Rattle.wm_typing.specs.Names.{unknown_in_expr}
use Rattle.wm_typing.specs.Types.{expr_kind, mistyped_in_expr}
use Rattle.wm_making.specs.Creating.{misplaced, no_column, asked}

-- ---- names

abbrev pub has_name : List ℕ → TableColumn → Bool
has_name name c = bytes_eq name c.name

-- a column of the table, or that of periods, which may be named for any table
abbrev pub has_column : Table → List ℕ → Bool
has_column t name = list_any (has_name name) t.columns || bytes_eq name wm_valid

-- the first name of the list that is no column of the table and not WM_VALID, or stands there for the second time
abbrev pub bad_name : Table → Option (List (List ℕ)) → Option (List ℕ)
bad_name t None = None
bad_name t (Some names) = misplaced (has_column t) [] names

-- the first column that an expression of VALUES names: none stands there
abbrev pub column_in : List Expr → Option (List ℕ)
column_in [] = None
column_in (x ∷ xs) = option_or (unknown_in_expr [] x) (column_in xs)

-- ---- how many there are

-- a value is asked for each name, or for each column where none are named
abbrev pub values_asked : Table → Option (List (List ℕ)) → ℕ
values_asked t None = length t.columns
values_asked t (Some names) = length names

-- so many values may stand there: as many as are asked, or one more, for WM_VALID, where no columns are named and the table
-- has valid time
abbrev pub may_be_so_many : Table → Option (List (List ℕ)) → ℕ → Bool
may_be_so_many t None count = (count == length t.columns) || (t.valid && (count == length t.columns + 1))
may_be_so_many t (Some names) count = count == length names

-- ---- types

-- the declared column to which the value at this place goes; where there is none, the value goes to WM_VALID
abbrev pub column_for : Table → Option (List (List ℕ)) → ℕ → Option TableColumn
column_for t None place = slice_get t.columns place
column_for t (Some names) place = option_and_then (λ name. find (has_name name) t.columns) (slice_get names place)

-- NULL is of every type
abbrev pub suits : Option ℕ → ColumnKind → Bool
suits None kind = false
suits (Some k) kind = (k == 0) || (k == type_of kind)

-- the column, where the value is of another type, or else the first mark in the value that has an operand that is no number
abbrev pub misfit : Expr → TableColumn → Option (List ℕ)
misfit x c = if suits (expr_kind [] x) c.kind then mistyped_in_expr [] x else Some c.name

-- NULL is no period
abbrev pub is_period : Option ℕ → Bool
is_period None = false
is_period (Some kind) = kind == 4

-- what a value for WM_VALID gets wrong: a mark within it, or WM_VALID where it is no period
abbrev pub misfit_period : Expr → Option (List ℕ)
misfit_period x = if is_period (expr_kind [] x) then mistyped_in_expr [] x else Some wm_valid

-- what a value gets wrong that goes to a declared column, or to WM_VALID
abbrev pub misfit_in : Expr → Option TableColumn → Option (List ℕ)
misfit_in x (Some c) = misfit x c
misfit_in x None = misfit_period x

-- the first of them, from the value at this place on
abbrev pub misfit_from : Table → Option (List (List ℕ)) → ℕ → List Expr → Option (List ℕ)
misfit_from t names place [] = None
misfit_from t names place (x ∷ xs) = option_or (misfit_in x (column_for t names place)) (misfit_from t names (place + 1) xs)

-- ---- valid time

-- the value for WM_VALID, of those from this place on: the first that goes to no declared column
abbrev pub value_for_period : Table → Option (List (List ℕ)) → ℕ → List Expr → Option Expr
value_for_period t names place [] = None
value_for_period t names place (x ∷ xs) = if is_none (column_for t names place) then Some x else value_for_period t names (place + 1) xs

-- there is such a value, and the table has no valid time
abbrev pub has_no_place : Table → Option (List (List ℕ)) → List Expr → Bool
has_no_place t names xs = is_some (value_for_period t names 0 xs) && not t.valid

-- ---- all of them

abbrev pub no_type : List ℕ → Refusal
no_type name = Form (Wm013 name)

abbrev pub name_fault : Table → Option (List (List ℕ)) → List Expr → Option Refusal
name_fault t names xs = option_map no_column (option_or (bad_name t names) (column_in xs))

abbrev pub value_fault : Table → Option (List (List ℕ)) → List Expr → Option Refusal
value_fault t names xs =
    if may_be_so_many t names (length xs) then option_map no_type (misfit_from t names 0 xs) else Some (asked (values_asked t names))

abbrev pub no_valid_time : Table → Refusal
no_valid_time t = Form (Wm017 t.name)

-- a period for a row of a table that has no valid time
abbrev pub period_fault : Table → Option (List (List ℕ)) → List Expr → Option Refusal
period_fault t names xs = if has_no_place t names xs then Some (no_valid_time t) else None

-- what an INSERT into the table is refused for by what it names and by the types of its values
unfoldable pub insert_fault : Table → Option (List (List ℕ)) → List Expr → Option Refusal
insert_fault t names xs = option_or (name_fault t names xs) (option_or (value_fault t names xs) (period_fault t names xs))
