-- The columns that the items of a query, GROUP BY and ORDER BY name.
use Rattle.std.specs.Prelude.{ℕ, zero, suc, Bool, true, false, ◌&&◌, ◌||◌, not, ◌==◌, nat_lt, List, [], ◌∷◌, length, Option, None, Some, is_none, bytes_eq, if◌then◌else◌, ℤ, pos, negsuc}
use Rattle.std.specs.Fmt.{signed_decimal}
use Rattle.std.specs.List.{list_any, count_by}
use Rattle.std.specs.Option.{option_or}
use Rattle.wm_listing.specs.declared.columns.Column.{Column}
use Rattle.wm_syntax.specs.declared.column.Col.{Col}
use Rattle.wm_syntax.specs.declared.column.Suffix.{Suffix}
use Rattle.wm_syntax.specs.declared.column.Suffix.TheVariants.{ValidFrom, ValidTill}
use Rattle.wm_syntax.specs.declared.operand.Operand.{Operand}
use Rattle.wm_syntax.specs.declared.operand.Operand.TheVariants as operands
use Rattle.wm_syntax.specs.declared.query.Order.{Order}
use Rattle.wm_syntax.specs.declared.query.OrderBy.{OrderBy}
use Rattle.wm_syntax.specs.declared.query.OrderBy.TheVariants as orders
use Rattle.wm_syntax.specs.Trees.{Expr, Of, Neg, Add, Sub, Mul, Item, Plain, CountAll, Aggregate, Out, Projection, All, Outs}
use Rattle.wm_spec.specs.Operands.{is_of_source, is_named}
use Rattle.wm_typing.specs.Names.{lacks_period, unless, unknown_col, unknown_in_expr}

-- ---- one column, named in two places

abbrev pub is_same_end : Option Suffix → Option Suffix → Bool
is_same_end None None = true
is_same_end (Some ValidFrom) (Some ValidFrom) = true
is_same_end (Some ValidTill) (Some ValidTill) = true
is_same_end _ _ = false

-- both name one of these columns
abbrev pub name_one : List Column → Col → Col → Bool
name_one columns c d = list_any (λ column. is_named c.source c.name column && is_named d.source d.name column) columns

-- both may mean one source
abbrev pub share_source : List Column → Col → Col → Bool
share_source columns c d = list_any (λ column. is_of_source c.source column && is_of_source d.source column) columns

-- both name WM_VALID, may mean one source, and it is no column there
abbrev pub lack_one : List Column → Col → Col → Bool
lack_one columns c d = (lacks_period c.source c.name columns && lacks_period d.source d.name columns) && share_source columns c d

-- both name one column, or one end of it; WM_VALID goes by its name, whether it is there or not
abbrev pub is_same_col : List Column → Col → Col → Bool
is_same_col columns c d = is_same_end c.suffix d.suffix && (name_one columns c d || lack_one columns c d)

-- one of these names means the column
abbrev pub is_among : List Column → Col → List Col → Bool
is_among columns col cols = list_any (is_same_col columns col) cols

-- the column that an operand is
abbrev pub col_of_operand : Operand → Option Col
col_of_operand (operands.Col col) = Some col
col_of_operand (operands.Const constant) = None
col_of_operand (operands.Test operator left right) = None

-- the column that an expression is, where it is nothing more
abbrev pub col_of : Expr → Option Col
col_of (Of operand) = col_of_operand operand
col_of (Neg x) = None
col_of (Add x y) = None
col_of (Sub x y) = None
col_of (Mul x y) = None

-- ---- items

-- a column alone is to be there and grouped by; in any other expression no column is allowed
abbrev pub ungrouped : List Column → List Col → Option Col → Expr → Option (List ℕ)
ungrouped columns groups None x = unknown_in_expr [] x
ungrouped columns groups (Some col) x = option_or (unknown_col columns col) (unless (is_among columns col groups) col.name)

-- an item of a query that is grouped, or is not
abbrev pub unknown_in_item : List Column → Bool → List Col → Item → Option (List ℕ)
unknown_in_item columns grouped groups (Plain x) = if grouped then ungrouped columns groups (col_of x) x else unknown_in_expr columns x
unknown_in_item columns grouped groups CountAll = None
unknown_in_item columns grouped groups (Aggregate agg x) = unknown_in_expr columns x

abbrev pub unknown_in_outs : List Column → Bool → List Col → List Out → Option (List ℕ)
unknown_in_outs columns grouped groups [] = None
unknown_in_outs columns grouped groups (out ∷ outs) = option_or (unknown_in_item columns grouped groups out.item) (unknown_in_outs columns grouped groups outs)

-- GROUP BY names the column, and not only an end of it
abbrev pub is_grouped_by : List Col → Column → Bool
is_grouped_by groups column = list_any (λ (c : Col). is_none c.suffix && is_named c.source c.name column) groups

-- the first of the columns that is not grouped by
abbrev pub ungrouped_column : List Col → List Column → Option (List ℕ)
ungrouped_column groups [] = None
ungrouped_column groups (column ∷ columns) = option_or (unless (is_grouped_by groups column) column.name) (ungrouped_column groups columns)

-- * stands for all the columns
abbrev pub unknown_in_projection : List Column → Bool → List Col → Projection → Option (List ℕ)
unknown_in_projection columns grouped groups All = if grouped then ungrouped_column groups columns else None
unknown_in_projection columns grouped groups (Outs outs) = unknown_in_outs columns grouped groups outs

-- ---- GROUP BY

abbrev pub unknown_in_cols : List Column → List Col → Option (List ℕ)
unknown_in_cols columns [] = None
unknown_in_cols columns (col ∷ cols) = option_or (unknown_col columns col) (unknown_in_cols columns cols)

-- ---- ORDER BY

-- how many items there are
abbrev pub item_count : List Column → Projection → ℕ
item_count columns All = length columns
item_count columns (Outs outs) = length outs

-- the place that a position from 1 names
abbrev pub place_of : ℤ → Option ℕ
place_of (pos zero) = None
place_of (pos (suc place)) = Some place
place_of (negsuc n) = None

abbrev pub is_below : Option ℕ → ℕ → Bool
is_below None count = false
is_below (Some place) count = nat_lt place count

abbrev pub has_name : List ℕ → Option (List ℕ) → Bool
has_name name None = false
has_name name (Some alias) = bytes_eq name alias

-- the name is the one that AS gives to the item
abbrev pub is_alias : Col → Out → Bool
is_alias col out = (is_none col.source && is_none col.suffix) && has_name col.name out.alias

-- to how many items AS gives the name
abbrev pub alias_count : Projection → Col → ℕ
alias_count All col = 0
alias_count (Outs outs) col = count_by (is_alias col) outs

abbrev pub is_col : List Column → Col → Option Col → Bool
is_col columns col None = false
is_col columns col (Some other) = is_same_col columns col other

-- the item is the column and nothing more
abbrev pub is_item_col : List Column → Col → Item → Bool
is_item_col columns col (Plain x) = is_col columns col (col_of x)
is_item_col columns col CountAll = false
is_item_col columns col (Aggregate agg x) = false

-- the column is an item; * gives each column that is there, and not its ends
abbrev pub is_item : List Column → Projection → Col → Bool
is_item columns All col = is_none col.suffix && not (lacks_period col.source col.name columns)
is_item columns (Outs outs) col = list_any (λ (o : Out). is_item_col columns col o.item) outs

-- a column of the sources; it is to be an item where the query is grouped or DISTINCT
abbrev pub unknown_by_col : List Column → Bool → Projection → Col → Option (List ℕ)
unknown_by_col columns shown projection col = option_or (unknown_col columns col) (unless (not shown || is_item columns projection col) col.name)

-- the name that AS gives to one item is that item, and the name that it gives to several is none
abbrev pub unknown_by_name : List Column → Bool → Projection → Col → Option (List ℕ)
unknown_by_name columns shown projection col =
    if alias_count projection col == 0 then unknown_by_col columns shown projection col else unless (alias_count projection col == 1) col.name

-- a position that is none is named in decimal
abbrev pub unknown_by : List Column → Bool → Projection → OrderBy → Option (List ℕ)
unknown_by columns shown projection (orders.Position position) = unless (is_below (place_of position) (item_count columns projection)) (signed_decimal position)
unknown_by columns shown projection (orders.Col col) = unknown_by_name columns shown projection col

abbrev pub unknown_in_orders : List Column → Bool → Projection → List Order → Option (List ℕ)
unknown_in_orders columns shown projection [] = None
unknown_in_orders columns shown projection (order ∷ orders) = option_or (unknown_by columns shown projection order.by) (unknown_in_orders columns shown projection orders)
