-- The first WM_VALID that a query names of a table without valid time, in the order of the tokens, and that table.
use Rattle.std.specs.Prelude.{ℕ, ◌==◌, List, [], ◌∷◌, Option, None, Some, unwrap_or, option_map, bytes_eq, if◌then◌else◌}
use Rattle.std.specs.Option.{option_or}
use Rattle.wm_listing.specs.declared.columns.Column.{Column}
use Rattle.wm_syntax.specs.declared.column.Col.{Col}
use Rattle.wm_syntax.specs.declared.query.Order.{Order}
use Rattle.wm_syntax.specs.declared.query.OrderBy.{OrderBy}
use Rattle.wm_syntax.specs.declared.query.OrderBy.TheVariants as orders
use Rattle.wm_syntax.specs.Trees.{Item, Plain, CountAll, Aggregate, Out, Projection, All, Outs, Src, Query}
use Rattle.wm_query_faults.specs.Items.{alias_count}
use Rattle.wm_typing.specs.Lacking.{Source, lacking_col, lacking_in_expr, lacking_in_filter}

-- ---- the source that stands before it

abbrev pub lacking_in_item : List Column → Item → Option Source
lacking_in_item columns (Plain x) = lacking_in_expr columns x
lacking_in_item columns CountAll = None
lacking_in_item columns (Aggregate agg x) = lacking_in_expr columns x

abbrev pub lacking_in_outs : List Column → List Out → Option Source
lacking_in_outs columns [] = None
lacking_in_outs columns (out ∷ outs) = option_or (lacking_in_item columns out.item) (lacking_in_outs columns outs)

-- * names no column
abbrev pub lacking_in_projection : List Column → Projection → Option Source
lacking_in_projection columns All = None
lacking_in_projection columns (Outs outs) = lacking_in_outs columns outs

abbrev pub lacking_in_sources : List Column → List Src → Option Source
lacking_in_sources columns [] = None
lacking_in_sources columns (source ∷ sources) = option_or (lacking_in_filter columns source.on) (lacking_in_sources columns sources)

abbrev pub lacking_in_cols : List Column → List Col → Option Source
lacking_in_cols columns [] = None
lacking_in_cols columns (col ∷ cols) = option_or (lacking_col columns col) (lacking_in_cols columns cols)

-- a name that AS gives is no column
abbrev pub lacking_by : List Column → Projection → OrderBy → Option Source
lacking_by columns projection (orders.Position position) = None
lacking_by columns projection (orders.Col col) = if alias_count projection col == 0 then lacking_col columns col else None

abbrev pub lacking_in_orders : List Column → Projection → List Order → Option Source
lacking_in_orders columns projection [] = None
lacking_in_orders columns projection (order ∷ orders) = option_or (lacking_by columns projection order.by) (lacking_in_orders columns projection orders)

-- GROUP BY, and then ORDER BY
abbrev pub lacking_behind : List Column → Query → Option Source
lacking_behind columns query = option_or (lacking_in_cols columns query.groups) (lacking_in_orders columns query.projection query.orders)

abbrev pub lacking_in_query : List Column → Query → Option Source
lacking_in_query columns query =
    option_or (lacking_in_projection columns query.projection)
    (option_or (lacking_in_sources columns query.sources) (option_or (lacking_in_filter columns query.filter) (lacking_behind columns query)))

-- ---- the table that is meant

-- a source goes by its alias, where it has one
abbrev pub label : Src → List ℕ
label source = unwrap_or source.alias source.table

-- the table of the first source of that name
abbrev pub table_of : List ℕ → List Src → List ℕ
table_of name [] = name
table_of name (source ∷ sources) = if bytes_eq name (label source) then source.table else table_of name sources

-- the table of the last source, and the one before them where there is none
abbrev pub last_table : List ℕ → List Src → List ℕ
last_table before [] = before
last_table before (source ∷ sources) = last_table source.table sources

-- the table of the source that stands before WM_VALID, and the last table where none does
abbrev pub table_meant : List Src → Source → List ℕ
table_meant sources None = last_table [] sources
table_meant sources (Some name) = table_of name sources

-- the table of the first WM_VALID that a query lacks
abbrev pub table_lacking : List Column → Query → Option (List ℕ)
table_lacking columns query = option_map (λ source. table_meant query.sources source) (lacking_in_query columns query)
