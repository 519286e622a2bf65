-- What a query gets wrong.
use Rattle.std.specs.Prelude.{ℕ, Bool, true, ◌||◌, not, ◌==◌, List, [], ◌∷◌, Option, None, Some, codes}
use Rattle.std.specs.List.{list_all}
use Rattle.std.specs.Option.{option_or}
use Rattle.wm_listing.specs.declared.columns.Column.{Column}
use Rattle.wm_base.specs.declared.refusal.Refusal.{Refusal}
use Rattle.wm_syntax.specs.declared.query.Agg.{Agg}
use Rattle.wm_syntax.specs.declared.query.Agg.TheVariants.{Count, Sum, Min, Max}
use Rattle.wm_syntax.specs.Trees.{Item, Plain, CountAll, Aggregate, Out, Projection, All, Outs, Src, Query, is_grouped}
use Rattle.wm_query_faults.specs.Items.{unknown_in_projection, unknown_in_cols, unknown_in_orders}
use Rattle.wm_query_faults.specs.Lacking.{table_lacking}
use Rattle.wm_typing.specs.Names.{unless, unknown_in_filter}
use Rattle.wm_typing.specs.Refusals.{first_refusal}
use Rattle.wm_typing.specs.Types.{expr_kind, is_number, mistyped_in_expr, mistyped_in_filter, is_filter_typed}

-- ---- names

-- in the conditions behind JOIN, which may name each source
abbrev pub unknown_in_sources : List Column → List Src → Option (List ℕ)
unknown_in_sources columns [] = None
unknown_in_sources columns (source ∷ sources) = option_or (unknown_in_filter columns source.on) (unknown_in_sources columns sources)

-- before ORDER BY
abbrev pub unknown_before : List Column → Query → Option (List ℕ)
unknown_before columns query =
    option_or (unknown_in_projection columns (is_grouped query) query.groups query.projection)
    (option_or (unknown_in_sources columns query.sources) (option_or (unknown_in_filter columns query.filter) (unknown_in_cols columns query.groups)))

abbrev pub unknown_in_query : List Column → Query → Option (List ℕ)
unknown_in_query columns query =
    option_or (unknown_before columns query) (unknown_in_orders columns (is_grouped query || query.distinct) query.projection query.orders)

-- ---- types

abbrev pub is_no_period : Option ℕ → Bool
is_no_period None = true
is_no_period (Some kind) = not (kind == 4)

-- SUM takes numbers, MIN and MAX take no periods
abbrev pub takes : Agg → Option ℕ → Bool
takes Count kind = true
takes Sum kind = is_number kind
takes Min kind = is_no_period kind
takes Max kind = is_no_period kind

abbrev pub agg_text : Agg → List ℕ
agg_text Count = codes "COUNT"
agg_text Sum = codes "SUM"
agg_text Min = codes "MIN"
agg_text Max = codes "MAX"

-- the aggregate stands before the marks of its operand
abbrev pub mistyped_in_item : List Column → Item → Option (List ℕ)
mistyped_in_item columns (Plain x) = mistyped_in_expr columns x
mistyped_in_item columns CountAll = None
mistyped_in_item columns (Aggregate agg x) = option_or (unless (takes agg (expr_kind columns x)) (agg_text agg)) (mistyped_in_expr columns x)

abbrev pub mistyped_in_outs : List Column → List Out → Option (List ℕ)
mistyped_in_outs columns [] = None
mistyped_in_outs columns (out ∷ outs) = option_or (mistyped_in_item columns out.item) (mistyped_in_outs columns outs)

abbrev pub mistyped_in_projection : List Column → Projection → Option (List ℕ)
mistyped_in_projection columns All = None
mistyped_in_projection columns (Outs outs) = mistyped_in_outs columns outs

abbrev pub mistyped_in_sources : List Column → List Src → Option (List ℕ)
mistyped_in_sources columns [] = None
mistyped_in_sources columns (source ∷ sources) = option_or (mistyped_in_filter columns source.on) (mistyped_in_sources columns sources)

abbrev pub mistyped_in_query : List Column → Query → Option (List ℕ)
mistyped_in_query columns query =
    option_or (mistyped_in_projection columns query.projection) (option_or (mistyped_in_sources columns query.sources) (mistyped_in_filter columns query.filter))

-- each condition behind JOIN is typed for the columns
abbrev pub are_sources_typed : List Column → List Src → Bool
are_sources_typed columns sources = list_all (λ (source : Src). is_filter_typed columns source.on) sources

-- ---- the first refusal

abbrev pub query_fault_in : List Column → Query → Option Refusal
query_fault_in columns query = first_refusal (unknown_in_query columns query) (mistyped_in_query columns query) None (table_lacking columns query)

-- why a query over these columns, those of all its sources in order, is refused for its names and types
unfoldable pub query_fault : List Column → Query → Option Refusal
query_fault columns query = query_fault_in columns query
