-- The readers of queries.
use Rattle.std.specs.Prelude.{ℕ, zero, suc, Bool, true, false, is_some, List, [], ◌∷◌, Option, Some, None, pos}
use Rattle.wm_syntax.specs.declared.column.Col.{Col}
use Rattle.wm_syntax.specs.declared.query.Agg.{Agg}
use Rattle.wm_syntax.specs.declared.query.Agg.TheVariants as aggs
use Rattle.wm_syntax.specs.declared.query.OrderBy.{OrderBy}
use Rattle.wm_syntax.specs.declared.query.OrderBy.TheVariants as keys
use Rattle.wm_syntax.specs.declared.query.Order.{Order}
use Rattle.wm_syntax.specs.Trees.{Cond, Item, Out, Projection, Src, Query, has_aggregate}
use Rattle.wm_syntax.specs.Trees as trees
use Rattle.wm_grammar.specs.Sorts as sorts
use Rattle.wm_grammar.specs.Reading.{Reader, gives_at, never_at, mark_at, ◌>>=◌, ◌>>◌, choose_at, optional_at, many_at, many_from_at}
use Rattle.wm_grammar.specs.OperandReaders.{id_at, integer_at, column_at}
use Rattle.wm_grammar.specs.ExpressionReaders.{expr_at, condition_at}
use Rattle.wm_grammar.specs.Queries.{room, one_less, is_alone}

abbrev pub next_at : {A : Type 0} → Reader A → Reader A
next_at item = do mark_at sorts.COMMA; item

abbrev pub list_of_at : {A : Type 0} → Reader A → Reader (List A)
list_of_at item = do
  first ← item
  others ← many_at (sorts.COMMA ∷ []) (next_at item)
  gives_at (first ∷ others)

abbrev pub filter_at : ℕ → Reader (Option Cond)
filter_at depth = optional_at (sorts.WHERE ∷ []) (do mark_at sorts.WHERE; condition_at depth)

unfoldable pub other_aggregate_at : Reader Agg
other_aggregate_at =
    choose_at (sorts.SUM ∷ []) (do mark_at sorts.SUM; gives_at aggs.Sum)
    (choose_at (sorts.MIN ∷ []) (do mark_at sorts.MIN; gives_at aggs.Min)
    (do mark_at sorts.MAX; gives_at aggs.Max))

unfoldable pub counted_at : ℕ → Reader Item
counted_at depth =
    choose_at (sorts.STAR ∷ []) (do mark_at sorts.STAR; mark_at sorts.CLOSE; gives_at trees.CountAll)
    (do e ← expr_at depth; mark_at sorts.CLOSE; gives_at (trees.Aggregate aggs.Count e))

abbrev pub other_aggregates : List ℕ
other_aggregates = sorts.SUM ∷ sorts.MIN ∷ sorts.MAX ∷ []

unfoldable pub query_item_at : ℕ → Reader Item
query_item_at depth =
    choose_at (sorts.COUNT ∷ []) (do mark_at sorts.COUNT; mark_at sorts.OPEN; counted_at depth)
    (choose_at other_aggregates (do agg ← other_aggregate_at; mark_at sorts.OPEN; e ← expr_at depth; mark_at sorts.CLOSE; gives_at (trees.Aggregate agg e))
    (do e ← expr_at depth; gives_at (trees.Plain e)))

unfoldable pub out_at : ℕ → Reader Out
out_at depth = do
  item ← query_item_at depth
  alias ← optional_at (sorts.AS ∷ []) (do mark_at sorts.AS; id_at)
  gives_at (record { item = item; alias = alias })

unfoldable pub projection_at : ℕ → Reader Projection
projection_at depth =
    choose_at (sorts.STAR ∷ []) (do mark_at sorts.STAR; gives_at trees.All)
    (do outs ← list_of_at (out_at depth); gives_at (trees.Outs outs))

unfoldable pub source_at : Reader Src
source_at = do
  table ← id_at
  alias ← optional_at (sorts.ID ∷ []) id_at
  gives_at (record { table = table; alias = alias; on = None })

unfoldable pub joined_at : ℕ → Reader Src
joined_at depth = do
  mark_at sorts.JOIN
  s ← source_at
  mark_at sorts.ON
  on ← condition_at depth
  gives_at (record { table = s.table; alias = s.alias; on = Some on })

unfoldable pub next_source_at : ℕ → ℕ → Reader Src
next_source_at depth zero = never_at
next_source_at depth (suc n) =
    choose_at (sorts.COMMA ∷ []) (do mark_at sorts.COMMA; source_at)
    (choose_at (sorts.INNER ∷ []) (do mark_at sorts.INNER; joined_at depth)
    (joined_at depth))

-- what begins another source, where so many may still come
abbrev pub separators : ℕ → List ℕ
separators zero = []
separators (suc n) = sorts.COMMA ∷ sorts.INNER ∷ sorts.JOIN ∷ []

unfoldable pub source_list_at : ℕ → Bool → Reader (List Src)
source_list_at depth aggregate = do
  first ← source_at
  others ← many_from_at one_less separators (next_source_at depth) (room aggregate)
  gives_at (first ∷ others)

unfoldable pub grouping_at : Bool → Reader (List Col)
grouping_at true = choose_at (sorts.GROUP ∷ []) (do mark_at sorts.GROUP; mark_at sorts.BY; list_of_at column_at) (gives_at [])
grouping_at false = gives_at []

unfoldable pub direction_at : Reader Bool
direction_at =
    choose_at (sorts.ASC ∷ []) (do mark_at sorts.ASC; gives_at false)
    (choose_at (sorts.DESC ∷ []) (do mark_at sorts.DESC; gives_at true)
    (gives_at false))

unfoldable pub order_key_at : Reader OrderBy
order_key_at =
    choose_at (sorts.INT ∷ []) (do n ← integer_at; gives_at (keys.Position (pos n)))
    (do c ← column_at; gives_at (keys.Col c))

unfoldable pub order_at : Reader Order
order_at = do
  by ← order_key_at
  descending ← direction_at
  gives_at (record { by = by; descending = descending })

unfoldable pub ordering_at : Reader (List Order)
ordering_at = choose_at (sorts.ORDER ∷ []) (do mark_at sorts.ORDER; mark_at sorts.BY; list_of_at order_at) (gives_at [])

unfoldable pub query_at : ℕ → Reader Query
query_at depth = do
  mark_at sorts.SELECT
  distinct ← optional_at (sorts.DISTINCT ∷ []) (mark_at sorts.DISTINCT)
  what ← projection_at depth
  mark_at sorts.FROM
  sources ← source_list_at depth (has_aggregate what)
  test ← filter_at depth
  groups ← grouping_at (is_alone sources)
  orders ← ordering_at
  gives_at (record { distinct = is_some distinct; projection = what; sources = sources; filter = test; groups = groups; orders = orders })
