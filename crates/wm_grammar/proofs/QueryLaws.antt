-- The readers of queries are exact.
use Rattle.std.proofs.Common.{◌≡◌, ℕ, zero, suc, Bool, true, false, List, [], ◌∷◌, Some, None, refl}
use Rattle.std.specs.Prelude.{is_some, pos}
use Rattle.wm_syntax.specs.declared.query.Agg.TheVariants as aggs
use Rattle.wm_syntax.specs.declared.query.OrderBy.TheVariants as keys
use Rattle.wm_syntax.specs.declared.query.Order.{Order}
use Rattle.wm_syntax.specs.declared.column.Col.{Col}
use Rattle.wm_syntax.specs.Trees.{Out, Src, Query, has_aggregate}
use Rattle.wm_syntax.specs.Trees as trees
use Rattle.wm_grammar.specs.Sorts as sorts
use Rattle.wm_grammar.specs.Forms.{many_from}
use Rattle.wm_grammar.specs.Reading.{many_from_at}
use Rattle.wm_grammar.specs.Operands.{column}
use Rattle.wm_grammar.specs.OperandReaders.{column_at}
use Rattle.wm_grammar.proofs.Lists.{within}
use Rattle.wm_grammar.specs.Queries.{list_of, filter, other_aggregate, counted, query_item, out, projection, source, joined, next_source, room, one_less, source_list, is_alone, grouping, direction, order_key, order, ordering, query}
use Rattle.wm_grammar.specs.QueryReaders.{list_of_at, filter_at, other_aggregate_at, counted_at, other_aggregates, query_item_at, out_at, projection_at, source_at, joined_at, next_source_at, separators, source_list_at, grouping_at, direction_at, order_key_at, order_at, ordering_at, query_at}
use Rattle.wm_grammar.proofs.Laws.{Shape, Exact, gives_exact, never_exact, mark_exact, then_exact, or_exact, optional_exact, loosened}
use Rattle.wm_grammar.proofs.Repeating.{item_shape, many_shape, many_exact, many_from_exact}
use Rattle.wm_grammar.proofs.OperandLaws.{solid, columns, word_exact, integer_exact, column_exact}
use Rattle.wm_grammar.proofs.ExpressionLaws.{factor_sorts, expr_next, cond_next, expr_exact, condition_exact}

abbrev pub filter_shape : Shape
filter_shape = record { empty = true; first = sorts.WHERE ∷ []; next = sorts.WHERE ∷ cond_next; sure = [] }

pub filter_exact : (depth : ℕ) → Exact (filter depth) (filter_at depth) filter_shape
filter_exact depth = loosened filter_shape (optional_exact (then_exact (mark_exact sorts.WHERE) (λ _. condition_exact depth) refl) refl refl) refl refl refl refl

pub other_aggregate_exact : Exact other_aggregate other_aggregate_at (solid other_aggregates [] other_aggregates)
unfolding other_aggregate other_aggregate_at
other_aggregate_exact =
    loosened (solid other_aggregates [] other_aggregates)
    (or_exact (then_exact (mark_exact sorts.SUM) (λ _. gives_exact aggs.Sum) refl)
    (or_exact (then_exact (mark_exact sorts.MIN) (λ _. gives_exact aggs.Min) refl) (then_exact (mark_exact sorts.MAX) (λ _. gives_exact aggs.Max) refl) refl refl refl) refl refl refl)
    refl refl refl refl

abbrev pub counted_sorts : List ℕ
counted_sorts = sorts.STAR ∷ factor_sorts

pub counted_exact : (depth : ℕ) → Exact (counted depth) (counted_at depth) (solid counted_sorts [] [])
unfolding counted counted_at
counted_exact depth =
    loosened (solid counted_sorts [] [])
    (or_exact (then_exact (mark_exact sorts.STAR) (λ _. then_exact (mark_exact sorts.CLOSE) (λ _. gives_exact trees.CountAll) refl) refl)
    (then_exact (expr_exact depth) (λ e. then_exact (mark_exact sorts.CLOSE) (λ _. gives_exact (trees.Aggregate aggs.Count e)) refl) refl) refl refl refl)
    refl refl refl refl

abbrev pub item_sorts : List ℕ
item_sorts = sorts.COUNT ∷ sorts.SUM ∷ sorts.MIN ∷ sorts.MAX ∷ factor_sorts

pub query_item_exact : (depth : ℕ) → Exact (query_item depth) (query_item_at depth) (solid item_sorts expr_next [])
unfolding query_item query_item_at
query_item_exact depth =
    loosened (solid item_sorts expr_next [])
    (or_exact (then_exact (mark_exact sorts.COUNT) (λ _. then_exact (mark_exact sorts.OPEN) (λ _. counted_exact depth) refl) refl)
    (or_exact (then_exact other_aggregate_exact (λ agg. then_exact (mark_exact sorts.OPEN) (λ _. then_exact (expr_exact depth) (λ e. then_exact (mark_exact sorts.CLOSE) (λ _. gives_exact (trees.Aggregate agg e)) refl) refl) refl) refl)
    (then_exact (expr_exact depth) (λ e. gives_exact (trees.Plain e)) refl) refl refl refl) refl refl refl)
    refl refl refl refl

abbrev pub out_next : List ℕ
out_next = sorts.AS ∷ expr_next

pub out_exact : (depth : ℕ) → Exact (out depth) (out_at depth) (solid item_sorts out_next [])
unfolding out out_at
out_exact depth =
    loosened (solid item_sorts out_next [])
    (then_exact (query_item_exact depth) (λ item. then_exact (optional_exact (then_exact (mark_exact sorts.AS) (λ _. word_exact sorts.ID) refl) refl refl) (λ alias. gives_exact {A = Out} (record { item = item; alias = alias })) refl) refl)
    refl refl refl refl

pub outs_exact : (depth : ℕ) → Exact (list_of (out depth)) (list_of_at (out_at depth)) (solid item_sorts (sorts.COMMA ∷ out_next) [])
outs_exact depth =
    loosened (solid item_sorts (sorts.COMMA ∷ out_next) [])
    (then_exact (out_exact depth) (λ first. then_exact (many_exact (then_exact (mark_exact sorts.COMMA) (λ _. out_exact depth) refl) refl refl refl) (λ others. gives_exact (first ∷ others)) refl) refl)
    refl refl refl refl

abbrev pub projection_sorts : List ℕ
projection_sorts = sorts.STAR ∷ item_sorts

pub projection_exact : (depth : ℕ) → Exact (projection depth) (projection_at depth) (solid projection_sorts (sorts.COMMA ∷ out_next) [])
unfolding projection projection_at
projection_exact depth =
    loosened (solid projection_sorts (sorts.COMMA ∷ out_next) [])
    (or_exact (then_exact (mark_exact sorts.STAR) (λ _. gives_exact trees.All) refl) (then_exact (outs_exact depth) (λ outs. gives_exact (trees.Outs outs)) refl) refl refl refl)
    refl refl refl refl

pub source_exact : Exact source source_at (solid (sorts.ID ∷ []) (sorts.ID ∷ []) (sorts.ID ∷ []))
unfolding source source_at
source_exact =
    loosened (solid (sorts.ID ∷ []) (sorts.ID ∷ []) (sorts.ID ∷ []))
    (then_exact (word_exact sorts.ID) (λ table. then_exact (optional_exact (word_exact sorts.ID) refl refl) (λ alias. gives_exact {A = Src} (record { table = table; alias = alias; on = None })) refl) refl)
    refl refl refl refl

pub joined_exact : (depth : ℕ) → Exact (joined depth) (joined_at depth) (solid (sorts.JOIN ∷ []) cond_next (sorts.JOIN ∷ []))
unfolding joined joined_at
joined_exact depth =
    loosened (solid (sorts.JOIN ∷ []) cond_next (sorts.JOIN ∷ []))
    (then_exact (mark_exact sorts.JOIN) (λ _. then_exact source_exact (λ s. then_exact (mark_exact sorts.ON) (λ _. then_exact (condition_exact depth) (λ on. gives_exact {A = Src} (record { table = s.table; alias = s.alias; on = Some on })) refl) refl) refl) refl)
    refl refl refl refl

abbrev pub source_next : List ℕ
source_next = sorts.ID ∷ cond_next

pub next_source_exact : (depth n : ℕ) → Exact (next_source depth n) (next_source_at depth n) (item_shape (separators n) source_next)
unfolding next_source next_source_at
next_source_exact depth zero = loosened (item_shape [] source_next) never_exact refl refl refl refl
next_source_exact depth (suc n) =
    loosened (item_shape (separators (suc n)) source_next)
    (or_exact (then_exact (mark_exact sorts.COMMA) (λ _. source_exact) refl)
    (or_exact (then_exact (mark_exact sorts.INNER) (λ _. joined_exact depth) refl) (joined_exact depth) refl refl refl) refl refl refl)
    refl refl refl refl

abbrev pub all_separators : List ℕ
all_separators = sorts.COMMA ∷ sorts.INNER ∷ sorts.JOIN ∷ []

other_sources_exact : (depth : ℕ) (aggregate : Bool) → Exact (many_from one_less (next_source depth) (room aggregate)) (many_from_at one_less separators (next_source_at depth) (room aggregate)) (many_shape all_separators source_next)
other_sources_exact depth aggregate = many_from_exact one_less separators all_separators source_next (next_source_exact depth) inside refl (room aggregate)
  where
    inside : (n : ℕ) → within (separators n) all_separators ≡ true
    inside zero = refl
    inside (suc n) = refl

abbrev pub source_list_next : List ℕ
source_list_next = sorts.COMMA ∷ sorts.INNER ∷ sorts.JOIN ∷ source_next

pub source_list_exact : (depth : ℕ) (aggregate : Bool) → Exact (source_list depth aggregate) (source_list_at depth aggregate) (solid (sorts.ID ∷ []) source_list_next [])
unfolding source_list source_list_at
source_list_exact depth aggregate =
    loosened (solid (sorts.ID ∷ []) source_list_next []) (then_exact source_exact (λ first. then_exact (other_sources_exact depth aggregate) (λ others. gives_exact (first ∷ others)) refl) refl) refl refl refl refl

pub column_list_exact : Exact (list_of column) (list_of_at column_at) (solid columns (sorts.COMMA ∷ sorts.DOT ∷ []) [])
column_list_exact =
    loosened (solid columns (sorts.COMMA ∷ sorts.DOT ∷ []) [])
    (then_exact column_exact (λ first. then_exact (many_exact (then_exact (mark_exact sorts.COMMA) (λ _. column_exact) refl) refl refl refl) (λ others. gives_exact (first ∷ others)) refl) refl)
    refl refl refl refl

abbrev pub grouping_shape : Shape
grouping_shape = record { empty = true; first = sorts.GROUP ∷ []; next = sorts.GROUP ∷ sorts.COMMA ∷ sorts.DOT ∷ []; sure = [] }

pub grouping_exact : (alone : Bool) → Exact (grouping alone) (grouping_at alone) grouping_shape
unfolding grouping grouping_at
grouping_exact true = loosened grouping_shape (or_exact (then_exact (mark_exact sorts.GROUP) (λ _. then_exact (mark_exact sorts.BY) (λ _. column_list_exact) refl) refl) (gives_exact []) refl refl refl) refl refl refl refl
grouping_exact false = loosened grouping_shape (gives_exact []) refl refl refl refl

abbrev pub direction_shape : Shape
direction_shape = record { empty = true; first = sorts.ASC ∷ sorts.DESC ∷ []; next = sorts.ASC ∷ sorts.DESC ∷ []; sure = sorts.ASC ∷ sorts.DESC ∷ [] }

pub direction_exact : Exact direction direction_at direction_shape
unfolding direction direction_at
direction_exact =
    loosened direction_shape
    (or_exact (then_exact (mark_exact sorts.ASC) (λ _. gives_exact false) refl) (or_exact (then_exact (mark_exact sorts.DESC) (λ _. gives_exact true) refl) (gives_exact false) refl refl refl) refl refl refl)
    refl refl refl refl

abbrev pub order_sorts : List ℕ
order_sorts = sorts.INT ∷ columns

pub order_key_exact : Exact order_key order_key_at (solid order_sorts (sorts.DOT ∷ []) order_sorts)
unfolding order_key order_key_at
order_key_exact =
    loosened (solid order_sorts (sorts.DOT ∷ []) order_sorts)
    (or_exact (then_exact integer_exact (λ n. gives_exact (keys.Position (pos n))) refl) (then_exact column_exact (λ c. gives_exact (keys.Col c)) refl) refl refl refl)
    refl refl refl refl

abbrev pub order_next : List ℕ
order_next = sorts.ASC ∷ sorts.DESC ∷ sorts.DOT ∷ []

pub order_exact : Exact order order_at (solid order_sorts order_next order_sorts)
unfolding order order_at
order_exact =
    loosened (solid order_sorts order_next order_sorts) (then_exact order_key_exact (λ by. then_exact direction_exact (λ descending. gives_exact {A = Order} (record { by = by; descending = descending })) refl) refl) refl refl refl refl

pub order_list_exact : Exact (list_of order) (list_of_at order_at) (solid order_sorts (sorts.COMMA ∷ order_next) [])
order_list_exact =
    loosened (solid order_sorts (sorts.COMMA ∷ order_next) [])
    (then_exact order_exact (λ first. then_exact (many_exact (then_exact (mark_exact sorts.COMMA) (λ _. order_exact) refl) refl refl refl) (λ others. gives_exact (first ∷ others)) refl) refl)
    refl refl refl refl

abbrev pub ordering_shape : Shape
ordering_shape = record { empty = true; first = sorts.ORDER ∷ []; next = sorts.ORDER ∷ sorts.COMMA ∷ order_next; sure = [] }

pub ordering_exact : Exact ordering ordering_at ordering_shape
unfolding ordering ordering_at
ordering_exact = loosened ordering_shape (or_exact (then_exact (mark_exact sorts.ORDER) (λ _. then_exact (mark_exact sorts.BY) (λ _. order_list_exact) refl) refl) (gives_exact []) refl refl refl) refl refl refl refl

abbrev pub query_next : List ℕ
query_next = sorts.COMMA ∷ sorts.INNER ∷ sorts.JOIN ∷ sorts.WHERE ∷ sorts.GROUP ∷ sorts.ORDER ∷ sorts.ASC ∷ sorts.DESC ∷ source_next

abbrev pub query_shape : Shape
query_shape = solid (sorts.SELECT ∷ []) query_next (sorts.SELECT ∷ [])

pub query_exact : (depth : ℕ) → Exact (query depth) (query_at depth) query_shape
unfolding query query_at
query_exact depth =
    loosened query_shape
    (then_exact (mark_exact sorts.SELECT) (λ _. then_exact (optional_exact (mark_exact sorts.DISTINCT) refl refl) (λ distinct. then_exact (projection_exact depth) (λ what. then_exact (mark_exact sorts.FROM) (λ _.
    then_exact (source_list_exact depth (has_aggregate what)) (λ sources. then_exact (filter_exact depth) (λ test. then_exact (grouping_exact (is_alone sources)) (λ groups. then_exact ordering_exact (λ orders.
    gives_exact {A = Query} (record { distinct = is_some distinct; projection = what; sources = sources; filter = test; groups = groups; orders = orders })) refl) refl) refl) refl) refl) refl) refl) refl)
    refl refl refl refl
