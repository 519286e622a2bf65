-- Queries.
use Rattle.std.specs.Prelude.{ℕ, zero, suc, ◌-◌, Bool, true, false, is_some, List, [], ◌∷◌, Option, Some, None, pos}
use Rattle.wm_syntax.specs.declared.column.Col.{Col}
use Rattle.wm_syntax.specs.declared.query.Agg.{Agg}
use Rattle.wm_syntax.specs.declared.query.Agg.TheVariants as aggs
use Rattle.wm_syntax.specs.declared.query.OrderBy.{OrderBy}
use Rattle.wm_syntax.specs.declared.query.OrderBy.TheVariants as keys
use Rattle.wm_syntax.specs.declared.query.Order.{Order}
use Rattle.wm_syntax.specs.Trees.{Cond, Item, Out, Projection, Src, Query, has_aggregate}
use Rattle.wm_syntax.specs.Trees as trees
use Rattle.wm_grammar.specs.Sorts as sorts
use Rattle.wm_grammar.specs.Forms.{Form, gives, mark, never, ◌>>=◌, ◌>>◌, ◌or◌, optional, many, many_from}
use Rattle.wm_grammar.specs.Operands.{id, integer, column}
use Rattle.wm_grammar.specs.Expressions.{expr, condition}

-- x {"," x}
abbrev pub list_of : {A : Type 0} → Form A → Form (List A)
list_of item = do
  first ← item
  others ← many (do mark sorts.COMMA; item)
  gives (first ∷ others)

-- [WHERE cond]
abbrev pub filter : ℕ → Form (Option Cond)
filter depth = optional (do mark sorts.WHERE; condition depth)

-- SUM | MIN | MAX
unfoldable pub other_aggregate : Form Agg
other_aggregate =
    (do mark sorts.SUM; gives aggs.Sum)
    or (do mark sorts.MIN; gives aggs.Min)
    or (do mark sorts.MAX; gives aggs.Max)

-- "*" ")" | expr ")", behind COUNT "("
unfoldable pub counted : ℕ → Form Item
counted depth =
    (do mark sorts.STAR; mark sorts.CLOSE; gives trees.CountAll)
    or (do e ← expr depth; mark sorts.CLOSE; gives (trees.Aggregate aggs.Count e))

-- expr | agg, where agg = COUNT "(" "*" ")" | (COUNT | SUM | MIN | MAX) "(" expr ")"
unfoldable pub query_item : ℕ → Form Item
query_item depth =
    (do mark sorts.COUNT; mark sorts.OPEN; counted depth)
    or (do agg ← other_aggregate; mark sorts.OPEN; e ← expr depth; mark sorts.CLOSE; gives (trees.Aggregate agg e))
    or (do e ← expr depth; gives (trees.Plain e))

-- out = (expr | agg) [AS id]
unfoldable pub out : ℕ → Form Out
out depth = do
  item ← query_item depth
  alias ← optional (do mark sorts.AS; id)
  gives (record { item = item; alias = alias })

-- "*" | out {"," out}
unfoldable pub projection : ℕ → Form Projection
projection depth =
    (do mark sorts.STAR; gives trees.All)
    or (do outs ← list_of (out depth); gives (trees.Outs outs))

-- src = id [id]
unfoldable pub source : Form Src
source = do
  table ← id
  alias ← optional id
  gives (record { table = table; alias = alias; on = None })

-- JOIN src ON cond
unfoldable pub joined : ℕ → Form Src
joined depth = do
  mark sorts.JOIN
  s ← source
  mark sorts.ON
  on ← condition depth
  gives (record { table = s.table; alias = s.alias; on = Some on })

-- "," src | [INNER] JOIN src ON cond, where so many sources may still come
unfoldable pub next_source : ℕ → ℕ → Form Src
next_source depth zero = never
next_source depth (suc n) =
    (do mark sorts.COMMA; source)
    or (do mark sorts.INNER; joined depth)
    or joined depth

-- how many sources may follow the first: there are at most four, and one with an aggregate
abbrev pub room : Bool → ℕ
room true = 0
room false = 3

abbrev pub one_less : ℕ → Src → ℕ
one_less n s = n - 1

-- src {"," src | [INNER] JOIN src ON cond}, with an aggregate before it or none
unfoldable pub source_list : ℕ → Bool → Form (List Src)
source_list depth aggregate = do
  first ← source
  others ← many_from one_less (next_source depth) (room aggregate)
  gives (first ∷ others)

abbrev pub is_alone : List Src → Bool
is_alone (s ∷ t ∷ others) = false
is_alone _ = true

-- [GROUP BY col {"," col}], where one source stands before it
unfoldable pub grouping : Bool → Form (List Col)
grouping true = (do mark sorts.GROUP; mark sorts.BY; list_of column) or gives []
grouping false = gives []

-- [ASC | DESC]
unfoldable pub direction : Form Bool
direction =
    (do mark sorts.ASC; gives false)
    or (do mark sorts.DESC; gives true)
    or gives false

-- int | col
unfoldable pub order_key : Form OrderBy
order_key =
    (do n ← integer; gives (keys.Position (pos n)))
    or (do c ← column; gives (keys.Col c))

-- ord = (int | col) [ASC | DESC]
unfoldable pub order : Form Order
order = do
  by ← order_key
  descending ← direction
  gives (record { by = by; descending = descending })

-- [ORDER BY ord {"," ord}]
unfoldable pub ordering : Form (List Order)
ordering = (do mark sorts.ORDER; mark sorts.BY; list_of order) or gives []

-- select = SELECT [DISTINCT] ("*" | out {"," out}) FROM src {"," src | [INNER] JOIN src ON cond}
--          [WHERE cond] [GROUP BY col {"," col}] [ORDER BY ord {"," ord}]
unfoldable pub query : ℕ → Form Query
query depth = do
  mark sorts.SELECT
  distinct ← optional (mark sorts.DISTINCT)
  what ← projection depth
  mark sorts.FROM
  sources ← source_list depth (has_aggregate what)
  test ← filter depth
  groups ← grouping (is_alone sources)
  orders ← ordering
  gives (record { distinct = is_some distinct; projection = what; sources = sources; filter = test; groups = groups; orders = orders })
