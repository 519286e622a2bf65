-- What a tree in memory is as a tree.
use Rattle.std.specs.Prelude.{List, map, Option, option_map}
use Rattle.wm_syntax.specs.declared.expr.Expr.{Expr as ExprNode}
use Rattle.wm_syntax.specs.declared.expr.Expr.TheVariants as exprs
use Rattle.wm_syntax.specs.declared.cond.Cond.{Cond as CondNode}
use Rattle.wm_syntax.specs.declared.cond.Cond.TheVariants as conds
use Rattle.wm_syntax.specs.declared.query.Item.{Item as ItemNode}
use Rattle.wm_syntax.specs.declared.query.Item.TheVariants as items
use Rattle.wm_syntax.specs.declared.query.Out.{Out as OutNode}
use Rattle.wm_syntax.specs.declared.query.Projection.{Projection as ProjectionNode}
use Rattle.wm_syntax.specs.declared.query.Projection.TheVariants as projections
use Rattle.wm_syntax.specs.declared.query.Src.{Src as SrcNode}
use Rattle.wm_syntax.specs.declared.query.Query.{Query as QueryNode}
use Rattle.wm_syntax.specs.declared.statement.Set.{Set as SetNode}
use Rattle.wm_syntax.specs.declared.statement.Statement.{Statement as StatementNode}
use Rattle.wm_syntax.specs.declared.statement.Statement.TheVariants as statements
use Rattle.wm_syntax.specs.declared.line.Line.{Line as LineNode}
use Rattle.wm_syntax.specs.declared.line.Line.TheVariants as lines
use Rattle.wm_syntax.specs.Trees as trees
use Rattle.wm_syntax.specs.Trees.{Expr, Cond, Item, Out, Projection, Src, Query, Set, Statement, Line}

abbrev pub expr_view : ExprNode → Expr
expr_view (exprs.Operand x) = trees.Of x
expr_view (exprs.Neg' p x) = trees.Neg (expr_view x)
expr_view (exprs.Add' p x q y) = trees.Add (expr_view x) (expr_view y)
expr_view (exprs.Sub' p x q y) = trees.Sub (expr_view x) (expr_view y)
expr_view (exprs.Mul' p x q y) = trees.Mul (expr_view x) (expr_view y)

abbrev pub exprs_view : List ExprNode → List Expr
exprs_view xs = map expr_view xs

abbrev pub cond_view : CondNode → Cond
cond_view (conds.Or' p x q y) = trees.Or (cond_view x) (cond_view y)
cond_view (conds.And' p x q y) = trees.And (cond_view x) (cond_view y)
cond_view (conds.Not' p x) = trees.Not (cond_view x)
cond_view (conds.Compare left cmp right) = trees.Compare left cmp right
cond_view (conds.IsNull what negated) = trees.IsNull what negated
cond_view (conds.OneOf what negated list) = trees.OneOf what negated list
cond_view (conds.Between what negated low high) = trees.Between what negated low high

abbrev pub filter_view : Option CondNode → Option Cond
filter_view c = option_map cond_view c

abbrev pub item_view : ItemNode → Item
item_view (items.Expr x) = trees.Plain (expr_view x)
item_view items.CountAll = trees.CountAll
item_view (items.Agg agg x) = trees.Aggregate agg (expr_view x)

abbrev pub out_view : OutNode → Out
out_view o = record { item = item_view o.item; alias = o.alias }

abbrev pub outs_view : List OutNode → List Out
outs_view os = map out_view os

abbrev pub projection_view : ProjectionNode → Projection
projection_view projections.All = trees.All
projection_view (projections.Outs os) = trees.Outs (outs_view os.items)

abbrev pub src_view : SrcNode → Src
src_view s = record { table = s.table; alias = s.alias; on = filter_view s.on }

abbrev pub srcs_view : List SrcNode → List Src
srcs_view ss = map src_view ss

abbrev pub query_view : QueryNode → Query
query_view q = record {
  distinct = q.distinct;
  projection = projection_view q.projection;
  sources = srcs_view q.sources.items;
  filter = filter_view q.filter;
  groups = q.groups;
  orders = q.orders;
}

abbrev pub set_view : SetNode → Set
set_view s = record { name = s.name; becomes = expr_view s.becomes }

abbrev pub sets_view : List SetNode → List Set
sets_view ss = map set_view ss

abbrev pub statement_view : StatementNode → Statement
statement_view (statements.Create table is) = trees.Create table is
statement_view (statements.Insert table names values) = trees.Insert table names (exprs_view values.items)
statement_view (statements.Update table sets filter) = trees.Update table (sets_view sets.items) (filter_view filter)
statement_view (statements.Delete table filter) = trees.Delete table (filter_view filter)
statement_view (statements.Select q) = trees.Select (query_view q)
statement_view (statements.Call procedure args condition) = trees.Call procedure args (filter_view condition)

abbrev pub line_view : LineNode → Line
line_view (lines.Connect session user) = trees.Connect session user
line_view (lines.Disconnect session) = trees.Disconnect session
line_view (lines.At instant) = trees.At instant
line_view (lines.Run session statement) = trees.Run session (statement_view statement)
