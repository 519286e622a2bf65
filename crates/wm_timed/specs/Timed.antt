-- The moment of the line in the place of each SYSDATE.
use Rattle.std.specs.Prelude.{ℕ, map, List, Option}
use Rattle.std.specs.Option.{option_map}
use Rattle.wm_syntax.specs.declared.constant.PeriodEnd.{PeriodEnd}
use Rattle.wm_syntax.specs.declared.constant.PeriodEnd.TheVariants as ends
use Rattle.wm_syntax.specs.declared.constant.Const.{Const}
use Rattle.wm_syntax.specs.declared.constant.Const.TheVariants as consts
use Rattle.wm_syntax.specs.declared.operand.Per.{Per}
use Rattle.wm_syntax.specs.declared.operand.Per.TheVariants as pers
use Rattle.wm_syntax.specs.declared.operand.Operand.{Operand}
use Rattle.wm_syntax.specs.declared.operand.Operand.TheVariants as operands
use Rattle.wm_syntax.specs.declared.statement.ArgValue.{ArgValue}
use Rattle.wm_syntax.specs.declared.statement.ArgValue.TheVariants as values
use Rattle.wm_syntax.specs.declared.statement.Arg.{Arg}
use Rattle.wm_syntax.specs.Trees.{Expr, Of, Neg, Add, Sub, Mul, Cond, Or, And, Not, Compare, IsNull, OneOf, Between}
use Rattle.wm_syntax.specs.Trees.{Item, Plain, CountAll, Aggregate, Out, Projection, All, Outs, Src, Query, Set, Statement, Create, Insert, Update, Delete, Select, Call}

abbrev pub timed_end : ℕ → PeriodEnd → PeriodEnd
timed_end moment (ends.Time t) = ends.Time t
timed_end moment ends.Sysdate = ends.Time moment

abbrev pub timed_const : ℕ → Const → Const
timed_const moment consts.Null = consts.Null
timed_const moment (consts.Num n) = consts.Num n
timed_const moment (consts.Text t) = consts.Text t
timed_const moment (consts.Time t) = consts.Time t
timed_const moment consts.Sysdate = consts.Time moment
timed_const moment (consts.Span from till) = consts.Span (timed_end moment from) (timed_end moment till)

abbrev pub timed_consts : ℕ → List Const → List Const
timed_consts moment cs = map (timed_const moment) cs

abbrev pub timed_per : ℕ → Per → Per
timed_per moment (pers.Valid source) = pers.Valid source
timed_per moment (pers.Span from till) = pers.Span (timed_end moment from) (timed_end moment till)

abbrev pub timed_operand : ℕ → Operand → Operand
timed_operand moment (operands.Col col) = operands.Col col
timed_operand moment (operands.Const c) = operands.Const (timed_const moment c)
timed_operand moment (operands.Test operator left right) = operands.Test operator (timed_per moment left) (timed_per moment right)

abbrev pub timed_expr : ℕ → Expr → Expr
timed_expr moment (Of x) = Of (timed_operand moment x)
timed_expr moment (Neg x) = Neg (timed_expr moment x)
timed_expr moment (Add x y) = Add (timed_expr moment x) (timed_expr moment y)
timed_expr moment (Sub x y) = Sub (timed_expr moment x) (timed_expr moment y)
timed_expr moment (Mul x y) = Mul (timed_expr moment x) (timed_expr moment y)

abbrev pub timed_cond : ℕ → Cond → Cond
timed_cond moment (Or x y) = Or (timed_cond moment x) (timed_cond moment y)
timed_cond moment (And x y) = And (timed_cond moment x) (timed_cond moment y)
timed_cond moment (Not x) = Not (timed_cond moment x)
timed_cond moment (Compare x cmp y) = Compare (timed_operand moment x) cmp (timed_operand moment y)
timed_cond moment (IsNull x negated) = IsNull (timed_operand moment x) negated
timed_cond moment (OneOf x negated list) = OneOf (timed_operand moment x) negated (timed_consts moment list)
timed_cond moment (Between x negated low high) = Between (timed_operand moment x) negated (timed_operand moment low) (timed_operand moment high)

abbrev pub timed_filter : ℕ → Option Cond → Option Cond
timed_filter moment filter = option_map (timed_cond moment) filter

abbrev pub timed_item : ℕ → Item → Item
timed_item moment (Plain x) = Plain (timed_expr moment x)
timed_item moment CountAll = CountAll
timed_item moment (Aggregate agg x) = Aggregate agg (timed_expr moment x)

abbrev pub timed_out : ℕ → Out → Out
timed_out moment o = record { item = timed_item moment o.item; alias = o.alias }

abbrev pub timed_projection : ℕ → Projection → Projection
timed_projection moment All = All
timed_projection moment (Outs os) = Outs (map (timed_out moment) os)

abbrev pub timed_src : ℕ → Src → Src
timed_src moment s = record { table = s.table; alias = s.alias; on = timed_filter moment s.on }

abbrev pub timed_query : ℕ → Query → Query
timed_query moment q = record {
  distinct = q.distinct;
  projection = timed_projection moment q.projection;
  sources = map (timed_src moment) q.sources;
  filter = timed_filter moment q.filter;
  groups = q.groups;
  orders = q.orders;
}

abbrev pub timed_set : ℕ → Set → Set
timed_set moment s = record { name = s.name; becomes = timed_expr moment s.becomes }

abbrev pub timed_value : ℕ → ArgValue → ArgValue
timed_value moment (values.Const c) = values.Const (timed_const moment c)
timed_value moment (values.Bool b) = values.Bool b

abbrev pub timed_arg : ℕ → Arg → Arg
timed_arg moment a = record { name = a.name; value = timed_value moment a.value }

-- the statement, with the moment in the place of each SYSDATE
abbrev pub timed : ℕ → Statement → Statement
timed moment (Create table items) = Create table items
timed moment (Insert table names values) = Insert table names (map (timed_expr moment) values)
timed moment (Update table sets filter) = Update table (map (timed_set moment) sets) (timed_filter moment filter)
timed moment (Delete table filter) = Delete table (timed_filter moment filter)
timed moment (Select q) = Select (timed_query moment q)
timed moment (Call procedure args condition) = Call procedure (map (timed_arg moment) args) (timed_filter moment condition)
