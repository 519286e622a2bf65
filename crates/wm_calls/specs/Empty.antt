-- Whether a period that is written in a statement is empty. The moment of the line stands in the place of SYSDATE before this is asked.
use Rattle.std.specs.Prelude.{Bool, false, not, ◌||◌, nat_lt, Option, Some, None}
use Rattle.std.specs.List.{list_any}
use Rattle.wm_syntax.specs.declared.constant.PeriodEnd.{PeriodEnd}
use Rattle.wm_syntax.specs.declared.constant.Const.{Const}
use Rattle.wm_syntax.specs.declared.constant.Const.TheVariants as consts
use Rattle.wm_syntax.specs.declared.operand.Per.{Per}
use Rattle.wm_syntax.specs.declared.operand.Per.TheVariants as pers
use Rattle.wm_syntax.specs.declared.operand.Operand.{Operand}
use Rattle.wm_syntax.specs.declared.operand.Operand.TheVariants as operands
use Rattle.wm_syntax.specs.declared.statement.ArgValue.{ArgValue}
use Rattle.wm_syntax.specs.declared.statement.ArgValue.TheVariants as values
use Rattle.wm_syntax.specs.declared.statement.Arg.{Arg}
use Rattle.wm_syntax.specs.Trees.{Expr, Of, Neg, Add, Sub, Mul, Cond, Or, And, Not, Compare, IsNull, OneOf, Between}
use Rattle.wm_syntax.specs.Trees.{Item, Plain, CountAll, Aggregate, Out, Projection, All, Outs, Src, Query, Set, Statement, Create, Insert, Update, Delete, Select, Call}
use Rattle.wm_spec.specs.Operands.{end_seconds}

-- ---- periods

-- the first end is not below the second
abbrev pub is_empty_span : PeriodEnd → PeriodEnd → Bool
is_empty_span from till = not (nat_lt (end_seconds from) (end_seconds till))

-- a written period that is empty
abbrev pub is_empty_const : Const → Bool
is_empty_const (consts.Span from till) = is_empty_span from till
is_empty_const _ = false

-- an operand of an operator on periods that is written and empty
abbrev pub is_empty_per : Per → Bool
is_empty_per (pers.Span from till) = is_empty_span from till
is_empty_per (pers.Valid source) = false

-- ---- expressions and conditions: an empty period is written somewhere in them

abbrev pub operand_has_empty : Operand → Bool
operand_has_empty (operands.Col col) = false
operand_has_empty (operands.Const c) = is_empty_const c
operand_has_empty (operands.Test operator left right) = is_empty_per left || is_empty_per right

abbrev pub expr_has_empty : Expr → Bool
expr_has_empty (Of x) = operand_has_empty x
expr_has_empty (Neg x) = expr_has_empty x
expr_has_empty (Add x y) = expr_has_empty x || expr_has_empty y
expr_has_empty (Sub x y) = expr_has_empty x || expr_has_empty y
expr_has_empty (Mul x y) = expr_has_empty x || expr_has_empty y

abbrev pub cond_has_empty : Cond → Bool
cond_has_empty (Or x y) = cond_has_empty x || cond_has_empty y
cond_has_empty (And x y) = cond_has_empty x || cond_has_empty y
cond_has_empty (Not x) = cond_has_empty x
cond_has_empty (Compare x cmp y) = operand_has_empty x || operand_has_empty y
cond_has_empty (IsNull x negated) = operand_has_empty x
cond_has_empty (OneOf x negated list) = operand_has_empty x || list_any is_empty_const list
cond_has_empty (Between x negated low high) = operand_has_empty x || operand_has_empty low || operand_has_empty high

abbrev pub filter_has_empty : Option Cond → Bool
filter_has_empty None = false
filter_has_empty (Some c) = cond_has_empty c

-- ---- statements

abbrev pub item_has_empty : Item → Bool
item_has_empty (Plain x) = expr_has_empty x
item_has_empty CountAll = false
item_has_empty (Aggregate agg x) = expr_has_empty x

abbrev pub out_has_empty : Out → Bool
out_has_empty o = item_has_empty o.item

abbrev pub projection_has_empty : Projection → Bool
projection_has_empty All = false
projection_has_empty (Outs os) = list_any out_has_empty os

abbrev pub src_has_empty : Src → Bool
src_has_empty s = filter_has_empty s.on

-- GROUP BY and ORDER BY name columns and positions alone
abbrev pub query_has_empty : Query → Bool
query_has_empty q = projection_has_empty q.projection || list_any src_has_empty q.sources || filter_has_empty q.filter

abbrev pub set_has_empty : Set → Bool
set_has_empty s = expr_has_empty s.becomes

abbrev pub value_has_empty : ArgValue → Bool
value_has_empty (values.Const c) = is_empty_const c
value_has_empty (values.Bool b) = false

abbrev pub arg_has_empty : Arg → Bool
arg_has_empty a = value_has_empty a.value

-- a period that is written somewhere in the statement is empty: its first end is not below its second
abbrev pub has_empty_period : Statement → Bool
has_empty_period (Create table items) = false
has_empty_period (Insert table names values) = list_any expr_has_empty values
has_empty_period (Update table sets filter) = list_any set_has_empty sets || filter_has_empty filter
has_empty_period (Delete table filter) = filter_has_empty filter
has_empty_period (Select q) = query_has_empty q
has_empty_period (Call procedure args condition) = list_any arg_has_empty args || filter_has_empty condition
