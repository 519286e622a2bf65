-- Whether SYSDATE stands somewhere in a statement.
use Rattle.std.specs.Prelude.{Bool, true, false, ◌||◌, Option, Some, None}
use Rattle.std.specs.List.{list_any}
use Rattle.wm_syntax.specs.declared.constant.PeriodEnd.{PeriodEnd}
use Rattle.wm_syntax.specs.declared.constant.PeriodEnd.TheVariants as ends
use Rattle.wm_syntax.specs.declared.constant.Const.{Const}
use Rattle.wm_syntax.specs.declared.constant.Const.TheVariants as consts
use Rattle.wm_syntax.specs.declared.operand.Per.{Per}
use Rattle.wm_syntax.specs.declared.operand.Per.TheVariants as pers
use Rattle.wm_syntax.specs.declared.operand.Operand.{Operand}
use Rattle.wm_syntax.specs.declared.operand.Operand.TheVariants as operands
use Rattle.wm_syntax.specs.declared.statement.ArgValue.{ArgValue}
use Rattle.wm_syntax.specs.declared.statement.ArgValue.TheVariants as values
use Rattle.wm_syntax.specs.declared.statement.Arg.{Arg}
use Rattle.wm_syntax.specs.Trees.{Expr, Of, Neg, Add, Sub, Mul, Cond, Or, And, Not, Compare, IsNull, OneOf, Between}
use Rattle.wm_syntax.specs.Trees.{Item, Plain, CountAll, Aggregate, Out, Projection, All, Outs, Src, Query, Set, Statement, Create, Insert, Update, Delete, Select, Call}

abbrev pub is_sysdate : PeriodEnd → Bool
is_sysdate ends.Sysdate = true
is_sysdate (ends.Time t) = false

abbrev pub const_waits : Const → Bool
const_waits consts.Sysdate = true
const_waits (consts.Span from till) = is_sysdate from || is_sysdate till
const_waits _ = false

abbrev pub per_waits : Per → Bool
per_waits (pers.Span from till) = is_sysdate from || is_sysdate till
per_waits (pers.Valid source) = false

abbrev pub operand_waits : Operand → Bool
operand_waits (operands.Col col) = false
operand_waits (operands.Const c) = const_waits c
operand_waits (operands.Test operator left right) = per_waits left || per_waits right

abbrev pub expr_waits : Expr → Bool
expr_waits (Of x) = operand_waits x
expr_waits (Neg x) = expr_waits x
expr_waits (Add x y) = expr_waits x || expr_waits y
expr_waits (Sub x y) = expr_waits x || expr_waits y
expr_waits (Mul x y) = expr_waits x || expr_waits y

abbrev pub cond_waits : Cond → Bool
cond_waits (Or x y) = cond_waits x || cond_waits y
cond_waits (And x y) = cond_waits x || cond_waits y
cond_waits (Not x) = cond_waits x
cond_waits (Compare x cmp y) = operand_waits x || operand_waits y
cond_waits (IsNull x negated) = operand_waits x
cond_waits (OneOf x negated list) = operand_waits x || list_any const_waits list
cond_waits (Between x negated low high) = operand_waits x || (operand_waits low || operand_waits high)

abbrev pub filter_waits : Option Cond → Bool
filter_waits None = false
filter_waits (Some c) = cond_waits c

abbrev pub item_waits : Item → Bool
item_waits (Plain x) = expr_waits x
item_waits CountAll = false
item_waits (Aggregate agg x) = expr_waits x

abbrev pub out_waits : Out → Bool
out_waits o = item_waits o.item

abbrev pub projection_waits : Projection → Bool
projection_waits All = false
projection_waits (Outs os) = list_any out_waits os

abbrev pub src_waits : Src → Bool
src_waits s = filter_waits s.on

abbrev pub query_waits : Query → Bool
query_waits q = projection_waits q.projection || (list_any src_waits q.sources || filter_waits q.filter)

abbrev pub set_waits : Set → Bool
set_waits s = expr_waits s.becomes

abbrev pub value_waits : ArgValue → Bool
value_waits (values.Const c) = const_waits c
value_waits (values.Bool b) = false

abbrev pub arg_waits : Arg → Bool
arg_waits a = value_waits a.value

-- SYSDATE stands somewhere in the statement
abbrev pub has_sysdate : Statement → Bool
has_sysdate (Create table items) = false
has_sysdate (Insert table names values) = list_any expr_waits values
has_sysdate (Update table sets filter) = list_any set_waits sets || filter_waits filter
has_sysdate (Delete table filter) = filter_waits filter
has_sysdate (Select q) = query_waits q
has_sysdate (Call procedure args condition) = list_any arg_waits args || filter_waits condition
