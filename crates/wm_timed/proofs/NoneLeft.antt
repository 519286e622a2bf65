-- No SYSDATE is left where the moment stands in the place of each.
use Rattle.std.proofs.Common.{◌≡◌, ℕ, Bool, false, List, [], ◌∷◌, map, Option, Some, None, refl, ap, ◌∙◌}
use Rattle.std.specs.Prelude.{◌||◌}
use Rattle.std.specs.List.{list_any}
use Rattle.wm_syntax.specs.declared.constant.PeriodEnd.{PeriodEnd}
use Rattle.wm_syntax.specs.declared.constant.PeriodEnd.TheVariants as ends
use Rattle.wm_syntax.specs.declared.constant.Const.{Const}
use Rattle.wm_syntax.specs.declared.constant.Const.TheVariants as consts
use Rattle.wm_syntax.specs.declared.operand.Per.{Per}
use Rattle.wm_syntax.specs.declared.operand.Per.TheVariants as pers
use Rattle.wm_syntax.specs.declared.operand.Operand.{Operand}
use Rattle.wm_syntax.specs.declared.operand.Operand.TheVariants as operands
use Rattle.wm_syntax.specs.declared.statement.ArgValue.{ArgValue}
use Rattle.wm_syntax.specs.declared.statement.ArgValue.TheVariants as values
use Rattle.wm_syntax.specs.Trees.{Expr, Of, Neg, Add, Sub, Mul, Cond, Or, And, Not, Compare, IsNull, OneOf, Between}
use Rattle.wm_syntax.specs.Trees.{Item, Plain, CountAll, Aggregate, Projection, All, Outs, Query, Statement, Create, Insert, Update, Delete, Select, Call}
use Rattle.wm_timed.specs.Timed.{timed_end, timed_const, timed_per, timed_operand, timed_expr, timed_cond, timed_filter, timed_item, timed_out, timed_projection, timed_src, timed_query, timed_set, timed_value, timed_arg, timed}
use Rattle.wm_timed.specs.Left.{is_sysdate, const_waits, per_waits, operand_waits, expr_waits, cond_waits, filter_waits, item_waits, out_waits, projection_waits, src_waits, query_waits, set_waits, value_waits, arg_waits, has_sysdate}

neither : {a b : Bool} → a ≡ false → b ≡ false → (a || b) ≡ false
neither {a} {b} p q = ap (λ (x : Bool). x || b) p ∙ q

none_in : {A : Type 0} (waits : A → Bool) (put : A → A) → ((x : A) → waits (put x) ≡ false) → (xs : List A) → list_any waits (map put xs) ≡ false
none_in waits put none [] = refl
none_in waits put none (x ∷ xs) = neither (none x) (none_in waits put none xs)

end_none : (m : ℕ) (e : PeriodEnd) → is_sysdate (timed_end m e) ≡ false
end_none m ends.Sysdate = refl
end_none m (ends.Time t) = refl

const_none : (m : ℕ) (c : Const) → const_waits (timed_const m c) ≡ false
const_none m consts.Null = refl
const_none m (consts.Num n) = refl
const_none m (consts.Text t) = refl
const_none m (consts.Time t) = refl
const_none m consts.Sysdate = refl
const_none m (consts.Span from till) = neither (end_none m from) (end_none m till)

per_none : (m : ℕ) (p : Per) → per_waits (timed_per m p) ≡ false
per_none m (pers.Valid source) = refl
per_none m (pers.Span from till) = neither (end_none m from) (end_none m till)

operand_none : (m : ℕ) (x : Operand) → operand_waits (timed_operand m x) ≡ false
operand_none m (operands.Col col) = refl
operand_none m (operands.Const c) = const_none m c
operand_none m (operands.Test operator left right) = neither (per_none m left) (per_none m right)

expr_none : (m : ℕ) (x : Expr) → expr_waits (timed_expr m x) ≡ false
expr_none m (Of x) = operand_none m x
expr_none m (Neg x) = expr_none m x
expr_none m (Add x y) = neither (expr_none m x) (expr_none m y)
expr_none m (Sub x y) = neither (expr_none m x) (expr_none m y)
expr_none m (Mul x y) = neither (expr_none m x) (expr_none m y)

cond_none : (m : ℕ) (c : Cond) → cond_waits (timed_cond m c) ≡ false
cond_none m (Or x y) = neither (cond_none m x) (cond_none m y)
cond_none m (And x y) = neither (cond_none m x) (cond_none m y)
cond_none m (Not x) = cond_none m x
cond_none m (Compare x cmp y) = neither (operand_none m x) (operand_none m y)
cond_none m (IsNull x negated) = operand_none m x
cond_none m (OneOf x negated list) = neither (operand_none m x) (none_in const_waits (timed_const m) (const_none m) list)
cond_none m (Between x negated low high) = neither (operand_none m x) (neither (operand_none m low) (operand_none m high))

filter_none : (m : ℕ) (f : Option Cond) → filter_waits (timed_filter m f) ≡ false
filter_none m None = refl
filter_none m (Some c) = cond_none m c

item_none : (m : ℕ) (i : Item) → item_waits (timed_item m i) ≡ false
item_none m (Plain x) = expr_none m x
item_none m CountAll = refl
item_none m (Aggregate agg x) = expr_none m x

projection_none : (m : ℕ) (p : Projection) → projection_waits (timed_projection m p) ≡ false
projection_none m All = refl
projection_none m (Outs os) = none_in out_waits (timed_out m) (λ o. item_none m o.item) os

query_none : (m : ℕ) (q : Query) → query_waits (timed_query m q) ≡ false
query_none m q = neither (projection_none m q.projection) (neither (none_in src_waits (timed_src m) (λ s. filter_none m s.on) q.sources) (filter_none m q.filter))

value_none : (m : ℕ) (v : ArgValue) → value_waits (timed_value m v) ≡ false
value_none m (values.Const c) = const_none m c
value_none m (values.Bool b) = refl

timed_none : (m : ℕ) (s : Statement) → has_sysdate (timed m s) ≡ false
timed_none m (Create table items) = refl
timed_none m (Insert table names values) = none_in expr_waits (timed_expr m) (expr_none m) values
timed_none m (Update table sets filter) = neither (none_in set_waits (timed_set m) (λ s. expr_none m s.becomes) sets) (filter_none m filter)
timed_none m (Delete table filter) = filter_none m filter
timed_none m (Select q) = query_none m q
timed_none m (Call procedure args condition) = neither (none_in arg_waits (timed_arg m) (λ a. value_none m a.value) args) (filter_none m condition)

-- a statement that is one with the moment in the place of each SYSDATE has none
pub none_left : (m : ℕ) (old new : Statement) → new ≡ timed m old → has_sysdate new ≡ false
none_left m old new e = ap has_sysdate e ∙ timed_none m old
