-- Where no written period of a statement is empty, each of its expressions may be evaluated.
use Rattle.std.proofs.Common.{◌≡◌, ℕ, Bool, true, false, ◌||◌, List, [], ◌∷◌, Option, refl}
use Rattle.std.specs.Prelude.{nat_lt}
use Rattle.std.specs.List.{list_any, list_all}
use Rattle.std.proofs.lemmas.Bool.{or_parts, and_from, not-false, true≢false}
use Rattle.wm_syntax.specs.declared.constant.Const.{Const}
use Rattle.wm_syntax.specs.declared.constant.Const.TheVariants as consts
use Rattle.wm_syntax.specs.declared.operand.Operand.{Operand}
use Rattle.wm_syntax.specs.declared.operand.Operand.TheVariants as operands
use Rattle.wm_syntax.specs.declared.query.Agg.{Agg}
use Rattle.wm_syntax.specs.Trees.{Expr, Of, Neg, Add, Sub, Mul, Cond, Item, Plain, CountAll, Aggregate, Out, Query, Set, Insert, Update}
use Rattle.wm_spec.specs.Operands.{end_seconds}
use Rattle.wm_spec.specs.Expressions.{lasts, has_no_empty_period}
use Rattle.wm_calls.specs.Empty.{is_empty_const, operand_has_empty, expr_has_empty, filter_has_empty, item_has_empty, out_has_empty, projection_has_empty, src_has_empty, query_has_empty, set_has_empty, has_empty_period}

const_lasts : (c : Const) → is_empty_const c ≡ false → lasts (operands.Const c) ≡ true
const_lasts consts.Null none = refl
const_lasts (consts.Num n) none = refl
const_lasts (consts.Text text) none = refl
const_lasts (consts.Time seconds) none = refl
const_lasts consts.Sysdate none = refl
const_lasts (consts.Span from till) none = not-false (nat_lt (end_seconds from) (end_seconds till)) none

operand_lasts : (x : Operand) → operand_has_empty x ≡ false → lasts x ≡ true
operand_lasts (operands.Col col) none = refl
operand_lasts (operands.Const c) none = const_lasts c none
operand_lasts (operands.Test operator left right) none = refl

pub expr_lasts : (x : Expr) → expr_has_empty x ≡ false → has_no_empty_period x ≡ true
expr_lasts (Of x) none = operand_lasts x none
expr_lasts (Neg x) none = expr_lasts x none
expr_lasts (Add x y) none = let h = or_parts (expr_has_empty x) (expr_has_empty y) none in and_from _ _ (expr_lasts x h.0) (expr_lasts y h.1)
expr_lasts (Sub x y) none = let h = or_parts (expr_has_empty x) (expr_has_empty y) none in and_from _ _ (expr_lasts x h.0) (expr_lasts y h.1)
expr_lasts (Mul x y) none = let h = or_parts (expr_has_empty x) (expr_has_empty y) none in and_from _ _ (expr_lasts x h.0) (expr_lasts y h.1)

-- ---- lists

pub exprs_last : (xs : List Expr) → list_any expr_has_empty xs ≡ false → list_all has_no_empty_period xs ≡ true
exprs_last [] none = refl
exprs_last (x ∷ xs) none = let h = or_parts (expr_has_empty x) (list_any expr_has_empty xs) none in and_from _ _ (expr_lasts x h.0) (exprs_last xs h.1)

pub sets_last : (sets : List Set) → list_any set_has_empty sets ≡ false → list_all (λ (s : Set). has_no_empty_period s.becomes) sets ≡ true
sets_last [] none = refl
sets_last (s ∷ sets) none = let h = or_parts (set_has_empty s) (list_any set_has_empty sets) none in and_from _ _ (expr_lasts s.becomes h.0) (sets_last sets h.1)

-- a test of items that asks no more of an expression than that it has no empty period
pub record AsksToLast (test : Item → Bool) : Type 0 where
  pub plain : (x : Expr) → has_no_empty_period x ≡ true → test (Plain x) ≡ true
  pub count : test CountAll ≡ true
  pub aggregate : (agg : Agg) (x : Expr) → has_no_empty_period x ≡ true → test (Aggregate agg x) ≡ true

pub item_lasts : (test : Item → Bool) → AsksToLast test → (x : Item) → item_has_empty x ≡ false → test x ≡ true
item_lasts test asks (Plain x) none = asks.plain x (expr_lasts x none)
item_lasts test asks CountAll none = asks.count
item_lasts test asks (Aggregate agg x) none = asks.aggregate agg x (expr_lasts x none)

pub outs_last : (test : Item → Bool) → AsksToLast test → (os : List Out) → list_any out_has_empty os ≡ false → list_all (λ (o : Out). test o.item) os ≡ true
outs_last test asks [] none = refl
outs_last test asks (o ∷ os) none = let h = or_parts (out_has_empty o) (list_any out_has_empty os) none in and_from _ _ (item_lasts test asks o.item h.0) (outs_last test asks os h.1)

-- ---- statements

first_of_three : (a b c : Bool) → (a || b || c) ≡ false → a ≡ false
first_of_three true b c none = absurd (true≢false none)
first_of_three false b c none = refl

-- the values of an INSERT
pub insert_lasts : (table : List ℕ) (names : Option (List (List ℕ))) (xs : List Expr) → has_empty_period (Insert table names xs) ≡ false → list_all has_no_empty_period xs ≡ true
insert_lasts table names xs none = exprs_last xs none

-- what the columns of an UPDATE become
pub update_lasts : (table : List ℕ) (sets : List Set) (filter : Option Cond) → has_empty_period (Update table sets filter) ≡ false → list_all (λ (s : Set). has_no_empty_period s.becomes) sets ≡ true
update_lasts table sets filter none = let h = or_parts (list_any set_has_empty sets) (filter_has_empty filter) none in sets_last sets h.0

-- the items of a query
pub query_lasts : (q : Query) → query_has_empty q ≡ false → projection_has_empty q.projection ≡ false
query_lasts q none = first_of_three (projection_has_empty q.projection) (list_any src_has_empty q.sources) (filter_has_empty q.filter) none
