-- The trees of the lines, without where they lie in memory.
use Rattle.std.specs.Prelude.{ℕ, Bool, true, false, ◌||◌, not, List, [], ◌∷◌, Option}
use Rattle.std.specs.List.{list_any}
use Rattle.wm_syntax.specs.declared.column.Col.{Col}
use Rattle.wm_syntax.specs.declared.constant.Const.{Const}
use Rattle.wm_syntax.specs.declared.operand.Operand.{Operand}
use Rattle.wm_syntax.specs.declared.cond.Cmp.{Cmp}
use Rattle.wm_syntax.specs.declared.query.Agg.{Agg}
use Rattle.wm_syntax.specs.declared.query.Order.{Order}
use Rattle.wm_syntax.specs.declared.statement.CreateItem.{CreateItem}
use Rattle.wm_syntax.specs.declared.statement.Arg.{Arg}

pub data Expr : Type 0 where
  Of : Operand → Expr
  Neg : Expr → Expr
  Add : Expr → Expr → Expr
  Sub : Expr → Expr → Expr
  Mul : Expr → Expr → Expr

pub data Cond : Type 0 where
  Or : Cond → Cond → Cond
  And : Cond → Cond → Cond
  Not : Cond → Cond
  Compare : Operand → Cmp → Operand → Cond
  -- the operand, and whether NOT stands before NULL, IN or BETWEEN
  IsNull : Operand → Bool → Cond
  OneOf : Operand → Bool → List Const → Cond
  Between : Operand → Bool → Operand → Operand → Cond

pub data Item : Type 0 where
  Plain : Expr → Item
  CountAll : Item
  Aggregate : Agg → Expr → Item

pub record Out : Type 0 where
  pub item : Item
  pub alias : Option (List ℕ)

pub data Projection : Type 0 where
  All : Projection
  Outs : List Out → Projection

pub record Src : Type 0 where
  pub table : List ℕ
  pub alias : Option (List ℕ)
  pub on : Option Cond

pub record Query : Type 0 where
  pub distinct : Bool
  pub projection : Projection
  pub sources : List Src
  pub filter : Option Cond
  pub groups : List Col
  pub orders : List Order

pub record Set : Type 0 where
  pub name : List ℕ
  pub becomes : Expr

pub data Statement : Type 0 where
  Create : List ℕ → List CreateItem → Statement
  Insert : List ℕ → Option (List (List ℕ)) → List Expr → Statement
  Update : List ℕ → List Set → Option Cond → Statement
  Delete : List ℕ → Option Cond → Statement
  Select : Query → Statement
  Call : List ℕ → List Arg → Option Cond → Statement

pub data Line : Type 0 where
  Connect : List ℕ → List ℕ → Line
  Disconnect : List ℕ → Line
  At : ℕ → Line
  Run : List ℕ → Statement → Line

-- ---- queries that answer groups of rows

abbrev pub is_aggregate : Item → Bool
is_aggregate (Plain x) = false
is_aggregate CountAll = true
is_aggregate (Aggregate agg x) = true

abbrev pub has_aggregate : Projection → Bool
has_aggregate All = false
has_aggregate (Outs outs) = list_any (λ (o : Out). is_aggregate o.item) outs

abbrev pub is_empty : {X : Type 0} → List X → Bool
is_empty [] = true
is_empty (x ∷ xs) = false

-- the query has GROUP BY or an aggregate
abbrev pub is_grouped : Query → Bool
is_grouped query = not (is_empty query.groups) || has_aggregate query.projection
