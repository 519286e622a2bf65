-- Expressions and conditions. Where a depth is given, at most so many parentheses, signs and NOT may be open at one place.
use Rattle.std.specs.Prelude.{ℕ, zero, suc, Bool, true, false, is_some, List, [], ◌∷◌}
use Rattle.wm_syntax.specs.declared.constant.Const.{Const}
use Rattle.wm_syntax.specs.declared.operand.Operand.{Operand}
use Rattle.wm_syntax.specs.declared.cond.Cmp.{Cmp}
use Rattle.wm_syntax.specs.declared.cond.Cmp.TheVariants as cmps
use Rattle.wm_syntax.specs.Trees.{Expr, Cond}
use Rattle.wm_syntax.specs.Trees as trees
use Rattle.wm_grammar.specs.Sorts as sorts
use Rattle.wm_grammar.specs.Forms.{Form, gives, mark, ◌>>=◌, ◌>>◌, ◌or◌, optional, many}
use Rattle.wm_grammar.specs.Operands.{constant, operand, plain_operand}

-- ---- expressions

-- chains nest to the left
abbrev pub products : Expr → List Expr → Expr
products x [] = x
products x (y ∷ ys) = products (trees.Mul x y) ys

-- a term, and the sign before it
abbrev pub signed : Bool → Expr → Expr → Expr
signed true x y = trees.Sub x y
signed false x y = trees.Add x y

abbrev pub sums : Expr → List (Bool × Expr) → Expr
sums x [] = x
sums x (y ∷ ys) = sums (signed y.0 x y.1) ys

-- term = factor {"*" factor}
abbrev pub term_of : Form Expr → Form Expr
term_of factor = do
  first ← factor
  others ← many (do mark sorts.STAR; factor)
  gives (products first others)

-- ("+" | "-") term
abbrev pub signed_term : Form Expr → Form (Bool × Expr)
signed_term factor =
    (do mark sorts.PLUS; x ← term_of factor; gives (false, x))
    or (do mark sorts.MINUS; x ← term_of factor; gives (true, x))

-- expr = term {("+" | "-") term}
abbrev pub expr_of : Form Expr → Form Expr
expr_of factor = do
  first ← term_of factor
  others ← many (signed_term factor)
  gives (sums first others)

-- factor = "-" factor | "(" expr ")" | operand
unfoldable pub factor : ℕ → Form Expr
factor zero = do x ← plain_operand; gives (trees.Of x)
factor (suc depth) =
    (do mark sorts.MINUS; x ← factor depth; gives (trees.Neg x))
    or (do mark sorts.OPEN; x ← expr_of (factor depth); mark sorts.CLOSE; gives x)
    or (do x ← plain_operand; gives (trees.Of x))

unfoldable pub expr : ℕ → Form Expr
expr depth = expr_of (factor depth)

-- ---- conditions

-- cmp = "=" | "<>" | "!=" | "<" | "<=" | ">" | ">="
unfoldable pub comparison : Form Cmp
comparison =
    (do mark sorts.EQ; gives cmps.Eq)
    or (do mark sorts.NOT_EQ; gives cmps.NotEq)
    or (do mark sorts.BANG_EQ; gives cmps.BangEq)
    or (do mark sorts.LT; gives cmps.Lt)
    or (do mark sorts.LE; gives cmps.Le)
    or (do mark sorts.GT; gives cmps.Gt)
    or (do mark sorts.GE; gives cmps.Ge)

-- const {"," const}
unfoldable pub constant_list : Form (List Const)
constant_list = do
  first ← constant
  others ← many (do mark sorts.COMMA; constant)
  gives (first ∷ others)

-- IN "(" const {"," const} ")", or BETWEEN operand AND operand, behind an operand and perhaps NOT
unfoldable pub chosen : Operand → Bool → Form Cond
chosen what negated =
    (do mark sorts.IN; mark sorts.OPEN; list ← constant_list; mark sorts.CLOSE; gives (trees.OneOf what negated list))
    or (do mark sorts.BETWEEN; low ← operand; mark sorts.AND; high ← operand; gives (trees.Between what negated low high))

-- what makes a test of an operand
unfoldable pub test_of : Operand → Form Cond
test_of what =
    (do mark sorts.IS; negated ← optional (mark sorts.NOT); mark sorts.NULL; gives (trees.IsNull what (is_some negated)))
    or (do mark sorts.NOT; chosen what true)
    or (do cmp ← comparison; other ← operand; gives (trees.Compare what cmp other))
    or chosen what false

-- test = operand cmp operand | operand IS [NOT] NULL | operand [NOT] IN "(" const {"," const} ")" | operand [NOT] BETWEEN operand AND operand
unfoldable pub test : Form Cond
test = do what ← operand; test_of what

abbrev pub alls : Cond → List Cond → Cond
alls x [] = x
alls x (y ∷ ys) = alls (trees.And x y) ys

abbrev pub anys : Cond → List Cond → Cond
anys x [] = x
anys x (y ∷ ys) = anys (trees.Or x y) ys

-- conj = neg {AND neg}
abbrev pub conj_of : Form Cond → Form Cond
conj_of neg = do
  first ← neg
  others ← many (do mark sorts.AND; neg)
  gives (alls first others)

-- cond = conj {OR conj}
abbrev pub cond_of : Form Cond → Form Cond
cond_of neg = do
  first ← conj_of neg
  others ← many (do mark sorts.OR; conj_of neg)
  gives (anys first others)

-- neg = NOT neg | "(" cond ")" | test
unfoldable pub negation : ℕ → Form Cond
negation zero = test
negation (suc depth) =
    (do mark sorts.NOT; x ← negation depth; gives (trees.Not x))
    or (do mark sorts.OPEN; x ← cond_of (negation depth); mark sorts.CLOSE; gives x)
    or test

unfoldable pub condition : ℕ → Form Cond
condition depth = cond_of (negation depth)
