-- The readers of expressions and conditions.
use Rattle.std.specs.Prelude.{ℕ, zero, suc, Bool, true, false, is_some, List, [], ◌∷◌}
use Rattle.wm_syntax.specs.declared.constant.Const.{Const}
use Rattle.wm_syntax.specs.declared.operand.Operand.{Operand}
use Rattle.wm_syntax.specs.declared.cond.Cmp.{Cmp}
use Rattle.wm_syntax.specs.declared.cond.Cmp.TheVariants as cmps
use Rattle.wm_syntax.specs.Trees.{Expr, Cond}
use Rattle.wm_syntax.specs.Trees as trees
use Rattle.wm_grammar.specs.Sorts as sorts
use Rattle.wm_grammar.specs.Reading.{Reader, gives_at, mark_at, ◌>>=◌, ◌>>◌, choose_at, optional_at, many_at}
use Rattle.wm_grammar.specs.OperandReaders.{constant_at, operand_at, plain_operand_at}
use Rattle.wm_grammar.specs.Expressions.{products, sums, alls, anys}

-- ---- expressions

abbrev pub times_at : Reader Expr → Reader Expr
times_at factor = do mark_at sorts.STAR; factor

abbrev pub term_at : Reader Expr → Reader Expr
term_at factor = do
  first ← factor
  others ← many_at (sorts.STAR ∷ []) (times_at factor)
  gives_at (products first others)

abbrev pub signed_term_at : Reader Expr → Reader (Bool × Expr)
signed_term_at factor =
    choose_at (sorts.PLUS ∷ []) (do mark_at sorts.PLUS; x ← term_at factor; gives_at (false, x))
    (do mark_at sorts.MINUS; x ← term_at factor; gives_at (true, x))

abbrev pub expr_of_at : Reader Expr → Reader Expr
expr_of_at factor = do
  first ← term_at factor
  others ← many_at (sorts.PLUS ∷ sorts.MINUS ∷ []) (signed_term_at factor)
  gives_at (sums first others)

unfoldable pub factor_at : ℕ → Reader Expr
factor_at zero = do x ← plain_operand_at; gives_at (trees.Of x)
factor_at (suc depth) =
    choose_at (sorts.MINUS ∷ []) (do mark_at sorts.MINUS; x ← factor_at depth; gives_at (trees.Neg x))
    (choose_at (sorts.OPEN ∷ []) (do mark_at sorts.OPEN; x ← expr_of_at (factor_at depth); mark_at sorts.CLOSE; gives_at x)
    (do x ← plain_operand_at; gives_at (trees.Of x)))

unfoldable pub expr_at : ℕ → Reader Expr
expr_at depth = expr_of_at (factor_at depth)

-- ---- conditions

unfoldable pub comparison_at : Reader Cmp
comparison_at =
    choose_at (sorts.EQ ∷ []) (do mark_at sorts.EQ; gives_at cmps.Eq)
    (choose_at (sorts.NOT_EQ ∷ []) (do mark_at sorts.NOT_EQ; gives_at cmps.NotEq)
    (choose_at (sorts.BANG_EQ ∷ []) (do mark_at sorts.BANG_EQ; gives_at cmps.BangEq)
    (choose_at (sorts.LT ∷ []) (do mark_at sorts.LT; gives_at cmps.Lt)
    (choose_at (sorts.LE ∷ []) (do mark_at sorts.LE; gives_at cmps.Le)
    (choose_at (sorts.GT ∷ []) (do mark_at sorts.GT; gives_at cmps.Gt)
    (do mark_at sorts.GE; gives_at cmps.Ge))))))

abbrev pub next_constant_at : Reader Const
next_constant_at = do mark_at sorts.COMMA; constant_at

unfoldable pub constant_list_at : Reader (List Const)
constant_list_at = do
  first ← constant_at
  others ← many_at (sorts.COMMA ∷ []) next_constant_at
  gives_at (first ∷ others)

unfoldable pub chosen_at : Operand → Bool → Reader Cond
chosen_at what negated =
    choose_at (sorts.IN ∷ []) (do mark_at sorts.IN; mark_at sorts.OPEN; list ← constant_list_at; mark_at sorts.CLOSE; gives_at (trees.OneOf what negated list))
    (do mark_at sorts.BETWEEN; low ← operand_at; mark_at sorts.AND; high ← operand_at; gives_at (trees.Between what negated low high))

abbrev pub comparisons : List ℕ
comparisons = sorts.EQ ∷ sorts.NOT_EQ ∷ sorts.BANG_EQ ∷ sorts.LT ∷ sorts.LE ∷ sorts.GT ∷ sorts.GE ∷ []

unfoldable pub test_of_at : Operand → Reader Cond
test_of_at what =
    choose_at (sorts.IS ∷ []) (do mark_at sorts.IS; negated ← optional_at (sorts.NOT ∷ []) (mark_at sorts.NOT); mark_at sorts.NULL; gives_at (trees.IsNull what (is_some negated)))
    (choose_at (sorts.NOT ∷ []) (do mark_at sorts.NOT; chosen_at what true)
    (choose_at comparisons (do cmp ← comparison_at; other ← operand_at; gives_at (trees.Compare what cmp other))
    (chosen_at what false)))

unfoldable pub test_at : Reader Cond
test_at = do what ← operand_at; test_of_at what

abbrev pub and_at : Reader Cond → Reader Cond
and_at neg = do mark_at sorts.AND; neg

abbrev pub conj_at : Reader Cond → Reader Cond
conj_at neg = do
  first ← neg
  others ← many_at (sorts.AND ∷ []) (and_at neg)
  gives_at (alls first others)

abbrev pub or_at : Reader Cond → Reader Cond
or_at neg = do mark_at sorts.OR; conj_at neg

abbrev pub cond_of_at : Reader Cond → Reader Cond
cond_of_at neg = do
  first ← conj_at neg
  others ← many_at (sorts.OR ∷ []) (or_at neg)
  gives_at (anys first others)

unfoldable pub negation_at : ℕ → Reader Cond
negation_at zero = test_at
negation_at (suc depth) =
    choose_at (sorts.NOT ∷ []) (do mark_at sorts.NOT; x ← negation_at depth; gives_at (trees.Not x))
    (choose_at (sorts.OPEN ∷ []) (do mark_at sorts.OPEN; x ← cond_of_at (negation_at depth); mark_at sorts.CLOSE; gives_at x)
    test_at)

unfoldable pub condition_at : ℕ → Reader Cond
condition_at depth = cond_of_at (negation_at depth)
