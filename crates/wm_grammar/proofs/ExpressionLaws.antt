-- The readers of expressions and conditions are exact.
use Rattle.std.proofs.Common.{ℕ, zero, suc, Bool, true, false, List, [], ◌∷◌, refl}
use Rattle.std.specs.Prelude.{is_some}
use Rattle.wm_syntax.specs.declared.operand.Operand.{Operand}
use Rattle.wm_syntax.specs.declared.cond.Cmp.TheVariants as cmps
use Rattle.wm_syntax.specs.Trees.{Expr, Cond}
use Rattle.wm_syntax.specs.Trees as trees
use Rattle.wm_grammar.specs.Sorts as sorts
use Rattle.wm_grammar.specs.Forms.{Form}
use Rattle.wm_grammar.specs.Reading.{Reader}
use Rattle.wm_grammar.specs.Expressions.{products, sums, term_of, signed_term, expr_of, factor, expr, comparison, constant_list, chosen, test_of, test, alls, anys, conj_of, cond_of, negation, condition}
use Rattle.wm_grammar.specs.ExpressionReaders.{term_at, signed_term_at, expr_of_at, factor_at, expr_at, comparison_at, constant_list_at, chosen_at, comparisons, test_of_at, test_at, conj_at, cond_of_at, negation_at, condition_at}
use Rattle.wm_grammar.proofs.Laws.{Shape, Exact, gives_exact, mark_exact, then_exact, or_exact, optional_exact, loosened}
use Rattle.wm_grammar.proofs.Repeating.{many_exact}
use Rattle.wm_grammar.proofs.OperandLaws.{solid, operand_next, operand_sorts, plain_operand_sorts, constants, constant_exact, operand_exact, plain_operand_exact}

-- ---- expressions

abbrev pub factor_sorts : List ℕ
factor_sorts = sorts.MINUS ∷ sorts.OPEN ∷ plain_operand_sorts

abbrev pub factor_shape : Shape
factor_shape = solid factor_sorts operand_next []

abbrev pub term_shape : Shape
term_shape = solid factor_sorts (sorts.STAR ∷ operand_next) []

abbrev pub expr_next : List ℕ
expr_next = sorts.PLUS ∷ sorts.MINUS ∷ sorts.STAR ∷ operand_next

abbrev pub expr_shape : Shape
expr_shape = solid factor_sorts expr_next []

pub term_exact : {f : Form Expr} {r : Reader Expr} → Exact f r factor_shape → Exact (term_of f) (term_at r) term_shape
term_exact e =
    loosened term_shape (then_exact e (λ first. then_exact (many_exact (then_exact (mark_exact sorts.STAR) (λ _. e) refl) refl refl refl) (λ others. gives_exact (products first others)) refl) refl) refl refl refl refl

abbrev pub signed_shape : Shape
signed_shape = solid (sorts.PLUS ∷ sorts.MINUS ∷ []) (sorts.STAR ∷ operand_next) (sorts.PLUS ∷ sorts.MINUS ∷ [])

pub signed_term_exact : {f : Form Expr} {r : Reader Expr} → Exact f r factor_shape → Exact (signed_term f) (signed_term_at r) signed_shape
signed_term_exact e =
    loosened signed_shape
    (or_exact (then_exact (mark_exact sorts.PLUS) (λ _. then_exact (term_exact e) (λ x. gives_exact {A = Bool × Expr} (false, x)) refl) refl)
    (then_exact (mark_exact sorts.MINUS) (λ _. then_exact (term_exact e) (λ x. gives_exact {A = Bool × Expr} (true, x)) refl) refl) refl refl refl)
    refl refl refl refl

pub expr_of_exact : {f : Form Expr} {r : Reader Expr} → Exact f r factor_shape → Exact (expr_of f) (expr_of_at r) expr_shape
expr_of_exact e =
    loosened expr_shape (then_exact (term_exact e) (λ first. then_exact (many_exact (signed_term_exact e) refl refl refl) (λ others. gives_exact (sums first others)) refl) refl) refl refl refl refl

pub factor_exact : (depth : ℕ) → Exact (factor depth) (factor_at depth) factor_shape
unfolding factor factor_at
factor_exact zero = loosened factor_shape (then_exact plain_operand_exact (λ x. gives_exact (trees.Of x)) refl) refl refl refl refl
factor_exact (suc depth) =
    loosened factor_shape
    (or_exact (then_exact (mark_exact sorts.MINUS) (λ _. then_exact (factor_exact depth) (λ x. gives_exact (trees.Neg x)) refl) refl)
    (or_exact (then_exact (mark_exact sorts.OPEN) (λ _. then_exact (expr_of_exact (factor_exact depth)) (λ x. then_exact (mark_exact sorts.CLOSE) (λ _. gives_exact x) refl) refl) refl)
    (then_exact plain_operand_exact (λ x. gives_exact (trees.Of x)) refl) refl refl refl) refl refl refl)
    refl refl refl refl

pub expr_exact : (depth : ℕ) → Exact (expr depth) (expr_at depth) expr_shape
unfolding expr expr_at
expr_exact depth = expr_of_exact (factor_exact depth)

-- ---- conditions

pub comparison_exact : Exact comparison comparison_at (solid comparisons [] comparisons)
unfolding comparison comparison_at
comparison_exact =
    loosened (solid comparisons [] comparisons)
    (or_exact (then_exact (mark_exact sorts.EQ) (λ _. gives_exact cmps.Eq) refl)
    (or_exact (then_exact (mark_exact sorts.NOT_EQ) (λ _. gives_exact cmps.NotEq) refl)
    (or_exact (then_exact (mark_exact sorts.BANG_EQ) (λ _. gives_exact cmps.BangEq) refl)
    (or_exact (then_exact (mark_exact sorts.LT) (λ _. gives_exact cmps.Lt) refl)
    (or_exact (then_exact (mark_exact sorts.LE) (λ _. gives_exact cmps.Le) refl)
    (or_exact (then_exact (mark_exact sorts.GT) (λ _. gives_exact cmps.Gt) refl)
    (then_exact (mark_exact sorts.GE) (λ _. gives_exact cmps.Ge) refl)
    refl refl refl) refl refl refl) refl refl refl) refl refl refl) refl refl refl) refl refl refl)
    refl refl refl refl

pub constant_list_exact : Exact constant_list constant_list_at (solid constants (sorts.COMMA ∷ []) [])
unfolding constant_list constant_list_at
constant_list_exact =
    loosened (solid constants (sorts.COMMA ∷ []) [])
    (then_exact constant_exact (λ first. then_exact (many_exact (then_exact (mark_exact sorts.COMMA) (λ _. constant_exact) refl) refl refl refl) (λ others. gives_exact (first ∷ others)) refl) refl)
    refl refl refl refl

abbrev pub chosen_shape : Shape
chosen_shape = solid (sorts.IN ∷ sorts.BETWEEN ∷ []) operand_next (sorts.IN ∷ sorts.BETWEEN ∷ [])

pub chosen_exact : (what : Operand) (negated : Bool) → Exact (chosen what negated) (chosen_at what negated) chosen_shape
unfolding chosen chosen_at
chosen_exact what negated =
    loosened chosen_shape
    (or_exact (then_exact (mark_exact sorts.IN) (λ _. then_exact (mark_exact sorts.OPEN) (λ _. then_exact constant_list_exact (λ list. then_exact (mark_exact sorts.CLOSE) (λ _. gives_exact (trees.OneOf what negated list)) refl) refl) refl) refl)
    (then_exact (mark_exact sorts.BETWEEN) (λ _. then_exact operand_exact (λ low. then_exact (mark_exact sorts.AND) (λ _. then_exact operand_exact (λ high. gives_exact (trees.Between what negated low high)) refl) refl) refl) refl)
    refl refl refl)
    refl refl refl refl

abbrev pub test_of_sorts : List ℕ
test_of_sorts = sorts.IS ∷ sorts.NOT ∷ sorts.EQ ∷ sorts.NOT_EQ ∷ sorts.BANG_EQ ∷ sorts.LT ∷ sorts.LE ∷ sorts.GT ∷ sorts.GE ∷ sorts.IN ∷ sorts.BETWEEN ∷ []

pub test_of_exact : (what : Operand) → Exact (test_of what) (test_of_at what) (solid test_of_sorts operand_next test_of_sorts)
unfolding test_of test_of_at
test_of_exact what =
    loosened (solid test_of_sorts operand_next test_of_sorts)
    (or_exact (then_exact (mark_exact sorts.IS) (λ _. then_exact (optional_exact (mark_exact sorts.NOT) refl refl) (λ negated. then_exact (mark_exact sorts.NULL) (λ _. gives_exact (trees.IsNull what (is_some negated))) refl) refl) refl)
    (or_exact (then_exact (mark_exact sorts.NOT) (λ _. chosen_exact what true) refl)
    (or_exact (then_exact comparison_exact (λ cmp. then_exact operand_exact (λ other. gives_exact (trees.Compare what cmp other)) refl) refl)
    (chosen_exact what false) refl refl refl) refl refl refl) refl refl refl)
    refl refl refl refl

abbrev pub negation_sorts : List ℕ
negation_sorts = sorts.NOT ∷ sorts.OPEN ∷ operand_sorts

abbrev pub negation_shape : Shape
negation_shape = solid negation_sorts operand_next []

pub test_exact : Exact test test_at negation_shape
unfolding test test_at
test_exact = loosened negation_shape (then_exact operand_exact test_of_exact refl) refl refl refl refl

plain_test_exact : Exact test test_at (solid operand_sorts operand_next [])
unfolding test test_at
plain_test_exact = loosened (solid operand_sorts operand_next []) (then_exact operand_exact test_of_exact refl) refl refl refl refl

abbrev pub conj_shape : Shape
conj_shape = solid negation_sorts (sorts.AND ∷ operand_next) []

pub conj_exact : {f : Form Cond} {r : Reader Cond} → Exact f r negation_shape → Exact (conj_of f) (conj_at r) conj_shape
conj_exact e =
    loosened conj_shape (then_exact e (λ first. then_exact (many_exact (then_exact (mark_exact sorts.AND) (λ _. e) refl) refl refl refl) (λ others. gives_exact (alls first others)) refl) refl) refl refl refl refl

abbrev pub cond_next : List ℕ
cond_next = sorts.OR ∷ sorts.AND ∷ operand_next

abbrev pub cond_shape : Shape
cond_shape = solid negation_sorts cond_next []

pub cond_of_exact : {f : Form Cond} {r : Reader Cond} → Exact f r negation_shape → Exact (cond_of f) (cond_of_at r) cond_shape
cond_of_exact e =
    loosened cond_shape (then_exact (conj_exact e) (λ first. then_exact (many_exact (then_exact (mark_exact sorts.OR) (λ _. conj_exact e) refl) refl refl refl) (λ others. gives_exact (anys first others)) refl) refl) refl refl refl refl

pub negation_exact : (depth : ℕ) → Exact (negation depth) (negation_at depth) negation_shape
unfolding negation negation_at
negation_exact zero = test_exact
negation_exact (suc depth) =
    loosened negation_shape
    (or_exact (then_exact (mark_exact sorts.NOT) (λ _. then_exact (negation_exact depth) (λ x. gives_exact (trees.Not x)) refl) refl)
    (or_exact (then_exact (mark_exact sorts.OPEN) (λ _. then_exact (cond_of_exact (negation_exact depth)) (λ x. then_exact (mark_exact sorts.CLOSE) (λ _. gives_exact x) refl) refl) refl)
    plain_test_exact refl refl refl) refl refl refl)
    refl refl refl refl

pub condition_exact : (depth : ℕ) → Exact (condition depth) (condition_at depth) cond_shape
unfolding condition condition_at
condition_exact depth = cond_of_exact (negation_exact depth)
