-- The readers of names, constants, columns and operands are exact.
use Rattle.std.proofs.Common.{ℕ, true, false, List, [], ◌∷◌, Option, Some, None, refl}
use Rattle.std.specs.Prelude.{pos}
use Rattle.std.proofs.Math.IntN.{neg_ℤ}
use Rattle.wm_base.specs.declared.instant.TheConstants.{END}
use Rattle.wm_syntax.specs.declared.column.Col.{Col}
use Rattle.wm_syntax.specs.declared.column.Suffix.TheVariants.{ValidFrom, ValidTill}
use Rattle.wm_syntax.specs.declared.constant.PeriodEnd.TheVariants as ends
use Rattle.wm_syntax.specs.declared.constant.PeriodEnd.{PeriodEnd}
use Rattle.wm_syntax.specs.declared.constant.Const.{Const}
use Rattle.wm_syntax.specs.declared.constant.Const.TheVariants as consts
use Rattle.wm_syntax.specs.declared.operand.Per.TheVariants as pers
use Rattle.wm_syntax.specs.declared.operand.Operator.{Operator}
use Rattle.wm_syntax.specs.declared.operand.Operand.TheVariants as operands
use Rattle.wm_instants.specs.declared.form.DateForm.TheVariants as dates
use Rattle.wm_grammar.specs.Sorts as sorts
use Rattle.wm_grammar.specs.Meaning.{folded, int_of, between, unquoted, instant_for, mask_of, operator_of}
use Rattle.wm_grammar.specs.Operands.{word, integer, quoted, mask, text_constant, plain_name, name, instant, until_changed, period_end, period, plain_constant, constant, suffix, column_of, column_after, other_column, column, per, operator_test, operand_named, operand_after, operand, plain_operand}
use Rattle.wm_grammar.specs.OperandReaders.{word_at, integer_at, quoted_at, mask_at, plain_name_at, name_at, instant_at, until_changed_at, period_end_at, period_at, plain_constant_at, constant_at, suffix_at, column_of_at, column_after_at, other_column_at, column_at, per_at, operator_test_at, operand_named_at, operand_after_at, operand_at, plain_operand_at, instant_sorts, other_column_sorts}
use Rattle.wm_grammar.proofs.Laws.{Shape, Exact, one_shape, gives_exact, one_exact, one_for_exact, mark_exact, then_exact, or_exact, optional_exact, loosened}

-- a shape of what is not empty
abbrev pub solid : List ℕ → List ℕ → List ℕ → Shape
solid first next sure = record { empty = false; first = first; next = next; sure = sure }

pub word_exact : (sort : ℕ) → Exact (word sort) (word_at sort) (one_shape sort (sort ∷ []))
word_exact sort = one_exact sort folded

pub integer_exact : Exact integer integer_at (one_shape sorts.INT (sorts.INT ∷ []))
integer_exact = one_exact sorts.INT int_of

pub quoted_exact : Exact quoted quoted_at (one_shape sorts.TEXT (sorts.TEXT ∷ []))
quoted_exact = one_exact sorts.TEXT (λ t. between t.text)

pub mask_exact : Exact mask mask_at (one_shape sorts.TEXT [])
mask_exact = one_for_exact sorts.TEXT (λ t. mask_of (between t.text))

abbrev pub plain_names : List ℕ
plain_names = sorts.ID ∷ sorts.VALIDFROM ∷ sorts.VALIDTILL ∷ []

pub plain_name_exact : Exact plain_name plain_name_at (solid plain_names [] plain_names)
unfolding plain_name plain_name_at
plain_name_exact =
    loosened (solid plain_names [] plain_names) (or_exact (word_exact sorts.ID) (or_exact (word_exact sorts.VALIDFROM) (word_exact sorts.VALIDTILL) refl refl refl) refl refl refl) refl refl refl refl

abbrev pub names : List ℕ
names = sorts.WM_VALID ∷ plain_names

pub name_exact : Exact name name_at (solid names [] names)
unfolding name name_at
name_exact = loosened (solid names [] names) (or_exact (word_exact sorts.WM_VALID) plain_name_exact refl refl refl) refl refl refl refl

pub instant_exact : Exact instant instant_at (solid instant_sorts [] instant_sorts)
unfolding instant instant_at
instant_exact =
    loosened (solid instant_sorts [] instant_sorts)
    (or_exact (then_exact (mark_exact sorts.DATE) (λ _. then_exact quoted_exact (λ t. gives_exact (instant_for dates.Date t)) refl) refl)
    (or_exact (then_exact (mark_exact sorts.TIMESTAMP) (λ _. then_exact quoted_exact (λ t. gives_exact (instant_for dates.Timestamp t)) refl) refl)
    (then_exact (mark_exact sorts.TO_DATE) (λ _. then_exact (mark_exact sorts.OPEN) (λ _. then_exact quoted_exact (λ t. then_exact (mark_exact sorts.COMMA) (λ _.
    then_exact mask_exact (λ form. then_exact (mark_exact sorts.CLOSE) (λ _. gives_exact (instant_for form t)) refl) refl) refl) refl) refl) refl)
    refl refl refl) refl refl refl)
    refl refl refl refl

pub until_changed_exact : Exact until_changed until_changed_at (solid (sorts.DBMS_WM ∷ []) [] (sorts.DBMS_WM ∷ []))
unfolding until_changed until_changed_at
until_changed_exact =
    loosened (solid (sorts.DBMS_WM ∷ []) [] (sorts.DBMS_WM ∷ [])) (then_exact (mark_exact sorts.DBMS_WM) (λ _. then_exact (mark_exact sorts.DOT) (λ _. mark_exact sorts.UNTIL_CHANGED) refl) refl) refl refl refl refl

abbrev pub end_sorts : List ℕ
end_sorts = sorts.SYSDATE ∷ sorts.DBMS_WM ∷ instant_sorts

pub period_end_exact : Exact period_end period_end_at (solid end_sorts [] end_sorts)
unfolding period_end period_end_at
period_end_exact =
    loosened (solid end_sorts [] end_sorts)
    (or_exact (then_exact (mark_exact sorts.SYSDATE) (λ _. gives_exact ends.Sysdate) refl)
    (or_exact (then_exact until_changed_exact (λ _. gives_exact (ends.Time END)) refl)
    (then_exact instant_exact (λ t. gives_exact (ends.Time t)) refl) refl refl refl) refl refl refl)
    refl refl refl refl

abbrev pub period_sorts : List ℕ
period_sorts = sorts.WMSYS ∷ sorts.WM_PERIOD ∷ []

pub period_exact : Exact period period_at (solid period_sorts [] [])
unfolding period period_at
period_exact =
    loosened (solid period_sorts [] [])
    (then_exact (optional_exact (then_exact (mark_exact sorts.WMSYS) (λ _. mark_exact sorts.DOT) refl) refl refl) (λ _.
    then_exact (mark_exact sorts.WM_PERIOD) (λ _. then_exact (mark_exact sorts.OPEN) (λ _. then_exact period_end_exact (λ from. then_exact (mark_exact sorts.COMMA) (λ _.
    then_exact period_end_exact (λ till. then_exact (mark_exact sorts.CLOSE) (λ _. gives_exact {A = PeriodEnd × PeriodEnd} (from, till)) refl) refl) refl) refl) refl) refl) refl)
    refl refl refl refl

abbrev pub plain_constants : List ℕ
plain_constants = sorts.INT ∷ sorts.TEXT ∷ sorts.NULL ∷ sorts.SYSDATE ∷ sorts.DBMS_WM ∷ sorts.DATE ∷ sorts.TIMESTAMP ∷ sorts.TO_DATE ∷ period_sorts

pub plain_constant_exact : Exact plain_constant plain_constant_at (solid plain_constants [] [])
unfolding plain_constant plain_constant_at
plain_constant_exact =
    loosened (solid plain_constants [] [])
    (or_exact (then_exact integer_exact (λ n. gives_exact (consts.Num (pos n))) refl)
    (or_exact (one_exact sorts.TEXT (λ t. text_constant (unquoted t.text)))
    (or_exact (then_exact (mark_exact sorts.NULL) (λ _. gives_exact consts.Null) refl)
    (or_exact (then_exact (mark_exact sorts.SYSDATE) (λ _. gives_exact consts.Sysdate) refl)
    (or_exact (then_exact until_changed_exact (λ _. gives_exact (consts.Time END)) refl)
    (or_exact (then_exact instant_exact (λ t. gives_exact (consts.Time t)) refl)
    (then_exact period_exact (λ p. gives_exact (consts.Span p.0 p.1)) refl)
    refl refl refl) refl refl refl) refl refl refl) refl refl refl) refl refl refl) refl refl refl)
    refl refl refl refl

abbrev pub constants : List ℕ
constants = sorts.MINUS ∷ plain_constants

pub constant_exact : Exact constant constant_at (solid constants [] [])
unfolding constant constant_at
constant_exact =
    loosened (solid constants [] [])
    (or_exact (then_exact (mark_exact sorts.MINUS) (λ _. then_exact integer_exact (λ n. gives_exact (consts.Num (neg_ℤ (pos n)))) refl) refl) plain_constant_exact refl refl refl)
    refl refl refl refl

abbrev pub suffixes : List ℕ
suffixes = sorts.VALIDFROM ∷ sorts.VALIDTILL ∷ []

pub suffix_exact : Exact suffix suffix_at (solid suffixes [] suffixes)
unfolding suffix suffix_at
suffix_exact =
    loosened (solid suffixes [] suffixes) (or_exact (then_exact (mark_exact sorts.VALIDFROM) (λ _. gives_exact ValidFrom) refl) (then_exact (mark_exact sorts.VALIDTILL) (λ _. gives_exact ValidTill) refl) refl refl refl) refl refl refl refl

pub column_of_exact : (source : Option (List ℕ)) → Exact (column_of source) (column_of_at source) (solid names (sorts.DOT ∷ []) names)
unfolding column_of column_of_at
column_of_exact source =
    loosened (solid names (sorts.DOT ∷ []) names)
    (or_exact (then_exact (word_exact sorts.WM_VALID) (λ n. then_exact (optional_exact (then_exact (mark_exact sorts.DOT) (λ _. suffix_exact) refl) refl refl) (λ end. gives_exact {A = Col} (record { source = source; name = n; suffix = end })) refl) refl)
    (then_exact plain_name_exact (λ n. gives_exact {A = Col} (record { source = source; name = n; suffix = None })) refl) refl refl refl)
    refl refl refl refl

abbrev pub after_shape : Shape
after_shape = record { empty = true; first = sorts.DOT ∷ []; next = sorts.DOT ∷ []; sure = [] }

pub column_after_exact : (first : List ℕ) → Exact (column_after first) (column_after_at first) after_shape
unfolding column_after column_after_at
column_after_exact first =
    loosened after_shape
    (or_exact (then_exact (mark_exact sorts.DOT) (λ _. column_of_exact (Some first)) refl) (gives_exact {A = Col} (record { source = None; name = first; suffix = None })) refl refl refl)
    refl refl refl refl

pub other_column_exact : Exact other_column other_column_at (solid other_column_sorts (sorts.DOT ∷ []) other_column_sorts)
unfolding other_column other_column_at
other_column_exact =
    loosened (solid other_column_sorts (sorts.DOT ∷ []) other_column_sorts)
    (or_exact (then_exact (word_exact sorts.WM_VALID) (λ n. then_exact (optional_exact (then_exact (mark_exact sorts.DOT) (λ _. suffix_exact) refl) refl refl) (λ end. gives_exact {A = Col} (record { source = None; name = n; suffix = end })) refl) refl)
    (then_exact (or_exact (word_exact sorts.VALIDFROM) (word_exact sorts.VALIDTILL) refl refl refl) (λ n. gives_exact {A = Col} (record { source = None; name = n; suffix = None })) refl) refl refl refl)
    refl refl refl refl

abbrev pub columns : List ℕ
columns = sorts.ID ∷ other_column_sorts

pub column_exact : Exact column column_at (solid columns (sorts.DOT ∷ []) columns)
unfolding column column_at
column_exact =
    loosened (solid columns (sorts.DOT ∷ []) columns) (or_exact (then_exact (word_exact sorts.ID) column_after_exact refl) other_column_exact refl refl refl) refl refl refl refl

abbrev pub per_sorts : List ℕ
per_sorts = sorts.ID ∷ sorts.WM_VALID ∷ period_sorts

pub per_exact : Exact per per_at (solid per_sorts [] [])
unfolding per per_at
per_exact =
    loosened (solid per_sorts [] [])
    (or_exact (then_exact (word_exact sorts.ID) (λ n. then_exact (mark_exact sorts.DOT) (λ _. then_exact (mark_exact sorts.WM_VALID) (λ _. gives_exact (pers.Valid (Some n))) refl) refl) refl)
    (or_exact (then_exact (mark_exact sorts.WM_VALID) (λ _. gives_exact (pers.Valid None)) refl)
    (then_exact period_exact (λ p. gives_exact (pers.Span p.0 p.1)) refl) refl refl refl) refl refl refl)
    refl refl refl refl

pub operator_test_exact : (operator : Operator) → Exact (operator_test operator) (operator_test_at operator) (solid (sorts.OPEN ∷ []) [] (sorts.OPEN ∷ []))
unfolding operator_test operator_test_at
operator_test_exact operator =
    loosened (solid (sorts.OPEN ∷ []) [] (sorts.OPEN ∷ []))
    (then_exact (mark_exact sorts.OPEN) (λ _. then_exact per_exact (λ left. then_exact (mark_exact sorts.COMMA) (λ _. then_exact per_exact (λ right. then_exact (mark_exact sorts.CLOSE) (λ _.
    gives_exact (operands.Test operator left right)) refl) refl) refl) refl) refl)
    refl refl refl refl

abbrev pub operand_after_shape : Shape
operand_after_shape = record { empty = true; first = sorts.OPEN ∷ sorts.DOT ∷ []; next = sorts.OPEN ∷ sorts.DOT ∷ []; sure = [] }

operand_named_exact : (operator : Option Operator) (first : List ℕ) → Exact (operand_named operator first) (operand_named_at operator first) operand_after_shape
operand_named_exact None first = loosened operand_after_shape (then_exact (column_after_exact first) (λ c. gives_exact (operands.Col c)) refl) refl refl refl refl
operand_named_exact (Some operator) first =
    loosened operand_after_shape (or_exact (operator_test_exact operator) (then_exact (column_after_exact first) (λ c. gives_exact (operands.Col c)) refl) refl refl refl) refl refl refl refl

pub operand_after_exact : (first : List ℕ) → Exact (operand_after first) (operand_after_at first) operand_after_shape
unfolding operand_after operand_after_at
operand_after_exact first = operand_named_exact (operator_of first) first

abbrev pub operand_next : List ℕ
operand_next = sorts.OPEN ∷ sorts.DOT ∷ []

abbrev pub operand_sorts : List ℕ
operand_sorts = sorts.ID ∷ sorts.WM_VALID ∷ sorts.VALIDFROM ∷ sorts.VALIDTILL ∷ constants

abbrev pub plain_operand_sorts : List ℕ
plain_operand_sorts = sorts.ID ∷ sorts.WM_VALID ∷ sorts.VALIDFROM ∷ sorts.VALIDTILL ∷ plain_constants

pub operand_exact : Exact operand operand_at (solid operand_sorts operand_next [])
unfolding operand operand_at
operand_exact =
    loosened (solid operand_sorts operand_next [])
    (or_exact (then_exact (word_exact sorts.ID) operand_after_exact refl)
    (or_exact (then_exact other_column_exact (λ c. gives_exact (operands.Col c)) refl) (then_exact constant_exact (λ k. gives_exact (operands.Const k)) refl) refl refl refl) refl refl refl)
    refl refl refl refl

pub plain_operand_exact : Exact plain_operand plain_operand_at (solid plain_operand_sorts operand_next [])
unfolding plain_operand plain_operand_at
plain_operand_exact =
    loosened (solid plain_operand_sorts operand_next [])
    (or_exact (then_exact (word_exact sorts.ID) operand_after_exact refl)
    (or_exact (then_exact other_column_exact (λ c. gives_exact (operands.Col c)) refl) (then_exact plain_constant_exact (λ k. gives_exact (operands.Const k)) refl) refl refl refl) refl refl refl)
    refl refl refl refl
