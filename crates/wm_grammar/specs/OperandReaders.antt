-- The readers of names, constants, columns and operands.
use Rattle.std.specs.Prelude.{ℕ, List, [], ◌∷◌, Option, Some, None, pos}
use Rattle.std.proofs.Math.IntN.{neg_ℤ}
use Rattle.wm_base.specs.declared.instant.TheConstants.{END}
use Rattle.wm_syntax.specs.declared.column.Col.{Col}
use Rattle.wm_syntax.specs.declared.column.Suffix.{Suffix}
use Rattle.wm_syntax.specs.declared.column.Suffix.TheVariants.{ValidFrom, ValidTill}
use Rattle.wm_syntax.specs.declared.constant.PeriodEnd.{PeriodEnd}
use Rattle.wm_syntax.specs.declared.constant.PeriodEnd.TheVariants as ends
use Rattle.wm_syntax.specs.declared.constant.Const.{Const}
use Rattle.wm_syntax.specs.declared.constant.Const.TheVariants as consts
use Rattle.wm_syntax.specs.declared.operand.Per.{Per}
use Rattle.wm_syntax.specs.declared.operand.Per.TheVariants as pers
use Rattle.wm_syntax.specs.declared.operand.Operator.{Operator}
use Rattle.wm_syntax.specs.declared.operand.Operand.{Operand}
use Rattle.wm_syntax.specs.declared.operand.Operand.TheVariants as operands
use Rattle.wm_instants.specs.declared.form.DateForm.{DateForm}
use Rattle.wm_instants.specs.declared.form.DateForm.TheVariants as dates
use Rattle.wm_grammar.specs.Sorts as sorts
use Rattle.wm_grammar.specs.Meaning.{folded, int_of, between, unquoted, instant_for, mask_of, operator_of}
use Rattle.wm_grammar.specs.Operands.{text_constant}
use Rattle.wm_grammar.specs.Reading.{Reader, gives_at, one_for_at, mark_at, ◌>>=◌, ◌>>◌, choose_at, optional_at}

abbrev pub word_at : ℕ → Reader (List ℕ)
word_at sort = one_for_at sort (λ t. Some (folded t))

abbrev pub integer_at : Reader ℕ
integer_at = one_for_at sorts.INT (λ t. Some (int_of t))

abbrev pub quoted_at : Reader (List ℕ)
quoted_at = one_for_at sorts.TEXT (λ t. Some (between t.text))

abbrev pub mask_at : Reader DateForm
mask_at = one_for_at sorts.TEXT (λ t. mask_of (between t.text))

abbrev pub text_at : Reader Const
text_at = one_for_at sorts.TEXT (λ t. Some (text_constant (unquoted t.text)))

abbrev pub id_at : Reader (List ℕ)
id_at = word_at sorts.ID

unfoldable pub plain_name_at : Reader (List ℕ)
plain_name_at = choose_at (sorts.ID ∷ []) id_at (choose_at (sorts.VALIDFROM ∷ []) (word_at sorts.VALIDFROM) (word_at sorts.VALIDTILL))

unfoldable pub name_at : Reader (List ℕ)
name_at = choose_at (sorts.WM_VALID ∷ []) (word_at sorts.WM_VALID) plain_name_at

unfoldable pub instant_at : Reader ℕ
instant_at =
    choose_at (sorts.DATE ∷ []) (do mark_at sorts.DATE; t ← quoted_at; gives_at (instant_for dates.Date t))
    (choose_at (sorts.TIMESTAMP ∷ []) (do mark_at sorts.TIMESTAMP; t ← quoted_at; gives_at (instant_for dates.Timestamp t))
    (do mark_at sorts.TO_DATE; mark_at sorts.OPEN; t ← quoted_at; mark_at sorts.COMMA; form ← mask_at; mark_at sorts.CLOSE; gives_at (instant_for form t)))

unfoldable pub until_changed_at : Reader (Unit {0})
until_changed_at = do mark_at sorts.DBMS_WM; mark_at sorts.DOT; mark_at sorts.UNTIL_CHANGED

unfoldable pub period_end_at : Reader PeriodEnd
period_end_at =
    choose_at (sorts.SYSDATE ∷ []) (do mark_at sorts.SYSDATE; gives_at ends.Sysdate)
    (choose_at (sorts.DBMS_WM ∷ []) (do until_changed_at; gives_at (ends.Time END))
    (do t ← instant_at; gives_at (ends.Time t)))

unfoldable pub period_at : Reader (PeriodEnd × PeriodEnd)
period_at = do
  optional_at (sorts.WMSYS ∷ []) (do mark_at sorts.WMSYS; mark_at sorts.DOT)
  mark_at sorts.WM_PERIOD
  mark_at sorts.OPEN
  from ← period_end_at
  mark_at sorts.COMMA
  till ← period_end_at
  mark_at sorts.CLOSE
  gives_at (from, till)

abbrev pub instant_sorts : List ℕ
instant_sorts = sorts.DATE ∷ sorts.TIMESTAMP ∷ sorts.TO_DATE ∷ []

unfoldable pub plain_constant_at : Reader Const
plain_constant_at =
    choose_at (sorts.INT ∷ []) (do n ← integer_at; gives_at (consts.Num (pos n)))
    (choose_at (sorts.TEXT ∷ []) text_at
    (choose_at (sorts.NULL ∷ []) (do mark_at sorts.NULL; gives_at consts.Null)
    (choose_at (sorts.SYSDATE ∷ []) (do mark_at sorts.SYSDATE; gives_at consts.Sysdate)
    (choose_at (sorts.DBMS_WM ∷ []) (do until_changed_at; gives_at (consts.Time END))
    (choose_at instant_sorts (do t ← instant_at; gives_at (consts.Time t))
    (do p ← period_at; gives_at (consts.Span p.0 p.1)))))))

unfoldable pub constant_at : Reader Const
constant_at =
    choose_at (sorts.MINUS ∷ []) (do mark_at sorts.MINUS; n ← integer_at; gives_at (consts.Num (neg_ℤ (pos n))))
    plain_constant_at

unfoldable pub suffix_at : Reader Suffix
suffix_at =
    choose_at (sorts.VALIDFROM ∷ []) (do mark_at sorts.VALIDFROM; gives_at ValidFrom)
    (do mark_at sorts.VALIDTILL; gives_at ValidTill)

unfoldable pub column_of_at : Option (List ℕ) → Reader Col
column_of_at source =
    choose_at (sorts.WM_VALID ∷ []) (do n ← word_at sorts.WM_VALID; end ← optional_at (sorts.DOT ∷ []) (do mark_at sorts.DOT; suffix_at); gives_at (record { source = source; name = n; suffix = end }))
    (do n ← plain_name_at; gives_at (record { source = source; name = n; suffix = None }))

unfoldable pub column_after_at : List ℕ → Reader Col
column_after_at first =
    choose_at (sorts.DOT ∷ []) (do mark_at sorts.DOT; column_of_at (Some first))
    (gives_at (record { source = None; name = first; suffix = None }))

unfoldable pub other_column_at : Reader Col
other_column_at =
    choose_at (sorts.WM_VALID ∷ []) (do n ← word_at sorts.WM_VALID; end ← optional_at (sorts.DOT ∷ []) (do mark_at sorts.DOT; suffix_at); gives_at (record { source = None; name = n; suffix = end }))
    (do n ← choose_at (sorts.VALIDFROM ∷ []) (word_at sorts.VALIDFROM) (word_at sorts.VALIDTILL); gives_at (record { source = None; name = n; suffix = None }))

unfoldable pub column_at : Reader Col
column_at =
    choose_at (sorts.ID ∷ []) (do n ← id_at; column_after_at n)
    other_column_at

unfoldable pub per_at : Reader Per
per_at =
    choose_at (sorts.ID ∷ []) (do n ← id_at; mark_at sorts.DOT; mark_at sorts.WM_VALID; gives_at (pers.Valid (Some n)))
    (choose_at (sorts.WM_VALID ∷ []) (do mark_at sorts.WM_VALID; gives_at (pers.Valid None))
    (do p ← period_at; gives_at (pers.Span p.0 p.1)))

unfoldable pub operator_test_at : Operator → Reader Operand
operator_test_at operator = do
  mark_at sorts.OPEN
  left ← per_at
  mark_at sorts.COMMA
  right ← per_at
  mark_at sorts.CLOSE
  gives_at (operands.Test operator left right)

abbrev pub operand_named_at : Option Operator → List ℕ → Reader Operand
operand_named_at None first = do c ← column_after_at first; gives_at (operands.Col c)
operand_named_at (Some operator) first = choose_at (sorts.OPEN ∷ []) (operator_test_at operator) (do c ← column_after_at first; gives_at (operands.Col c))

unfoldable pub operand_after_at : List ℕ → Reader Operand
operand_after_at first = operand_named_at (operator_of first) first

abbrev pub other_column_sorts : List ℕ
other_column_sorts = sorts.WM_VALID ∷ sorts.VALIDFROM ∷ sorts.VALIDTILL ∷ []

abbrev pub operand_with_at : Reader Const → Reader Operand
operand_with_at constants =
    choose_at (sorts.ID ∷ []) (do n ← id_at; operand_after_at n)
    (choose_at other_column_sorts (do c ← other_column_at; gives_at (operands.Col c))
    (do k ← constants; gives_at (operands.Const k)))

unfoldable pub operand_at : Reader Operand
operand_at = operand_with_at constant_at

unfoldable pub plain_operand_at : Reader Operand
plain_operand_at = operand_with_at plain_constant_at
