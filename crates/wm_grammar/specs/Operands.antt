-- Names, constants, columns and operands.
use Rattle.std.specs.Prelude.{ℕ, List, [], ◌∷◌, Option, Some, None, pos}
use Rattle.std.proofs.Math.IntN.{neg_ℤ}
use Rattle.wm_base.specs.declared.instant.TheConstants.{END}
use Rattle.wm_syntax.specs.declared.column.Col.{Col}
use Rattle.wm_syntax.specs.declared.column.Suffix.{Suffix}
use Rattle.wm_syntax.specs.declared.column.Suffix.TheVariants.{ValidFrom, ValidTill}
use Rattle.wm_syntax.specs.declared.constant.PeriodEnd.{PeriodEnd}
use Rattle.wm_syntax.specs.declared.constant.PeriodEnd.TheVariants as ends
use Rattle.wm_syntax.specs.declared.constant.Const.{Const}
use Rattle.wm_syntax.specs.declared.constant.Const.TheVariants as consts
use Rattle.wm_syntax.specs.declared.operand.Per.{Per}
use Rattle.wm_syntax.specs.declared.operand.Per.TheVariants as pers
use Rattle.wm_syntax.specs.declared.operand.Operator.{Operator}
use Rattle.wm_syntax.specs.declared.operand.Operand.{Operand}
use Rattle.wm_syntax.specs.declared.operand.Operand.TheVariants as operands
use Rattle.wm_instants.specs.declared.form.DateForm.{DateForm}
use Rattle.wm_instants.specs.declared.form.DateForm.TheVariants as dates
use Rattle.wm_grammar.specs.Sorts as sorts
use Rattle.wm_grammar.specs.Meaning.{folded, int_of, between, unquoted, instant_for, mask_of, operator_of}
use Rattle.wm_grammar.specs.Forms.{Form, gives, one_for, mark, ◌>>=◌, ◌>>◌, ◌or◌, optional}

-- ---- single symbols

abbrev pub word : ℕ → Form (List ℕ)
word sort = one_for sort (λ t. Some (folded t))

abbrev pub integer : Form ℕ
integer = one_for sorts.INT (λ t. Some (int_of t))

-- what stands between the quotes of a text
abbrev pub quoted : Form (List ℕ)
quoted = one_for sorts.TEXT (λ t. Some (between t.text))

-- a text with one of the masks of TO_DATE
abbrev pub mask : Form DateForm
mask = one_for sorts.TEXT (λ t. mask_of (between t.text))

-- the text without a byte is NULL
abbrev pub text_constant : List ℕ → Const
text_constant [] = consts.Null
text_constant (b ∷ bs) = consts.Text (b ∷ bs)

-- ---- names

-- id
abbrev pub id : Form (List ℕ)
id = word sorts.ID

-- the name of a declared column: id, where VALIDFROM and VALIDTILL are ids too
unfoldable pub plain_name : Form (List ℕ)
plain_name = id or word sorts.VALIDFROM or word sorts.VALIDTILL

-- name = id | WM_VALID
unfoldable pub name : Form (List ℕ)
name = word sorts.WM_VALID or plain_name

-- ---- constants

-- when = DATE text | TIMESTAMP text | TO_DATE "(" text "," text ")"
unfoldable pub instant : Form ℕ
instant =
    (do mark sorts.DATE; t ← quoted; gives (instant_for dates.Date t))
    or (do mark sorts.TIMESTAMP; t ← quoted; gives (instant_for dates.Timestamp t))
    or (do mark sorts.TO_DATE; mark sorts.OPEN; t ← quoted; mark sorts.COMMA; form ← mask; mark sorts.CLOSE; gives (instant_for form t))

-- DBMS_WM "." UNTIL_CHANGED
unfoldable pub until_changed : Form (Unit {0})
until_changed = do mark sorts.DBMS_WM; mark sorts.DOT; mark sorts.UNTIL_CHANGED

-- end = when | SYSDATE | DBMS_WM "." UNTIL_CHANGED
unfoldable pub period_end : Form PeriodEnd
period_end =
    (do mark sorts.SYSDATE; gives ends.Sysdate)
    or (do until_changed; gives (ends.Time END))
    or (do t ← instant; gives (ends.Time t))

-- period = [WMSYS "."] WM_PERIOD "(" end "," end ")"
unfoldable pub period : Form (PeriodEnd × PeriodEnd)
period = do
  optional (do mark sorts.WMSYS; mark sorts.DOT)
  mark sorts.WM_PERIOD
  mark sorts.OPEN
  from ← period_end
  mark sorts.COMMA
  till ← period_end
  mark sorts.CLOSE
  gives (from, till)

-- int | text | NULL | when | SYSDATE | DBMS_WM "." UNTIL_CHANGED | period
unfoldable pub plain_constant : Form Const
plain_constant =
    (do n ← integer; gives (consts.Num (pos n)))
    or (one_for sorts.TEXT (λ t. Some (text_constant (unquoted t.text))))
    or (do mark sorts.NULL; gives consts.Null)
    or (do mark sorts.SYSDATE; gives consts.Sysdate)
    or (do until_changed; gives (consts.Time END))
    or (do t ← instant; gives (consts.Time t))
    or (do p ← period; gives (consts.Span p.0 p.1))

-- const = "-" int, or one of these
unfoldable pub constant : Form Const
constant =
    (do mark sorts.MINUS; n ← integer; gives (consts.Num (neg_ℤ (pos n))))
    or plain_constant

-- ---- columns

-- VALIDFROM | VALIDTILL
unfoldable pub suffix : Form Suffix
suffix =
    (do mark sorts.VALIDFROM; gives ValidFrom)
    or (do mark sorts.VALIDTILL; gives ValidTill)

-- a declared column, or WM_VALID ["." (VALIDFROM | VALIDTILL)], of a source or of none
unfoldable pub column_of : Option (List ℕ) → Form Col
column_of source =
    (do n ← word sorts.WM_VALID; end ← optional (do mark sorts.DOT; suffix); gives (record { source = source; name = n; suffix = end }))
    or (do n ← plain_name; gives (record { source = source; name = n; suffix = None }))

-- what goes on behind an id: "." and a column of that source, or nothing, where it is a column
unfoldable pub column_after : List ℕ → Form Col
column_after first =
    (do mark sorts.DOT; column_of (Some first))
    or gives (record { source = None; name = first; suffix = None })

-- a column that does not begin with an id
unfoldable pub other_column : Form Col
other_column =
    (do n ← word sorts.WM_VALID; end ← optional (do mark sorts.DOT; suffix); gives (record { source = None; name = n; suffix = end }))
    or (do n ← word sorts.VALIDFROM or word sorts.VALIDTILL; gives (record { source = None; name = n; suffix = None }))

-- col = [id "."] name ["." (VALIDFROM | VALIDTILL)], the suffix behind WM_VALID alone
unfoldable pub column : Form Col
column =
    (do n ← id; column_after n)
    or other_column

-- ---- operands

-- per = [id "."] WM_VALID | period
unfoldable pub per : Form Per
per =
    (do n ← id; mark sorts.DOT; mark sorts.WM_VALID; gives (pers.Valid (Some n)))
    or (do mark sorts.WM_VALID; gives (pers.Valid None))
    or (do p ← period; gives (pers.Span p.0 p.1))

-- "(" per "," per ")" behind the name of an operator
unfoldable pub operator_test : Operator → Form Operand
operator_test operator = do
  mark sorts.OPEN
  left ← per
  mark sorts.COMMA
  right ← per
  mark sorts.CLOSE
  gives (operands.Test operator left right)

-- what goes on behind an id: a test of periods where it is the name of an operator, or a column
abbrev pub operand_named : Option Operator → List ℕ → Form Operand
operand_named None first = do c ← column_after first; gives (operands.Col c)
operand_named (Some operator) first = operator_test operator or (do c ← column_after first; gives (operands.Col c))

unfoldable pub operand_after : List ℕ → Form Operand
operand_after first = operand_named (operator_of first) first

-- operand = col | const | opname "(" per "," per ")"
abbrev pub operand_with : Form Const → Form Operand
operand_with constants =
    (do n ← id; operand_after n)
    or (do c ← other_column; gives (operands.Col c))
    or (do k ← constants; gives (operands.Const k))

-- the operands of conditions
unfoldable pub operand : Form Operand
operand = operand_with constant

-- the operands of expressions, where "-" stands before a factor
unfoldable pub plain_operand : Form Operand
plain_operand = operand_with plain_constant
