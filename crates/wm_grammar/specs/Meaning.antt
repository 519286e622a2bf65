-- What a single symbol stands for.
use Rattle.std.specs.Prelude.{ℕ, ◌+◌, ◌-◌, ◌*◌, Bool, true, false, ◌==◌, nat_le, if◌then◌else◌, List, [], ◌∷◌, length, take, drop, map, Option, Some, None, Result, Ok, Err, codes, bytes_eq}
use Rattle.std.specs.Char.{to_ascii_uppercase}
use Rattle.std.specs.Str.{str_eq_ignore_ascii_case}
use Rattle.wm_syntax.specs.declared.operand.Operator.{Operator}
use Rattle.wm_syntax.specs.declared.operand.Operator.TheVariants.{Overlaps, Contains, Meets, Equals, LessThan, GreaterThan}
use Rattle.wm_instants.specs.declared.form.DateForm.{DateForm}
use Rattle.wm_instants.specs.declared.form.DateForm.TheVariants.{Date, MonthFirst, Seconds}
use Rattle.wm_instants.specs.declared.refusal.InstantRefusal.{InstantRefusal}
use Rattle.wm_instants.specs.Instants.{instant_in}
use Rattle.wm_grammar.specs.Symbols.{Symbol}

-- a word in upper case
abbrev pub folded : Symbol → List ℕ
folded t = map to_ascii_uppercase t.text

-- the number that goes on with these digits
abbrev pub number_from : ℕ → List ℕ → ℕ
number_from n [] = n
number_from n (b ∷ bs) = number_from (10 * n + (b - 48)) bs

-- the number of the digits
unfoldable pub number_of : List ℕ → ℕ
number_of digits = number_from 0 digits

-- the greatest integer
abbrev pub greatest : ℕ
greatest = 9223372036854775807

-- an integer; one above the greatest stands for 0, and is a literal out of range
abbrev pub int_of : Symbol → ℕ
int_of t = if nat_le (number_of t.text) greatest then number_of t.text else 0

-- the bytes between the quotes of a text
abbrev pub between : List ℕ → List ℕ
between w = take (length w - 2) (drop 1 w)

-- the bytes behind the first quote of a text, a pair of quotes being one; the byte before them is a quote that may end it, or not
abbrev pub unquoted_from : Bool → List ℕ → List ℕ
unquoted_from quote [] = []
unquoted_from false (b ∷ bs) = if b == 39 then unquoted_from true bs else b ∷ unquoted_from false bs
unquoted_from true (b ∷ bs) = if b == 39 then 39 ∷ unquoted_from false bs else []

-- the bytes that a text stands for
unfoldable pub unquoted : List ℕ → List ℕ
unquoted w = unquoted_from false (drop 1 w)

-- the instant of a date text; one that has not the form or is out of range stands for 0, and is a literal out of range
abbrev pub instant_or_first : Result ℕ InstantRefusal → ℕ
instant_or_first (Ok n) = n
instant_or_first (Err e) = 0

abbrev pub instant_for : DateForm → List ℕ → ℕ
instant_for form bytes = instant_or_first (instant_in form bytes)

-- the forms that TO_DATE takes
unfoldable pub mask_of : List ℕ → Option DateForm
mask_of bytes =
    if bytes_eq bytes (codes "YYYY-MM-DD") then Some Date else
    (if bytes_eq bytes (codes "MM-DD-YYYY") then Some MonthFirst else
    (if bytes_eq bytes (codes "YYYY-MM-DD HH24:MI:SS") then Some Seconds else None))

-- the operators on periods
unfoldable pub operator_of : List ℕ → Option Operator
operator_of name =
    if str_eq_ignore_ascii_case name (codes "WM_OVERLAPS") then Some Overlaps else
    (if str_eq_ignore_ascii_case name (codes "WM_CONTAINS") then Some Contains else
    (if str_eq_ignore_ascii_case name (codes "WM_MEETS") then Some Meets else
    (if str_eq_ignore_ascii_case name (codes "WM_EQUALS") then Some Equals else
    (if str_eq_ignore_ascii_case name (codes "WM_LESSTHAN") then Some LessThan else
    (if str_eq_ignore_ascii_case name (codes "WM_GREATERTHAN") then Some GreaterThan else None)))))
