-- Literals that are out of range.
use Rattle.std.specs.Prelude.{ℕ, ◌+◌, ◌-◌, Bool, true, false, not, is_some, ◌==◌, ◌&&◌, ◌||◌, nat_le, if◌then◌else◌, List, [], ◌∷◌, drop, Option, Some, None, Result, Ok, Err, codes}
use Rattle.std.specs.Str.{str_eq_ignore_ascii_case}
use Rattle.wm_instants.specs.declared.form.DateForm.{DateForm}
use Rattle.wm_instants.specs.declared.form.DateForm.TheVariants as dates
use Rattle.wm_instants.specs.declared.refusal.InstantRefusal.{InstantRefusal}
use Rattle.wm_instants.specs.Instants.{instant_in}
use Rattle.wm_grammar.specs.declared.procedure.Procedure.{Procedure}
use Rattle.wm_grammar.specs.declared.procedure.Parameter.{Parameter}
use Rattle.wm_grammar.specs.declared.procedure.Parameter.TheVariants as parameters
use Rattle.wm_grammar.specs.Symbols.{Symbol}
use Rattle.wm_grammar.specs.Sorts as sorts
use Rattle.wm_grammar.specs.Scanned.{symbols_of}
use Rattle.wm_grammar.specs.Meaning.{number_of, greatest, between, unquoted, mask_of}
use Rattle.wm_grammar.specs.Calls.{procedure_of, parameters_of, is_same}
use Rattle.wm_grammar.specs.Next.{next_sort, next_text, behind}

-- ---- single literals

-- an integer above the greatest
abbrev pub too_great : List ℕ → Bool
too_great digits = not (nat_le (number_of digits) greatest)

-- a number that is no size of a text
abbrev pub no_size : List ℕ → Bool
no_size digits = not (nat_le 1 (number_of digits) && nat_le (number_of digits) 2000)

abbrev pub is_refused : Result ℕ InstantRefusal → Bool
is_refused (Ok n) = false
is_refused (Err e) = true

-- a text that has to be a date of this form and is none
abbrev pub no_date : Option DateForm → List ℕ → Bool
no_date None bytes = false
no_date (Some form) bytes = is_refused (instant_in form bytes)

-- ---- where a symbol stands

-- what stands before a symbol, as far as the meaning of a literal depends on it
pub record Before : Type 0 where
  pub last : ℕ  -- the sort of the symbol before it
  pub second : ℕ  -- the sort of the one before that
  pub named : Bool  -- the last word is where_clause, and at most "=>" stands behind it
  pub depth : ℕ  -- how many parentheses are open
  pub slots : List Parameter  -- in a call, the parameters of this place and of those behind it

abbrev pub nothing : Before
nothing = record { last = sorts.END; second = sorts.END; named = false; depth = 0; slots = [] }

abbrev pub depth_after : ℕ → ℕ → ℕ
depth_after depth sort = if sort == sorts.OPEN then depth + 1 else (if sort == sorts.CLOSE then depth - 1 else depth)

abbrev pub all_parameters : Option Procedure → List Parameter
all_parameters None = []
all_parameters (Some p) = parameters_of p

-- the next symbol is the name of a procedure
abbrev pub names_procedure : Before → ℕ → Bool
names_procedure b sort = ((sort == sorts.ID) && (b.last == sorts.DOT)) && (b.second == sorts.DBMS_WM)

-- the name of a procedure brings its parameters, and a comma between arguments passes one of them
abbrev pub slots_after : Before → List Symbol → List Parameter
slots_after b ts =
    if names_procedure b (next_sort ts) then all_parameters (procedure_of (next_text ts)) else
    (if (next_sort ts == sorts.COMMA) && (b.depth == 1) then drop 1 b.slots else b.slots)

abbrev pub named_after : Before → List Symbol → Bool
named_after b ts = if next_sort ts == sorts.ARROW then b.named else str_eq_ignore_ascii_case (next_text ts) (codes "WHERE_CLAUSE")

-- what stands before the symbol behind the next one
abbrev pub after : Before → List Symbol → Before
after b ts = record { last = next_sort ts; second = b.last; named = named_after b ts; depth = depth_after b.depth (next_sort ts); slots = slots_after b ts }

-- ---- the next literal

-- the form that a text has to have here, where these symbols stand behind it
abbrev pub date_form : Before → List Symbol → Option DateForm
date_form b ts =
    if b.last == sorts.DATE then Some dates.Date else
    (if b.last == sorts.TIMESTAMP then Some dates.Timestamp else
    (if (b.last == sorts.OPEN) && (b.second == sorts.TO_DATE) then mask_of (between (next_text (behind ts))) else None))

-- the next symbol is a size, an integer or a date text out of range
abbrev pub is_bad : Before → List Symbol → Bool
is_bad b ts =
    if next_sort ts == sorts.INT then (if (b.last == sorts.OPEN) && (b.second == sorts.VARCHAR2) then no_size (next_text ts) else too_great (next_text ts)) else
    (if next_sort ts == sorts.TEXT then no_date (date_form b (behind ts)) (between (next_text ts)) else false)

abbrev pub is_clause_slot : List Parameter → Bool
is_clause_slot [] = false
is_clause_slot (p ∷ ps) = is_same p parameters.WhereClause

-- a text here is that of a where_clause, by its name or by its place
abbrev pub takes_clause : Before → Bool
takes_clause b = if b.last == sorts.ARROW then b.named else ((((b.last == sorts.OPEN) || (b.last == sorts.COMMA)) && (b.depth == 1)) && is_clause_slot b.slots)

-- ---- the first literal

-- how many bytes are left from the first symbol on of which the test is true
abbrev pub first_from : (Before → List Symbol → Bool) → Before → List Symbol → Option ℕ
first_from test b [] = None
first_from test b (t ∷ ts) = if test b (t ∷ ts) then Some t.left else first_from test (after b (t ∷ ts)) ts

-- some literal of a condition is out of range
unfoldable pub bad_within : List ℕ → Bool
bad_within bytes = is_some (first_from is_bad nothing (symbols_of bytes))

-- the next symbol is the text of a where_clause in which a literal is out of range
abbrev pub is_bad_clause : Before → List Symbol → Bool
is_bad_clause b ts = ((next_sort ts == sorts.TEXT) && takes_clause b) && bad_within (unquoted (next_text ts))

abbrev pub is_bad_in_line : Before → List Symbol → Bool
is_bad_in_line b ts = is_bad b ts || is_bad_clause b ts

-- how many bytes of the line are left from its first literal out of range on
unfoldable pub bad_literal : List ℕ → Option ℕ
bad_literal line = first_from is_bad_in_line nothing (symbols_of line)
