-- The text of an instant.
use Rattle.std.specs.Prelude.{ℕ, zero, suc, ◌+◌, ◌-◌, ◌/◌, ◌%◌, Bool, ◌==◌, nat_le, if◌then◌else◌, List, [], ◌∷◌, ◌++◌, codes}
use Rattle.wm_base.specs.declared.instant.TheConstants.{END}
use Rattle.wm_instants.specs.Instants.{day_start}

-- the greatest of the numbers 1 to n that pass the test, 0 where none does
unfoldable pub last_of : (ℕ → Bool) → ℕ → ℕ
last_of passes zero = 0
last_of passes (suc n) = if passes (suc n) then suc n else last_of passes n

-- the year of an instant: the last one that begins at or before it
abbrev pub year_of : ℕ → ℕ
year_of at = last_of (λ year. nat_le (day_start year 1 1) at) 9999

-- its month: the last one of the year that begins at or before it
abbrev pub month_of : ℕ → ℕ
month_of at = last_of (λ month. nat_le (day_start (year_of at) month 1) at) 12

-- its day of the month
abbrev pub day_of : ℕ → ℕ
day_of at = last_of (λ day. nat_le (day_start (year_of at) (month_of at) day) at) 31

-- the second of its day
abbrev pub second_of_day : ℕ → ℕ
second_of_day at = at % 86_400

-- two decimal digits
abbrev pub two_digits : ℕ → List ℕ
two_digits n = (48 + n / 10) ∷ (48 + n % 10) ∷ []

-- four decimal digits
abbrev pub four_digits : ℕ → List ℕ
four_digits n = two_digits (n / 100) ++ two_digits (n % 100)

-- YYYY-MM-DD
abbrev pub date_text : ℕ → ℕ → ℕ → List ℕ
date_text year month day = four_digits year ++ codes "-" ++ two_digits month ++ codes "-" ++ two_digits day

-- HH:MM:SS
abbrev pub clock_text : ℕ → ℕ → ℕ → List ℕ
clock_text hour minute second = two_digits hour ++ codes ":" ++ two_digits minute ++ codes ":" ++ two_digits second

-- YYYY-MM-DD HH:MM:SS, and UNTIL_CHANGED for the instant behind the last
unfoldable pub instant_text : ℕ → List ℕ
instant_text at =
    if at == END then codes "UNTIL_CHANGED"
    else date_text (year_of at) (month_of at) (day_of at) ++ codes " "
    ++ clock_text (second_of_day at / 3600) (second_of_day at / 60 % 60) (second_of_day at % 60)
