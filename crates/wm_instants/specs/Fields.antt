-- The fields of a text that has a form.
use Rattle.std.specs.Prelude.{ℕ, Bool, ◌*◌, ◌+◌, ◌-◌, ◌<◌, ◌&&◌, if◌then◌else◌, List, Option, Some, None, Result, Err}
use Rattle.std.specs.Char.{is_ascii_digit}
use Rattle.wm_instants.specs.declared.fields.Day.{Day}
use Rattle.wm_instants.specs.declared.fields.Clock.{Clock}
use Rattle.wm_instants.specs.Instants.{clock_form, has_form, field, year_letter, month_letter, day_letter, hour_letter, minute_letter, second_letter, instant_at}
use Rattle.wm_instants.specs.declared.refusal.InstantRefusal.{InstantRefusal}
use Rattle.wm_instants.specs.declared.refusal.InstantRefusal.TheVariants.{Shape}

-- the year, month and day of a text that has the form
unfoldable pub day_in : List ℕ → List ℕ → Option Day
day_in form text =
    if has_form form text
    then Some (record { year = field year_letter form text; month = field month_letter form text; day = field day_letter form text })
    else None

-- the hour, minute and second of one
unfoldable pub clock_in : List ℕ → Option Clock
clock_in text =
    if has_form clock_form text
    then Some (record { hour = field hour_letter clock_form text; minute = field minute_letter clock_form text; second = field second_letter clock_form text })
    else None

-- two digits, and their number
abbrev pub are_two : ℕ → ℕ → Bool
are_two tens ones = is_ascii_digit tens && is_ascii_digit ones

abbrev pub two_number : ℕ → ℕ → ℕ
two_number tens ones = 10 * (tens - 48) + (ones - 48)

abbrev pub two_at : ℕ → ℕ → Option ℕ
two_at tens ones = if are_two tens ones then Some (two_number tens ones) else None

-- four digits, and their number
abbrev pub are_four : ℕ → ℕ → ℕ → ℕ → Bool
are_four thousands hundreds tens ones = are_two thousands hundreds && are_two tens ones

abbrev pub four_number : ℕ → ℕ → ℕ → ℕ → ℕ
four_number thousands hundreds tens ones = 100 * two_number thousands hundreds + two_number tens ones

abbrev pub four_at : ℕ → ℕ → ℕ → ℕ → Option ℕ
four_at thousands hundreds tens ones =
    if are_four thousands hundreds tens ones then Some (four_number thousands hundreds tens ones) else None

-- the fields are of so many digits
abbrev pub IsSmallDay : Day → Type 0
IsSmallDay d = (d.year < 10000) × (d.month < 100) × (d.day < 100)

abbrev pub IsSmallClock : Clock → Type 0
IsSmallClock c = (c.hour < 100) × (c.minute < 100) × (c.second < 100)

-- the instant of the fields of a date and a time of day, where the texts have their forms
abbrev pub instant_from : Option Day → Option Clock → Result ℕ InstantRefusal
instant_from None c = Err Shape
instant_from (Some d) None = Err Shape
instant_from (Some d) (Some c) = instant_at d.year d.month d.day c.hour c.minute c.second

-- the first hour, minute and second of a day
abbrev pub midnight : Clock
midnight = record { hour = 0; minute = 0; second = 0 }
