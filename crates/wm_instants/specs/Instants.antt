-- What the text of an instant means, by the days of jiff's calendar.
use Rattle.std.specs.Prelude.{ℕ, ◌+◌, ◌-◌, ◌*◌, Bool, true, false, ◌&&◌, ◌||◌, ◌==◌, nat_lt, if◌then◌else◌, List, [], ◌∷◌, ◌++◌, codes, pos, ◌-ℤ◌, unsigned_abs, Result, Ok, Err}
use Rattle.std.specs.Char.{is_ascii_digit}
use Rattle.std.specs.Int.{is_in_range}
use Rattle.jiff_core.specs.Calendar.{days_from_civil, days_in_month}
use Rattle.wm_instants.specs.declared.refusal.InstantRefusal.{InstantRefusal}
use Rattle.wm_instants.specs.declared.refusal.InstantRefusal.TheVariants.{Shape, Range}
use Rattle.wm_instants.specs.declared.form.DateForm.{DateForm}
use Rattle.wm_instants.specs.declared.form.DateForm.TheVariants.{Date, MonthFirst, Seconds, Timestamp}

-- the forms: a letter stands for a digit of the year, month, day, hour, minute or second, every other byte for itself
abbrev pub date_form : List ℕ
date_form = codes "YYYY-MM-DD"

abbrev pub month_first_form : List ℕ
month_first_form = codes "MM-DD-YYYY"

abbrev pub clock_form : List ℕ
clock_form = codes "hh:mm:ss"

-- a date and a time of day with a mark between them
abbrev pub seconds_form : ℕ → List ℕ
seconds_form mark = date_form ++ (mark ∷ clock_form)

abbrev pub space : ℕ
space = 32

abbrev pub letter_t : ℕ
letter_t = 84

-- what a form has letters for
abbrev pub year_letter : ℕ
year_letter = 89

abbrev pub month_letter : ℕ
month_letter = 77

abbrev pub day_letter : ℕ
day_letter = 68

abbrev pub hour_letter : ℕ
hour_letter = 104

abbrev pub minute_letter : ℕ
minute_letter = 109

abbrev pub second_letter : ℕ
second_letter = 115

abbrev pub is_letter : ℕ → Bool
is_letter c =
    (c == year_letter) || (c == month_letter) || (c == day_letter)
    || (c == hour_letter) || (c == minute_letter) || (c == second_letter)

-- the text is as long as the form, and has a digit for each letter and the form's own byte elsewhere
abbrev pub has_form : List ℕ → List ℕ → Bool
has_form [] [] = true
has_form [] (b ∷ bs) = false
has_form (c ∷ cs) [] = false
has_form (c ∷ cs) (b ∷ bs) = (if is_letter c then is_ascii_digit b else b == c) && has_form cs bs

-- the number whose digits, behind those of n, stand at the letter
abbrev pub field_from : ℕ → ℕ → List ℕ → List ℕ → ℕ
field_from n letter [] bs = n
field_from n letter (c ∷ cs) [] = n
field_from n letter (c ∷ cs) (b ∷ bs) = field_from (if c == letter then 10 * n + (b - 48) else n) letter cs bs

abbrev pub field : ℕ → List ℕ → List ℕ → ℕ
field = field_from 0

-- the first second of a date, counted from 0001-01-01 00:00:00
abbrev pub day_start : ℕ → ℕ → ℕ → ℕ
day_start year month day =
    unsigned_abs (days_from_civil (pos year) month day -ℤ days_from_civil (pos 1) 1 1) * 86_400

-- the calendar has the date, in a year from 1 to 9999
abbrev pub is_date : ℕ → ℕ → ℕ → Bool
is_date year month day =
    is_in_range 1 9999 year && is_in_range 1 12 month && is_in_range 1 (days_in_month (pos year) month) day

-- a clock shows the time
abbrev pub is_clock : ℕ → ℕ → ℕ → Bool
is_clock hour minute second = nat_lt hour 24 && nat_lt minute 60 && nat_lt second 60

-- the instant of a date and a time of day
abbrev pub instant_at : ℕ → ℕ → ℕ → ℕ → ℕ → ℕ → Result ℕ InstantRefusal
instant_at year month day hour minute second =
    if is_date year month day && is_clock hour minute second
    then Ok (day_start year month day + (hour * 3600 + minute * 60 + second))
    else Err Range

-- the instant of the fields that a text of the form has; what the form has no letter for is 0
abbrev pub instant_by : List ℕ → List ℕ → Result ℕ InstantRefusal
instant_by form text =
    instant_at (field year_letter form text) (field month_letter form text) (field day_letter form text)
    (field hour_letter form text) (field minute_letter form text) (field second_letter form text)

-- what a text means in the first of the forms that it has
abbrev pub read_by : List (List ℕ) → List ℕ → Result ℕ InstantRefusal
read_by [] text = Err Shape
read_by (form ∷ forms) text = if has_form form text then instant_by form text else read_by forms text

-- the forms of each kind of date text
abbrev pub forms_of : DateForm → List (List ℕ)
forms_of Date = date_form ∷ []
forms_of MonthFirst = month_first_form ∷ []
forms_of Seconds = seconds_form space ∷ []
forms_of Timestamp = date_form ∷ seconds_form space ∷ seconds_form letter_t ∷ []

-- the instant of a date text, or why it is none
unfoldable pub instant_in : DateForm → List ℕ → Result ℕ InstantRefusal
instant_in form text = read_by (forms_of form) text

-- the instant of a text with a space or T between date and time, or of a date
abbrev pub instant_of : List ℕ → Result ℕ InstantRefusal
instant_of = instant_in Timestamp
