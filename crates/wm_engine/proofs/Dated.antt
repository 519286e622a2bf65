-- Each instant that a date text means is below the end.
use Rattle.std.proofs.Common.{◌≡◌, ℕ, ◌+◌, ◌*◌, ◌<◌, ◌≤◌, Bool, true, false, ◌&&◌, List, [], ◌∷◌, Result, Ok, Err, refl, arith, pos, ◌-ℤ◌, ◌≤ℤ◌, unsigned_abs}
use Rattle.std.proofs.lemmas.Bool.{and_parts}
use Rattle.std.specs.Prelude.{if◌then◌else◌}
use Rattle.jiff_core.specs.declared.civil.date.Date.{Date}
use Rattle.jiff_core.specs.Calendar.{days_from_civil, IsCivilDate}
use Rattle.jiff_core.specs.Date.{epoch_day}
use Rattle.jiff_core.proofs.DateLemmas.{epoch_day_range}
use Rattle.jiff_core.proofs.SignedLemmas.{signed_arith, one_part}
use Rattle.wm_base.specs.declared.instant.TheConstants.{END}
use Rattle.wm_grammar.specs.Meaning.{instant_for, instant_or_first}
use Rattle.wm_instants.proofs.CivilLemmas.{first_day, first_day-least, below_end}
use Rattle.wm_instants.specs.Instants.{day_letter, day_start, field, has_form, hour_letter, instant_at, instant_by, instant_in, is_clock, is_date, forms_of, minute_letter, month_letter, read_by, second_letter, year_letter}
use Rattle.wm_instants.specs.declared.form.DateForm.{DateForm}
use Rattle.wm_instants.specs.declared.refusal.InstantRefusal.{InstantRefusal}

civil_from : (y m d : ℕ) → is_date y m d ≡ true → IsCivilDate (pos y) m d × (1 ≤ y)
civil_from y m d e = grind (arith, signed_arith)

clock_from : (h m s : ℕ) → is_clock h m s ≡ true → (h < 24) × (m < 60) × (s < 60)
clock_from h m s e = grind arith

-- the last day of the year 9999 is that many days behind the first
days_behind : (d : Date) → pos 1 ≤ℤ d.year → unsigned_abs (epoch_day d -ℤ days_from_civil (pos 1) 1 1) ≤ 3_652_058
days_behind d h =
    let low = first_day-least d h in
    let range = epoch_day_range d in
    omega (arith, signed_arith, first_day, one_part (epoch_day d -ℤ days_from_civil (pos 1) 1 1))

days_of : (y m d : ℕ) → IsCivilDate (pos y) m d → 1 ≤ y → unsigned_abs (days_from_civil (pos y) m d -ℤ days_from_civil (pos 1) 1 1) ≤ 3_652_058
days_of y m d civil first =
    let at : Date = record { year = pos y; month = m; day = d; year_in = civil.0; month_in = civil.1; day_in = civil.2 } in
    days_behind at (omega (arith, signed_arith))

-- what is there is below the end
abbrev IsBelow : Result ℕ InstantRefusal → Type 0
IsBelow (Ok n) = n < END
IsBelow (Err e) = Unit {0}

by_test : (b : Bool) (n : ℕ) (e : InstantRefusal) → (b ≡ true → n < END) → IsBelow (if b then Ok n else Err e)
by_test true n e below = below refl
by_test false n e below = tt

at_below : (y m d h mi s : ℕ) → IsBelow (instant_at y m d h mi s)
at_below y m d h mi s = by_test (is_date y m d && is_clock h mi s) (day_start y m d + (h * 3600 + mi * 60 + s)) _ (λ is.
    let parts = and_parts (is_date y m d) (is_clock h mi s) is in
    let civil = civil_from y m d parts.0 in
    let clock = clock_from h mi s parts.1 in
    below_end _ h mi s (days_of y m d civil.0 civil.1) clock.0 clock.1 clock.2)

by_form : (b : Bool) (here there : Result ℕ InstantRefusal) → IsBelow here → IsBelow there → IsBelow (if b then here else there)
by_form true here there h t = h
by_form false here there h t = t

by_below : (form text : List ℕ) → IsBelow (instant_by form text)
by_below form text =
    at_below (field year_letter form text) (field month_letter form text) (field day_letter form text) (field hour_letter form text) (field minute_letter form text) (field second_letter form text)

read_below : (forms : List (List ℕ)) (text : List ℕ) → IsBelow (read_by forms text)
read_below [] text = tt
read_below (form ∷ forms) text = by_form (has_form form text) (instant_by form text) (read_by forms text) (by_below form text) (read_below forms text)

instant_below : (form : DateForm) (text : List ℕ) → IsBelow (instant_in form text)
unfolding instant_in
instant_below form text = read_below (forms_of form) text

first_below : (r : Result ℕ InstantRefusal) → IsBelow r → instant_or_first r < END
first_below (Ok n) below = below
first_below (Err e) below = omega arith

-- what a date text of a line stands for
pub instant_for-below : (form : DateForm) (text : List ℕ) → instant_for form text < END
instant_for-below form text = first_below (instant_in form text) (instant_below form text)
