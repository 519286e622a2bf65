-- Seconds and the days of jiff's calendar.
use Rattle.std.proofs.Common.{◌≡◌, ℕ, ◌+◌, ◌-◌, ◌*◌, ◌/◌, ◌<◌, ◌≤◌, true, false, ◌&&◌, Ok, Err, to_z, w8, w16, refl, ap, ◌∙◌, arith, rules, ℤ, pos, neg_ℤ, ◌+ℤ◌, ◌-ℤ◌, ◌*ℤ◌, ◌≤ℤ◌, unsigned_abs, int_div}
use Rattle.std.proofs.lemmas.Bool.{false_from_ne_true, and_parts}
use Rattle.std.proofs.lemmas.Int.{by_lt_z}
use Rattle.jiff_core.specs.declared.civil.date.Date.{Date}
use Rattle.jiff_core.specs.declared.civil.datetime.DateTime.{DateTime}
use Rattle.jiff_core.specs.Calendar.{days_from_civil, day_count, days_of_years, days_of_months, IsCivilDate, IsDate}
use Rattle.jiff_core.specs.Date.{epoch_day, IsYmd}
use Rattle.jiff_core.specs.DateTime.{civil_nanos}
use Rattle.jiff_core.specs.Time.{time_seconds, IsTime, IsHms}
use Rattle.jiff_core.proofs.SignedLemmas.{signed_arith, signed_casts, one_part}
use Rattle.jiff_core.proofs.CalendarLemmas.{days_from_civil-day_count, day_count-lt_year, day_count-day_of_year}
use Rattle.jiff_core.proofs.DateLemmas.{epoch_day_range}
use Rattle.wm_base.specs.declared.instant.TheConstants.{END}
use Rattle.wm_instants.specs.Instants.{is_date, is_clock, instant_at}
use Rattle.wm_instants.specs.declared.refusal.InstantRefusal.TheVariants.{Range}

pub first_day : days_from_civil (pos 1) 1 1 ≡ neg_ℤ (pos 719_162)
unfolding days_from_civil day_count days_of_years days_of_months
first_day = refl

-- no date of the years from 1 on is before the first
pub first_day-least : (d : Date) → pos 1 ≤ℤ d.year → neg_ℤ (pos 719_162) ≤ℤ epoch_day d
first_day-least d h =
    let earliest : IsCivilDate (pos 1) 1 1 = search rules in
    by_lt_z (pos 1) d.year
    (λ later. omega (arith, signed_arith, first_day, days_from_civil-day_count, day_count-lt_year (pos 1) 1 1 d.year d.month d.day earliest d.day_in.0 later))
    (λ early. let same : d.year ≡ pos 1 = omega (arith, signed_arith) in
    omega (arith, signed_arith, first_day, days_from_civil-day_count, rw same at (day_count-day_of_year d.year d.month d.day d.day_in.0), ap (λ y. days_from_civil y d.month d.day) same))

-- a number that is not below another is that one and their distance
apart : (a b : ℤ) → b ≤ℤ a → a ≡ b +ℤ pos (unsigned_abs (a -ℤ b))
apart a b h = omega (arith, signed_arith, one_part (a -ℤ b))

nanos_apart : (day first nanos shown begins : ℤ) (k t s : ℕ) → day ≡ first +ℤ pos k → begins ≡ first *ℤ pos 86_400_000_000_000 → shown ≡ day *ℤ pos 86_400_000_000_000 +ℤ pos (t * 1_000_000_000 + s)
    → nanos ≡ shown -ℤ begins → nanos ≡ pos (k * 86_400_000_000_000 + (t * 1_000_000_000 + s))
nanos_apart day first nanos shown begins k t s e b d n = omega (arith, signed_arith)

whole_seconds : (k t s : ℕ) → s < 1_000_000_000 → (k * 86_400_000_000_000 + (t * 1_000_000_000 + s)) / 1_000_000_000 ≡ k * 86_400 + t
whole_seconds k t s h = omega arith

-- how many days a date from the year 1 on is behind the first
abbrev pub days_behind : Date → ℕ
days_behind d = unsigned_abs (epoch_day d -ℤ days_from_civil (pos 1) 1 1)

days_behind-bound : (d : Date) → pos 1 ≤ℤ d.year → days_behind d ≤ 3_652_058
days_behind-bound d h =
    let low = first_day-least d h in
    let range = epoch_day_range d in
    omega (arith, signed_arith, first_day, one_part (epoch_day d -ℤ days_from_civil (pos 1) 1 1))

pub below_end : (k h m s : ℕ) → k ≤ 3_652_058 → h < 24 → m < 60 → s < 60 → k * 86_400 + (h * 3600 + m * 60 + s) < END
below_end k h m s a b c d = omega arith

-- what jiff's duration between the first second and a datetime is in seconds
pub seconds_between : (shown first : DateTime) (nanos secs : ℤ) → pos 1 ≤ℤ shown.date.year → civil_nanos first ≡ days_from_civil (pos 1) 1 1 *ℤ pos 86_400_000_000_000
    → nanos ≡ civil_nanos shown -ℤ civil_nanos first → secs ≡ int_div nanos (pos 1_000_000_000)
    → (secs ≡ pos (days_behind shown.date * 86_400 + time_seconds shown.time)) × (days_behind shown.date * 86_400 + time_seconds shown.time < END)
unfolding civil_nanos
seconds_between shown first nanos secs year begins is whole =
    let k = days_behind shown.date in
    let t = time_seconds shown.time in
    let s = shown.time.subsec_nanosecond in
    let low : days_from_civil (pos 1) 1 1 ≤ℤ epoch_day shown.date = omega (arith, signed_arith, first_day, first_day-least shown.date year) in
    let all = nanos_apart (epoch_day shown.date) (days_from_civil (pos 1) 1 1) nanos (civil_nanos shown) (civil_nanos first) k t s (apart _ _ low) begins refl is in
    let secs_is : secs ≡ pos ((k * 86_400_000_000_000 + (t * 1_000_000_000 + s)) / 1_000_000_000) = whole ∙ ap (λ n. int_div n (pos 1_000_000_000)) all in
    (secs_is ∙ ap pos (whole_seconds k t s shown.time.subsec_in), below_end k shown.time.hour shown.time.minute shown.time.second (days_behind-bound shown.date year) shown.time.hour_in shown.time.minute_in shown.time.second_in)

-- the tests of a date and a time are those of the library
pub real_date : (y m d h mi s : ℕ) → 0 < y → IsDate (pos y) (pos m) (pos d) × IsTime (pos h) (pos mi) (pos s) (pos 0) → is_date y m d && is_clock h mi s ≡ true
real_date y m d h mi s year is = grind (arith, signed_arith)

date_from : (y m d : ℕ) → is_date y m d ≡ true → IsDate (pos y) (pos m) (pos d)
date_from y m d e = grind (arith, signed_arith)

clock_from : (h mi s : ℕ) → is_clock h mi s ≡ true → IsTime (pos h) (pos mi) (pos s) (pos 0)
clock_from h mi s e = grind (arith, signed_arith)

-- the fields as signed numbers, in which the library takes them
pub record Signs (y m d h mi s : ℕ) (zy zm zd zh zmi zs : ℤ) : Type 0 where
  pub year : zy ≡ pos y
  pub month : zm ≡ pos m
  pub day : zd ≡ pos d
  pub hour : zh ≡ pos h
  pub minute : zmi ≡ pos mi
  pub second : zs ≡ pos s

pub cast_year : (n : ℕ) → n < 10000 → to_z w16 n ≡ pos n
cast_year n h = omega (arith, signed_casts)

pub cast_field : (n : ℕ) → n < 100 → to_z w8 n ≡ pos n
cast_field n h = omega (arith, signed_casts)

pub no_date : (y m d h mi s : ℕ) (zy zm zd zh zmi zs : ℤ) → Signs y m d h mi s zy zm zd zh zmi zs → (IsDate zy zm zd × IsTime zh zmi zs (pos 0) → ⊥) → instant_at y m d h mi s ≡ Err Range
no_date y m d h mi s zy zm zd zh zmi zs signs isnt =
    let isnt' : IsDate (pos y) (pos m) (pos d) × IsTime (pos h) (pos mi) (pos s) (pos 0) → ⊥ = λ is. isnt (rw (signs.year, signs.month, signs.day, signs.hour, signs.minute, signs.second) is) in
    let none : is_date y m d && is_clock h mi s ≡ false =
    false_from_ne_true (is_date y m d && is_clock h mi s) (λ e. let both = and_parts (is_date y m d) (is_clock h mi s) e in isnt' (date_from y m d both.0, clock_from h mi s both.1)) in
    rw none refl

-- the instant of a date and a time that the library has
pub named_date : (y m d h mi s : ℕ) → 0 < y → IsDate (pos y) (pos m) (pos d) × IsTime (pos h) (pos mi) (pos s) (pos 0) → (shown : DateTime)
    → shown.date.year ≡ pos y → shown.date.month ≡ m → shown.date.day ≡ d → shown.time.hour ≡ h → shown.time.minute ≡ mi → shown.time.second ≡ s
    → instant_at y m d h mi s ≡ Ok (days_behind shown.date * 86_400 + time_seconds shown.time)
named_date y m d h mi s low is shown year month day hour minute second =
    let real = real_date y m d h mi s low is in
    rw (real, year, month, day, hour, minute, second) refl

pub some_date : (y m d h mi s : ℕ) (zy zm zd zh zmi zs : ℤ) → Signs y m d h mi s zy zm zd zh zmi zs → 0 < y → IsDate zy zm zd × IsTime zh zmi zs (pos 0) → (shown : DateTime) → IsYmd zy zm zd shown.date × IsHms zh zmi zs (pos 0) shown.time
    → instant_at y m d h mi s ≡ Ok (days_behind shown.date * 86_400 + time_seconds shown.time)
some_date y m d h mi s zy zm zd zh zmi zs signs low is shown parts =
    let is' = rw (signs.year, signs.month, signs.day, signs.hour, signs.minute, signs.second) at is in
    let year : shown.date.year ≡ pos y = cc in
    let month : shown.date.month ≡ m = cc in
    let day : shown.date.day ≡ d = cc in
    let hour : shown.time.hour ≡ h = cc in
    let minute : shown.time.minute ≡ mi = cc in
    let second : shown.time.second ≡ s = cc in
    named_date y m d h mi s low is' shown year month day hour minute second
