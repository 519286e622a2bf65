-- The date and the time of an instant.
use Rattle.std.proofs.Common.{◌≡◌, ℕ, zero, suc, ◌+◌, ◌-◌, ◌*◌, ◌/◌, ◌%◌, ◌<◌, ◌≤◌, Bool, true, false, nat_le, nat_eq, ◌++◌, refl, sym, ap, ◌∙◌, arith, rules, ℤ, pos, neg_ℤ, ◌+ℤ◌, ◌-ℤ◌, ◌*ℤ◌, ◌<ℤ◌, ◌≤ℤ◌, unsigned_abs, inl, inr}
use Rattle.std.specs.Prelude.{codes}
use Rattle.std.proofs.lemmas.Bool.{le-leb, lt-leb, ne_eqb, eq-eqb}
use Rattle.std.proofs.lemmas.Bool.Decides.{eqb_tells}
use Rattle.std.proofs.lemmas.Int.{by_lt_z}
use Rattle.jiff_core.specs.declared.civil.date.Date.{Date}
use Rattle.jiff_core.specs.declared.civil.datetime.DateTime.{DateTime}
use Rattle.jiff_core.specs.Calendar.{days_from_civil, IsCivilDate}
use Rattle.jiff_core.specs.Date.{epoch_day}
use Rattle.jiff_core.specs.DateTime.{civil_nanos, IsCivilNanos}
use Rattle.jiff_core.specs.Time.{time_seconds}
use Rattle.jiff_core.proofs.SignedLemmas.{signed_arith, one_part}
use Rattle.jiff_core.proofs.CalendarLemmas.{days_from_civil-day_count, day_count-lt_year, day_count-lt_month, day_count-day_of_year, day_count-day, days_in_month_bounds}
use Rattle.jiff_core.proofs.DateLemmas.{civil}
use Rattle.wm_base.specs.declared.instant.TheConstants.{END}
use Rattle.wm_instants.specs.Instants.{day_start}
use Rattle.wm_instants.specs.Texts.{last_of, year_of, month_of, day_of, second_of_day, date_text, clock_text, instant_text}
use Rattle.wm_instants.proofs.CivilLemmas.{first_day}

-- the last number that passes
last_of-is : (p : ℕ → Bool) (n k : ℕ) → 1 ≤ k → k ≤ n → p k ≡ true → ((j : ℕ) → k < j → j ≤ n → p j ≡ false) → last_of p n ≡ k
unfolding last_of
last_of-is p zero k low high passes above = absurd (omega arith)
last_of-is p (suc n) k low high passes above =
    elim (eqb_tells k (suc n)) [
      | inl here ↦ rw (← here.1, passes) refl
      | inr before ↦ rw (above (suc n) (omega (arith, before.1)) (omega arith)) (last_of-is p n k low (omega (arith, before.1)) passes (λ j more le. above j more (omega arith)))
    ]

-- a day that begins at or before an instant, and one that begins after it
begun : (at : ℕ) (year m d : ℕ) → neg_ℤ (pos 719_162) ≤ℤ days_from_civil (pos year) m d → days_from_civil (pos year) m d ≤ℤ (neg_ℤ (pos 719_162) +ℤ pos (at / 86_400)) → nat_le (day_start year m d) at ≡ true
begun at year m d low high =
    let days : unsigned_abs (days_from_civil (pos year) m d -ℤ days_from_civil (pos 1) 1 1) ≤ at / 86_400 =
    omega (arith, signed_arith, first_day, one_part (days_from_civil (pos year) m d -ℤ days_from_civil (pos 1) 1 1)) in
    le-leb _ _ (omega arith)

not_begun : (at : ℕ) (year m d : ℕ) → (neg_ℤ (pos 719_162) +ℤ pos (at / 86_400)) <ℤ days_from_civil (pos year) m d → nat_le (day_start year m d) at ≡ false
not_begun at year m d after =
    let days : at / 86_400 < unsigned_abs (days_from_civil (pos year) m d -ℤ days_from_civil (pos 1) 1 1) =
    omega (arith, signed_arith, first_day, one_part (days_from_civil (pos year) m d -ℤ days_from_civil (pos 1) 1 1)) in
    lt-leb _ _ (omega arith)

-- a date on or after the first has a year from 1 on
year_low : (d : Date) → neg_ℤ (pos 719_162) ≤ℤ epoch_day d → pos 1 ≤ℤ d.year
year_low d h =
    by_lt_z d.year (pos 1)
    (λ early. absurd (omega (arith, signed_arith, first_day, days_from_civil-day_count, day_count-lt_year d.year d.month d.day (pos 1) 1 1 (civil d) (omega arith) early)))
    (λ low. low)

natural : (z : ℤ) → pos 0 ≤ℤ z → z ≡ pos (unsigned_abs z)
natural z h = omega (arith, signed_arith, one_part z)

-- what is shown at a number of nanoseconds behind the first second
split_nanos : (day : ℤ) (t s at : ℕ) → t < 86_400 → s < 1_000_000_000
    → day *ℤ pos 86_400_000_000_000 +ℤ pos (t * 1_000_000_000 + s) ≡ (neg_ℤ (pos 719_162) *ℤ pos 86_400_000_000_000) +ℤ pos (at * 1_000_000_000)
    → (day ≡ neg_ℤ (pos 719_162) +ℤ pos (at / 86_400)) × (t ≡ at % 86_400)
split_nanos day t s at ht hs e = omega (arith, signed_arith)

-- the date of an instant
pub record DateAt (d : Date) (at : ℕ) : Type 0 where
  pub year : d.year ≡ pos (year_of at)
  pub month : d.month ≡ month_of at
  pub day : d.day ≡ day_of at
  pub low : pos 1 ≤ℤ d.year
  pub days : epoch_day d ≡ neg_ℤ (pos 719_162) +ℤ pos (at / 86_400)

-- each year from 1 on begins on the first day or after it
year_begins : (y : ℕ) → 1 ≤ y → neg_ℤ (pos 719_162) ≤ℤ days_from_civil (pos y) 1 1
year_begins y low =
    let earliest : IsCivilDate (pos 1) 1 1 = search rules in
    by_lt_z (pos 1) (pos y)
    (λ later. omega (arith, signed_arith, first_day, days_from_civil-day_count, day_count-lt_year (pos 1) 1 1 (pos y) 1 1 earliest (omega arith) later))
    (λ early. let same : y ≡ 1 = omega (arith, signed_arith) in omega (arith, signed_arith, first_day, ap (λ n. days_from_civil (pos n) 1 1) same))

-- the first of the year and of the month are not after a date
year_before : (y m d : ℕ) → 1 ≤ d → days_from_civil (pos y) 1 1 ≤ℤ days_from_civil (pos y) m d
year_before y m d h = omega (arith, signed_arith, days_from_civil-day_count, day_count-day_of_year (pos y) m d h)

month_before : (y m d : ℕ) → 1 ≤ d → days_from_civil (pos y) m 1 ≤ℤ days_from_civil (pos y) m d
month_before y m d h = omega (arith, signed_arith, days_from_civil-day_count, day_count-day (pos y) m d 1 h (omega arith))

-- what comes later has a greater day number
year_after : (y m d j : ℕ) → IsCivilDate (pos y) m d → y < j → days_from_civil (pos y) m d <ℤ days_from_civil (pos j) 1 1
year_after y m d j is more = omega (arith, signed_arith, days_from_civil-day_count, day_count-lt_year (pos y) m d (pos j) 1 1 is (omega arith) (omega (arith, signed_arith)))

month_after : (y m d j : ℕ) → IsCivilDate (pos y) m d → m < j → days_from_civil (pos y) m d <ℤ days_from_civil (pos y) j 1
month_after y m d j is more = omega (arith, signed_arith, days_from_civil-day_count, day_count-lt_month (pos y) m d j 1 is (omega arith) more)

day_after : (y m d j : ℕ) → 1 ≤ d → d < j → days_from_civil (pos y) m d <ℤ days_from_civil (pos y) m j
day_after y m d j low more = omega (arith, signed_arith, days_from_civil-day_count, day_count-day (pos y) m d j low (omega arith))

-- the year, the month and the day of a date
date_numbers : (y m d at : ℕ) → 1 ≤ y → IsCivilDate (pos y) m d → days_from_civil (pos y) m d ≡ neg_ℤ (pos 719_162) +ℤ pos (at / 86_400) → (y ≡ year_of at) × (m ≡ month_of at) × (d ≡ day_of at)
date_numbers y m d at low date is =
    let bounds = days_in_month_bounds (pos y) m in
    let high : y ≤ 9999 = omega (arith, signed_arith, date.0) in
    let begins = year_begins y low in
    let year_is = year_before y m d date.2.0 in
    let month_is = month_before y m d date.2.0 in
    let month_begins : neg_ℤ (pos 719_162) ≤ℤ days_from_civil (pos y) m 1 = omega (arith, signed_arith, year_before y m 1 (omega arith)) in
    let year : year_of at ≡ y =
    last_of-is (λ n. nat_le (day_start n 1 1) at) 9999 y low high
    (begun at y 1 1 begins (omega (arith, signed_arith)))
    (λ j more le. not_begun at j 1 1 (omega (arith, signed_arith, year_after y m d j date more))) in
    let month' : last_of (λ n. nat_le (day_start y n 1) at) 12 ≡ m =
    last_of-is (λ n. nat_le (day_start y n 1) at) 12 m date.1.0 date.1.1
    (begun at y m 1 month_begins (omega (arith, signed_arith)))
    (λ j more le. not_begun at y j 1 (omega (arith, signed_arith, month_after y m d j date more))) in
    let day' : last_of (λ n. nat_le (day_start y m n) at) 31 ≡ d =
    last_of-is (λ n. nat_le (day_start y m n) at) 31 d date.2.0 (omega (arith, date.2.1))
    (begun at y m d (omega (arith, signed_arith)) (omega (arith, signed_arith)))
    (λ j more le. not_begun at y m j (omega (arith, signed_arith, day_after y m d j date.2.0 more))) in
    let month : month_of at ≡ m = rw year month' in
    let day : day_of at ≡ d = rw (year, month') day' in
    (sym year, sym month, sym day)

-- what a calendar and a clock show so many nanoseconds behind the first second
pub shown_at : (shown first : DateTime) (nanos : ℤ) (at : ℕ) → at < END → civil_nanos first ≡ days_from_civil (pos 1) 1 1 *ℤ pos 86_400_000_000_000 → nanos ≡ pos (at * 1_000_000_000) → civil_nanos shown ≡ civil_nanos first +ℤ nanos
    → DateAt shown.date at × (time_seconds shown.time ≡ second_of_day at)
unfolding civil_nanos
shown_at shown first nanos at high begins length is =
    let seconds : time_seconds shown.time < 86_400 = omega (arith, shown.time.hour_in, shown.time.minute_in, shown.time.second_in) in
    let split = split_nanos (epoch_day shown.date) (time_seconds shown.time) shown.time.subsec_nanosecond at seconds shown.time.subsec_in (is ∙ ap (λ n. civil_nanos first +ℤ n) length ∙ ap (λ n. n +ℤ pos (at * 1_000_000_000)) (begins ∙ ap (λ n. n *ℤ pos 86_400_000_000_000) first_day)) in
    let day = split.0 in
    let low = year_low shown.date (omega (arith, signed_arith)) in
    let year = natural shown.date.year (omega (arith, signed_arith)) in
    let date = rw year at (civil shown.date) in
    let numbers = date_numbers (unsigned_abs shown.date.year) shown.date.month shown.date.day at (omega (arith, signed_arith, low, year)) date (ap (λ y. days_from_civil y shown.date.month shown.date.day) (sym year) ∙ day) in
    (record { year = year ∙ ap pos numbers.0; month = numbers.1; day = numbers.2; low = low; days = day }, split.1)

-- the library has every moment
pub has_moment : (first : DateTime) (nanos : ℤ) (at : ℕ) → at < END → civil_nanos first ≡ days_from_civil (pos 1) 1 1 *ℤ pos 86_400_000_000_000 → nanos ≡ pos (at * 1_000_000_000) → IsCivilNanos (civil_nanos first +ℤ nanos)
has_moment first nanos at high begins length = omega (arith, signed_arith, first_day)

hour_is : (h m s n : ℕ) → m < 60 → s < 60 → h * 3600 + m * 60 + s ≡ n → h ≡ n / 3600
hour_is h m s n hm hs e = omega arith

minute_is : (h m s n : ℕ) → m < 60 → s < 60 → h * 3600 + m * 60 + s ≡ n → m ≡ n / 60 % 60
minute_is h m s n hm hs e = omega arith

second_is : (h m s n : ℕ) → m < 60 → s < 60 → h * 3600 + m * 60 + s ≡ n → s ≡ n % 60
second_is h m s n hm hs e = omega arith

-- the text of what is shown at a moment
pub text_at : (shown : DateTime) (at : ℕ) → at < END → shown.date.year ≡ pos (year_of at) → shown.date.month ≡ month_of at → shown.date.day ≡ day_of at → time_seconds shown.time ≡ second_of_day at
    → date_text (unsigned_abs shown.date.year) shown.date.month shown.date.day ++ codes " " ++ clock_text shown.time.hour shown.time.minute shown.time.second ≡ instant_text at
unfolding instant_text
text_at shown at high year month day seconds =
    let t = shown.time in
    let hour = hour_is t.hour t.minute t.second (second_of_day at) t.minute_in t.second_in seconds in
    let minute = minute_is t.hour t.minute t.second (second_of_day at) t.minute_in t.second_in seconds in
    let second = second_is t.hour t.minute t.second (second_of_day at) t.minute_in t.second_in seconds in
    let moment : nat_eq at END ≡ false = ne_eqb at END (omega arith) in
    rw (year, month, day, hour, minute, second, moment) refl

-- and the text of the instant behind the last moment
pub text_end : (at : ℕ) → at ≡ END → instant_text at ≡ codes "UNTIL_CHANGED"
unfolding instant_text
text_end at e =
    let last : nat_eq at END ≡ true = eq-eqb at END e in
    rw last refl
