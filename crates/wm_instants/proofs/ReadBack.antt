-- What is written is read back.
use Rattle.std.proofs.Common.{◌≡◌, ℕ, ◌+◌, ◌-◌, ◌*◌, ◌/◌, ◌%◌, ◌<◌, ◌≤◌, ◌++◌, take, drop, refl, sym, ap, ◌∙◌, true, arith, Some, Ok, ℤ, pos, neg_ℤ, ◌+ℤ◌, ◌-ℤ◌, ◌≤ℤ◌, unsigned_abs}
use Rattle.std.specs.Prelude.{codes}
use Rattle.std.specs.Char.{is_ascii_digit}
use Rattle.std.proofs.lemmas.Bool.{le-leb}
use Rattle.jiff_core.specs.declared.civil.date.Date.{Date}
use Rattle.jiff_core.specs.declared.civil.datetime.DateTime.{DateTime}
use Rattle.jiff_core.specs.Calendar.{IsDate, days_from_civil}
use Rattle.jiff_core.specs.Date.{epoch_day}
use Rattle.jiff_core.specs.Time.{time_seconds, IsTime}
use Rattle.jiff_core.proofs.SignedLemmas.{signed_arith, one_part}
use Rattle.jiff_core.proofs.CalendarLemmas.{days_in_month_bounds}
use Rattle.jiff_core.proofs.DateLemmas.{civil}
use Rattle.wm_base.specs.declared.instant.TheConstants.{END}
use Rattle.wm_instants.specs.Fields.{two_at, four_at}
use Rattle.wm_instants.specs.Instants.{instant_of, instant_at}
use Rattle.wm_instants.specs.Texts.{date_text, clock_text, instant_text, year_of, month_of, day_of, second_of_day}
use Rattle.wm_instants.proofs.CivilLemmas.{named_date, days_behind, first_day}
use Rattle.wm_instants.proofs.FormLemmas.{day_in-date, clock_in-cells}
use Rattle.wm_instants.proofs.JoinedLemmas.{in-timestamp-space, read_by-seconds}
use Rattle.wm_instants.proofs.TextLemmas.{text_at}

digit : (k : ℕ) → k < 10 → is_ascii_digit (48 + k) ≡ true
digit k h = rw (le-leb 48 (48 + k) (omega arith), le-leb (48 + k) 57 (omega arith)) refl

two_at-digits : (n : ℕ) → n < 100 → two_at (48 + n / 10) (48 + n % 10) ≡ Some n
two_at-digits n h =
    let value : 10 * (48 + n / 10 - 48) + (48 + n % 10 - 48) ≡ n = omega arith in
    rw (digit (n / 10) (omega arith), digit (n % 10) (omega arith), value) refl

four_at-digits : (n : ℕ) → n < 10000 → four_at (48 + n / 100 / 10) (48 + n / 100 % 10) (48 + n % 100 / 10) (48 + n % 100 % 10) ≡ Some n
four_at-digits n h =
    let value : 100 * (10 * (48 + n / 100 / 10 - 48) + (48 + n / 100 % 10 - 48)) + (10 * (48 + n % 100 / 10 - 48) + (48 + n % 100 % 10 - 48)) ≡ n = omega arith in
    rw (digit (n / 100 / 10) (omega arith), digit (n / 100 % 10) (omega arith), digit (n % 100 / 10) (omega arith), digit (n % 100 % 10) (omega arith), value) refl

-- the text of a date and a time means them
text_means : (y m d h mi s : ℕ) → y < 10000 → m < 100 → d < 100 → h < 100 → mi < 100 → s < 100 → instant_of (date_text y m d ++ codes " " ++ clock_text h mi s) ≡ instant_at y m d h mi s
text_means y m d h mi s hy hm hd hh hmi hs =
    let text = date_text y m d ++ codes " " ++ clock_text h mi s in
    let date = day_in-date (take 10 text) refl in
    let clock = clock_in-cells (drop 11 text) refl in
    in-timestamp-space text (omega arith) (λ _. omega arith) ∙ read_by-seconds 32 text refl refl
    ∙ rw (date, clock, four_at-digits y hy, two_at-digits m hm, two_at-digits d hd, two_at-digits h hh, two_at-digits mi hmi, two_at-digits s hs) refl

-- a date of the library has fields that it takes
taken_date : (d : Date) (y : ℕ) → d.year ≡ pos y → IsDate (pos y) (pos d.month) (pos d.day)
taken_date d y e =
    let date = rw e at (civil d) in
    omega (arith, signed_arith, date.0, date.1, date.2)

taken_time : (h m s : ℕ) → h < 24 → m < 60 → s < 60 → IsTime (pos h) (pos m) (pos s) (pos 0)
taken_time h m s a b c = omega (arith, signed_arith)

-- the fields of a date have few digits
small_date : (d : Date) → (d.month < 100) × (d.day < 100)
small_date d =
    let date = civil d in
    let bounds = days_in_month_bounds d.year d.month in
    omega (arith, date.1, date.2)

whole : (d : Date) (t at : ℕ) → epoch_day d ≡ neg_ℤ (pos 719_162) +ℤ pos (at / 86_400) → t ≡ at % 86_400 → days_behind d * 86_400 + t ≡ at
whole d t at days seconds =
    let behind : days_behind d ≡ at / 86_400 = omega (arith, signed_arith, first_day, one_part (epoch_day d -ℤ days_from_civil (pos 1) 1 1)) in
    omega arith

-- the text of what is shown at a moment means the moment
pub reads_back : (shown : DateTime) (at : ℕ) → at < END → pos 1 ≤ℤ shown.date.year → shown.date.year ≡ pos (year_of at) → shown.date.month ≡ month_of at → shown.date.day ≡ day_of at → time_seconds shown.time ≡ second_of_day at
    → epoch_day shown.date ≡ neg_ℤ (pos 719_162) +ℤ pos (at / 86_400) → instant_of (instant_text at) ≡ Ok at
reads_back shown at high low year month day seconds days =
    let t = shown.time in
    let y = unsigned_abs shown.date.year in
    let year_is : shown.date.year ≡ pos y = omega (arith, signed_arith, one_part shown.date.year) in
    let above : 0 < y = omega (arith, signed_arith) in
    let below : y < 10000 = omega (arith, signed_arith, (civil shown.date).0) in
    let small = small_date shown.date in
    let hour = t.hour_in in
    let minute = t.minute_in in
    let second = t.second_in in
    let is = named_date y shown.date.month shown.date.day t.hour t.minute t.second above (taken_date shown.date y year_is, taken_time t.hour t.minute t.second hour minute second) shown year_is refl refl refl refl refl in
    ap instant_of (sym (text_at shown at high year month day seconds))
    ∙ text_means y shown.date.month shown.date.day t.hour t.minute t.second below small.0 small.1 (omega (arith, hour)) (omega (arith, minute)) (omega (arith, second))
    ∙ is ∙ ap (λ n. Ok n) (whole shown.date (time_seconds t) at days seconds)
