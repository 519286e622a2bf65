-- The fields of a text, byte by byte.
use Rattle.std.proofs.Common.{◌≡◌, ◌≢◌, ℕ, zero, suc, ◌+◌, ◌-◌, List, [], ◌∷◌, length, get_or, drop, refl, ap, ◌∙◌, Bool, true, false, ◌&&◌, arith, Option, Some, None, cond}
use Rattle.std.specs.Option.{option_and_then}
use Rattle.std.specs.Prelude.{nat_eq}
use Rattle.std.specs.Char.{is_ascii_digit}
use Rattle.std.proofs.Math.Seq.{drop-cons}
use Rattle.std.proofs.Math.Bool.{and-false}
use Rattle.wm_instants.specs.declared.fields.Day.{Day}
use Rattle.wm_instants.specs.declared.fields.Clock.{Clock}
use Rattle.wm_instants.specs.Instants.{has_form, field, date_form, month_first_form, clock_form, year_letter, month_letter, day_letter, hour_letter, minute_letter, second_letter}
use Rattle.wm_instants.specs.Fields.{day_in, clock_in, are_two, are_four, two_number, four_number, two_at, four_at}

-- the bytes from i on, n of them
abbrev pub cells : ℕ → ℕ → List ℕ → List ℕ
cells zero i bs = []
cells (suc n) i bs = get_or bs i 0 ∷ cells n (suc i) bs

drop_whole : (i : ℕ) (bs : List ℕ) → length bs ≡ i → drop i bs ≡ []
drop_whole zero [] h = refl
drop_whole zero (b ∷ bs) h = absurd (omega arith)
drop_whole (suc i) [] h = absurd (omega arith)
drop_whole (suc i) (b ∷ bs) h = drop_whole i bs (omega arith)

drop-cells : (n i : ℕ) (bs : List ℕ) → length bs ≡ i + n → drop i bs ≡ cells n i bs
drop-cells zero i bs h = drop_whole i bs (omega arith)
drop-cells (suc n) i bs h =
    drop-cons bs i 0 (omega arith) ∙ ap (λ rest. get_or bs i 0 ∷ rest) (drop-cells n (suc i) bs (omega arith))

-- a text is its bytes
pub is-cells : (n : ℕ) (bs : List ℕ) → length bs ≡ n → bs ≡ cells n 0 bs
is-cells n bs h = drop-cells n 0 bs (omega arith)

-- a text of another length has not the form
pub has_form-length : (form text : List ℕ) → length text ≢ length form → has_form form text ≡ false
has_form-length [] [] h = absurd (h refl)
has_form-length [] (b ∷ bs) h = refl
has_form-length (c ∷ cs) [] h = refl
has_form-length (c ∷ cs) (b ∷ bs) h =
    let none = has_form-length cs bs (λ e. h (ap suc e)) in
    rw none (and-false _)

-- a value that needs three others and a test
abbrev pub all_three : {A : Type 0} → Bool → Option ℕ → Option ℕ → Option ℕ → (ℕ → ℕ → ℕ → A) → Option A
all_three shape first second third make =
    cond shape (option_and_then (λ a. option_and_then (λ b. option_and_then (λ c. Some (make a b c)) third) second) first) None

together : {A : Type 0} (p q r s : Bool) (a b c : ℕ) (make : ℕ → ℕ → ℕ → A) → cond (p && (q && (r && s))) (Some (make a b c)) None ≡ all_three p (cond q (Some a) None) (cond r (Some b) None) (cond s (Some c) None) make
together false q r s a b c make = refl
together true false r s a b c make = refl
together true true false s a b c make = refl
together true true true false a b c make = refl
together true true true true a b c make = refl

-- the order of year, month and day in the record
abbrev pub a_day : ℕ → ℕ → ℕ → Day
a_day year month day = record { year = year; month = month; day = day }

abbrev pub a_clock : ℕ → ℕ → ℕ → Clock
a_clock hour minute second = record { hour = hour; minute = minute; second = second }

-- YYYY-MM-DD byte by byte
date_test : (a b c d e f g h i j : Bool) → a && (b && (c && (d && (e && (f && (g && (h && (i && (j && true))))))))) ≡ (e && h) && (((a && b) && (c && d)) && ((f && g) && (i && j)))
date_test a b c d e f g h i j = grind arith

date_cells : (a b c d e f g h i j : ℕ) → day_in date_form (a ∷ b ∷ c ∷ d ∷ e ∷ f ∷ g ∷ h ∷ i ∷ j ∷ []) ≡ all_three (nat_eq e 45 && nat_eq h 45) (four_at a b c d) (two_at f g) (two_at i j) a_day
unfolding day_in
date_cells a b c d e f g h i j =
    let text = a ∷ b ∷ c ∷ d ∷ e ∷ f ∷ g ∷ h ∷ i ∷ j ∷ [] in
    let year : field year_letter date_form text ≡ four_number a b c d = omega arith in
    let month : field month_letter date_form text ≡ two_number f g = omega arith in
    let day : field day_letter date_form text ≡ two_number i j = omega arith in
    rw (date_test (is_ascii_digit a) (is_ascii_digit b) (is_ascii_digit c) (is_ascii_digit d) (nat_eq e 45) (is_ascii_digit f) (is_ascii_digit g) (nat_eq h 45) (is_ascii_digit i) (is_ascii_digit j), year, month, day)
    (together (nat_eq e 45 && nat_eq h 45) (are_four a b c d) (are_two f g) (are_two i j) (four_number a b c d) (two_number f g) (two_number i j) a_day)

pub day_in-date : (t : List ℕ) → length t ≡ 10 → day_in date_form t
    ≡ all_three (nat_eq (get_or t 4 0) 45 && nat_eq (get_or t 7 0) 45) (four_at (get_or t 0 0) (get_or t 1 0) (get_or t 2 0) (get_or t 3 0)) (two_at (get_or t 5 0) (get_or t 6 0)) (two_at (get_or t 8 0) (get_or t 9 0)) a_day
day_in-date t h =
    ap (day_in date_form) (is-cells 10 t h) ∙ date_cells (get_or t 0 0) (get_or t 1 0) (get_or t 2 0) (get_or t 3 0) (get_or t 4 0) (get_or t 5 0) (get_or t 6 0) (get_or t 7 0) (get_or t 8 0) (get_or t 9 0)

-- MM-DD-YYYY byte by byte
month_test : (a b c d e f g h i j : Bool) → a && (b && (c && (d && (e && (f && (g && (h && (i && (j && true))))))))) ≡ (c && f) && ((a && b) && ((d && e) && ((g && h) && (i && j))))
month_test a b c d e f g h i j = grind arith

month_cells : (a b c d e f g h i j : ℕ) → day_in month_first_form (a ∷ b ∷ c ∷ d ∷ e ∷ f ∷ g ∷ h ∷ i ∷ j ∷ []) ≡ all_three (nat_eq c 45 && nat_eq f 45) (two_at a b) (two_at d e) (four_at g h i j) (λ m d y. a_day y m d)
unfolding day_in
month_cells a b c d e f g h i j =
    let text = a ∷ b ∷ c ∷ d ∷ e ∷ f ∷ g ∷ h ∷ i ∷ j ∷ [] in
    let year : field year_letter month_first_form text ≡ four_number g h i j = omega arith in
    let month : field month_letter month_first_form text ≡ two_number a b = omega arith in
    let day : field day_letter month_first_form text ≡ two_number d e = omega arith in
    rw (month_test (is_ascii_digit a) (is_ascii_digit b) (nat_eq c 45) (is_ascii_digit d) (is_ascii_digit e) (nat_eq f 45) (is_ascii_digit g) (is_ascii_digit h) (is_ascii_digit i) (is_ascii_digit j), year, month, day)
    (together (nat_eq c 45 && nat_eq f 45) (are_two a b) (are_two d e) (are_four g h i j) (two_number a b) (two_number d e) (four_number g h i j) (λ m d y. a_day y m d))

pub day_in-month_first : (t : List ℕ) → length t ≡ 10 → day_in month_first_form t
    ≡ all_three (nat_eq (get_or t 2 0) 45 && nat_eq (get_or t 5 0) 45) (two_at (get_or t 0 0) (get_or t 1 0)) (two_at (get_or t 3 0) (get_or t 4 0)) (four_at (get_or t 6 0) (get_or t 7 0) (get_or t 8 0) (get_or t 9 0)) (λ m d y. a_day y m d)
day_in-month_first t h =
    ap (day_in month_first_form) (is-cells 10 t h) ∙ month_cells (get_or t 0 0) (get_or t 1 0) (get_or t 2 0) (get_or t 3 0) (get_or t 4 0) (get_or t 5 0) (get_or t 6 0) (get_or t 7 0) (get_or t 8 0) (get_or t 9 0)

-- hh:mm:ss byte by byte
clock_test : (a b c d e f g h : Bool) → a && (b && (c && (d && (e && (f && (g && (h && true))))))) ≡ (c && f) && ((a && b) && ((d && e) && (g && h)))
clock_test a b c d e f g h = grind arith

clock_cells : (a b c d e f g h : ℕ) → clock_in (a ∷ b ∷ c ∷ d ∷ e ∷ f ∷ g ∷ h ∷ []) ≡ all_three (nat_eq c 58 && nat_eq f 58) (two_at a b) (two_at d e) (two_at g h) a_clock
unfolding clock_in
clock_cells a b c d e f g h =
    let text = a ∷ b ∷ c ∷ d ∷ e ∷ f ∷ g ∷ h ∷ [] in
    let hour : field hour_letter clock_form text ≡ two_number a b = omega arith in
    let minute : field minute_letter clock_form text ≡ two_number d e = omega arith in
    let second : field second_letter clock_form text ≡ two_number g h = omega arith in
    rw (clock_test (is_ascii_digit a) (is_ascii_digit b) (nat_eq c 58) (is_ascii_digit d) (is_ascii_digit e) (nat_eq f 58) (is_ascii_digit g) (is_ascii_digit h), hour, minute, second)
    (together (nat_eq c 58 && nat_eq f 58) (are_two a b) (are_two d e) (are_two g h) (two_number a b) (two_number d e) (two_number g h) a_clock)

pub clock_in-cells : (t : List ℕ) → length t ≡ 8 → clock_in t
    ≡ all_three (nat_eq (get_or t 2 0) 58 && nat_eq (get_or t 5 0) 58) (two_at (get_or t 0 0) (get_or t 1 0)) (two_at (get_or t 3 0) (get_or t 4 0)) (two_at (get_or t 6 0) (get_or t 7 0)) a_clock
clock_in-cells t h =
    ap clock_in (is-cells 8 t h) ∙ clock_cells (get_or t 0 0) (get_or t 1 0) (get_or t 2 0) (get_or t 3 0) (get_or t 4 0) (get_or t 5 0) (get_or t 6 0) (get_or t 7 0)

-- and of a text of another length
pub day_in-length : (form t : List ℕ) → length t ≢ length form → day_in form t ≡ None
unfolding day_in
day_in-length form t h = rw (has_form-length form t h) refl

pub clock_in-length : (t : List ℕ) → length t ≢ 8 → clock_in t ≡ None
unfolding clock_in
clock_in-length t h = rw (has_form-length clock_form t h) refl

-- for the functions that read the fields
pub ruleset form_laws = (day_in-date, day_in-month_first, clock_in-cells, day_in-length, clock_in-length)
