-- A date and a time of day, one behind the other.
use Rattle.std.proofs.Common.{◌≡◌, ◌≢◌, ℕ, ◌+◌, ◌-◌, ◌*◌, List, [], ◌∷◌, ◌++◌, length, get_or, take, drop, length-take, refl, sym, ap, ◌∙◌, Bool, true, false, ◌&&◌, ◌||◌, arith, Some, None, cond, Result, Err, inl, inr}
use Rattle.std.specs.Prelude.{nat_eq}
use Rattle.std.proofs.Math.Seq.{drop-cons}
use Rattle.std.proofs.Math.Bool.{and-false}
use Rattle.std.proofs.lemmas.Bool.{ne_eqb, eq-eqb}
use Rattle.std.proofs.lemmas.Bool.Decides.{eqb_tells}
use Rattle.std.proofs.lemmas.List.{take-append-drop}
use Rattle.wm_base.proofs.Plain.{unless_parts}
use Rattle.wm_instants.specs.declared.fields.Day.{Day}
use Rattle.wm_instants.specs.declared.fields.Clock.{Clock}
use Rattle.wm_instants.specs.declared.refusal.InstantRefusal.{InstantRefusal}
use Rattle.wm_instants.specs.declared.refusal.InstantRefusal.TheVariants.{Shape}
use Rattle.wm_instants.specs.declared.form.DateForm.TheVariants.{Date, MonthFirst, Seconds, Timestamp}
use Rattle.wm_instants.specs.Instants.{has_form, field, field_from, date_form, clock_form, seconds_form, month_first_form, is_letter, read_by, instant_in, year_letter, month_letter, day_letter, hour_letter, minute_letter, second_letter}
use Rattle.wm_instants.specs.Fields.{day_in, clock_in, instant_from, midnight}
use Rattle.wm_instants.proofs.FormLemmas.{has_form-length}

-- ---- forms one behind the other

has_form-append : (f g a b : List ℕ) → length f ≡ length a → has_form (f ++ g) (a ++ b) ≡ has_form f a && has_form g b
has_form-append [] g [] b h = refl
has_form-append [] g (x ∷ a) b h = absurd (omega arith)
has_form-append (c ∷ f) g [] b h = absurd (omega arith)
has_form-append (c ∷ f) g (x ∷ a) b h = rw (has_form-append f g a b (omega arith)) (grind arith)

field_from-append : (f g a b : List ℕ) (n letter : ℕ) → length f ≡ length a → field_from n letter (f ++ g) (a ++ b) ≡ field_from (field_from n letter f a) letter g b
field_from-append [] g [] b n letter h = refl
field_from-append [] g (x ∷ a) b n letter h = absurd (omega arith)
field_from-append (c ∷ f) g [] b n letter h = absurd (omega arith)
field_from-append (c ∷ f) g (x ∷ a) b n letter h = field_from-append f g a b _ letter (omega arith)

-- a form without the letter
abbrev lacks : ℕ → List ℕ → Bool
lacks letter [] = true
lacks letter (c ∷ f) = cond (nat_eq c letter) false (lacks letter f)

field_from-lacks : (f a : List ℕ) (n letter : ℕ) → lacks letter f ≡ true → field_from n letter f a ≡ n
field_from-lacks [] a n letter h = refl
field_from-lacks (c ∷ f) [] n letter h = refl
field_from-lacks (c ∷ f) (x ∷ a) n letter h =
    let parts = unless_parts (nat_eq c letter) (lacks letter f) h in
    rw parts.0 (field_from-lacks f a n letter parts.1)

-- ---- a date, a mark and a time of day

-- the mark is no letter of a form
abbrev not_letter : ℕ → Type 0
not_letter mark = is_letter mark ≡ false

-- the fields of a date with a time behind it
field-date : (letter mark m : ℕ) (a b : List ℕ) → length a ≡ 10 → lacks letter (mark ∷ clock_form) ≡ true → field letter (seconds_form mark) (a ++ (m ∷ b)) ≡ field letter date_form a
field-date letter mark m a b h lack =
    field_from-append date_form (mark ∷ clock_form) a (m ∷ b) 0 letter (sym h) ∙ field_from-lacks (mark ∷ clock_form) (m ∷ b) (field letter date_form a) letter lack

-- and of the time
field-clock : (letter mark m : ℕ) (a b : List ℕ) → length a ≡ 10 → lacks letter date_form ≡ true → nat_eq mark letter ≡ false → field letter (seconds_form mark) (a ++ (m ∷ b)) ≡ field letter clock_form b
field-clock letter mark m a b h lack other =
    field_from-append date_form (mark ∷ clock_form) a (m ∷ b) 0 letter (sym h)
    ∙ ap (λ n. field_from n letter (mark ∷ clock_form) (m ∷ b)) (field_from-lacks date_form a 0 letter lack)
    ∙ ap (λ same. field_from (cond same (10 * 0 + (m - 48)) 0) letter clock_form b) other

has_form-seconds : (mark m : ℕ) (a b : List ℕ) → length a ≡ 10 → not_letter mark → has_form (seconds_form mark) (a ++ (m ∷ b)) ≡ has_form date_form a && (nat_eq m mark && has_form clock_form b)
has_form-seconds mark m a b h other = has_form-append date_form (mark ∷ clock_form) a (m ∷ b) (sym h) ∙ rw other refl

-- the six tests of a letter
six_tests : (a b c d e f : Bool) → ((((a || b) || c) || d) || e) || f ≡ false → (a ≡ false) × (b ≡ false) × (c ≡ false) × (d ≡ false) × (e ≡ false) × (f ≡ false)
six_tests false false false false false false h = (refl, refl, refl, refl, refl, refl)
six_tests false false false false false true h = cc
six_tests false false false false true f h = cc
six_tests false false false true e f h = cc
six_tests false false true d e f h = cc
six_tests false true c d e f h = cc
six_tests true b c d e f h = cc

choice : (p q r : Bool) (d : Day) (c : Clock) (x : Result ℕ InstantRefusal) → x ≡ instant_from (Some d) (Some c) → cond (p && (q && r)) x (Err Shape) ≡ cond q (instant_from (cond p (Some d) None) (cond r (Some c) None)) (Err Shape)
choice false false r d c x e = refl
choice false true r d c x e = refl
choice true false r d c x e = refl
choice true true false d c x e = refl
choice true true true d c x e = e

joined : (mark m : ℕ) (a b : List ℕ) → length a ≡ 10 → not_letter mark → read_by (seconds_form mark ∷ []) (a ++ (m ∷ b)) ≡ cond (nat_eq m mark) (instant_from (day_in date_form a) (clock_in b)) (Err Shape)
unfolding day_in clock_in
joined mark m a b h other =
    let apart = six_tests (nat_eq mark year_letter) (nat_eq mark month_letter) (nat_eq mark day_letter) (nat_eq mark hour_letter) (nat_eq mark minute_letter) (nat_eq mark second_letter) other in
    let year = field-date year_letter mark m a b h (rw apart.0 refl) in
    let month = field-date month_letter mark m a b h (rw apart.1 refl) in
    let day = field-date day_letter mark m a b h (rw apart.2 refl) in
    let hour = field-clock hour_letter mark m a b h refl apart.3 in
    let minute = field-clock minute_letter mark m a b h refl apart.4 in
    let second = field-clock second_letter mark m a b h refl apart.5 in
    rw (has_form-seconds mark m a b h other, year, month, day, hour, minute, second)
    (choice (has_form date_form a) (nat_eq m mark) (has_form clock_form b) (record { year = field year_letter date_form a; month = field month_letter date_form a; day = field day_letter date_form a })
    (record { hour = field hour_letter clock_form b; minute = field minute_letter clock_form b; second = field second_letter clock_form b }) _ refl)

-- a text of nineteen bytes in its parts
in_parts : (t : List ℕ) → length t ≡ 19 → t ≡ take 10 t ++ (get_or t 10 0 ∷ drop 11 t)
in_parts t h =
    let cell : drop 10 t ≡ get_or t 10 0 ∷ drop 11 t = drop-cons t 10 0 (omega arith) in
    sym (take-append-drop 10 t) ∙ ap (λ rest. take 10 t ++ rest) cell

pub read_by-seconds : (mark : ℕ) (t : List ℕ) → not_letter mark → length t ≡ 19 → read_by (seconds_form mark ∷ []) t ≡ cond (nat_eq (get_or t 10 0) mark) (instant_from (day_in date_form (take 10 t)) (clock_in (drop 11 t))) (Err Shape)
read_by-seconds mark t other h = ap (read_by (seconds_form mark ∷ [])) (in_parts t h) ∙ joined mark (get_or t 10 0) (take 10 t) (drop 11 t) (simp length-take (omega arith)) other

pub read_by-mark : (mark : ℕ) (t : List ℕ) → not_letter mark → length t ≡ 19 → get_or t 10 0 ≢ mark → read_by (seconds_form mark ∷ []) t ≡ Err Shape
read_by-mark mark t other h apart = read_by-seconds mark t other h ∙ rw (ne_eqb (get_or t 10 0) mark apart) refl

pub read_by-parts : (mark : ℕ) (t : List ℕ) (d : Day) (c : Clock) → not_letter mark → length t ≡ 19 → get_or t 10 0 ≡ mark → Some d ≡ day_in date_form (take 10 t) → Some c ≡ clock_in (drop 11 t) → read_by (seconds_form mark ∷ []) t ≡ instant_from (Some d) (Some c)
read_by-parts mark t d c other h same day clock = read_by-seconds mark t other h ∙ rw (eq-eqb (get_or t 10 0) mark same, ← day, ← clock) refl

pub read_by-length : (form t : List ℕ) → length t ≢ length form → read_by (form ∷ []) t ≡ Err Shape
read_by-length form t h = rw (has_form-length form t h) refl

-- ---- a date alone

alone : (p : Bool) (d : Day) (x : Result ℕ InstantRefusal) → x ≡ instant_from (Some d) (Some midnight) → cond p x (Err Shape) ≡ instant_from (cond p (Some d) None) (Some midnight)
alone false d x e = refl
alone true d x e = e

read_by-day : (form t : List ℕ) → lacks hour_letter form ≡ true → lacks minute_letter form ≡ true → lacks second_letter form ≡ true → read_by (form ∷ []) t ≡ instant_from (day_in form t) (Some midnight)
unfolding day_in
read_by-day form t no_hour no_minute no_second =
    let hour = field_from-lacks form t 0 hour_letter no_hour in
    let minute = field_from-lacks form t 0 minute_letter no_minute in
    let second = field_from-lacks form t 0 second_letter no_second in
    rw (hour, minute, second) (alone (has_form form t) (record { year = field year_letter form t; month = field month_letter form t; day = field day_letter form t }) _ refl)

-- ---- each kind of text

pub in-date : (t : List ℕ) → instant_in Date t ≡ instant_from (day_in date_form t) (Some midnight)
unfolding instant_in
in-date t = read_by-day date_form t refl refl refl

pub in-month_first : (t : List ℕ) → instant_in MonthFirst t ≡ instant_from (day_in month_first_form t) (Some midnight)
unfolding instant_in
in-month_first t = read_by-day month_first_form t refl refl refl

pub in-seconds : (t : List ℕ) → instant_in Seconds t ≡ read_by (seconds_form 32 ∷ []) t
unfolding instant_in
in-seconds t = refl

-- a text with another byte in the middle has not the form
has_form-mark : (mark : ℕ) (t : List ℕ) → length t ≡ 19 → not_letter mark → nat_eq (get_or t 10 0) mark ≡ false → has_form (seconds_form mark) t ≡ false
has_form-mark mark t h other apart =
    ap (has_form (seconds_form mark)) (in_parts t h)
    ∙ has_form-seconds mark (get_or t 10 0) (take 10 t) (drop 11 t) (simp length-take (omega arith)) other
    ∙ ap (λ same. has_form date_form (take 10 t) && (same && has_form clock_form (drop 11 t))) apart
    ∙ and-false (has_form date_form (take 10 t))

pub in-timestamp-date : (t : List ℕ) → length t ≡ 10 → instant_in Timestamp t ≡ instant_from (day_in date_form t) (Some midnight)
unfolding instant_in
in-timestamp-date t h =
    let no_space = has_form-length (seconds_form 32) t (omega arith) in
    let no_t = has_form-length (seconds_form 84) t (omega arith) in
    rw (no_space, no_t) (read_by-day date_form t refl refl refl)

pub in-timestamp-t : (t : List ℕ) → length t ≡ 19 → get_or t 10 0 ≡ 84 → instant_in Timestamp t ≡ read_by (seconds_form 84 ∷ []) t
unfolding instant_in
in-timestamp-t t h e =
    let no_date = has_form-length date_form t (omega arith) in
    let no_space = has_form-mark 32 t h refl (rw e refl) in
    rw (no_date, no_space) refl

no_t : (t : List ℕ) → (length t ≡ 19 → get_or t 10 0 ≢ 84) → has_form (seconds_form 84) t ≡ false
no_t t other =
    elim (eqb_tells (length t) 19) [
      | inl whole ↦ has_form-mark 84 t whole.1 refl (ne_eqb _ _ (other whole.1))
      | inr short ↦ has_form-length (seconds_form 84) t short.1
    ]

pub in-timestamp-space : (t : List ℕ) → length t ≢ 10 → (length t ≡ 19 → get_or t 10 0 ≢ 84) → instant_in Timestamp t ≡ read_by (seconds_form 32 ∷ []) t
unfolding instant_in
in-timestamp-space t h other =
    let no_date = has_form-length date_form t h in
    rw (no_date, no_t t other) refl

-- for the functions that read
pub ruleset reading_laws = (read_by-seconds, read_by-length, in-date, in-month_first, in-seconds, in-timestamp-date, in-timestamp-t, in-timestamp-space)
