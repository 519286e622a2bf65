-- The tests of opening, one by one, and the fields as they are read.
use Rattle.std.proofs.Common.{◌≡◌, ℕ, ◌+◌, ◌-◌, ◌<◌, ◌≤◌, Bool, true, false, List, length, take, drop, slice_index, refl, sym, ◌∙◌, ap, arith, Option, Some, None}
use Rattle.std.proofs.lemmas.Bool.{le-ltb, lt-ltb, and_left}
use Rattle.std.specs.Prelude.{◌&&◌, not, nat_lt, if◌then◌else◌}
use Rattle.std.proofs.lemmas.List.{drop-take, take-take}
use Rattle.wm_faults.specs.declared.fault.Damage.{Damage}
use Rattle.wm_faults.specs.declared.fault.Damage.TheVariants.{Short, Format, Journal, Root}
use Rattle.wm_page.specs.Fields.{number_at}
use Rattle.wm_page.proofs.Numbers.{number_at-same}
use Rattle.wm_station.specs.History.{stretch}
use Rattle.wm_journal.specs.Disk.{page, has_format, is_open, is_in_order, count_of, damage_of}
use Rattle.wm_journal.proofs.Kept.{slice_index-stretch}
use Rattle.wm_journal.proofs.Stored.{held_closed}

-- the first test that fails, of what the tests look at
pub verdict : ℕ → Bool → Bool → ℕ → Option (ℕ × Damage)
verdict size format disorder count =
    if nat_lt size 4096 then Some (0, Short) else
    if not format then Some (0, Format) else
    if disorder then Some (0, Journal) else
    if nat_lt size 8192 then Some (1, Short) else
    if nat_lt count 3 then Some (1, Root) else
    None

pub damage_is : (a : List ℕ) → damage_of a ≡ verdict (length a) (has_format a) (is_open a && not (is_in_order a)) (count_of a)
unfolding damage_of verdict
damage_is a = refl

verdict_short : (size : ℕ) (f d : Bool) (k : ℕ) → size < 4096 → verdict size f d k ≡ Some (0, Short)
unfolding verdict
verdict_short size f d k lt = let e : nat_lt size 4096 ≡ true = lt-ltb size 4096 lt in rw e

verdict_format : (size : ℕ) (f d : Bool) (k : ℕ) → 4096 ≤ size → f ≡ false → verdict size f d k ≡ Some (0, Format)
unfolding verdict
verdict_format size f d k le format = let e : nat_lt size 4096 ≡ false = le-ltb size 4096 le in rw (e, format)

verdict_journal : (size : ℕ) (f d : Bool) (k : ℕ) → 4096 ≤ size → f ≡ true → d ≡ true → verdict size f d k ≡ Some (0, Journal)
unfolding verdict
verdict_journal size f d k le format disorder = let e : nat_lt size 4096 ≡ false = le-ltb size 4096 le in rw (e, format, disorder)

verdict_root_short : (size : ℕ) (f d : Bool) (k : ℕ) → 4096 ≤ size → f ≡ true → d ≡ false → size < 8192 → verdict size f d k ≡ Some (1, Short)
unfolding verdict
verdict_root_short size f d k le format disorder lt =
    let e : nat_lt size 4096 ≡ false = le-ltb size 4096 le in
    let r : nat_lt size 8192 ≡ true = lt-ltb size 8192 lt in
    rw (e, format, disorder, r)

verdict_root : (size : ℕ) (f d : Bool) (k : ℕ) → f ≡ true → d ≡ false → 8192 ≤ size → k < 3 → verdict size f d k ≡ Some (1, Root)
unfolding verdict
verdict_root size f d k format disorder le lt =
    let e : nat_lt size 4096 ≡ false = le-ltb size 4096 (omega arith) in
    let r : nat_lt size 8192 ≡ false = le-ltb size 8192 le in
    let c : nat_lt k 3 ≡ true = lt-ltb k 3 lt in
    rw (e, format, disorder, r, c)

verdict_none : (size : ℕ) (f d : Bool) (k : ℕ) → f ≡ true → d ≡ false → 8192 ≤ size → 3 ≤ k → verdict size f d k ≡ None
unfolding verdict
verdict_none size f d k format disorder le more =
    let e : nat_lt size 4096 ≡ false = le-ltb size 4096 (omega arith) in
    let r : nat_lt size 8192 ≡ false = le-ltb size 8192 le in
    let c : nat_lt k 3 ≡ false = le-ltb k 3 more in
    rw (e, format, disorder, r, c)

and_disorder : (b d : Bool) → b ≡ true → d ≡ false → (b && not d) ≡ true
and_disorder b d one two = grind arith

pub short_page : (a : List ℕ) → length a < 4096 → damage_of a ≡ Some (0, Short)
short_page a lt = damage_is a ∙ verdict_short (length a) (has_format a) (is_open a && not (is_in_order a)) (count_of a) lt

pub bad_format : (a : List ℕ) → 4096 ≤ length a → has_format a ≡ false → damage_of a ≡ Some (0, Format)
bad_format a le format = damage_is a ∙ verdict_format (length a) (has_format a) (is_open a && not (is_in_order a)) (count_of a) le format

pub bad_journal : (a : List ℕ) → 4096 ≤ length a → has_format a ≡ true → is_open a ≡ true → is_in_order a ≡ false → damage_of a ≡ Some (0, Journal)
bad_journal a le format open_ disorder = damage_is a ∙ verdict_journal (length a) (has_format a) (is_open a && not (is_in_order a)) (count_of a) le format (and_disorder (is_open a) (is_in_order a) open_ disorder)

pub short_root : (a : List ℕ) → 4096 ≤ length a → has_format a ≡ true → is_open a ≡ false → length a < 8192 → damage_of a ≡ Some (1, Short)
short_root a le format closed lt = damage_is a ∙ verdict_root_short (length a) (has_format a) (is_open a && not (is_in_order a)) (count_of a) le format (and_left (is_open a) (not (is_in_order a)) closed) lt

pub bad_root : (a : List ℕ) → has_format a ≡ true → is_open a ≡ false → 8192 ≤ length a → count_of a < 3 → damage_of a ≡ Some (1, Root)
bad_root a format closed le lt = damage_is a ∙ verdict_root (length a) (has_format a) (is_open a && not (is_in_order a)) (count_of a) format (and_left (is_open a) (not (is_in_order a)) closed) le lt

pub no_damage : (a : List ℕ) → has_format a ≡ true → is_open a ≡ false → 8192 ≤ length a → 3 ≤ count_of a → damage_of a ≡ None
no_damage a format closed le more = damage_is a ∙ verdict_none (length a) (has_format a) (is_open a && not (is_in_order a)) (count_of a) format (and_left (is_open a) (not (is_in_order a)) closed) le more

-- the fields, in what was read of the front
pub byte_read : (file bytes : List ℕ) (n i : ℕ) → i < n → bytes ≡ stretch file 0 n → slice_index bytes i ≡ slice_index file i
byte_read file bytes n i lt same = ap (λ (l : List ℕ). slice_index l i) same ∙ slice_index-stretch file 0 n i lt ∙ ap (slice_index file) (let e : 0 + i ≡ i = omega arith in e)

pub number_read : (file bytes : List ℕ) (n at : ℕ) → at + 8 ≤ n → bytes ≡ stretch file 0 n → number_at bytes at ≡ number_at file at
unfolding stretch
number_read file bytes n at le same =
    let size : at + (n - at) ≡ n = omega arith in
    let cut : drop at (take n file) ≡ take (n - at) (drop at file) = ap (λ (k : ℕ). drop at (take k file)) (sym size) ∙ drop-take at (n - at) file in
    number_at-same bytes file at at (ap (λ (l : List ℕ). take 8 (drop at l)) same ∙ ap (take 8) cut ∙ take-take 8 (n - at) (drop at file) (omega arith))

-- the page count, in what was read of page 1
pub count_read : (file bytes : List ℕ) → is_open file ≡ false → bytes ≡ stretch file 4096 8 → number_at bytes 0 ≡ count_of file
unfolding stretch page
count_read file bytes closed same =
    let here : number_at bytes 0 ≡ number_at (page file 1) 0 = number_at-same bytes (page file 1) 0 0 (ap (take 8) same ∙ take-take 8 8 (drop 4096 file) (omega arith) ∙ sym (take-take 8 4096 (drop 4096 file) (omega arith))) in
    here ∙ ap (λ (l : List ℕ). number_at l 0) (sym (held_closed file 1 closed))

-- a number, in what was read from its place
pub number_there : (file bytes : List ℕ) (at : ℕ) → bytes ≡ stretch file at 8 → number_at bytes 0 ≡ number_at file at
unfolding stretch
number_there file bytes at same = number_at-same bytes file 0 at (ap (take 8) same ∙ take-take 8 8 (drop at file) (omega arith))
