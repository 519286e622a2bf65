-- The first savepoint from a date on: found among savepoints in any order as it is among those by making.
use Rattle.std.proofs.Common.{◌≡◌, ℕ, ◌&&◌, ◌||◌, ◌==◌, nat_lt, nat_le, Bool, true, false, cond, List, [], ◌∷◌, map, Option, Some, None, refl, sym, ap, ◌∙◌, arith}
use Rattle.std.proofs.lemmas.Bool.{and_from, and_parts}
use Rattle.std.proofs.lemmas.Option.{same_Some}
use Rattle.std.specs.Bool.{then_some}
use Rattle.std.specs.List.{filter, filter_map, list_all}
use Rattle.std.specs.Option.{option_and_then, option_map}
use Rattle.wm_base.proofs.Plain.{nat_le-trans}
use Rattle.wm_chunks.specs.Numbers.{Numbers}
use Rattle.wm_graph.specs.Parts.{parts_of, as_savepoint}
use Rattle.wm_image.proofs.Saved.{of_test}
use Rattle.wm_image.specs.Soonest.{is_from, is_sooner, sooner, soonest}
use Rattle.wm_index.proofs.Firsts.{sought_kind}
use Rattle.wm_index.specs.Indexed.{IsIndexed, ids_at, listed}
use Rattle.wm_index.specs.Kinds.{kind_at, passing}
use Rattle.wm_index.specs.Sought.{SavepointsOf}
use Rattle.wm_index.specs.declared.index.Index.{Index}
use Rattle.wm_spec.specs.Records.{record_at}
use Rattle.wm_spec.specs.declared.record.Record.{Record}
use Rattle.wm_spec.specs.declared.record.savepoint.Savepoint.{Savepoint}
use Rattle.wm_spec.specs.declared.record.stored.Stored.{Stored}
use Rattle.wm_state.specs.Reading.{first_from, sooner_saved}
use Rattle.wm_state.specs.Standing.{SavepointFields, by_making, place_making, saved_fields, saved_in}

-- ---- the sooner of two

pub sooner-none : (o : Option Savepoint) → sooner o None ≡ o
sooner-none None = refl
sooner-none (Some x) = refl

pub sooner_first : (x y : Savepoint) → is_sooner y x ≡ false → Some x ≡ sooner (Some x) (Some y)
sooner_first x y e = rw e refl

pub sooner_second : (x y : Savepoint) → is_sooner y x ≡ true → Some y ≡ sooner (Some x) (Some y)
sooner_second x y e = rw e refl

-- the first of two pairs of numbers is less than the second
abbrev is_less : ℕ → ℕ → ℕ → ℕ → Bool
is_less p m q n = nat_lt p q || ((p == q) && nat_lt m n)

less-trans : (a i b j c k : ℕ) → is_less b j a i ≡ true → is_less c k b j ≡ true → is_less c k a i ≡ true
less-trans a i b j c k e f = grind (arith, e, f)

less-apart : (a i b j c k : ℕ) → is_less b j a i ≡ false → is_less c k b j ≡ false → is_less c k a i ≡ false
less-apart a i b j c k e f = grind (arith, e, f)

sooner-assoc : (a b c : Option Savepoint) → sooner (sooner a b) c ≡ sooner a (sooner b c)
sooner-assoc None b c = refl
sooner-assoc (Some x) None c = refl
sooner-assoc (Some x) (Some y) None = sooner-none (sooner (Some x) (Some y))
sooner-assoc (Some x) (Some y) (Some z) = by_tests (is_sooner y x) (is_sooner z y) refl refl
  where
    by_tests : (a b : Bool) → is_sooner y x ≡ a → is_sooner z y ≡ b → sooner (cond a (Some y) (Some x)) (Some z) ≡ sooner (Some x) (cond b (Some z) (Some y))
    by_tests true true e f = rw (f, less-trans x.place x.making y.place y.making z.place z.making e f) refl
    by_tests true false e f = rw (e, f) refl
    by_tests false true e f = refl
    by_tests false false e f = rw (e, less-apart x.place x.making y.place y.making z.place z.making e f) refl

-- one more of the ids
pub soonest-next : (date : ℕ) (ss : List Stored) (id : ℕ) (ids : List ℕ) (best : Option Savepoint)
    → sooner (sooner best (passing (is_from date) (option_and_then as_savepoint (record_at ss id)))) (soonest date (kind_at as_savepoint ss ids)) ≡ sooner best (soonest date (kind_at as_savepoint ss (id ∷ ids)))
soonest-next date ss id ids best = by_record (record_at ss id) refl
  where
    one : (o : Option Savepoint) → sooner (sooner best (passing (is_from date) o)) (soonest date (kind_at as_savepoint ss ids)) ≡ sooner best (sooner (passing (is_from date) o) (soonest date (kind_at as_savepoint ss ids)))
    one o = sooner-assoc best (passing (is_from date) o) (soonest date (kind_at as_savepoint ss ids))

    by_record : (o : Option Record) → record_at ss id ≡ o
        → sooner (sooner best (passing (is_from date) (option_and_then as_savepoint o))) (soonest date (kind_at as_savepoint ss ids)) ≡ sooner best (soonest date (kind_at as_savepoint ss (id ∷ ids)))
    by_record None is = rw is (one None)
    by_record (Some r) is = rw is (by_kind (as_savepoint r) refl)
      where
        by_kind : (o : Option Savepoint) → as_savepoint r ≡ o
            → sooner (sooner best (passing (is_from date) o)) (soonest date (kind_at as_savepoint ss ids)) ≡ sooner best (soonest date (filter_map as_savepoint (r ∷ filter_map (record_at ss) ids)))
        by_kind None e = rw e (one None)
        by_kind (Some x) e = rw e (one (Some x))

-- ---- by making

-- the savepoints of a list whose place was made on a date or later, and the first of them
abbrev from_fields : ℕ → List Savepoint → Option SavepointFields
from_fields date xs = first_from date (map saved_fields xs)

-- the sooner of two by their fields
abbrev is_sooner_in : SavepointFields → SavepointFields → Bool
is_sooner_in k l = is_less k.place k.making l.place l.making

abbrev sooner_in : Option SavepointFields → Option SavepointFields → Option SavepointFields
sooner_in None other = other
sooner_in (Some k) None = Some k
sooner_in (Some k) (Some l) = cond (is_sooner_in l k) (Some l) (Some k)

sooner-fields : (a b : Option Savepoint) → option_map saved_fields (sooner a b) ≡ sooner_in (option_map saved_fields a) (option_map saved_fields b)
sooner-fields None b = refl
sooner-fields (Some x) None = refl
sooner-fields (Some x) (Some y) = by_test (is_sooner y x)
  where
    by_test : (b : Bool) → option_map saved_fields (cond b (Some y) (Some x)) ≡ cond b (Some (saved_fields y)) (Some (saved_fields x))
    by_test true = refl
    by_test false = refl

-- one that was made before another goes in front of it
place_swapped : (k l : SavepointFields) (o : Option SavepointFields) → nat_lt l.making k.making ≡ true → sooner_saved l (sooner_in (Some k) o) ≡ sooner_in (Some k) (sooner_saved l o)
place_swapped k l None lt = by_tests (nat_lt k.place l.place) (is_sooner_in l k) refl refl
  where
    turned : (a i b j : ℕ) → nat_lt j i ≡ true → nat_lt a b ≡ true → is_less b j a i ≡ true → ⊥
    turned a i b j lt e f = grind (arith, lt, e, f)

    apart : (a i b j : ℕ) → nat_lt j i ≡ true → nat_lt a b ≡ false → is_less b j a i ≡ false → ⊥
    apart a i b j lt e f = grind (arith, lt, e, f)

    by_tests : (a b : Bool) → nat_lt k.place l.place ≡ a → is_sooner_in l k ≡ b → cond a (Some k) (Some l) ≡ cond b (Some l) (Some k)
    by_tests true true e f = absurd (turned k.place k.making l.place l.making lt e f)
    by_tests true false e f = refl
    by_tests false true e f = refl
    by_tests false false e f = absurd (apart k.place k.making l.place l.making lt e f)
place_swapped k l (Some m) lt = by_tests (is_sooner_in m k) (nat_lt m.place l.place) refl refl
  where
    over : (a i b j : ℕ) → nat_lt j i ≡ true → nat_lt a b ≡ true → is_less b j a i ≡ false
    over a i b j lt e = grind (arith, lt, e)

    under : (a i b j : ℕ) → nat_lt j i ≡ true → nat_lt a b ≡ false → is_less b j a i ≡ true
    under a i b j lt e = grind (arith, lt, e)

    -- m is sooner than k, but not at a lesser place than l
    between : (a i b j c n : ℕ) → nat_lt j i ≡ true → is_less c n a i ≡ true → nat_lt c b ≡ false → is_less b j a i ≡ true
    between a i b j c n lt e f = grind (arith, lt, e, f)

    -- m is at a lesser place than l and not sooner than k
    beside : (a i b c n : ℕ) → is_less c n a i ≡ false → nat_lt c b ≡ true → nat_lt a b ≡ true
    beside a i b c n e f = grind (arith, e, f)

    by_place : (b : Bool) → nat_lt k.place l.place ≡ b → cond b (Some k) (Some l) ≡ sooner_in (Some k) (Some l)
    by_place true e = rw (over k.place k.making l.place l.making lt e) refl
    by_place false e = rw (under k.place k.making l.place l.making lt e) refl

    by_tests : (a b : Bool) → is_sooner_in m k ≡ a → nat_lt m.place l.place ≡ b → sooner_saved l (cond a (Some m) (Some k)) ≡ sooner_in (Some k) (cond b (Some m) (Some l))
    by_tests true true e f = rw (f, e) refl
    by_tests true false e f = rw (f, between k.place k.making l.place l.making m.place m.making lt e f) refl
    by_tests false true e f = rw (beside k.place k.making l.place m.place m.making e f, e) refl
    by_tests false false e f = by_place (nat_lt k.place l.place) refl

-- so that all of them were made no sooner than it
abbrev are_since : ℕ → List Savepoint → Bool
are_since making xs = list_all (λ (x : Savepoint). nat_le making x.making) xs

abbrev Sorted : List Savepoint → Type 0
Sorted [] = Unit
Sorted (x ∷ xs) = (are_since x.making xs ≡ true) × Sorted xs

since_also : (making more : ℕ) (xs : List Savepoint) → nat_le making more ≡ true → are_since more xs ≡ true → are_since making xs ≡ true
since_also making more [] le all = refl
since_also making more (x ∷ xs) le all =
    let two = and_parts (nat_le more x.making) (are_since more xs) all in
    and_from (nat_le making x.making) (are_since making xs) (nat_le-trans making more x.making le two.0) (since_also making more xs le two.1)

not_less : (m n : ℕ) → nat_lt m n ≡ false → nat_le n m ≡ true
not_less m n e = grind (arith, e)

less_so : (m n : ℕ) → nat_lt m n ≡ true → nat_le m n ≡ true
less_so m n e = grind (arith, e)

-- the first of them was made then too
made_since : (making date : ℕ) (xs : List Savepoint) (k : SavepointFields) → are_since making xs ≡ true → from_fields date xs ≡ Some k → nat_le making k.making ≡ true
made_since making date [] k all found = cc
made_since making date (x ∷ xs) k all found = by_date (nat_le date x.moment) (from_fields date xs) found (made_since making date xs k two.1)
  where
    two : (nat_le making x.making ≡ true) × (are_since making xs ≡ true)
    two = and_parts (nat_le making x.making) (are_since making xs) all

    here : (f g : SavepointFields) → nat_le making f.making ≡ true → Some f ≡ Some g → nat_le making g.making ≡ true
    here f g le e = ap (λ (h : SavepointFields). nat_le making h.making) (sym (same_Some f g e)) ∙ le

    by_place : (l : SavepointFields) (b : Bool) → cond b (Some l) (Some (saved_fields x)) ≡ Some k → (Some l ≡ Some k → nat_le making k.making ≡ true) → nat_le making k.making ≡ true
    by_place l true e rest = rest e
    by_place l false e rest = here (saved_fields x) k two.0 e

    by_date : (b : Bool) (o : Option SavepointFields) → cond b (sooner_saved (saved_fields x) o) o ≡ Some k → (o ≡ Some k → nat_le making k.making ≡ true) → nat_le making k.making ≡ true
    by_date true None e rest = here (saved_fields x) k two.0 e
    by_date true (Some l) e rest = by_place l (nat_lt l.place x.place) e rest
    by_date false o e rest = rest e

-- one that was made no later than the others goes in front
place_first : (x : Savepoint) (o : Option SavepointFields) → ((k : SavepointFields) → o ≡ Some k → nat_le x.making k.making ≡ true) → sooner_saved (saved_fields x) o ≡ sooner_in (Some (saved_fields x)) o
place_first x None since = refl
place_first x (Some k) since = by_tests (nat_lt k.place x.place) (is_sooner_in k (saved_fields x)) refl refl
  where
    same : (a i b j : ℕ) → nat_le i j ≡ true → is_less b j a i ≡ nat_lt b a
    same a i b j le = grind (arith, le)

    by_tests : (a b : Bool) → nat_lt k.place x.place ≡ a → is_sooner_in k (saved_fields x) ≡ b → cond a (Some k) (Some (saved_fields x)) ≡ cond b (Some k) (Some (saved_fields x))
    by_tests a b e f = ap (λ c. cond c (Some k) (Some (saved_fields x))) (sym e ∙ sym (same x.place x.making k.place k.making (since k refl)) ∙ f)

-- the first of them with one more
from-placed : (date : ℕ) (x : Savepoint) (ys : List Savepoint) → Sorted ys → from_fields date (place_making x ys) ≡ sooner_in (option_map saved_fields (then_some (is_from date x) x)) (from_fields date ys)
from-placed date x [] sorted = by_date (nat_le date x.moment)
  where
    by_date : (b : Bool) → cond b (Some (saved_fields x)) None ≡ sooner_in (option_map saved_fields (then_some b x)) None
    by_date true = refl
    by_date false = refl
from-placed date x (y ∷ ys) sorted = by_making_of (nat_lt y.making x.making) refl (from-placed date x ys sorted.1)
  where
    in_front : (b : Bool) → nat_lt y.making x.making ≡ false
        → cond b (sooner_saved (saved_fields x) (from_fields date (y ∷ ys))) (from_fields date (y ∷ ys)) ≡ sooner_in (option_map saved_fields (then_some b x)) (from_fields date (y ∷ ys))
    in_front true e = place_first x (from_fields date (y ∷ ys)) (λ k found. made_since x.making date (y ∷ ys) k (all_since e) found)
      where
        all_since : nat_lt y.making x.making ≡ false → are_since x.making (y ∷ ys) ≡ true
        all_since e = and_from (nat_le x.making y.making) (are_since x.making ys) (not_less y.making x.making e) (since_also x.making y.making ys (not_less y.making x.making e) sorted.0)
    in_front false e = refl

    behind : (a b : Bool) → nat_lt y.making x.making ≡ true
        → cond a (sooner_saved (saved_fields y) (sooner_in (option_map saved_fields (then_some b x)) (from_fields date ys))) (sooner_in (option_map saved_fields (then_some b x)) (from_fields date ys))
        ≡ sooner_in (option_map saved_fields (then_some b x)) (cond a (sooner_saved (saved_fields y) (from_fields date ys)) (from_fields date ys))
    behind true true lt = place_swapped (saved_fields x) (saved_fields y) (from_fields date ys) lt
    behind true false lt = refl
    behind false b lt = refl

    by_making_of : (b : Bool) → nat_lt y.making x.making ≡ b
        → from_fields date (place_making x ys) ≡ sooner_in (option_map saved_fields (then_some (is_from date x) x)) (from_fields date ys)
        → from_fields date (cond b (y ∷ place_making x ys) (x ∷ y ∷ ys)) ≡ sooner_in (option_map saved_fields (then_some (is_from date x) x)) (from_fields date (y ∷ ys))
    by_making_of true lt rest = ap (λ o. cond (nat_le date y.moment) (sooner_saved (saved_fields y) o) o) rest ∙ behind (nat_le date y.moment) (is_from date x) lt
    by_making_of false e rest = in_front (nat_le date x.moment) e

-- one by one they are sorted
since-placed : (making : ℕ) (x : Savepoint) (ys : List Savepoint) → nat_le making x.making ≡ true → are_since making ys ≡ true → are_since making (place_making x ys) ≡ true
since-placed making x [] le all = and_from (nat_le making x.making) true le refl
since-placed making x (y ∷ ys) le all = by_making_of (nat_lt y.making x.making) (since-placed making x ys le two.1)
  where
    two : (nat_le making y.making ≡ true) × (are_since making ys ≡ true)
    two = and_parts (nat_le making y.making) (are_since making ys) all

    by_making_of : (b : Bool) → are_since making (place_making x ys) ≡ true → are_since making (cond b (y ∷ place_making x ys) (x ∷ y ∷ ys)) ≡ true
    by_making_of true rest = and_from (nat_le making y.making) (are_since making (place_making x ys)) two.0 rest
    by_making_of false rest = and_from (nat_le making x.making) (are_since making (y ∷ ys)) le all

sorted-placed : (x : Savepoint) (ys : List Savepoint) → Sorted ys → Sorted (place_making x ys)
sorted-placed x [] sorted = (refl, tt)
sorted-placed x (y ∷ ys) sorted = by_making_of (nat_lt y.making x.making) refl (sorted-placed x ys sorted.1)
  where
    by_making_of : (b : Bool) → nat_lt y.making x.making ≡ b → Sorted (place_making x ys) → Sorted (cond b (y ∷ place_making x ys) (x ∷ y ∷ ys))
    by_making_of true lt rest = (since-placed y.making x ys (less_so y.making x.making lt) sorted.0, rest)
    by_making_of false e rest =
        (and_from (nat_le x.making y.making) (are_since x.making ys) (not_less y.making x.making e) (since_also x.making y.making ys (not_less y.making x.making e) sorted.0), sorted)

sorted_by : (xs : List Savepoint) → Sorted (by_making xs)
sorted_by [] = tt
sorted_by (x ∷ xs) = sorted-placed x (by_making xs) (sorted_by xs)

-- the soonest in any order is the first of them by making
soonest_is : (date : ℕ) (xs : List Savepoint) → option_map saved_fields (soonest date xs) ≡ first_from date (map saved_fields (by_making xs))
soonest_is date [] = refl
soonest_is date (x ∷ xs) =
    sooner-fields (then_some (is_from date x) x) (soonest date xs)
    ∙ ap (sooner_in (option_map saved_fields (then_some (is_from date x) x))) (soonest_is date xs)
    ∙ sym (from-placed date x (by_making xs) (sorted_by xs))

pub soonest_told : (kept : Numbers Record) (x : Index) → IsIndexed kept x → (n date : ℕ)
    → option_map saved_fields (soonest date (kind_at as_savepoint (listed kept.entries) (ids_at x (SavepointsOf n)))) ≡ first_from date (map saved_fields (saved_in (parts_of (listed kept.entries)) n))
unfolding parts_of
soonest_told kept x is n date =
    ap (λ (xs : List Savepoint). option_map saved_fields (soonest date xs)) (sought_kind as_savepoint (λ (y : Savepoint). y.space == n) (SavepointsOf n) (of_test n) kept x is)
    ∙ soonest_is date (filter (λ (y : Savepoint). y.space == n) (parts_of (listed kept.entries)).savepoints)
