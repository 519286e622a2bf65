-- Faults in front of a plan whose own faults are of later rows: what comes of both.
use Rattle.std.proofs.Common.{◌≡◌, ℕ, nat_le, Bool, true, false, ◌&&◌, if◌then◌else◌, List, [], ◌∷◌, ◌++◌, Option, Some, None, unwrap_or, refl, ap, ◌∙◌, arith}
use Rattle.std.proofs.lemmas.Bool.{and_from, and_parts}
use Rattle.std.proofs.lemmas.Bool.Decides.{nat_tests}
use Rattle.std.specs.List.{list_all}
use Rattle.wm_base.specs.declared.refusal.Refusal.{Refusal}
use Rattle.wm_model.specs.Step.{Plan, also, done_so, first_fault, for_home, for_named, for_savepoint, for_table, for_text, mistyped, no_workspace, outcome, refusal_of, refused_or, refusing, space_numbered}
use Rattle.wm_model.specs.Step.Places.{least, place, sooner}
use Rattle.wm_outcome.proofs.Faults.{AtPlace, Ranked, rises}
use Rattle.wm_outline.specs.Outline.{Outline, SpaceOutline}
use Rattle.wm_print.specs.Texts.{Answer}
use Rattle.wm_spec.specs.declared.record.table.Table.{Table}
use Rattle.wm_state.specs.Standing.{SavepointFields}
use Rattle.wm_state.specs.State.{Session}

-- ---- a fault is of a row or of a later one

abbrev pub is_from : ℕ → Option Refusal → Bool
is_from k None = true
is_from k (Some r) = nat_le k (place r)

-- so is each fault of a plan
abbrev pub From : ℕ → Plan → Type 0
From k q = list_all (is_from k) q.faults ≡ true

from_at : (k j : ℕ) (f : Option Refusal) → AtPlace j f → nat_le k j ≡ true → is_from k f ≡ true
from_at k j None at below = refl
from_at k j (Some r) at below = ap (nat_le k) at ∙ below

pub from_ranked : (k : ℕ) (ks : List ℕ) (fs : List (Option Refusal)) → Ranked ks fs → list_all (nat_le k) ks ≡ true → list_all (is_from k) fs ≡ true
from_ranked k [] [] ranked below = refl
from_ranked k [] (f ∷ fs) ranked below = absurd ranked
from_ranked k (j ∷ ks) [] ranked below = absurd ranked
from_ranked k (j ∷ ks) (f ∷ fs) ranked below =
    let h = and_parts (nat_le k j) (list_all (nat_le k) ks) below in
    and_from (is_from k f) (list_all (is_from k) fs) (from_at k j f ranked.0 h.0) (from_ranked k ks fs ranked.1 h.1)

from_both : (k : ℕ) (fs gs : List (Option Refusal)) → list_all (is_from k) fs ≡ true → list_all (is_from k) gs ≡ true → list_all (is_from k) (fs ++ gs) ≡ true
from_both k [] gs one two = two
from_both k (f ∷ fs) gs one two = let h = and_parts (is_from k f) (list_all (is_from k) fs) one in and_from (is_from k f) (list_all (is_from k) (fs ++ gs)) h.0 (from_both k fs gs h.1 two)

pub from_refusing : (k : ℕ) (answer : Answer) → is_from k (refusal_of answer) ≡ true → From k (refusing answer)
from_refusing k answer later = and_from (is_from k (refusal_of answer)) true later refl

pub from_also : (k : ℕ) (front : List (Option Refusal)) (q : Plan) → list_all (is_from k) front ≡ true → From k q → From k (also front q)
from_also k front q one two = from_both k front q.faults one two

pub from_named : (k : ℕ) (lacks : Answer) (act : SpaceOutline → Plan) (found : Option SpaceOutline) → is_from k (refusal_of lacks) ≡ true → ((x : SpaceOutline) → From k (act x)) → From k (for_named lacks act found)
from_named k lacks act None later each = from_refusing k lacks later
from_named k lacks act (Some x) later each = each x

-- where no workspace is found, the refusal is of row 19
pub from_home : (k : ℕ) (act : SpaceOutline → Plan) (session : Session) (o : Outline) → nat_le k 19 ≡ true → ((x : SpaceOutline) → From k (act x)) → From k (for_home act session o)
from_home k act session o later each = from_named k (no_workspace []) act (space_numbered session.space o) later each

pub from_text : (k : ℕ) (text fault : Option (List ℕ)) (act : List ℕ → Plan) → nat_le k 14 ≡ true → ((name : List ℕ) → From k (act name)) → From k (for_text text fault act)
from_text k None fault act later each = from_refusing k (mistyped (unwrap_or fault [])) later
from_text k (Some name) fault act later each = each name

pub from_table : (k : ℕ) (lacks : Answer) (act : Table → Plan) (found : Option Table) → is_from k (refusal_of lacks) ≡ true → ((t : Table) → From k (act t)) → From k (for_table lacks act found)
from_table k lacks act None later each = from_refusing k lacks later
from_table k lacks act (Some t) later each = each t

pub from_savepoint : (k : ℕ) (lacks : Answer) (act : SavepointFields → Plan) (found : Option SavepointFields) → is_from k (refusal_of lacks) ≡ true → ((x : SavepointFields) → From k (act x)) → From k (for_savepoint lacks act found)
from_savepoint k lacks act None later each = from_refusing k lacks later
from_savepoint k lacks act (Some x) later each = each x

-- ---- what is told of both

-- what is told of faults that are from a row is from it
least_from : (k : ℕ) (fs : List (Option Refusal)) → list_all (is_from k) fs ≡ true → is_from k (least fs) ≡ true
unfolding least
least_from k [] later = refl
least_from k (f ∷ fs) later = let h = and_parts (is_from k f) (list_all (is_from k) fs) later in by_two f (least fs) h.0 (least_from k fs h.1)
  where
    by_two : (f g : Option Refusal) → is_from k f ≡ true → is_from k g ≡ true → is_from k (sooner f g) ≡ true
    by_two None g one two = two
    by_two (Some r) None one two = one
    by_two (Some r) (Some q) one two = by_test (nat_le (place r) (place q))
      where
        by_test : (b : Bool) → is_from k (if b then Some r else Some q) ≡ true
        by_test true = one
        by_test false = two

-- the first of two faults, where the other is of no sooner row
sooner_first : (r : Refusal) (g : Option Refusal) → is_from (place r) g ≡ true → sooner (Some r) g ≡ Some r
sooner_first r None later = refl
sooner_first r (Some q) later = ap (λ b. if b then Some r else Some q) later

-- a bound of two rows
up_to : (j k : ℕ) (f : Option Refusal) → nat_le j k ≡ true → is_from k f ≡ true → is_from j f ≡ true
up_to j k None below later = refl
up_to j k (Some r) below later = between j k (place r) below later
  where
    between : (a b c : ℕ) → nat_le a b ≡ true → nat_le b c ≡ true → nat_le a c ≡ true
    between a b c one two = grind (arith, nat_tests, one, two)

up_all : (j k : ℕ) (fs : List (Option Refusal)) → nat_le j k ≡ true → list_all (is_from k) fs ≡ true → list_all (is_from j) fs ≡ true
up_all j k [] below later = refl
up_all j k (f ∷ fs) below later = let h = and_parts (is_from k f) (list_all (is_from k) fs) later in and_from (is_from j f) (list_all (is_from j) fs) (up_to j k f below h.0) (up_all j k fs below h.1)

-- faults in order, in front of others that are of no sooner rows
least_front : (ks : List ℕ) (k : ℕ) (front fs : List (Option Refusal)) → Ranked ks front → rises ks ≡ true → list_all (λ j. nat_le j k) ks ≡ true → list_all (is_from k) fs ≡ true
    → (r : Refusal) → first_fault front ≡ Some r → least (front ++ fs) ≡ Some r
unfolding least
least_front [] k [] fs ranked up under later r is = absurd (cc)
least_front [] k (f ∷ front) fs ranked up under later r is = absurd ranked
least_front (j ∷ ks) k [] fs ranked up under later r is = absurd ranked
least_front (j ∷ ks) k (None ∷ front) fs ranked up under later r is =
    least_front ks k front fs ranked.1 (and_parts (list_all (nat_le j) ks) (rises ks) up).1 (and_parts (nat_le j k) (list_all (λ i. nat_le i k) ks) under).1 later r is
least_front (j ∷ ks) k (Some q ∷ front) fs ranked up under later r is =
    let h = and_parts (nat_le j k) (list_all (λ i. nat_le i k) ks) under in
    let behind : list_all (is_from j) (front ++ fs) ≡ true = from_both j front fs (from_ranked j ks front ranked.1 (and_parts (list_all (nat_le j) ks) (rises ks) up).0) (up_all j k fs h.0 later) in
    sooner_first q (least (front ++ fs)) (ap (λ n. is_from n (least (front ++ fs))) ranked.0 ∙ least_from j (front ++ fs) behind) ∙ is

pub passed : (fs gs : List (Option Refusal)) → first_fault fs ≡ None → least (fs ++ gs) ≡ least gs
unfolding least
passed [] gs none = refl
passed (None ∷ fs) gs none = passed fs gs none
passed (Some r ∷ fs) gs none = absurd (cc)

-- what comes of a plan with faults in front that are in order and of no later rows than its own
pub also_is : (ks : List ℕ) (k : ℕ) (front : List (Option Refusal)) (q : Plan) → Ranked ks front → rises ks ≡ true → list_all (λ j. nat_le j k) ks ≡ true → From k q → outcome (also front q) ≡ refused_or (first_fault front) (outcome q)
also_is ks k front q ranked up under later = by_front (first_fault front) refl
  where
    by_front : (f : Option Refusal) → first_fault front ≡ f → refused_or (least (front ++ q.faults)) (done_so q) ≡ refused_or f (refused_or (least q.faults) (done_so q))
    by_front None is = ap (λ g. refused_or g (done_so q)) (passed front q.faults is)
    by_front (Some r) is = ap (λ g. refused_or g (done_so q)) (least_front ks k front q.faults ranked up under later r is)

-- ---- faults that are of one of some rows

-- of one of the rows from one to another
abbrev pub AtPlaces : ℕ → ℕ → Option Refusal → Type 0
AtPlaces from till None = Unit {0}
AtPlaces from till (Some r) = (nat_le from (place r) ≡ true) × (nat_le (place r) till ≡ true)

abbrev pub Spread : List (ℕ × ℕ) → List (Option Refusal) → Type 0
Spread [] [] = Unit {0}
Spread [] (f ∷ fs) = ⊥
Spread (k ∷ ks) [] = ⊥
Spread (k ∷ ks) (f ∷ fs) = AtPlaces k.0 k.1 f × Spread ks fs

-- the rows of each are no later than those behind
abbrev pub spreads : List (ℕ × ℕ) → Bool
spreads [] = true
spreads (k ∷ ks) = list_all (λ j. nat_le k.1 j.0) ks && spreads ks

pub at_once : (k : ℕ) (f : Option Refusal) → AtPlace k f → AtPlaces k k f
at_once k None at = tt
at_once k (Some r) at = (ap (nat_le k) at ∙ same k, ap (λ n. nat_le n k) at ∙ same k)
  where
    same : (n : ℕ) → nat_le n n ≡ true
    same n = grind (arith, nat_tests)

spread_from : (k : ℕ) (ks : List (ℕ × ℕ)) (fs : List (Option Refusal)) → Spread ks fs → list_all (λ j. nat_le k j.0) ks ≡ true → list_all (is_from k) fs ≡ true
spread_from k [] [] spread below = refl
spread_from k [] (f ∷ fs) spread below = absurd spread
spread_from k (j ∷ ks) [] spread below = absurd spread
spread_from k (j ∷ ks) (f ∷ fs) spread below =
    let h = and_parts (nat_le k j.0) (list_all (λ i. nat_le k i.0) ks) below in
    and_from (is_from k f) (list_all (is_from k) fs) (one f spread.0 h.0) (spread_from k ks fs spread.1 h.1)
  where
    between : (a b c : ℕ) → nat_le a b ≡ true → nat_le b c ≡ true → nat_le a c ≡ true
    between a b c one two = grind (arith, nat_tests, one, two)

    one : (f : Option Refusal) → AtPlaces j.0 j.1 f → nat_le k j.0 ≡ true → is_from k f ≡ true
    one None at under = refl
    one (Some r) at under = between k j.0 (place r) under at.0

pub spread_first : (ks : List (ℕ × ℕ)) (fs : List (Option Refusal)) → Spread ks fs → spreads ks ≡ true → least fs ≡ first_fault fs
unfolding least
spread_first [] [] spread up = refl
spread_first [] (f ∷ fs) spread up = absurd spread
spread_first (k ∷ ks) [] spread up = absurd spread
spread_first (k ∷ ks) (None ∷ fs) spread up = spread_first ks fs spread.1 (and_parts (list_all (λ j. nat_le k.1 j.0) ks) (spreads ks) up).1
spread_first (k ∷ ks) (Some r ∷ fs) spread up =
    sooner_first r (least fs)
    (up_to (place r) k.1 (least fs) spread.0.1 (least_from k.1 fs (spread_from k.1 ks fs spread.1 (and_parts (list_all (λ j. nat_le k.1 j.0) ks) (spreads ks) up).0)))
