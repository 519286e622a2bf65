-- Each entry that decisions come to is on cells of one of them and says what that copies, and each mark is on cells of one and has its position.
use Rattle.std.proofs.Common.{◌≡◌, ℕ, ◌-◌, ◌<◌, ◌≤◌, ◌⊎◌, inl, inr, ◌==◌, ◌&&◌, nat_le, nat_lt, Bool, true, false, List, [], ◌∷◌, ◌++◌, map, slice_get, suc, Option, None, Some, option_map, refl, sym, ap, ◌∙◌, arith, eqb-true, subst}
use Rattle.std.proofs.lemmas.Bool.{and_parts, leb-true, ltb-true}
use Rattle.std.proofs.lemmas.List.Elements.{All-from_recursion}
use Rattle.std.specs.Bool.{then_some}
use Rattle.std.specs.List.{All, AllByRecursion, flat_map}
use Rattle.std.specs.Option.{option_or}
use Rattle.wm_net.proofs.Grouping.{same_group-is}
use Rattle.wm_net.proofs.Stretching.{le_or_lt}
use Rattle.wm_net.specs.Conflicts.{Settled}
use Rattle.wm_net.specs.Groups.{Group, cell, groups, same_group}
use Rattle.wm_net.specs.Listed.{Stretch, joined, listed, listing, onto, stretches, stretches_of, value_at, within}
use Rattle.wm_spec.proofs.Stretches.{Steady, Up, Up-cuts, by_test}
use Rattle.wm_spec.specs.Lists.{Cell, Entry, Told, covers, told_of}
use Rattle.wm_spec.specs.Stretches.{cuts}
use Rattle.wm_state.specs.State.{Decision}
use Rattle.wm_decided.proofs.Chosen.{Changes-chosen, Changes-copied, choice_in, chosen_is, copied_is, place_covers}
use Rattle.wm_net.proofs.Listing.{Changes}
use Rattle.wm_decided.specs.Counted.{copy_from, decision_in, place_at}
use Rattle.wm_decided.specs.Netted.{Copy, cells_decided, chosen_at, copied_at, ends_decided, entries_decided, entry_copied, mark_for, marks_of, same_choice, same_copy}

-- ---- what stretches say

-- what a stretch says is given where it begins, and what is given elsewhere in it is joined to that
pub record IsGiven {A : Type 0} (near : A → A → Type 0) (f : ℕ → Option A) (s : Stretch A) : Type 0 where
  pub some : s.from < s.till
  pub first : f s.from ≡ Some s.value
  pub over : (t : ℕ) → s.from ≤ t → t < s.till → (y : A) × (f t ≡ Some y) × near s.value y

abbrev AreGiven : {A : Type 0} → (A → A → Type 0) → (ℕ → Option A) → List (Stretch A) → Type 0
AreGiven near f ss = AllByRecursion (IsGiven near f) ss

-- values are near each other that a test joins, and so are those that are joined to one
pub record IsNear {A : Type 0} (near : A → A → Type 0) (test : A → A → Bool) : Type 0 where
  pub itself : (x : A) → near x x
  pub trans : (x y z : A) → near x y → near y z → near x z
  pub tested : (x y : A) → test x y ≡ true → near x y

module _ {A : Type 0} (near : A → A → Type 0) (test : A → A → Bool) (is : IsNear near test) (f : ℕ → Option A) where
  given_joined : (low cut : ℕ) (x : A) (ss : List (Stretch A)) → low < cut → ((t : ℕ) → low ≤ t → t < cut → f t ≡ Some x) → AreGiven near f ss → AreGiven near f (joined test low cut x ss)
  given_joined low cut x [] up over all = (record { some = up; first = over low (omega arith) up; over = λ t le lt. (x, over t le lt, is.itself x) }, tt)
  given_joined low cut x (s ∷ ss) up over all = by_test ((cut == s.from) && test x s.value) (λ e. rw e (both e)) (λ e. rw e (apart, all))
    where
      apart : IsGiven near f (record { from = low; till = cut; value = x })
      apart = record { some = up; first = over low (omega arith) up; over = λ t le lt. (x, over t le lt, is.itself x) }

      both : ((cut == s.from) && test x s.value) ≡ true → AreGiven near f (record { from = low; till = s.till; value = x } ∷ ss)
      both e =
          let two = and_parts (cut == s.from) (test x s.value) e in
          let meets : cut ≡ s.from = eqb-true cut s.from two.0 in
          let all_over : (t : ℕ) → low ≤ t → t < s.till → (cut ≤ t) ⊎ (t < cut) → (y : A) × (f t ≡ Some y) × near x y =
          λ t le lt place. elim place [
            | inl late ↦ let it = all.0.over t (omega (arith, meets, late)) lt in (it.0, it.1, is.trans x s.value it.0 (is.tested x s.value two.1) it.2)
            | inr early ↦ (x, over t le early, is.itself x)
          ] in
          (record { some = omega (arith, up, meets, all.0.some); first = over low (omega arith) up; over = λ t le lt. all_over t le lt (le_or_lt cut t) }, all.1)

  given_stretches : (low : ℕ) (cs : List ℕ) → Up low cs → Steady f low cs → AreGiven near f (stretches test f low cs)
  given_stretches low [] up steady = tt
  given_stretches low (cut ∷ cs) up steady = by_value (f low) refl (given_stretches cut cs up.1 steady.1)
    where
      by_value : (o : Option A) → f low ≡ o → AreGiven near f (stretches test f cut cs) → AreGiven near f (onto test low cut o (stretches test f cut cs))
      by_value None e all = all
      by_value (Some x) e all = given_joined low cut x (stretches test f cut cs) up.0 (λ t le lt. steady.0 t le lt ∙ e) all

-- what follows for each entry of a listing
module _ {A B : Type 0} (near : A → A → Type 0) (test : A → A → Bool) (is : IsNear near test) (entry : Group → Stretch A → B) (es : List Entry) (f : Cell → Option A) (change : Changes es f) (Q : B → Type 0)
    (each : (g : Group) (s : Stretch A) → IsGiven near (λ t. f (cell g t)) s → Q (entry g s)) where
  of_group : (g : Group) (ss : List (Stretch A)) (rest : List B) → AreGiven near (λ t. f (cell g t)) ss → AllByRecursion Q rest → AllByRecursion Q (map (entry g) ss ++ rest)
  of_group g [] rest all more = more
  of_group g (s ∷ ss) rest all more = (each g s all.0, of_group g ss rest all.1 more)

  of_groups : (gs : List Group) → AllByRecursion Q (listed entry (stretches_of test es f) gs)
  of_groups [] = tt
  of_groups (g ∷ gs) =
      of_group g (stretches_of test es f g) (listed entry (stretches_of test es f) gs)
      (given_stretches near test is (λ t. f (cell g t)) 0 (cuts es g.table g.key) (Up-cuts es g.table g.key) (change.steady g)) (of_groups gs)

  pub of_listing : All Q (listing test entry es f)
  of_listing = All-from_recursion Q (listing test entry es f) (of_groups (groups es))

-- ---- the cells of a decision

-- cells from one instant to another are those of a decision
pub record AreOf (d : Decision) (g : Group) (low high : ℕ) : Type 0 where
  pub table : g.table ≡ d.table
  pub key : g.key ≡ d.key
  pub from : d.from ≤ low
  pub till : high ≤ d.till

are_of : (d : Decision) (g : Group) (from till : ℕ) → from < till → ((t : ℕ) → from ≤ t → t < till → covers (cells_decided d) (cell g t) ≡ true) → AreOf d g from till
are_of d g from till some over =
    let begin = parts from (over from (omega arith) some) in
    let last = parts (till - 1) (over (till - 1) (before from till some).0 (before from till some).1) in
    record {
      table = ap (λ (h : Group). h.table) (sym begin.0);
      key = ap (λ (h : Group). h.key) (sym begin.0);
      from = begin.1;
      till = least from till d.till some last.2;
    }
  where
    own : Group
    own = record { table = d.table; key = d.key }

    before : (a b : ℕ) → a < b → (a ≤ b - 1) × (b - 1 < b)
    before a b lt = (omega (arith, lt), omega (arith, lt))

    least : (a b k : ℕ) → a < b → b - 1 < k → b ≤ k
    least a b k lt last = omega (arith, lt, last)

    parts : (t : ℕ) → covers (cells_decided d) (cell g t) ≡ true → (own ≡ g) × (d.from ≤ t) × (t < d.till)
    parts t e =
        let two = and_parts (same_group own g) (nat_le d.from t && nat_lt t d.till) e in
        let time = and_parts (nat_le d.from t) (nat_lt t d.till) two.1 in
        (same_group-is own g two.0, leb-true d.from t time.0, ltb-true t d.till time.1)

-- ---- marks

-- the mark is on cells of a decision, and has its position
pub record IsMark (ds : List Decision) (m : Settled) : Type 0 where
  pub decision : Decision
  pub place : ℕ
  pub there : slice_get ds place ≡ Some decision
  pub table : m.table ≡ decision.table
  pub key : m.key ≡ decision.key
  pub from : decision.from ≤ m.from
  pub some : m.from < m.till
  pub till : m.till ≤ decision.till
  pub position : m.position ≡ decision.position

abbrev one_place : ℕ × Decision → ℕ × Decision → Type 0
one_place x y = x.0 ≡ y.0

near_choice : IsNear one_place same_choice
near_choice = record { itself = λ x. refl; trans = λ x y z e f. e ∙ f; tested = λ x y e. eqb-true x.0 y.0 e }

chosen_parts : (ds : List Decision) (c : Cell) (x : ℕ × Decision) → chosen_at ds c ≡ Some x → (place_at ds c ≡ Some x.0) × (x.1 ≡ decision_in ds x.0)
chosen_parts ds c x e = by_place (place_at ds c) (chosen_is ds c ∙ e)
  where
    by_place : (o : Option ℕ) → option_map (choice_in ds) o ≡ Some x → (o ≡ Some x.0) × (x.1 ≡ decision_in ds x.0)
    by_place None e = absurd (cc)
    by_place (Some n) e = let one : choice_in ds n ≡ x = cc in (ap (λ (y : ℕ × Decision). Some y.0) one, sym (ap (λ (y : ℕ × Decision). y.1) one) ∙ ap (λ (y : ℕ × Decision). decision_in ds y.0) one)

-- so is each mark that decisions come to
pub marks_decided : (place : ℕ) (ds : List Decision) → All (IsMark ds) (marks_of place ds)
marks_decided place ds = of_listing one_place same_choice near_choice (mark_for place) (map cells_decided ds) (chosen_at ds) (Changes-chosen ds) (IsMark ds) one
  where
    one : (g : Group) (s : Stretch (ℕ × Decision)) → IsGiven one_place (λ t. chosen_at ds (cell g t)) s → IsMark ds (mark_for place g s)
    one g s given =
        let n = s.value.0 in
        let first = chosen_parts ds (cell g s.from) s.value given.first in
        let cells =
        are_of (decision_in ds n) g s.from s.till given.some
        (λ t le lt. let it = given.over t le lt in (place_covers ds (cell g t) n ((chosen_parts ds (cell g t) it.0 it.1).0 ∙ ap (λ (k : ℕ). Some k) (sym it.2))).1) in
        record {
          decision = decision_in ds n;
          place = n;
          there = (place_covers ds (cell g s.from) n first.0).0;
          table = cells.table;
          key = cells.key;
          from = cells.from;
          some = given.some;
          till = cells.till;
          position = ap (λ (d : Decision). d.position) first.1;
        }

-- ---- entries

-- the entry is on cells of a decision, and says what that copies there; it is of the line of a moment and a user
pub record IsCopy (moment : ℕ) (user : List ℕ) (ds : List Decision) (e : Entry) : Type 0 where
  pub decision : Decision
  pub place : ℕ
  pub there : slice_get ds place ≡ Some decision
  pub table : e.table ≡ decision.table
  pub key : e.key ≡ decision.key
  pub from : decision.from ≤ e.from
  pub some : e.from < e.till
  pub till : e.till ≤ decision.till
  pub copied : Stretch Told
  pub index : ℕ
  pub among : slice_get decision.copied index ≡ Some copied
  pub says : told_of e ≡ copied.value
  pub at : e.moment ≡ moment
  pub by_user : e.user ≡ user

abbrev one_decision : Copy → Copy → Type 0
one_decision x y = x.place ≡ y.place

near_copy : IsNear one_decision same_copy
near_copy = record { itself = λ x. refl; trans = λ x y z e f. e ∙ f; tested = λ x y e. eqb-true x.place y.place (and_parts (x.place == y.place) (x.told.stamp == y.told.stamp) e).0 }

-- the stretch that says what stands at a moment
pub record Says (ss : List (Stretch Told)) (x : Told) : Type 0 where
  pub stretch : Stretch Told
  pub index : ℕ
  pub among : slice_get ss index ≡ Some stretch
  pub value : x ≡ stretch.value

says : (ss : List (Stretch Told)) (t : ℕ) (x : Told) → value_at ss t ≡ Some x → Says ss x
says [] t x e = absurd (cc)
says (s ∷ ss) t x e = by_value (value_at ss t) (within s.from s.till t) (λ f. says ss t x f) e
  where
    by_value : (o : Option Told) (b : Bool) → (o ≡ Some x → Says ss x) → option_or o (then_some b s.value) ≡ Some x → Says (s ∷ ss) x
    by_value (Some y) b rest e = let it = rest e in record { stretch = it.stretch; index = suc it.index; among = it.among; value = it.value }
    by_value None true rest e = let one : x ≡ s.value = cc in record { stretch = s; index = 0; among = refl; value = one }
    by_value None false rest e = absurd (cc)

copied_parts : (ds : List Decision) (c : Cell) (y : Copy) → copied_at ds c ≡ Some y → (place_at ds c ≡ Some y.place) × Says (decision_in ds y.place).copied y.told
copied_parts ds c y e = by_place (place_at ds c) (copied_is ds c ∙ e)
  where
    made : ℕ → Told → Copy
    made n x = record { place = n; told = x }

    by_told : (n : ℕ) (o : Option Told) → value_at (decision_in ds n).copied c.time ≡ o → option_map (made n) o ≡ Some y → (Some n ≡ Some y.place) × Says (decision_in ds y.place).copied y.told
    by_told n None is e = absurd (cc)
    by_told n (Some x) is e =
        let one : made n x ≡ y = cc in
        subst (λ (z : Copy). (Some n ≡ Some z.place) × Says (decision_in ds z.place).copied z.told) one (refl, says (decision_in ds n).copied c.time x is)

    by_place : (o : Option ℕ) → copy_from ds c.time o ≡ Some y → (o ≡ Some y.place) × Says (decision_in ds y.place).copied y.told
    by_place None e = absurd (cc)
    by_place (Some n) e = by_told n (value_at (decision_in ds n).copied c.time) refl e

-- so is each entry that decisions come to
pub entries_copied : (moment : ℕ) (user : List ℕ) (ds : List Decision) → All (IsCopy moment user ds) (entries_decided moment user ds)
entries_copied moment user ds =
    of_listing one_decision same_copy near_copy (entry_copied moment user) (flat_map ends_decided ds) (copied_at ds) (Changes-copied ds) (IsCopy moment user ds) one
  where
    one : (g : Group) (s : Stretch Copy) → IsGiven one_decision (λ t. copied_at ds (cell g t)) s → IsCopy moment user ds (entry_copied moment user g s)
    one g s given =
        let n = s.value.place in
        let first = copied_parts ds (cell g s.from) s.value given.first in
        let cells =
        are_of (decision_in ds n) g s.from s.till given.some
        (λ t le lt. let it = given.over t le lt in (place_covers ds (cell g t) n ((copied_parts ds (cell g t) it.0 it.1).0 ∙ ap (λ (k : ℕ). Some k) (sym it.2))).1) in
        record {
          decision = decision_in ds n;
          place = n;
          there = (place_covers ds (cell g s.from) n first.0).0;
          table = cells.table;
          key = cells.key;
          from = cells.from;
          some = given.some;
          till = cells.till;
          copied = first.1.stretch;
          index = first.1.index;
          among = first.1.among;
          says = first.1.value;
          at = refl;
          by_user = refl;
        }
