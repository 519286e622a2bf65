-- A walk from one stretch of conflict to the next.
use Rattle.std.proofs.Common.{◌≡◌, ℕ, ◌<◌, ◌≤◌, ◌⊎◌, inl, inr, Bool, true, false, ◌&&◌, Option, Some, None, is_some, refl, sym, ap, ◌∙◌, arith}
use Rattle.std.proofs.lemmas.Bool.{and_parts}
use Rattle.std.proofs.lemmas.Option.{same_Some}
use Rattle.std.specs.Bool.{then_some}
use Rattle.std.specs.Option.{option_and_then}
use Rattle.wm_base.specs.declared.instant.TheConstants.{END}
use Rattle.wm_net.proofs.Conflicting.{same_stamps-is, same_stamps-itself}
use Rattle.wm_net.proofs.Stretching.{le_or_lt}
use Rattle.wm_net.specs.Conflicts.{Stamps, same_stamps}
use Rattle.wm_net.specs.Listed.{Stretch}
use Rattle.wm_period.proofs.Order.{held_at-past}
use Rattle.wm_period.specs.Pieces.{Held, held_at}
use Rattle.wm_state.specs.Listing.{standing}
use Rattle.wm_pending.specs.Fronts.{HoldsNext, IsLeft}
use Rattle.wm_pending.specs.Sides.{contest_at, stamps_at}
use Rattle.wm_pending.specs.Walks.{BeginsAt, GoesTo, IsNext, IsReady, left_in}
use Rattle.wm_pending.specs.declared.sides.Sides.{Sides}
use Rattle.wm_pending.specs.declared.walk.Walk.{Walk}

-- ---- a contest

pub stamps_made : (a b c x y z : Option ℕ) → a ≡ x → b ≡ y → c ≡ z → record { base = a; parent = b; child = c } ≡ (let s : Stamps = record { base = x; parent = y; child = z } in s)
stamps_made a b c x y z e f g = λ i. record { base = e i; parent = f i; child = g i }

-- of sides that hold the same at a moment
pub stamps_alike : (s r : Sides) (t : ℕ) → held_at s.base t ≡ held_at r.base t → held_at s.parent t ≡ held_at r.parent t → held_at s.child t ≡ held_at r.child t → stamps_at s t ≡ stamps_at r t
stamps_alike s r t e f g =
    stamps_made _ _ _ _ _ _ (ap (λ (o : Option Held). option_and_then standing o) e) (ap (λ (o : Option Held). option_and_then standing o) f) (ap (λ (o : Option Held). option_and_then standing o) g)

pub contest_alike : (s r : Sides) (t : ℕ) → held_at s.contested t ≡ held_at r.contested t → held_at s.base t ≡ held_at r.base t → held_at s.parent t ≡ held_at r.parent t → held_at s.child t ≡ held_at r.child t
    → contest_at s t ≡ contest_at r t
contest_alike s r t d e f g =
    ap (λ (o : Option Held). then_some (is_some o) (stamps_at s t)) d ∙ ap (λ (v : Stamps). then_some (is_some (held_at r.contested t)) v) (stamps_alike s r t e f g)

contest_there : (s : Sides) (t : ℕ) → is_some (held_at s.contested t) ≡ true → contest_at s t ≡ Some (stamps_at s t)
contest_there s t e = ap (λ b. then_some b (stamps_at s t)) e

contest_some : (s : Sides) (t : ℕ) (v : Stamps) → contest_at s t ≡ Some v → (is_some (held_at s.contested t) ≡ true) × (stamps_at s t ≡ v)
contest_some s t v e = by_test (is_some (held_at s.contested t)) e
  where
    by_test : (b : Bool) → then_some b (stamps_at s t) ≡ Some v → (b ≡ true) × (stamps_at s t ≡ v)
    by_test true h = (refl, same_Some (stamps_at s t) v h)
    by_test false h = absurd (cc)

-- ---- to another instant

pub goes_to : (v w : Walk) (at : ℕ) → w.at ≡ at → IsLeft v.contested.now w.at w.contested.now → IsLeft v.base.now w.at w.base.now → IsLeft v.parent.now w.at w.parent.now → IsLeft v.child.now w.at w.child.now
    → GoesTo v at w
goes_to v w at is d e f g = record {
  ready = record { contested = d.ahead; base = e.ahead; parent = f.ahead; child = g.ahead };
  is = is;
  contests = λ t le.
      let from : w.at ≤ t = omega (arith, is, le) in
      contest_alike (left_in w) (left_in v) t (d.same t from) (e.same t from) (f.same t from) (g.same t from);
}

-- what is contested is so before the end of time
pub contested_moment : (w : Walk) → IsReady w → is_some (held_at w.contested.now w.at) ≡ true → w.at < END
contested_moment w ready there = by_place (le_or_lt END w.at)
  where
    by_place : (END ≤ w.at) ⊎ (w.at < END) → w.at < END
    by_place (inl late) =
        let none : held_at w.contested.now w.at ≡ None = held_at-past 0 w.contested.now END w.at ready.contested.order late in
        absurd (let it : true ≡ false = sym there ∙ ap (λ (o : Option Held). is_some o) none in cc)
    by_place (inr early) = early

-- ---- to the first instant that is contested

pub begins_at : (v w : Walk) (from : ℕ) → HoldsNext v.contested.now v.at from → GoesTo v from w → BeginsAt v w
begins_at v w from next goes =
    let at : w.at ≡ from = goes.is in
    let later : v.at ≤ from = next.later in
    let contest : contest_at (left_in w) w.at ≡ Some (stamps_at (left_in v) from) =
    ap (λ (t : ℕ). contest_at (left_in w) t) at ∙ goes.contests from (omega arith) ∙ contest_there (left_in v) from next.held in
    record {
      goes = record { ready = goes.ready; is = refl; contests = λ t le. goes.contests t (omega (arith, at, le)) };
      later = omega (arith, at, later);
      contested = (contest_some (left_in w) w.at (stamps_at (left_in v) from) contest).0;
      before = λ t le lt. ap (λ (o : Option Held). then_some (is_some o) (stamps_at (left_in v) t)) (next.before t le (omega (arith, at, lt)));
    }

-- ---- to the end of its stretch

-- a walk has gone on from another one, and all said the same on the way
pub record Reaches (start end : Walk) : Type 0 where
  pub goes : GoesTo start end.at end
  pub real : start.at < end.at
  pub bound : end.at ≤ END
  pub over : (t : ℕ) → start.at ≤ t → t < end.at → contest_at (left_in start) t ≡ contest_at (left_in start) start.at

pub reaches_first : (start end : Walk) (till : ℕ) → GoesTo start till end → start.at < till → till ≤ END
    → ((t : ℕ) → start.at ≤ t → t < till → contest_at (left_in start) t ≡ contest_at (left_in start) start.at) → Reaches start end
reaches_first start end till goes real bound steady =
    let is : end.at ≡ till = goes.is in
    record {
      goes = record { ready = goes.ready; is = refl; contests = λ t le. goes.contests t (omega (arith, is, le)) };
      real = omega (arith, is, real);
      bound = omega (arith, is, bound);
      over = λ t le lt. steady t le (omega (arith, is, lt));
    }

-- it goes on where the test says so
on_is : (start end : Walk) (stamps : Stamps) → Reaches start end → stamps ≡ stamps_at (left_in start) start.at → is_some (held_at start.contested.now start.at) ≡ true
    → (is_some (held_at end.contested.now end.at) && same_stamps stamps (stamps_at (left_in end) end.at)) ≡ true → contest_at (left_in end) end.at ≡ contest_at (left_in start) start.at
on_is start end stamps so is there on =
    let two = and_parts (is_some (held_at end.contested.now end.at)) (same_stamps stamps (stamps_at (left_in end) end.at)) on in
    let same : stamps_at (left_in end) end.at ≡ stamps_at (left_in start) start.at = sym (same_stamps-is stamps (stamps_at (left_in end) end.at) two.1) ∙ is in
    contest_there (left_in end) end.at two.0 ∙ ap (λ (x : Stamps). Some x) same ∙ sym (contest_there (left_in start) start.at there)

pub reaches_more : (start end next : Walk) (till : ℕ) (stamps : Stamps) → Reaches start end → stamps ≡ stamps_at (left_in start) start.at → is_some (held_at start.contested.now start.at) ≡ true
    → (is_some (held_at end.contested.now end.at) && same_stamps stamps (stamps_at (left_in end) end.at)) ≡ true
    → GoesTo end till next → end.at < till → till ≤ END → ((t : ℕ) → end.at ≤ t → t < till → contest_at (left_in end) t ≡ contest_at (left_in end) end.at) → Reaches start next
reaches_more start end next till stamps so is there on goes later bound steady =
    let at : next.at ≡ till = goes.is in
    let real : start.at < end.at = so.real in
    record {
      goes = record { ready = goes.ready; is = refl; contests = λ t le. goes.contests t (omega (arith, at, le)) ∙ so.goes.contests t (omega (arith, at, le, later)) };
      real = omega (arith, at, real, later);
      bound = omega (arith, at, bound);
      over = λ t le lt. by_place t le lt (le_or_lt end.at t);
    }
  where
    by_place : (t : ℕ) → start.at ≤ t → t < next.at → (end.at ≤ t) ⊎ (t < end.at) → contest_at (left_in start) t ≡ contest_at (left_in start) start.at
    by_place t le lt (inl late) = sym (so.goes.contests t late) ∙ steady t late (let at : next.at ≡ till = goes.is in omega (arith, at, lt)) ∙ on_is start end stamps so is there on
    by_place t le lt (inr early) = so.over t le early

-- and ends where it says not
pub next_is : (v start end : Walk) (s : Stretch Stamps) → BeginsAt v start → Reaches start end → s.from ≡ start.at → s.till ≡ end.at → s.value ≡ stamps_at (left_in start) start.at
    → (is_some (held_at end.contested.now end.at) && same_stamps s.value (stamps_at (left_in end) end.at)) ≡ false → IsNext v s end
next_is v start end s begins so from till value off =
    let later : v.at ≤ start.at = begins.later in
    let real : start.at < end.at = so.real in
    let bound : end.at ≤ END = so.bound in
    record {
      goes = record {
        ready = so.goes.ready;
        is = sym till;
        contests = λ t le. so.goes.contests t (omega (arith, till, le)) ∙ begins.goes.contests t (omega (arith, till, real, le));
      };
      first = record {
        begins = omega (arith, from, later);
        before = λ t le lt. begins.before t le (omega (arith, from, lt));
        real = omega (arith, from, till, real);
        over = λ t le lt.
            let at : start.at ≤ t = omega (arith, from, le) in
            sym (begins.goes.contests t at) ∙ so.over t at (omega (arith, till, lt)) ∙ contest_there (left_in start) start.at begins.contested ∙ ap (λ (x : Stamps). Some x) (sym value);
        ends = λ e. ended e;
      };
      bound = omega (arith, till, bound);
    }
  where
    same : contest_at (left_in v) s.till ≡ contest_at (left_in end) end.at
    same =
        let real : start.at < end.at = so.real in
        ap (λ (t : ℕ). contest_at (left_in v) t) till ∙ sym (begins.goes.contests end.at (omega (arith, real))) ∙ sym (so.goes.contests end.at (omega arith))

    ended : contest_at (left_in v) s.till ≡ Some s.value → ⊥
    ended e =
        let two = contest_some (left_in end) end.at s.value (sym same ∙ e) in
        let on : (is_some (held_at end.contested.now end.at) && same_stamps s.value (stamps_at (left_in end) end.at)) ≡ true =
        ap (λ b. b && same_stamps s.value (stamps_at (left_in end) end.at)) two.0 ∙ ap (λ (x : Stamps). same_stamps s.value x) two.1 ∙ same_stamps-itself s.value in
        absurd (let it : true ≡ false = sym on ∙ off in cc)

-- ---- nothing is left

pub none_contested : (w : Walk) (t : ℕ) → held_at w.contested.now t ≡ None → contest_at (left_in w) t ≡ None
none_contested w t none = ap (λ (o : Option Held). then_some (is_some o) (stamps_at (left_in w) t)) none

-- where a walk goes on it has not come to the end of time
pub on_moment : (w : Walk) (b : Bool) → IsReady w → (is_some (held_at w.contested.now w.at) && b) ≡ true → w.at < END
on_moment w b ready on = contested_moment w ready (and_parts (is_some (held_at w.contested.now w.at)) b on).0
