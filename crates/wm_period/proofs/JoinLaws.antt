-- Joining pieces that meet and say the same: the loop that goes from the last piece to the first.
use Rattle.std.proofs.Common.{◌≡◌, ◌<◌, ◌≤◌, ℕ, Bool, true, false, ◌&&◌, ◌||◌, ◌+◌, leb, ltb, List, [], ◌∷◌, length, get_or, take, drop, set, Option, refl, sym, ap, subst, ◌∙◌, arith, ◌⊎◌, inl, inr}
use Rattle.std.proofs.lemmas.Bool.{cases_lt}
use Rattle.std.proofs.lemmas.Bool.Decides.{nat_tests}
use Rattle.std.proofs.lemmas.List.{drop_more, drop_all, drop-set, get_or-take, take-set-le, take-take, length-set}
use Rattle.std.specs.Bool.{then_some}
use Rattle.std.specs.Option.{option_or}
use Rattle.wm_base.specs.Period.{covers}
use Rattle.wm_period.specs.Pieces.{Held, held, held_at, Between, IsApart, IsJoined, JoinsFirst, longer}
use Rattle.wm_period.specs.declared.piece.Piece.{Piece}

-- `kept` says what `old` says, with no two neighbours that could be one
pub record Joins (old kept : List Piece) : Type 0 where
  pub same : (low high : ℕ) → Between low old high → (t : ℕ) → held_at kept t ≡ held_at old t
  pub order : (low high : ℕ) → Between low old high → Between low kept high
  pub joined : IsJoined kept

pub joins_none : Joins [] []
joins_none = record { same = λ _ _ _ _. refl; order = λ _ _ order. order; joined = tt }

-- a piece that could not be one with the first goes before it
pub joins_apart : (p : Piece) (old kept : List Piece) → Joins old kept → IsApart p kept → Joins (p ∷ old) (p ∷ kept)
joins_apart p old kept joins apart = record {
  same = λ low high order t. ap (option_or (then_some (covers p.period t) (held p))) (joins.same p.period.till high order.2 t);
  order = λ low high order. (order.0, order.1, joins.order p.period.till high order.2);
  joined = (apart, joins.joined);
}

covers-longer : (x y z t : ℕ) → x < y → y < z → (leb x t && ltb t z) ≡ ((leb x t && ltb t y) || (leb y t && ltb t z))
covers-longer x y z t first second = grind (arith, nat_tests)

two_as_one : (c d : Bool) (h : Held) (rest : Option Held) → option_or (then_some (c || d) h) rest ≡ option_or (then_some c h) (option_or (then_some d h) rest)
two_as_one true d h rest = refl
two_as_one false d h rest = refl

-- a piece that meets the first and says the same becomes one with it
pub joins_longer : (p q : Piece) (old kept : List Piece) → Joins old (q ∷ kept) → p.period.till ≡ q.period.from → held p ≡ held q → Joins (p ∷ old) (longer p q ∷ kept)
joins_longer p q old kept joins meet alike = record {
  same = λ low high order t.
      let there = joins.order p.period.till high order.2 in
      let first = order.1 in
      let second = there.1 in
      let wide : covers (longer p q).period t ≡ (covers p.period t || covers q.period t) =
      covers-longer p.period.from q.period.from q.period.till t (omega arith) second
      ∙ ap (λ m. (leb p.period.from t && ltb t m) || covers q.period t) (sym meet) in
      ap (λ v. option_or (then_some v (held q)) (held_at kept t)) wide
      ∙ two_as_one (covers p.period t) (covers q.period t) (held q) (held_at kept t)
      ∙ ap (λ h. option_or (then_some (covers p.period t) h) (held_at (q ∷ kept) t)) (sym alike)
      ∙ ap (option_or (then_some (covers p.period t) (held p))) (joins.same p.period.till high order.2 t);
  order = λ low high order.
      let there = joins.order p.period.till high order.2 in
      let long = order.1 in
      (order.0, omega (arith, there.1), there.2);
  joined = (apart_as q (longer p q) kept refl refl joins.joined.0, joins.joined.1);
}
  where
    apart_as : (q r : Piece) (kept : List Piece) → q.period.till ≡ r.period.till → held q ≡ held r → IsApart q kept → IsApart r kept
    apart_as q r [] ends says apart = tt
    apart_as q r (k ∷ ks) ends says apart = λ meet alike. apart (ends ∙ meet) (says ∙ alike)

-- where the loop stands: from place `i` on the old pieces are joined into what stands from `kept` on, and the rest is as it was
pub record Joining (old now : List Piece) (i kept : ℕ) : Type 0 where
  pub front : take i now ≡ take i old
  pub back : Joins (drop i old) (drop kept now)
  pub room : i ≤ kept
  pub within : kept ≤ length now
  pub long : length now ≡ length old

pub joining_none : (old : List Piece) → Joining old old (length old) (length old)
joining_none old = record {
  front = refl;
  back = rw (drop_all (length old) old (omega arith)) joins_none;
  room = omega arith;
  within = omega arith;
  long = refl;
}

-- the piece at place `i` is read
read_front : (old now : List Piece) (i kept : ℕ) (p : Piece) → Joining old now (i + 1) kept → p ≡ get_or now i p → drop i old ≡ p ∷ drop (i + 1) old
read_front old now i kept p so read =
    let room = so.room in
    let within = so.within in
    let long = so.long in
    let same : get_or old i p ≡ get_or now i p =
    sym (get_or-take (i + 1) old i p (omega arith)) ∙ ap (λ l. get_or l i p) (sym so.front) ∙ get_or-take (i + 1) now i p (omega arith) in
    drop_more old i p (omega arith) ∙ ap (λ v. v ∷ drop (i + 1) old) (same ∙ sym read)

shorter_front : (old now : List Piece) (i : ℕ) → take (i + 1) now ≡ take (i + 1) old → take i now ≡ take i old
shorter_front old now i front = sym (take-take i (i + 1) now (omega arith)) ∙ ap (take i) front ∙ take-take i (i + 1) old (omega arith)

-- the piece goes before what is joined
pub joining_apart : (old now : List Piece) (i kept less : ℕ) (p : Piece) → Joining old now (i + 1) kept → p ≡ get_or now i p → less + 1 ≡ kept → IsApart p (drop kept now)
    → Joining old (set now less p) i less
joining_apart old now i kept less p so read is apart =
    let room = so.room in
    let within = so.within in
    let behind : drop less (set now less p) ≡ p ∷ drop kept now = drop-set now less p (omega arith) ∙ ap (λ k. p ∷ drop k now) is in
    record {
      front = take-set-le i now less p (omega arith) ∙ shorter_front old now i so.front;
      back = rw (behind, read_front old now i kept p so read) (joins_apart p (drop (i + 1) old) (drop kept now) so.back apart);
      room = omega arith;
      within = omega (arith, length-set now less p);
      long = length-set now less p ∙ so.long;
    }

pub first_within : (p : Piece) (now : List Piece) (k : ℕ) (r : Piece) → JoinsFirst p (drop k now) r → k < length now
first_within p now k r joins = by_place (cases_lt k (length now))
  where
    by_place : (k < length now) ⊎ (length now ≤ k) → k < length now
    by_place (inl within) = within
    by_place (inr behind) = absurd (let P : List Piece → Type 0 = λ l. JoinsFirst p l r in subst P (drop_all k now behind) joins)

-- the piece becomes one with the first that is joined
pub joining_longer : (old now : List Piece) (i kept : ℕ) (p r : Piece) → Joining old now (i + 1) kept → p ≡ get_or now i p → JoinsFirst p (drop kept now) r
    → Joining old (set now kept r) i kept
joining_longer old now i kept p r so read joins =
    let room = so.room in
    let within = so.within in
    let inside : kept < length now = first_within p now kept r joins in
    let first : drop kept now ≡ get_or now kept p ∷ drop (kept + 1) now = drop_more now kept p inside in
    let whole = (let P : List Piece → Type 0 = λ l. JoinsFirst p l r in subst P first joins) in
    let back : Joins (drop (i + 1) old) (get_or now kept p ∷ drop (kept + 1) now) = (let P : List Piece → Type 0 = λ l. Joins (drop (i + 1) old) l in subst P first so.back) in
    record {
      front = take-set-le i now kept r (omega arith) ∙ shorter_front old now i so.front;
      back = rw (drop-set now kept r inside, read_front old now i kept p so read, whole.2)
          (joins_longer p (get_or now kept p) (drop (i + 1) old) (drop (kept + 1) now) back whole.0 whole.1);
      room = omega arith;
      within = omega (arith, length-set now kept r);
      long = length-set now kept r ∙ so.long;
    }
