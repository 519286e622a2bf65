-- Pieces in order with no two neighbours that could be one are the only such list that holds what they hold.
use Rattle.std.proofs.Common.{◌≡◌, ◌<◌, ◌≤◌, ℕ, true, false, List, [], ◌∷◌, Some, refl, sym, ap, ◌∙◌, subst, arith, ◌⊎◌, inl, inr}
use Rattle.std.proofs.lemmas.Bool.{cases_lt}
use Rattle.std.proofs.lemmas.Bool.Decides.{nat_tests}
use Rattle.std.proofs.lemmas.Option.{same_Some}
use Rattle.std.specs.Bool.{then_some}
use Rattle.std.specs.Option.{option_or}
use Rattle.wm_base.specs.Period.{covers}
use Rattle.wm_period.proofs.Order.{held_at-early}
use Rattle.wm_period.specs.Pieces.{Held, held, held_at, Between, IsApart, IsJoined}
use Rattle.wm_period.specs.declared.piece.Piece.{Piece}

-- where the first piece covers the moment, it says what is held
pub held_at-first : (p : Piece) (ps : List Piece) (t : ℕ) → p.period.from ≤ t → t < p.period.till → held_at (p ∷ ps) t ≡ Some (held p)
held_at-first p ps t from till =
    let covered : covers p.period t ≡ true = grind (arith, nat_tests) in
    ap (λ v. option_or (then_some v (held p)) (held_at ps t)) covered

-- where it does not, the others say it
pub held_at-others : (p : Piece) (ps : List Piece) (t : ℕ) → p.period.till ≤ t → held_at (p ∷ ps) t ≡ held_at ps t
held_at-others p ps t till =
    let missed : covers p.period t ≡ false = grind (arith, nat_tests) in
    ap (λ v. option_or (then_some v (held p)) (held_at ps t)) missed

-- the list that holds something at an instant does not begin after it
begins : (a : ℕ) (ps : List Piece) (b t : ℕ) (h : Held) → Between a ps b → held_at ps t ≡ Some h → a ≤ t
begins a ps b t h order there = by_place (cases_lt t a)
  where
    by_place : (t < a) ⊎ (a ≤ t) → a ≤ t
    by_place (inl early) = absurd (let none = held_at-early a ps b t order early in cc)
    by_place (inr late) = late

-- a piece with no other like it behind it says nothing of its end
ends_there : (p : Piece) (ps : List Piece) (b : ℕ) → Between p.period.till ps b → IsApart p ps → held_at ps p.period.till ≡ Some (held p) → ⊥
ends_there p [] b order apart there = cc
ends_there p (q ∷ qs) b order apart there =
    let least = order.0 in
    let long = order.1 in
    let early : q.period.from ≤ p.period.till = begins q.period.from (q ∷ qs) b p.period.till (held p) (omega arith, order.1, order.2) there in
    let first : held_at (q ∷ qs) p.period.till ≡ Some (held q) = held_at-first q qs p.period.till early (omega arith) in
    apart (omega arith) (same_Some (held p) (held q) (sym there ∙ first))

-- of two lists that hold the same, the first pieces end together
first_ends : (p q : Piece) (ps qs : List Piece) (b : ℕ) → Between p.period.till ps b → IsApart p ps → p.period.from ≡ q.period.from → p.period.from < p.period.till → held p ≡ held q
    → ((t : ℕ) → held_at (p ∷ ps) t ≡ held_at (q ∷ qs) t) → q.period.till ≤ p.period.till
first_ends p q ps qs b order apart together long alike same = by_place (cases_lt p.period.till q.period.till)
  where
    by_place : (p.period.till < q.period.till) ⊎ (q.period.till ≤ p.period.till) → q.period.till ≤ p.period.till
    by_place (inl short) = absurd (ends_there p ps b order apart
        (sym (held_at-others p ps p.period.till (omega arith)) ∙ same p.period.till
        ∙ held_at-first q qs p.period.till (omega arith) short ∙ ap (λ h. Some h) (sym alike)))
    by_place (inr fits) = fits

-- a list that begins with a piece holds something where it begins
nothing_there : (q : Piece) (qs : List Piece) → q.period.from < q.period.till → ((t : ℕ) → held_at [] t ≡ held_at (q ∷ qs) t) → ⊥
nothing_there q qs long same = let none = same q.period.from in let some = held_at-first q qs q.period.from (omega arith) long in cc

piece_same : (p q : Piece) → p.period.from ≡ q.period.from → p.period.till ≡ q.period.till → held p ≡ held q → p ≡ q
piece_same p q from till says i = record { period = record { from = from i; till = till i }; stamp = (says i).stamp; kind = (says i).kind; gone = (says i).gone }

pub canonical : (low : ℕ) (ps qs : List Piece) (high : ℕ) → Between low ps high → Between low qs high → IsJoined ps → IsJoined qs
    → ((t : ℕ) → held_at ps t ≡ held_at qs t) → ps ≡ qs
canonical low [] [] high first second joined_first joined_second same = refl
canonical low [] (q ∷ qs) high first second joined_first joined_second same = absurd (nothing_there q qs second.1 same)
canonical low (p ∷ ps) [] high first second joined_first joined_second same = absurd (nothing_there p ps first.1 (λ t. sym (same t)))
canonical low (p ∷ ps) (q ∷ qs) high first second joined_first joined_second same =
    let long_first = first.1 in
    let long_second = second.1 in
    let there_first : held_at (p ∷ ps) p.period.from ≡ Some (held p) = held_at-first p ps p.period.from (omega arith) long_first in
    let there_second : held_at (q ∷ qs) q.period.from ≡ Some (held q) = held_at-first q qs q.period.from (omega arith) long_second in
    let after : q.period.from ≤ p.period.from = begins q.period.from (q ∷ qs) high p.period.from (held p) (omega arith, second.1, second.2) (sym (same p.period.from) ∙ there_first) in
    let before : p.period.from ≤ q.period.from = begins p.period.from (p ∷ ps) high q.period.from (held q) (omega arith, first.1, first.2) (same q.period.from ∙ there_second) in
    let together : p.period.from ≡ q.period.from = omega arith in
    let alike : held p ≡ held q = same_Some (held p) (held q) (sym there_first ∙ same p.period.from ∙ ap (held_at (q ∷ qs)) together ∙ there_second) in
    let longer : q.period.till ≤ p.period.till = first_ends p q ps qs high first.2 joined_first.0 together long_first alike same in
    let shorter : p.period.till ≤ q.period.till = first_ends q p qs ps high second.2 joined_second.0 (sym together) long_second (sym alike) (λ t. sym (same t)) in
    let end : p.period.till ≡ q.period.till = omega arith in
    let head : p ≡ q = piece_same p q together end alike in
    let moved : Between p.period.till qs high = (let P : ℕ → Type 0 = λ n. Between n qs high in subst P (sym end) second.2) in
    let tail : ps ≡ qs = canonical p.period.till ps qs high first.2 moved joined_first.1 joined_second.1 (rest_same p q ps qs high first.2 moved end same) in
    cc
  where
    rest_same : (p q : Piece) (ps qs : List Piece) (high : ℕ) → Between p.period.till ps high → Between p.period.till qs high → p.period.till ≡ q.period.till
        → ((t : ℕ) → held_at (p ∷ ps) t ≡ held_at (q ∷ qs) t) → (t : ℕ) → held_at ps t ≡ held_at qs t
    rest_same p q ps qs high first second end same t = by_place (cases_lt t p.period.till)
      where
        by_place : (t < p.period.till) ⊎ (p.period.till ≤ t) → held_at ps t ≡ held_at qs t
        by_place (inl early) = held_at-early p.period.till ps high t first early ∙ sym (held_at-early p.period.till qs high t second early)
        by_place (inr late) = sym (held_at-others p ps t late) ∙ same t ∙ held_at-others q qs t (omega arith)
