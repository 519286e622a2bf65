-- The front of pieces in order, at an instant.
use Rattle.std.proofs.Common.{◌≡◌, ℕ, ◌<◌, ◌≤◌, true, false, List, [], ◌∷◌, length, get_or, Option, Some, None, is_some, refl, sym, ap, ◌∙◌, subst, arith, ◌==◌, eqb-true}
use Rattle.std.proofs.lemmas.Bool.Decides.{nat_tests}
use Rattle.std.specs.Ordering.{is_lt, nat_cmp}
use Rattle.wm_base.specs.declared.instant.TheConstants.{END}
use Rattle.wm_period.proofs.Order.{held_at-early}
use Rattle.wm_period.specs.Pieces.{Between, Held, held, held_at}
use Rattle.wm_period.specs.declared.piece.Piece.{Piece}
use Rattle.wm_period.proofs.Canonical.{held_at-first}
use Rattle.wm_pending.specs.Fronts.{HoldsNext, IsAhead}

-- ---- what pieces hold

-- before the first piece nothing is held
held_at-before : (p : Piece) (ps : List Piece) (t : ℕ) → Between 0 (p ∷ ps) END → t < p.period.from → held_at (p ∷ ps) t ≡ None
held_at-before p ps t order early = held_at-early p.period.from (p ∷ ps) END t (omega arith, order.1, order.2) early

-- ---- the piece in front, as it is read

-- at the beginning of time none is over
pub ahead_all : (ps : List Piece) → Between 0 ps END → IsAhead 0 ps
ahead_all [] order = record { order = order; goes = tt }
ahead_all (q ∷ qs) order = record { order = order; goes = omega (arith, order.1) }

-- nothing is held before it begins
pub none_before : (ps : List Piece) (p : Piece) (t : ℕ) → 1 ≤ length ps → p ≡ get_or ps 0 p → Between 0 ps END → t < p.period.from → held_at ps t ≡ None
none_before [] p t some is order early = absurd (omega arith)
none_before (q ∷ qs) p t some is order early = held_at-before q qs t order (subst (λ (x : Piece). t < x.period.from) is early)

-- and it is held from then on until it ends
pub held_within : (ps : List Piece) (p : Piece) (t : ℕ) → 1 ≤ length ps → p ≡ get_or ps 0 p → p.period.from ≤ t → t < p.period.till → held_at ps t ≡ Some (held p)
held_within [] p t some is from till = absurd (omega arith)
held_within (q ∷ qs) p t some is from till =
    held_at-first q qs t (subst (λ (x : Piece). x.period.from ≤ t) is from) (subst (λ (x : Piece). t < x.period.till) is till) ∙ ap (λ (x : Piece). Some (held x)) (sym is)

-- which is later than any instant at which none is over
pub goes_first : (ps : List Piece) (p : Piece) (at : ℕ) → 1 ≤ length ps → p ≡ get_or ps 0 p → IsAhead at ps → at < p.period.till
goes_first [] p at some is ahead = absurd (omega arith)
goes_first (q ∷ qs) p at some is ahead = subst (λ (x : Piece). at < x.period.till) (sym is) ahead.goes

-- where it begins later, and where it does not
pub next_later : (ps : List Piece) (p : Piece) (at next : ℕ) → 1 ≤ length ps → p ≡ get_or ps 0 p → Between 0 ps END → p.period.from < p.period.till → at < p.period.from → next ≡ p.period.from → HoldsNext ps at next
next_later ps p at next some is order real later begins = record {
  later = omega (arith, later, begins);
  held = ap (λ (o : Option Held). is_some o) (held_within ps p next some is (omega (arith, begins)) (omega (arith, begins, real)));
  before = λ t le lt. none_before ps p t some is order (omega (arith, begins, lt));
}

pub next_now : (ps : List Piece) (p : Piece) (at : ℕ) → 1 ≤ length ps → p ≡ get_or ps 0 p → IsAhead at ps → p.period.from ≤ at → HoldsNext ps at at
next_now ps p at some is ahead begun = record {
  later = omega arith;
  held = ap (λ (o : Option Held). is_some o) (held_within ps p at some is begun (goes_first ps p at some is ahead));
  before = λ t le lt. absurd (omega (arith, le, lt));
}

-- all of them from the beginning of time on
pub ahead_start : (at : ℕ) (ps qs : List Piece) → at ≡ 0 → qs ≡ ps → Between 0 ps END → IsAhead at qs
ahead_start at ps qs is same order = subst (λ (t : ℕ). IsAhead t qs) (sym is) (subst (λ (l : List Piece). IsAhead 0 l) (sym same) (ahead_all ps order))

-- where there is none nothing is held
pub none_held : (ps : List Piece) (t : ℕ) → length ps < 1 → held_at ps t ≡ None
none_held [] t none = refl
none_held (q ∷ qs) t none = absurd (omega arith)

pub empty_holds : (ps : List Piece) → (length ps == 0) ≡ true → (t : ℕ) → held_at ps t ≡ None
empty_holds ps e t = let none : length ps ≡ 0 = eqb-true (length ps) 0 e in none_held ps t (omega (arith, none))

-- ---- tests

pub is_less : (m n : ℕ) → is_lt (nat_cmp m n) ≡ true → m < n
is_less m n e = grind (arith, nat_tests)

pub not_less : (m n : ℕ) → is_lt (nat_cmp m n) ≡ false → n ≤ m
not_less m n e = grind (arith, nat_tests)
