-- Looking for the piece that covers an instant by halving.
use Rattle.std.proofs.Common.{◌≡◌, ◌<◌, ◌≤◌, ℕ, ◌+◌, true, List, [], ◌∷◌, ◌++◌, length, get_or, take, drop, Some, None, refl, sym, ap, ◌∙◌, subst, arith}
use Rattle.std.proofs.lemmas.Bool.Decides.{nat_tests}
use Rattle.std.proofs.lemmas.List.{take-append-drop, drop_more, take_more, drop_all}
use Rattle.std.specs.Bool.{then_some}
use Rattle.std.specs.Option.{option_or}
use Rattle.wm_base.specs.Period.{covers}
use Rattle.wm_base.specs.declared.instant.TheConstants.{END}
use Rattle.wm_period.proofs.Cells.{held_at-append}
use Rattle.wm_period.proofs.Order.{Between-append, held_at-past, held_at-early}
use Rattle.wm_period.specs.Pieces.{held, held_at, Between}
use Rattle.wm_period.specs.declared.piece.Piece.{Piece}

-- a piece with what lies before it and behind it
record Placed (front : List Piece) (p : Piece) (back : List Piece) (low high : ℕ) : Type 0 where
  before : Between low front p.period.from
  long : p.period.from < p.period.till
  behind : Between p.period.till back high

Between-split : (low : ℕ) (front : List Piece) (p : Piece) (back : List Piece) (high : ℕ) → Between low (front ++ p ∷ back) high → Placed front p back low high
Between-split low [] p back high order = record { before = order.0; long = order.1; behind = order.2 }
Between-split low (q ∷ qs) p back high order =
    let rest = Between-split q.period.till qs p back high order.2 in
    record { before = (order.0, order.1, rest.before); long = rest.long; behind = rest.behind }

at_place : (ps : List Piece) (i : ℕ) (p : Piece) → i < length ps → p ≡ get_or ps i p → take i ps ++ p ∷ drop (i + 1) ps ≡ ps
at_place ps i p within read =
    ap (λ l. take i ps ++ l) (sym (drop_more ps i p within ∙ ap (λ q. q ∷ drop (i + 1) ps) (sym read))) ∙ take-append-drop i ps

placed : (low : ℕ) (ps : List Piece) (high i : ℕ) (p : Piece) → Between low ps high → i < length ps → p ≡ get_or ps i p → Placed (take i ps) p (drop (i + 1) ps) low high
placed low ps high i p order within read =
    Between-split low (take i ps) p (drop (i + 1) ps) high (let P : List Piece → Type 0 = λ l. Between low l high in subst P (sym (at_place ps i p within read)) order)

-- where the search stands: the piece sought lies neither before `low` nor from `high` on
pub record Looking (ps : List Piece) (t low high : ℕ) : Type 0 where
  pub before : held_at (take low ps) t ≡ None
  pub after : held_at (drop high ps) t ≡ None
  pub order : low ≤ high
  pub within : high ≤ length ps

pub looking_none : (ps : List Piece) (t : ℕ) → Looking ps t 0 (length ps)
looking_none ps t = record { before = refl; after = ap (λ l. held_at l t) (drop_all (length ps) ps (omega arith)); order = omega arith; within = omega arith }

-- the instant lies before the piece at a place
pub looking_left : (ps : List Piece) (t low high i : ℕ) (p : Piece) → Between 0 ps END → Looking ps t low high → low ≤ i → i < high → p ≡ get_or ps i p → t < p.period.from
    → Looking ps t low i
looking_left ps t low high i p order so right left read early =
    let within = so.within in
    let there = placed 0 ps END i p order (omega arith) read in
    record {
      before = so.before;
      after = ap (λ l. held_at l t) (drop_more ps i p (omega arith) ∙ ap (λ q. q ∷ drop (i + 1) ps) (sym read))
          ∙ held_at-early p.period.from (p ∷ drop (i + 1) ps) END t (omega arith, there.long, there.behind) early;
      order = right;
      within = omega arith;
    }

-- the instant lies after the piece at a place
pub looking_right : (ps : List Piece) (t low high i : ℕ) (p : Piece) → Between 0 ps END → Looking ps t low high → low ≤ i → i < high → p ≡ get_or ps i p → p.period.till ≤ t
    → Looking ps t (i + 1) high
looking_right ps t low high i p order so right left read late =
    let within = so.within in
    let there = placed 0 ps END i p order (omega arith) read in
    record {
      before = ap (λ l. held_at l t) (take_more ps i p (omega arith) ∙ ap (λ q. take i ps ++ q ∷ []) (sym read))
          ∙ held_at-past 0 (take i ps ++ p ∷ []) p.period.till t
          (Between-append 0 (take i ps) p.period.from (p ∷ []) p.period.till there.before (omega arith, there.long, omega arith)) late;
      after = so.after;
      order = omega arith;
      within = so.within;
    }

-- the piece at a place covers the instant
pub found_there : (ps : List Piece) (t i : ℕ) (p : Piece) → Between 0 ps END → i < length ps → p ≡ get_or ps i p → covers p.period t ≡ true → held_at ps t ≡ Some (held p)
found_there ps t i p order within read covered =
    let there = placed 0 ps END i p order within read in
    ap (λ l. held_at l t) (sym (at_place ps i p within read))
    ∙ held_at-append (take i ps) (p ∷ drop (i + 1) ps) t
    ∙ ap (λ v. option_or v (held_at (p ∷ drop (i + 1) ps) t)) (held_at-past 0 (take i ps) p.period.from t there.before (grind (arith, nat_tests)))
    ∙ ap (λ v. option_or (then_some v (held p)) (held_at (drop (i + 1) ps) t)) covered

-- no piece covers it
pub looking_all : (ps : List Piece) (t low high : ℕ) → Looking ps t low high → high ≤ low → held_at ps t ≡ None
looking_all ps t low high so all =
    let order = so.order in
    let met : high ≡ low = omega arith in
    ap (λ l. held_at l t) (sym (take-append-drop low ps))
    ∙ held_at-append (take low ps) (drop low ps) t
    ∙ ap (λ v. option_or v (held_at (drop low ps) t)) so.before
    ∙ ap (λ n. held_at (drop n ps) t) (sym met)
    ∙ so.after
