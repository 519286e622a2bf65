-- Keys that are the same, and what is stored in pieces one behind another.
use Rattle.std.proofs.Common.{◌≡◌, ℕ, Bool, true, false, List, [], ◌∷◌, ◌++◌, refl, sym, ap, ◌∙◌}
use Rattle.std.specs.Bool.{then_some}
use Rattle.std.specs.Option.{option_or}
use Rattle.std.specs.Ordering.{is_eq}
use Rattle.wm_base.proofs.Plain.{option_or_assoc}
use Rattle.wm_base.specs.Key.{key_order}
use Rattle.wm_base.specs.Orders.{key_order-decides}
use Rattle.wm_base.specs.declared.value.Value.{Value}
use Rattle.wm_spec.specs.Lists.{Cell}
use Rattle.wm_spec.specs.declared.record.piece.PieceRecord.{PieceRecord}
use Rattle.wm_state.specs.Standing.{held_by, covers_at, stored_at}

-- ---- keys

pub key_same : (k l : List Value) → is_eq (key_order k l) ≡ true → k ≡ l
key_same k l e = (key_order-decides k l (key_order k l) (is_eq (key_order k l)) refl refl).0 e

pub key_itself : (k : List Value) → is_eq (key_order k k) ≡ true
key_itself k = (key_order-decides k k (key_order k k) (is_eq (key_order k k)) refl refl).1 refl

-- ---- tests

pub false_if : (b : Bool) → (b ≡ true → ⊥) → b ≡ false
false_if true not_so = absurd (not_so refl)
false_if false not_so = refl

-- ---- what is stored

pub stored-append : (xs ys : List PieceRecord) (v : ℕ) (c : Cell) → stored_at (xs ++ ys) v c ≡ option_or (stored_at xs v c) (stored_at ys v c)
stored-append [] ys v c = refl
stored-append (x ∷ xs) ys v c = ap (λ o. option_or (then_some (covers_at x v c) (held_by x)) o) (stored-append xs ys v c) ∙ sym (option_or_assoc (then_some (covers_at x v c) (held_by x)) (stored_at xs v c) (stored_at ys v c))
