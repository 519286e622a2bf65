-- Lists whose items pass a test in pairs.
use Rattle.std.specs.Prelude.{ℕ, Bool, true, false, ◌&&◌, List, [], ◌∷◌, slice_get}
use Rattle.std.specs.Option.{option_map_or}
use Rattle.std.specs.Ordering.{is_eq}
use Rattle.wm_base.specs.Value.{value_order}
use Rattle.wm_base.specs.declared.value.Value.{Value}

-- a row has the value at this place
abbrev pub is_at : List Value → ℕ → Value → Bool
is_at row place v = option_map_or (λ (w : Value). is_eq (value_order w v)) (slice_get row place) false

-- there are as many of the one as of the other, and each passes with its own
abbrev pub pass_in_pairs : {A B : Type 0} → (A → B → Bool) → List A → List B → Bool
pass_in_pairs test [] [] = true
pass_in_pairs test (x ∷ xs) (y ∷ ys) = test x y && pass_in_pairs test xs ys
pass_in_pairs test _ _ = false
