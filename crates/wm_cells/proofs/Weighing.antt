-- What the values of a row at places weigh, one after another.
use Rattle.std.proofs.Common.{◌≡◌, ℕ, ◌+◌, ◌-◌, ◌^◌, ◌<◌, ◌≤◌, Bool, true, nat_le, min, List, ◌∷◌, length, drop, slice_get, get_or, Option, Some, None, refl, sym, ap, ◌∙◌, arith, add-one, drop-cons}
use Rattle.std.proofs.Math.Nat.{add-zero, zero-add}
use Rattle.std.proofs.lemmas.List.{drop_all}
use Rattle.std.proofs.lemmas.List.Sums.{sum_by-cons}
use Rattle.std.proofs.lemmas.Bool.Decides.{nat_tests}
use Rattle.std.specs.Option.{option_map}
use Rattle.wm_base.specs.Value.{weight_of}
use Rattle.wm_base.specs.declared.value.Value.{Value}
use Rattle.wm_graph.specs.Rules.{weight, values_at, is_light_key}

-- with so much before them they are light enough for a key, where they are there
abbrev pub is_light_after : ℕ → Option (List Value) → Bool
is_light_after before None = true
is_light_after before (Some values) = nat_le (before + weight values) 200

pub light_begins : (values : Option (List Value)) → is_light_key values ≡ is_light_after 0 values
light_begins None = refl
light_begins (Some values) = ap (λ n. nat_le n 200) (sym (zero-add (weight values)))

-- one more, where it is not there
gone : (before : ℕ) (row : List Value) (place : ℕ) (places : List ℕ) → slice_get row place ≡ None → is_light_after before (values_at (place ∷ places) row) ≡ true
gone before row place places is = rw is refl

-- one more, where it is there
counts : (before new : ℕ) (row : List Value) (place : ℕ) (places : List ℕ) (v : Value) → slice_get row place ≡ Some v → new ≡ min (before + weight_of v) (2 ^ 64 - 1) → is_light_after before (values_at (place ∷ places) row) ≡ is_light_after new (values_at places row)
counts before new row place places v is total = rw is (by_rest (values_at places row))
  where
    heavier : (w rest : ℕ) → new ≡ min (before + w) (2 ^ 64 - 1) → nat_le (before + (w + rest)) 200 ≡ nat_le (new + rest) 200
    heavier w rest at = grind (arith, nat_tests)

    by_rest : (rest : Option (List Value)) → is_light_after before (option_map (λ vs. v ∷ vs) rest) ≡ is_light_after new rest
    by_rest None = refl
    by_rest (Some vs) = ap (λ n. nat_le (before + n) 200) (sum_by-cons weight_of v vs) ∙ heavier (weight_of v) (weight vs) total

-- ---- turns of the loop over the places

next_place : (places : List ℕ) (i : ℕ) → i < length places → drop i places ≡ get_or places i 0 ∷ drop (i + 1) places
next_place places i within = rw add-one (drop-cons places i 0 within)

pub light_gone : (row : List Value) (places : List ℕ) (i before : ℕ) → i < length places → is_light_key (values_at places row) ≡ is_light_after before (values_at (drop i places) row) → slice_get row (get_or places i 0) ≡ None → true ≡ is_light_key (values_at places row)
light_gone row places i before within is none =
    sym (is ∙ ap (λ l. is_light_after before (values_at l row)) (next_place places i within) ∙ gone before row (get_or places i 0) (drop (i + 1) places) none)

pub light_more : (row : List Value) (places : List ℕ) (i before new : ℕ) (v : Value) → i < length places → is_light_key (values_at places row) ≡ is_light_after before (values_at (drop i places) row) → slice_get row (get_or places i 0) ≡ Some v → new ≡ min (before + weight_of v) (2 ^ 64 - 1) → is_light_key (values_at places row) ≡ is_light_after new (values_at (drop (i + 1) places) row)
light_more row places i before new v within is held total =
    is ∙ ap (λ l. is_light_after before (values_at l row)) (next_place places i within) ∙ counts before new row (get_or places i 0) (drop (i + 1) places) v held total

pub light_ends : (row : List Value) (places : List ℕ) (i total : ℕ) → length places ≤ i → is_light_key (values_at places row) ≡ is_light_after total (values_at (drop i places) row) → nat_le total 200 ≡ is_light_key (values_at places row)
light_ends row places i total end is =
    sym (is ∙ ap (λ l. is_light_after total (values_at l row)) (drop_all i places end) ∙ ap (λ n. nat_le n 200) (add-zero total))
