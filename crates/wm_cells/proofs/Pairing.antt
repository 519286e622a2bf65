-- Items that pass a test in pairs, from some place on.
use Rattle.std.proofs.Common.{◌≡◌, ◌≢◌, ℕ, Bool, true, false, ◌&&◌, List, [], ◌∷◌, length, slice_get, Option, Some, None, refl, sym, ap, ◌∙◌, arith}
use Rattle.std.proofs.Math.Bool.{and-false}
use Rattle.std.specs.Option.{option_and_then, option_map, option_map_or}
use Rattle.std.specs.Ordering.{is_eq, ordering_then}
use Rattle.std.specs.declared.cmp.Ordering.{Ordering}
use Rattle.std.specs.declared.cmp.Ordering.TheVariants.{Less, Equal, Greater}
use Rattle.wm_base.specs.Key.{key_order}
use Rattle.wm_base.specs.Value.{value_order}
use Rattle.wm_base.specs.declared.value.Value.{Value}
use Rattle.wm_cells.specs.Pairs.{is_at, pass_in_pairs}
use Rattle.wm_graph.specs.Rules.{fits_column, fit_columns, is_typed, are_typed, values_at, is_key}
use Rattle.wm_spec.specs.declared.record.column.TableColumn.{TableColumn}

-- items pass where those that are left do, of which there are as many
pub record Pairing {A B : Type 0} (test : A → B → Bool) (xs : List A) (ys : List B) (xs_left : List A) (ys_left : List B) : Type 0 where
  pub same : pass_in_pairs test xs ys ≡ pass_in_pairs test xs_left ys_left
  pub as_many : length xs_left ≡ length ys_left

pub pairing_fails : {A B : Type 0} {test : A → B → Bool} {cs ds es : List A} {vs ws xs : List B} {d : A} {w : B} → Pairing test cs vs ds ws → ds ≡ d ∷ es → ws ≡ w ∷ xs → test d w ≡ false → false ≡ pass_in_pairs test cs vs
pairing_fails {test = test} {es = es} {xs = xs} f first second fails = sym (f.same ∙ rw (first, second) (ap (λ b. b && pass_in_pairs test es xs) fails))

pub pairing_more : {A B : Type 0} {test : A → B → Bool} {cs ds es : List A} {vs ws xs : List B} {d : A} {w : B} → Pairing test cs vs ds ws → ds ≡ d ∷ es → ws ≡ w ∷ xs → test d w ≡ true → Pairing test cs vs es xs
pairing_more {test = test} {es = es} {xs = xs} f first second passes = record {
  same = f.same ∙ rw (first, second) (ap (λ b. b && pass_in_pairs test es xs) passes);
  as_many = omega (arith, f.as_many, ap length first, ap length second);
}

pub pairing_all : {A B : Type 0} {test : A → B → Bool} {cs ds : List A} {vs ws : List B} → Pairing test cs vs ds ws → length ds ≡ 0 → true ≡ pass_in_pairs test cs vs
pairing_all {A} {B} {test} {cs} {ds} {vs} {ws} f none = sym (f.same ∙ both_empty ds ws none (omega (arith, f.as_many)))
  where
    both_empty : (es : List A) (xs : List B) → length es ≡ 0 → length xs ≡ 0 → pass_in_pairs test es xs ≡ true
    both_empty [] [] e x = refl
    both_empty [] (v ∷ xs) e x = absurd (omega (arith, x))
    both_empty (d ∷ es) xs e x = absurd (omega (arith, e))

-- another number of items does not pass
pub not_as_many : {A B : Type 0} (test : A → B → Bool) (xs : List A) (ys : List B) → length xs ≢ length ys → false ≡ pass_in_pairs test xs ys
not_as_many test [] [] other = absurd (other refl)
not_as_many test [] (y ∷ ys) other = refl
not_as_many test (x ∷ xs) [] other = refl
not_as_many test (x ∷ xs) (y ∷ ys) other = rw (← not_as_many test xs ys (λ same. other (omega (arith, same)))) (sym (and-false (test x y)))

-- ---- values that fit columns

pub pairs_fit : (columns : List TableColumn) (values : List Value) → pass_in_pairs fits_column columns values ≡ fit_columns columns values
pairs_fit [] [] = refl
pairs_fit [] (v ∷ vs) = refl
pairs_fit (c ∷ cs) [] = refl
pairs_fit (c ∷ cs) (v ∷ vs) = ap (λ b. fits_column c v && b) (pairs_fit cs vs)

-- ---- values of the types of columns

pub pairs_typed : (columns : List TableColumn) (places : List ℕ) (values : List Value) → pass_in_pairs (is_typed columns) places values ≡ are_typed columns places values
pairs_typed columns [] [] = refl
pairs_typed columns [] (v ∷ vs) = refl
pairs_typed columns (p ∷ ps) [] = refl
pairs_typed columns (p ∷ ps) (v ∷ vs) = ap (λ b. is_typed columns p v && b) (pairs_typed columns ps vs)

-- ---- values that a row has at places

pub pairs_at : (row : List Value) (places : List ℕ) (key : List Value) → pass_in_pairs (is_at row) places key ≡ is_key key (values_at places row)
pairs_at row [] [] = refl
pairs_at row [] (w ∷ ws) = refl
pairs_at row (p ∷ ps) [] = by_values (slice_get row p) (values_at ps row)
  where
    by_values : (first : Option Value) (rest : Option (List Value)) → false ≡ is_key [] (option_and_then (λ v. option_map (λ vs. v ∷ vs) rest) first)
    by_values None rest = refl
    by_values (Some v) None = refl
    by_values (Some v) (Some vs) = refl
pairs_at row (p ∷ ps) (w ∷ ws) = ap (λ b. is_at row p w && b) (pairs_at row ps ws) ∙ by_values (slice_get row p) (values_at ps row)
  where
    by_order : (o p : Ordering) → (is_eq o && is_eq p) ≡ is_eq (ordering_then o p)
    by_order Less p = refl
    by_order Equal p = refl
    by_order Greater p = refl

    by_values : (first : Option Value) (rest : Option (List Value)) → (option_map_or (λ (v : Value). is_eq (value_order v w)) first false && is_key ws rest) ≡ is_key (w ∷ ws) (option_and_then (λ v. option_map (λ vs. v ∷ vs) rest) first)
    by_values None rest = refl
    by_values (Some v) None = and-false (is_eq (value_order v w))
    by_values (Some v) (Some vs) = by_order (value_order v w) (key_order vs ws)
