-- No text of a row that INSERT writes is empty.
use Rattle.std.proofs.Common.{◌≡◌, ℕ, zero, suc, true, nat_lt, length, arith, List, [], ◌∷◌, map, take, refl, sym, ap, ◌∙◌}
use Rattle.std.proofs.lemmas.Bool.Decides.{nat_tests}
use Rattle.std.proofs.lemmas.Bool.{and_from, and_parts}
use Rattle.std.specs.Prelude.{Option, Some, None, option_map, slice_get, unwrap_or, bytes_eq}
use Rattle.std.specs.List.{list_all, position}
use Rattle.std.specs.Option.{option_and_then}
use Rattle.wm_syntax.specs.Trees.{Expr}
use Rattle.wm_base.specs.declared.value.Value.{Value}
use Rattle.wm_base.specs.declared.value.Value.TheVariants as values
use Rattle.wm_spec.specs.Expressions.{value_of}
use Rattle.wm_spec.specs.declared.record.column.TableColumn.{TableColumn}
use Rattle.wm_spec.specs.declared.record.table.Table.{Table}
use Rattle.wm_making.specs.Rows.{no_row, before, stored, is_filled, value_alone, values_of, value_named, arranged, row_of}

pub stored_filled : (v : Value) → is_filled (stored v) ≡ true
stored_filled (values.Text []) = refl
stored_filled (values.Text (b ∷ t)) = some_there (length t)
  where
    some_there : (n : ℕ) → nat_lt 0 (suc n) ≡ true
    some_there n = grind (arith, nat_tests)
stored_filled (values.Num n) = refl
stored_filled (values.Time i) = refl
stored_filled (values.Span p) = refl
stored_filled values.Null = refl

before_filled : (first : Option Value) (rest : Option (List Value)) (vs : List Value) → ((v : Value) → first ≡ Some v → is_filled v ≡ true) → ((ws : List Value) → rest ≡ Some ws → list_all is_filled ws ≡ true)
    → before first rest ≡ Some vs → list_all is_filled vs ≡ true
before_filled None rest vs one all made = absurd (cc)
before_filled (Some v) None vs one all made = absurd (cc)
before_filled (Some v) (Some ws) vs one all made = let e : v ∷ ws ≡ vs = cc in ap (list_all is_filled) (sym e) ∙ and_from _ _ (one v refl) (all ws refl)

alone_filled : (x : Expr) (v : Value) → value_alone x ≡ Some v → is_filled v ≡ true
alone_filled x v made = by_value (value_of x [] no_row) made
  where
    by_value : (o : Option Value) → option_map stored o ≡ Some v → is_filled v ≡ true
    by_value None made = absurd (cc)
    by_value (Some w) made = let e : stored w ≡ v = cc in ap is_filled (sym e) ∙ stored_filled w

values_filled : (xs : List Expr) (vs : List Value) → values_of xs ≡ Some vs → list_all is_filled vs ≡ true
values_filled [] vs made = let e : vs ≡ [] = cc in ap (list_all is_filled) e
values_filled (x ∷ xs) vs made = before_filled (value_alone x) (values_of xs) vs (alone_filled x) (values_filled xs) made

one_filled : (vs : List Value) (p : ℕ) → list_all is_filled vs ≡ true → is_filled (unwrap_or (slice_get vs p) values.Null) ≡ true
one_filled [] p all = refl
one_filled (v ∷ vs) zero all = (and_parts (is_filled v) (list_all is_filled vs) all).0
one_filled (v ∷ vs) (suc p) all = one_filled vs p (and_parts (is_filled v) (list_all is_filled vs) all).1

named_filled : (names : List (List ℕ)) (vs : List Value) (name : List ℕ) → list_all is_filled vs ≡ true → is_filled (value_named names vs name) ≡ true
named_filled names vs name all = by_place (position (bytes_eq name) names)
  where
    by_place : (o : Option ℕ) → is_filled (unwrap_or (option_and_then (λ place. slice_get vs place) o) values.Null) ≡ true
    by_place None = refl
    by_place (Some p) = one_filled vs p all

columns_filled : (names : List (List ℕ)) (vs : List Value) (cs : List TableColumn) → list_all is_filled vs ≡ true → list_all is_filled (map (λ (c : TableColumn). value_named names vs c.name) cs) ≡ true
columns_filled names vs [] all = refl
columns_filled names vs (c ∷ cs) all = and_from _ _ (named_filled names vs c.name all) (columns_filled names vs cs all)

pub taken_filled : (n : ℕ) (vs : List Value) → list_all is_filled vs ≡ true → list_all is_filled (take n vs) ≡ true
taken_filled zero vs all = refl
taken_filled (suc n) [] all = refl
taken_filled (suc n) (v ∷ vs) all = let parts = and_parts (is_filled v) (list_all is_filled vs) all in and_from _ _ parts.0 (taken_filled n vs parts.1)

arranged_filled : (t : Table) (names : Option (List (List ℕ))) (vs : List Value) → list_all is_filled vs ≡ true → list_all is_filled (arranged t names vs) ≡ true
arranged_filled t None vs all = taken_filled (length t.columns) vs all
arranged_filled t (Some names) vs all = columns_filled names vs t.columns all

pub row_filled : (t : Table) (names : Option (List (List ℕ))) (xs : List Expr) (row : List Value) → row_of t names xs ≡ Some row → list_all is_filled row ≡ true
unfolding row_of
row_filled t names xs row made = by_values (values_of xs) refl made
  where
    by_values : (o : Option (List Value)) → values_of xs ≡ o → option_map (arranged t names) o ≡ Some row → list_all is_filled row ≡ true
    by_values None is made = absurd (cc)
    by_values (Some vs) is made = let e : arranged t names vs ≡ row = cc in ap (list_all is_filled) (sym e) ∙ arranged_filled t names vs (values_filled xs vs is)
