-- What is known of the rows that a condition chooses, and of what sets a column.
use Rattle.std.proofs.Common.{◌≡◌, Bool, true, false, cond, List, [], ◌∷◌, map, filter, refl, sym, ap, ◌∙◌}
use Rattle.std.proofs.lemmas.Bool.{and_from, and_parts, not-true, or_from, or_parts}
use Rattle.std.specs.Prelude.{Option, Some, not}
use Rattle.std.specs.List.{list_all, list_any, find}
use Rattle.wm_listing.specs.declared.columns.Column.{Column}
use Rattle.wm_base.specs.declared.row.Row.{Row}
use Rattle.wm_syntax.specs.Trees.{Cond}
use Rattle.wm_graph.specs.Rules.{differ}
use Rattle.wm_joining.proofs.KeptLemmas.{where_met}
use Rattle.wm_joining.specs.Kept.{where_of}
use Rattle.wm_spec.specs.Conditions.{truth_of, is_yes}
use Rattle.wm_spec.specs.declared.record.table.Table.{Table}
use Rattle.wm_dml.specs.Changing.{own_columns, meets, chosen}

-- two tests that say the same keep the same
filtered : {A : Type 0} (f g : A → Bool) → ((x : A) → f x ≡ g x) → (xs : List A) → filter f xs ≡ filter g xs
filtered f g same [] = refl
filtered f g same (x ∷ xs) =
    ap (λ b. cond b (x ∷ filter f xs) (filter f xs)) (same x) ∙ ap (λ rest. cond (g x) (x ∷ rest) rest) (filtered f g same xs)

-- what passes the condition that stands for WHERE is what WHERE chooses
pub where_chosen : (t : Table) (condition : Option Cond) (c : Cond) (columns : List Column) (rows : List Row) → columns ≡ own_columns t → c ≡ where_of condition →
    filter (λ row. is_yes (truth_of c columns row)) rows ≡ chosen t condition rows
where_chosen t condition c columns rows own stands =
    ap (λ cs. filter (λ row. is_yes (truth_of c cs row)) rows) own
    ∙ ap (λ d. filter (λ row. is_yes (truth_of d (own_columns t) row)) rows) stands
    ∙ filtered (λ row. is_yes (truth_of (where_of condition) (own_columns t) row)) (meets condition (own_columns t)) (where_met condition (own_columns t)) rows

-- what all pass, the one that is found passes
pub found_passes : {A : Type 0} (test passed : A → Bool) (xs : List A) (x : A) → list_all passed xs ≡ true → find test xs ≡ Some x → passed x ≡ true
found_passes test passed [] x all found = absurd (cc)
found_passes test passed (y ∷ ys) x all found = choose (test y) refl (found_passes test passed ys x (and_parts (passed y) (list_all passed ys) all).1)
  where
    choose : (b : Bool) → test y ≡ b → (find test ys ≡ Some x → passed x ≡ true) → passed x ≡ true
    choose true is more =
        let e : Some y ≡ Some x = sym (ap (λ b. cond b (Some y) (find test ys)) is) ∙ found in
        let same : x ≡ y = cc in
        ap passed same ∙ (and_parts (passed y) (list_all passed ys) all).0
    choose false is more = more (sym (ap (λ b. cond b (Some y) (find test ys)) is) ∙ found)

-- ---- what is chosen of a list

-- what all pass, those that are chosen pass
pub chosen_pass : {A : Type 0} (p test : A → Bool) (xs : List A) → list_all test xs ≡ true → list_all test (filter p xs) ≡ true
chosen_pass p test [] all = refl
chosen_pass p test (x ∷ xs) all =
    let parts = and_parts (test x) (list_all test xs) all in
    choose (p x) parts.0 (chosen_pass p test xs parts.1)
  where
    choose : (b : Bool) → test x ≡ true → list_all test (filter p xs) ≡ true → list_all test (cond b (x ∷ filter p xs) (filter p xs)) ≡ true
    choose true one rest = and_from _ _ one rest
    choose false one rest = rest

none_chosen : {A K : Type 0} (f : A → K) (p : A → Bool) (test : K → Bool) (xs : List A) → list_any test (map f xs) ≡ false → list_any test (map f (filter p xs)) ≡ false
none_chosen f p test [] none = refl
none_chosen f p test (x ∷ xs) none =
    let parts = or_parts (test (f x)) (list_any test (map f xs)) none in
    choose (p x) parts.0 (none_chosen f p test xs parts.1)
  where
    choose : (b : Bool) → test (f x) ≡ false → list_any test (map f (filter p xs)) ≡ false → list_any test (map f (cond b (x ∷ filter p xs) (filter p xs))) ≡ false
    choose true one rest = or_from _ _ one rest
    choose false one rest = rest

none_kept : {A : Type 0} (p test : A → Bool) (xs : List A) → list_any test xs ≡ false → list_any test (filter p xs) ≡ false
none_kept p test [] none = refl
none_kept p test (x ∷ xs) none =
    let parts = or_parts (test x) (list_any test xs) none in
    choose (p x) parts.0 (none_kept p test xs parts.1)
  where
    choose : (b : Bool) → test x ≡ false → list_any test (filter p xs) ≡ false → list_any test (cond b (x ∷ filter p xs) (filter p xs)) ≡ false
    choose true one rest = or_from _ _ one rest
    choose false one rest = rest

-- no two are alike where no two of all were
pub kept_differ : {A : Type 0} (p : A → Bool) (same : A → A → Bool) (xs : List A) → differ same xs ≡ true → differ same (filter p xs) ≡ true
kept_differ p same [] apart = refl
kept_differ p same (x ∷ xs) apart =
    let parts = and_parts (not (list_any (same x) xs)) (differ same xs) apart in
    choose (p x) (none_kept p (same x) xs (not-true (list_any (same x) xs) parts.0)) (kept_differ p same xs parts.1)
  where
    choose : (b : Bool) → list_any (same x) (filter p xs) ≡ false → differ same (filter p xs) ≡ true → differ same (cond b (x ∷ filter p xs) (filter p xs)) ≡ true
    choose true one rest = and_from _ _ (ap not one) rest
    choose false one rest = rest

-- keys that differ still differ
pub chosen_differ : {A K : Type 0} (f : A → K) (p : A → Bool) (same : K → K → Bool) (xs : List A) → differ same (map f xs) ≡ true → differ same (map f (filter p xs)) ≡ true
chosen_differ f p same [] apart = refl
chosen_differ f p same (x ∷ xs) apart =
    let parts = and_parts (not (list_any (same (f x)) (map f xs))) (differ same (map f xs)) apart in
    choose (p x) (none_chosen f p (same (f x)) xs (not-true (list_any (same (f x)) (map f xs)) parts.0)) (chosen_differ f p same xs parts.1)
  where
    choose : (b : Bool) → list_any (same (f x)) (map f (filter p xs)) ≡ false → differ same (map f (filter p xs)) ≡ true → differ same (map f (cond b (x ∷ filter p xs) (filter p xs))) ≡ true
    choose true one rest = and_from _ _ (ap not one) rest
    choose false one rest = rest
