-- Paths through a base version.
use Rattle.std.proofs.Common.{◌≡◌, ◌≢◌, ◌<◌, ℕ, true, false, cond, ◌||◌, nat_eq, eqb, List, [], ◌∷◌, ◌++◌, refl, sym, ap, ◌∙◌, subst, arith, ◌⊎◌, inl, inr}
use Rattle.std.proofs.lemmas.Bool.{cases_eq, eq-eqb, ne_eqb, eqb-true, or_cases}
use Rattle.std.specs.List.{list_any}
use Rattle.std.specs.Option.{option_or}
use Rattle.wm_base.proofs.Plain.{option_or_assoc}
use Rattle.wm_rows.specs.Rows.{Layers, stored, nearest, above, seen_in, own_in}
use Rattle.wm_rows.specs.declared.row_key.RowKey.{RowKey}
use Rattle.wm_tree.proofs.Paths.{path_in-here, path_in-away}
use Rattle.wm_tree.specs.Versions.{IsTree, AllBelow, path_in}
use Rattle.wm_tree.specs.declared.version.Version.{Version}

nearest-append : (layers : Layers) (xs ys : List ℕ) (row : RowKey) (t : ℕ) → nearest layers (xs ++ ys) row t ≡ option_or (nearest layers xs row t) (nearest layers ys row t)
nearest-append layers [] ys row t = refl
nearest-append layers (x ∷ xs) ys row t =
    ap (option_or (stored layers x row t)) (nearest-append layers xs ys row t)
    ∙ sym (option_or_assoc (stored layers x row t) (nearest layers xs row t) (nearest layers ys row t))

-- what is on a path is below what all versions are below
on_path_below : (n : ℕ) (vs : List Version) (v base : ℕ) → AllBelow n vs → list_any (nat_eq base) (path_in vs v) ≡ true → base < n
on_path_below n [] v base below on = cc
on_path_below n (x ∷ older) v base below on =
    by_number (cases_eq x.number v) (λ first. on_path_below n older x.parent base below.1 first) (λ later. on_path_below n older v base below.1 later)
  where
    by_place : (eqb base v ≡ true) ⊎ (list_any (nat_eq base) (path_in older x.parent) ≡ true) → x.number ≡ v → (list_any (nat_eq base) (path_in older x.parent) ≡ true → base < n) → base < n
    by_place (inl it) here above' = let same : base ≡ v = eqb-true base v it in omega (arith, below.0, here, same)
    by_place (inr on) here above' = above' on

    by_number : (x.number ≡ v) ⊎ (x.number ≢ v) → (list_any (nat_eq base) (path_in older x.parent) ≡ true → base < n) → (list_any (nat_eq base) (path_in older v) ≡ true → base < n) → base < n
    by_number (inl here) first later =
        by_place (or_cases (eqb base v) (list_any (nat_eq base) (path_in older x.parent)) (sym (ap (list_any (nat_eq base)) (path_in-here x older v here)) ∙ on)) here first
    by_number (inr away) first later = later (sym (ap (list_any (nat_eq base)) (path_in-away x older v away)) ∙ on)

above-itself : (v : ℕ) (rest : List ℕ) → above v (v ∷ rest) ≡ []
above-itself v rest = ap (λ b. cond b [] (v ∷ above v rest)) (eq-eqb v v refl)

above-other : (base v : ℕ) (rest : List ℕ) → v ≢ base → above base (v ∷ rest) ≡ v ∷ above base rest
above-other base v rest e = ap (λ b. cond b [] (v ∷ above base rest)) (ne_eqb v base e)

-- a path is what is above the base, and then the path of the base
path-split : (vs : List Version) (v base : ℕ) → IsTree vs → list_any (nat_eq base) (path_in vs v) ≡ true → path_in vs v ≡ above base (path_in vs v) ++ path_in vs base
path-split [] v base tree on = cc
path-split (x ∷ older) v base tree on =
    by_number (cases_eq x.number v) (cases_eq v base) (λ first. path-split older x.parent base tree.3 first) (λ later. path-split older v base tree.3 later)
  where
    by_number : (x.number ≡ v) ⊎ (x.number ≢ v) → (v ≡ base) ⊎ (v ≢ base)
        → (list_any (nat_eq base) (path_in older x.parent) ≡ true → path_in older x.parent ≡ above base (path_in older x.parent) ++ path_in older base)
        → (list_any (nat_eq base) (path_in older v) ≡ true → path_in older v ≡ above base (path_in older v) ++ path_in older base)
        → path_in (x ∷ older) v ≡ above base (path_in (x ∷ older) v) ++ path_in (x ∷ older) base
    by_number (inl here) (inl same) first later =
        let path : path_in (x ∷ older) v ≡ v ∷ path_in older x.parent = path_in-here x older v here in
        let none : above v (path_in (x ∷ older) v) ≡ [] = ap (above v) path ∙ above-itself v (path_in older x.parent) in
        subst (λ w. path_in (x ∷ older) v ≡ above w (path_in (x ∷ older) v) ++ path_in (x ∷ older) w) same (sym (ap (λ (l : List ℕ). l ++ path_in (x ∷ older) v) none))
    by_number (inl here) (inr other) first later =
        let path : path_in (x ∷ older) v ≡ v ∷ path_in older x.parent = path_in-here x older v here in
        let whole : list_any (nat_eq base) (v ∷ path_in older x.parent) ≡ true = sym (ap (list_any (nat_eq base)) path) ∙ on in
        let apart : eqb base v ≡ false = ne_eqb base v (λ e. other (sym e)) in
        let on_rest : list_any (nat_eq base) (path_in older x.parent) ≡ true = sym (ap (λ b. b || list_any (nat_eq base) (path_in older x.parent)) apart) ∙ whole in
        let below : path_in (x ∷ older) base ≡ path_in older base = path_in-away x older base (λ e. other (sym here ∙ e)) in
        path
        ∙ ap (λ (l : List ℕ). v ∷ l) (first on_rest)
        ∙ ap (λ (l : List ℕ). (v ∷ above base (path_in older x.parent)) ++ l) (sym below)
        ∙ ap (λ (l : List ℕ). l ++ path_in (x ∷ older) base) (sym (ap (above base) path ∙ above-other base v (path_in older x.parent) other))
    by_number (inr away) same first later =
        let path : path_in (x ∷ older) v ≡ path_in older v = path_in-away x older v away in
        let on_rest : list_any (nat_eq base) (path_in older v) ≡ true = sym (ap (list_any (nat_eq base)) path) ∙ on in
        let less : base < x.number = on_path_below x.number older v base tree.1 on_rest in
        let below : path_in (x ∷ older) base ≡ path_in older base = path_in-away x older base (λ e. absurd (omega arith)) in
        path ∙ later on_rest
        ∙ ap (λ (l : List ℕ). above base (path_in older v) ++ l) (sym below)
        ∙ ap (λ (l : List ℕ). above base l ++ path_in (x ∷ older) base) (sym path)

pub seen-split : (tree : List Version) (layers : Layers) (version base : ℕ) (row : RowKey) (t : ℕ) → IsTree tree → list_any (nat_eq base) (path_in tree version) ≡ true
    → seen_in tree layers version row t ≡ option_or (own_in tree layers version base row t) (seen_in tree layers base row t)
seen-split tree layers version base row t is on =
    ap (λ (l : List ℕ). nearest layers l row t) (path-split tree version base is on)
    ∙ nearest-append layers (above base (path_in tree version)) (path_in tree base) row t
