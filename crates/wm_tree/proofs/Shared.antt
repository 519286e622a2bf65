-- The first version on two paths, found by going up from the greater one.
use Rattle.std.proofs.Common.{◌≡◌, ◌≢◌, ◌<◌, ℕ, true, false, cond, ◌||◌, eqb, nat_eq, List, [], ◌∷◌, Option, Some, None, refl, sym, ap, ◌∙◌, arith, ◌⊎◌, inl, inr}
use Rattle.std.proofs.lemmas.Bool.{cases_eq, eq-eqb, ne_eqb}
use Rattle.std.specs.List.{list_any}
use Rattle.std.specs.Option.{option_map_or}
use Rattle.wm_tree.proofs.Paths.{path_in-there, path_in-none, version_in-zero, not_on_path, found}
use Rattle.wm_tree.specs.Versions.{version_in, parent_in, path_in, shared_of, IsTree}
use Rattle.wm_tree.specs.declared.version.Version.{Version}

-- one step up a path
pub record Step (vs : List Version) (v p : ℕ) : Type 0 where
  pub less : 0 < v → p < v
  pub path : (path_in vs v ≡ v ∷ path_in vs p) ⊎ ((path_in vs v ≡ []) × (path_in vs p ≡ []))

pub step : (vs : List Version) (v : ℕ) → IsTree vs → Step vs v (parent_in vs v)
step vs v tree = by_version (version_in vs v) refl
  where
    by_version : (o : Option Version) → version_in vs v ≡ o → Step vs v (parent_in vs v)
    by_version None none =
        let parent : parent_in vs v ≡ 0 = ap (λ o. option_map_or (λ (x : Version). x.parent) o 0) none in
        rw parent (record { less = λ some. some; path = inr (path_in-none vs v none, path_in-none vs 0 (version_in-zero vs tree)) })
    by_version (Some x) there =
        let parent : parent_in vs v ≡ x.parent = ap (λ o. option_map_or (λ (y : Version). y.parent) o 0) there in
        rw parent (record { less = λ some. (found vs v x tree there).parent; path = inl (path_in-there vs v x tree there) })

-- a number that is not on the first path makes no difference on the second
shared_of-without : (xs ws : List ℕ) (w : ℕ) → list_any (nat_eq w) xs ≡ false → shared_of xs (w ∷ ws) ≡ shared_of xs ws
shared_of-without [] ws w away = refl
shared_of-without (x ∷ xs) ws w away = by_test (cases_eq w x) (shared_of-without xs ws w)
  where
    by_test : (w ≡ x) ⊎ (w ≢ x) → (list_any (nat_eq w) xs ≡ false → shared_of xs (w ∷ ws) ≡ shared_of xs ws) → shared_of (x ∷ xs) (w ∷ ws) ≡ shared_of (x ∷ xs) ws
    by_test (inl same) rest = absurd (let e : eqb w x ≡ true = eq-eqb w x same in let f : (true || list_any (nat_eq w) xs) ≡ false = ap (λ b. b || list_any (nat_eq w) xs) (sym e) ∙ away in cc)
    by_test (inr other) rest =
        let e : eqb w x ≡ false = ne_eqb w x other in
        let f : eqb x w ≡ false = ne_eqb x w (λ same. other (sym same)) in
        ap (λ b. cond (b || list_any (nat_eq x) ws) x (shared_of xs (w ∷ ws))) f
        ∙ ap (λ v. cond (list_any (nat_eq x) ws) x v) (rest (sym (ap (λ b. b || list_any (nat_eq w) xs) e) ∙ away))

-- going up from the greater of the two leaves what they share
pub shared_of-left : (vs : List Version) (v w p : ℕ) → IsTree vs → w < v → p ≡ parent_in vs v → shared_of (path_in vs p) (path_in vs w) ≡ shared_of (path_in vs v) (path_in vs w)
shared_of-left vs v w p tree less is = rw is (by_path (step vs v tree).path)
  where
    by_path : (path_in vs v ≡ v ∷ path_in vs (parent_in vs v)) ⊎ ((path_in vs v ≡ []) × (path_in vs (parent_in vs v) ≡ []))
        → shared_of (path_in vs (parent_in vs v)) (path_in vs w) ≡ shared_of (path_in vs v) (path_in vs w)
    by_path (inl goes) =
        sym (ap (λ l. shared_of l (path_in vs w)) goes ∙ ap (λ b. cond b v (shared_of (path_in vs (parent_in vs v)) (path_in vs w))) (not_on_path vs w v tree less))
    by_path (inr ends) = ap (λ l. shared_of l (path_in vs w)) ends.1 ∙ sym (ap (λ l. shared_of l (path_in vs w)) ends.0)

pub shared_of-right : (vs : List Version) (v w p : ℕ) → IsTree vs → v < w → p ≡ parent_in vs w → shared_of (path_in vs v) (path_in vs p) ≡ shared_of (path_in vs v) (path_in vs w)
shared_of-right vs v w p tree less is = rw is (by_path (step vs w tree).path)
  where
    by_path : (path_in vs w ≡ w ∷ path_in vs (parent_in vs w)) ⊎ ((path_in vs w ≡ []) × (path_in vs (parent_in vs w) ≡ []))
        → shared_of (path_in vs v) (path_in vs (parent_in vs w)) ≡ shared_of (path_in vs v) (path_in vs w)
    by_path (inl goes) = sym (ap (shared_of (path_in vs v)) goes ∙ shared_of-without (path_in vs v) (path_in vs (parent_in vs w)) w (not_on_path vs v w tree less))
    by_path (inr ends) = ap (shared_of (path_in vs v)) ends.1 ∙ sym (ap (shared_of (path_in vs v)) ends.0)

-- where the two are one, they share it if it is there
pub shared_of-same : (vs : List Version) (v : ℕ) (x : Version) → IsTree vs → version_in vs v ≡ Some x → shared_of (path_in vs v) (path_in vs v) ≡ v
shared_of-same vs v x tree there =
    let goes = path_in-there vs v x tree there in
    rw goes (ap (λ b. cond (b || list_any (nat_eq v) (path_in vs x.parent)) v (shared_of (path_in vs x.parent) (v ∷ path_in vs x.parent))) (eq-eqb v v refl))

pub shared_of-none : (vs : List Version) (v : ℕ) → version_in vs v ≡ None → shared_of (path_in vs v) (path_in vs v) ≡ 0
shared_of-none vs v none = rw (path_in-none vs v none) refl

-- the step up makes the greater number smaller
pub step_less : (vs : List Version) (v w p : ℕ) → IsTree vs → w < v → p ≡ parent_in vs v → p < v
step_less vs v w p tree less is = rw is ((step vs v tree).less (omega arith))
