-- Versions that rise: one is sought, and what it has is changed.
use Rattle.std.proofs.Common.{◌≡◌, ℕ, zero, suc, ◌<◌, ◌≤◌, ◌+◌, ◌-◌, ◌==◌, Bool, true, false, cond, List, [], ◌∷◌, length, get_or, insert, remove, Result, Ok, Err, IfOk, IfErr, refl, sym, ap, subst, ◌∙◌, arith}
use Rattle.std.proofs.Math.ListN.{set}
use Rattle.std.proofs.lemmas.Bool.{eq-eqb, ne_eqb, eqb-true}
use Rattle.std.specs.List.{AllByRecursion}
use Rattle.std.specs.List.Sorted.{IsSearchInRange}
use Rattle.std.specs.Ordering.{match_ordering, nat_cmp}
use Rattle.std.specs.declared.cmp.Ordering.{Ordering}
use Rattle.std.specs.declared.cmp.Ordering.TheVariants.{Less, Equal, Greater}
use Rattle.wm_ids.specs.Ids.{placed, without}
use Rattle.wm_chunks.proofs.Rising.{from_less}
use Rattle.wm_chunks.specs.Rising.{FitsAt, StandsAt}
use Rattle.wm_ids.specs.Versioned.{AreSpanned, IsSpanned, VersionsFrom, entry_version, ids_under}
use Rattle.wm_ids.specs.declared.versioned.Versioned.{Versioned}
use Rattle.wm_spec.specs.declared.record.stored.Stored.{Stored}

-- ---- versions that rise

-- a version that all are above has no ids
pub none_from : (b v : ℕ) (es : List Versioned) → VersionsFrom b es → v < b → ids_under es v ≡ []
none_from b v [] up less = refl
none_from b v (e ∷ es) up less =
    let first = up.0 in
    ap (λ c. cond c e.ids (ids_under es v)) (ne_eqb e.version v (λ same. absurd (omega (arith, first, less, same)))) ∙ none_from (e.version + 1) v es up.1 (omega (arith, first, less))

-- ---- the last place, and the one before

pub last_place : (n : ℕ) (none : Bool) → none ≡ (n == 0) → none ≡ false → n - 1 + 1 ≡ n
last_place zero none test is = absurd (let both : true ≡ false = sym test ∙ is in cc)
last_place (suc n) none test is = omega arith

pub place_before : (i : ℕ) → (i ≡ 0 → ⊥) → i ≡ suc (i - 1)
place_before zero some = absurd (some refl)
place_before (suc i) some = omega arith

pub found_within : (n : ℕ) (r : Result ℕ ℕ) → IsSearchInRange r n → IfOk r (λ i. i < n) × IfErr r (λ i. i ≤ n)
found_within n (Ok i) within = (within, tt)
found_within n (Err i) within = (tt, within)

-- ---- the ids of a version

pub stands_under : (es : List Versioned) (v i : ℕ) (d : Versioned) → StandsAt entry_version v es i → ids_under es v ≡ (get_or es i d).ids
stands_under [] v i d at = absurd at
stands_under (e ∷ es) v zero d at = ap (λ c. cond c e.ids (ids_under es v)) (eq-eqb e.version v at)
stands_under (e ∷ es) v (suc i) d at =
    ap (λ c. cond c e.ids (ids_under es v)) (ne_eqb e.version v (λ same. absurd (let less = at.0 in omega (arith, less, same)))) ∙ stands_under es v i d at.1

pub fits_under : (b : ℕ) (es : List Versioned) (v i : ℕ) → FitsAt entry_version v es i → VersionsFrom b es → ids_under es v ≡ []
fits_under b [] v i at up = refl
fits_under b (e ∷ es) v zero at up =
    ap (λ c. cond c e.ids (ids_under es v)) (ne_eqb e.version v (λ same. absurd (omega (arith, at, same)))) ∙ none_from (e.version + 1) v es up.1 (omega (arith, at))
fits_under b (e ∷ es) v (suc i) at up =
    ap (λ c. cond c e.ids (ids_under es v)) (ne_eqb e.version v (λ same. absurd (let less = at.0 in omega (arith, less, same))))
    ∙ fits_under (e.version + 1) es v i at.1 up.1

-- a first version that is another's
away : (v w : ℕ) (xs ys : List ℕ) (e : Versioned) → e.version < v → (e.version == w) ≡ true → ys ≡ cond (v == w) xs ys
away v w xs ys e less is = sym (ap (λ c. cond c xs ys) (ne_eqb v w (λ same. absurd (let here = eqb-true e.version w is in omega (arith, less, here, same)))))

pub set_under : (es : List Versioned) (v i : ℕ) (new : Versioned) → StandsAt entry_version v es i → new.version ≡ v → (w : ℕ) → ids_under (set es i new) w ≡ cond (v == w) new.ids (ids_under es w)
set_under [] v i new at same w = absurd at
set_under (e ∷ es) v zero new at same w = ap (λ n. cond (n == w) new.ids (ids_under es w)) same ∙ by_test (v == w) refl
  where
    by_test : (b : Bool) → (v == w) ≡ b → cond b new.ids (ids_under es w) ≡ cond b new.ids (cond (e.version == w) e.ids (ids_under es w))
    by_test true is = refl
    by_test false is = sym (ap (λ n. cond (n == w) e.ids (ids_under es w)) at ∙ ap (λ c. cond c e.ids (ids_under es w)) is)
set_under (e ∷ es) v (suc i) new at same w = by_test (e.version == w) refl (set_under es v i new at.1 same w)
  where
    by_test : (b : Bool) → (e.version == w) ≡ b → ids_under (set es i new) w ≡ cond (v == w) new.ids (ids_under es w)
        → cond b e.ids (ids_under (set es i new) w) ≡ cond (v == w) new.ids (cond b e.ids (ids_under es w))
    by_test true is rest = away v w new.ids e.ids e at.0 is
    by_test false is rest = rest

pub insert_under : (es : List Versioned) (v i : ℕ) (new : Versioned) → FitsAt entry_version v es i → new.version ≡ v → (w : ℕ) → ids_under (insert es i new) w ≡ cond (v == w) new.ids (ids_under es w)
insert_under [] v zero new at same w = ap (λ n. cond (n == w) new.ids []) same
insert_under [] v (suc i) new at same w = absurd at
insert_under (e ∷ es) v zero new at same w = ap (λ n. cond (n == w) new.ids (ids_under (e ∷ es) w)) same
insert_under (e ∷ es) v (suc i) new at same w = by_test (e.version == w) refl (insert_under es v i new at.1 same w)
  where
    by_test : (b : Bool) → (e.version == w) ≡ b → ids_under (insert es i new) w ≡ cond (v == w) new.ids (ids_under es w)
        → cond b e.ids (ids_under (insert es i new) w) ≡ cond (v == w) new.ids (cond b e.ids (ids_under es w))
    by_test true is rest = away v w new.ids e.ids e at.0 is
    by_test false is rest = rest

pub remove_under : (b : ℕ) (es : List Versioned) (v i : ℕ) → StandsAt entry_version v es i → VersionsFrom b es → (w : ℕ) → ids_under (remove es i) w ≡ cond (v == w) [] (ids_under es w)
remove_under b [] v i at up w = absurd at
remove_under b (e ∷ es) v zero at up w = by_test (v == w) refl
  where
    by_test : (b : Bool) → (v == w) ≡ b → ids_under es w ≡ cond b [] (cond (e.version == w) e.ids (ids_under es w))
    by_test true is = none_from (e.version + 1) w es up.1 (let same = eqb-true v w is in omega (arith, at, same))
    by_test false is = sym (ap (λ n. cond (n == w) e.ids (ids_under es w)) at ∙ ap (λ c. cond c e.ids (ids_under es w)) is)
remove_under b (e ∷ es) v (suc i) at up w = by_test (e.version == w) refl (remove_under (e.version + 1) es v i at.1 up.1 w)
  where
    by_test : (b : Bool) → (e.version == w) ≡ b → ids_under (remove es i) w ≡ cond (v == w) [] (ids_under es w)
        → cond b e.ids (ids_under (remove es i) w) ≡ cond (v == w) [] (cond b e.ids (ids_under es w))
    by_test true is rest = away v w [] e.ids e at.0 is
    by_test false is rest = rest

-- ---- they rise as before

pub set_rises : (b : ℕ) (es : List Versioned) (v i : ℕ) (new : Versioned) → StandsAt entry_version v es i → new.version ≡ v → VersionsFrom b es → VersionsFrom b (set es i new)
set_rises b [] v i new at same up = absurd at
set_rises b (e ∷ es) v zero new at same up = subst (λ n. (b ≤ n) × VersionsFrom (n + 1) es) (at ∙ sym same) up
set_rises b (e ∷ es) v (suc i) new at same up = (up.0, set_rises (e.version + 1) es v i new at.1 same up.1)

pub insert_rises : (b : ℕ) (es : List Versioned) (v i : ℕ) (new : Versioned) → FitsAt entry_version v es i → new.version ≡ v → b ≤ v → VersionsFrom b es → VersionsFrom b (insert es i new)
insert_rises b [] v zero new at same more up = (omega (arith, same, more), tt)
insert_rises b [] v (suc i) new at same more up = absurd at
insert_rises b (e ∷ es) v zero new at same more up = (omega (arith, same, more), (omega (arith, at, same), up.1))
insert_rises b (e ∷ es) v (suc i) new at same more up = (up.0, insert_rises (e.version + 1) es v i new at.1 same (let less = at.0 in omega (arith, less)) up.1)

pub remove_rises : (b : ℕ) (es : List Versioned) (v i : ℕ) → StandsAt entry_version v es i → VersionsFrom b es → VersionsFrom b (remove es i)
remove_rises b [] v i at up = absurd at
remove_rises b (e ∷ es) v zero at up = from_less entry_version b (e.version + 1) es (let first = up.0 in omega (arith, first)) up.1
remove_rises b (e ∷ es) v (suc i) at up = (up.0, remove_rises (e.version + 1) es v i at.1 up.1)

-- ---- the periods hold the cells

pub All-weaker : {X : Type 0} (P Q : X → Type 0) (xs : List X) → ((x : X) → P x → Q x) → AllByRecursion P xs → AllByRecursion Q xs
All-weaker P Q [] weaker all = tt
All-weaker P Q (x ∷ xs) weaker all = (weaker x all.0, All-weaker P Q xs weaker all.1)

pub All-placed : (P : ℕ → Type 0) (id : ℕ) (xs : List ℕ) → P id → AllByRecursion P xs → AllByRecursion P (placed id xs)
All-placed P id [] new all = (new, tt)
All-placed P id (x ∷ xs) new all = by_order (nat_cmp id x) (All-placed P id xs new all.1)
  where
    by_order : (o : Ordering) → AllByRecursion P (placed id xs) → AllByRecursion P (match_ordering o (id ∷ x ∷ xs) (x ∷ xs) (x ∷ placed id xs))
    by_order Less rest = (new, all)
    by_order Equal rest = all
    by_order Greater rest = (all.0, rest)

pub All-without : (P : ℕ → Type 0) (id : ℕ) (xs : List ℕ) → AllByRecursion P xs → AllByRecursion P (without id xs)
All-without P id [] all = tt
All-without P id (x ∷ xs) all = by_test (x == id) (All-without P id xs all.1)
  where
    by_test : (b : Bool) → AllByRecursion P (without id xs) → AllByRecursion P (cond b xs (x ∷ without id xs))
    by_test true rest = all.1
    by_test false rest = (all.0, rest)

pub set_spanned : (ss : List Stored) (es : List Versioned) (i : ℕ) (d new : Versioned) → i < length es
    → (AllByRecursion (IsSpanned ss (get_or es i d).from (get_or es i d).till) (get_or es i d).ids → AllByRecursion (IsSpanned ss new.from new.till) new.ids)
    → AreSpanned ss es → AreSpanned ss (set es i new)
set_spanned ss [] i d new within grows all = absurd (omega (arith, within))
set_spanned ss (e ∷ es) zero d new within grows all = (grows all.0, all.1)
set_spanned ss (e ∷ es) (suc i) d new within grows all = (all.0, set_spanned ss es i d new (omega (arith, within)) grows all.1)

pub insert_spanned : (ss : List Stored) (es : List Versioned) (v i : ℕ) (new : Versioned) → FitsAt entry_version v es i → AllByRecursion (IsSpanned ss new.from new.till) new.ids → AreSpanned ss es → AreSpanned ss (insert es i new)
insert_spanned ss [] v zero new at spans all = (spans, tt)
insert_spanned ss [] v (suc i) new at spans all = absurd at
insert_spanned ss (e ∷ es) v zero new at spans all = (spans, all)
insert_spanned ss (e ∷ es) v (suc i) new at spans all = (all.0, insert_spanned ss es v i new at.1 spans all.1)

pub remove_spanned : (ss : List Stored) (es : List Versioned) (v i : ℕ) → StandsAt entry_version v es i → AreSpanned ss es → AreSpanned ss (remove es i)
remove_spanned ss [] v i at all = absurd at
remove_spanned ss (e ∷ es) v zero at all = all.1
remove_spanned ss (e ∷ es) v (suc i) at all = (all.0, remove_spanned ss es v i at.1 all.1)

pub remove-set : (es : List Versioned) (i : ℕ) (new : Versioned) → remove (set es i new) i ≡ remove es i
remove-set [] i new = refl
remove-set (e ∷ es) zero new = refl
remove-set (e ∷ es) (suc i) new = ap (λ l. e ∷ l) (remove-set es i new)
