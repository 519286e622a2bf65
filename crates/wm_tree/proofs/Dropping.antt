-- A tree without the versions of a space, under which no version of another space stands.
use Rattle.std.proofs.Common.{◌≡◌, ◌≢◌, ℕ, Bool, true, false, not, cond, eqb, List, [], ◌∷◌, Option, Some, None, refl, sym, ap, ◌∙◌, subst, ◌⊎◌, inl, inr}
use Rattle.std.proofs.lemmas.Bool.{cases_eq, eq-eqb, ne_eqb}
use Rattle.std.proofs.lemmas.Option.{same_Some}
use Rattle.std.specs.List.{filter}
use Rattle.std.specs.Option.{IsSome, IfSome, IsSomeAnd}
use Rattle.wm_tree.proofs.Paths.{version_in-here, version_in-away, path_in-here, path_in-away, path_in-none, latest_in-here, latest_in-away, version_in-zero}
use Rattle.wm_tree.specs.Versions.{version_in, path_in, latest_in, is_outside, NoneUnder, AllBelow, IsTree}
use Rattle.wm_tree.specs.declared.version.Version.{Version}

-- ---- which are left

filter-inside : (s : ℕ) (x : Version) (older : List Version) → x.space ≡ s → filter (is_outside s) (x ∷ older) ≡ filter (is_outside s) older
filter-inside s x older e = ap (λ b. cond (not b) (x ∷ filter (is_outside s) older) (filter (is_outside s) older)) (eq-eqb _ _ e)

filter-outside : (s : ℕ) (x : Version) (older : List Version) → x.space ≢ s → filter (is_outside s) (x ∷ older) ≡ x ∷ filter (is_outside s) older
filter-outside s x older e = ap (λ b. cond (not b) (x ∷ filter (is_outside s) older) (filter (is_outside s) older)) (ne_eqb _ _ e)

pub AllBelow-filter : (s n : ℕ) (vs : List Version) → AllBelow n vs → AllBelow n (filter (is_outside s) vs)
AllBelow-filter s n [] below = tt
AllBelow-filter s n (x ∷ older) below = by_space (cases_eq x.space s) (AllBelow-filter s n older below.1)
  where
    by_space : (x.space ≡ s) ⊎ (x.space ≢ s) → AllBelow n (filter (is_outside s) older) → AllBelow n (filter (is_outside s) (x ∷ older))
    by_space (inl inside) rest = rw (filter-inside s x older inside) rest
    by_space (inr outside) rest = rw (filter-outside s x older outside) (below.0, rest)

-- a version of another space is left
pub version_in-filter : (s : ℕ) (vs : List Version) (n : ℕ) (y : Version) → version_in vs n ≡ Some y → y.space ≢ s → version_in (filter (is_outside s) vs) n ≡ Some y
version_in-filter s [] n y there other = cc
version_in-filter s (x ∷ older) n y there other =
    by_number (cases_eq x.number n) (cases_eq x.space s) (λ below. version_in-filter s older n y below other)
  where
    by_number : (x.number ≡ n) ⊎ (x.number ≢ n) → (x.space ≡ s) ⊎ (x.space ≢ s) → (version_in older n ≡ Some y → version_in (filter (is_outside s) older) n ≡ Some y)
        → version_in (filter (is_outside s) (x ∷ older)) n ≡ Some y
    by_number (inl here) (inl inside) rest =
        let same : x ≡ y = same_Some x y (sym (version_in-here x older n here) ∙ there) in
        absurd (other (ap (λ (v : Version). v.space) (sym same) ∙ inside))
    by_number (inl here) (inr outside) rest =
        ap (λ l. version_in l n) (filter-outside s x older outside) ∙ version_in-here x (filter (is_outside s) older) n here ∙ sym (version_in-here x older n here) ∙ there
    by_number (inr away) (inl inside) rest =
        ap (λ l. version_in l n) (filter-inside s x older inside) ∙ rest (sym (version_in-away x older n away) ∙ there)
    by_number (inr away) (inr outside) rest =
        ap (λ l. version_in l n) (filter-outside s x older outside) ∙ version_in-away x (filter (is_outside s) older) n away ∙ rest (sym (version_in-away x older n away) ∙ there)

-- a parent that is there is of another space, and is left
parent_left : (s : ℕ) (vs : List Version) (p : ℕ) → IsSome (version_in vs p) → IfSome (version_in vs p) (λ y. y.space ≢ s) → IsSome (version_in (filter (is_outside s) vs) p)
parent_left s vs p there apart = by_parent (version_in vs p) refl there apart
  where
    by_parent : (o : Option Version) → version_in vs p ≡ o → IsSome o → IfSome o (λ y. y.space ≢ s) → IsSome (version_in (filter (is_outside s) vs) p)
    by_parent None e some other = cc
    by_parent (Some y) e some other = rw (version_in-filter s vs p y e other) refl

pub IsTree-filter : (s : ℕ) (vs : List Version) → IsTree vs → NoneUnder s vs → IsTree (filter (is_outside s) vs)
IsTree-filter s [] tree apart = tt
IsTree-filter s (x ∷ older) tree apart = by_space (cases_eq x.space s) (IsTree-filter s older tree.3 apart.1)
  where
    by_space : (x.space ≡ s) ⊎ (x.space ≢ s) → IsTree (filter (is_outside s) older) → IsTree (filter (is_outside s) (x ∷ older))
    by_space (inl inside) rest = rw (filter-inside s x older inside) rest
    by_space (inr outside) rest =
        rw (filter-outside s x older outside)
        (tree.0, AllBelow-filter s x.number older tree.1, (λ under. parent_left s older x.parent (tree.2 under) (apart.0 outside)), rest)

-- ---- paths

-- a version of another space has the path that it had
pub path_in-filter : (s : ℕ) (vs : List Version) (n : ℕ) → IsTree vs → NoneUnder s vs → IfSome (version_in vs n) (λ y. y.space ≢ s) → IsSome (version_in vs n)
    → path_in (filter (is_outside s) vs) n ≡ path_in vs n
path_in-filter s [] n tree apart other there = refl
path_in-filter s (x ∷ older) n tree apart other there =
    by_number (cases_eq x.number n) (cases_eq x.space s) (λ m. path_in-filter s older m tree.3 apart.1)
  where
    -- the path of the parent, which may be none
    parent_path : (p : ℕ) → (p ≢ 0 → IsSome (version_in older p)) → IfSome (version_in older p) (λ y. y.space ≢ s)
        → (IfSome (version_in older p) (λ y. y.space ≢ s) → IsSome (version_in older p) → path_in (filter (is_outside s) older) p ≡ path_in older p)
        → path_in (filter (is_outside s) older) p ≡ path_in older p
    parent_path p under away rest = by_root (cases_eq p 0)
      where
        by_root : (p ≡ 0) ⊎ (p ≢ 0) → path_in (filter (is_outside s) older) p ≡ path_in older p
        by_root (inl root) =
            rw root (path_in-none (filter (is_outside s) older) 0 (version_in-zero (filter (is_outside s) older) (IsTree-filter s older tree.3 apart.1)) ∙ sym (path_in-none older 0 (version_in-zero older tree.3)))
        by_root (inr some) = rest away (under some)

    by_number : (x.number ≡ n) ⊎ (x.number ≢ n) → (x.space ≡ s) ⊎ (x.space ≢ s)
        → ((m : ℕ) → IfSome (version_in older m) (λ y. y.space ≢ s) → IsSome (version_in older m) → path_in (filter (is_outside s) older) m ≡ path_in older m)
        → path_in (filter (is_outside s) (x ∷ older)) n ≡ path_in (x ∷ older) n
    by_number (inl here) (inl inside) rest =
        absurd (let P : Option Version → Type 0 = λ o. IfSome o (λ y. y.space ≢ s) in subst P (version_in-here x older n here) other inside)
    by_number (inl here) (inr outside) rest =
        ap (λ l. path_in l n) (filter-outside s x older outside)
        ∙ path_in-here x (filter (is_outside s) older) n here
        ∙ ap (λ l. n ∷ l) (parent_path x.parent tree.2 (apart.0 outside) (rest x.parent))
        ∙ sym (path_in-here x older n here)
    by_number (inr away) (inl inside) rest =
        let P : Option Version → Type 0 = λ o. IfSome o (λ y. y.space ≢ s) in
        ap (λ l. path_in l n) (filter-inside s x older inside)
        ∙ rest n (subst P (version_in-away x older n away) other) (subst IsSome (version_in-away x older n away) there)
        ∙ sym (path_in-away x older n away)
    by_number (inr away) (inr outside) rest =
        let P : Option Version → Type 0 = λ o. IfSome o (λ y. y.space ≢ s) in
        ap (λ l. path_in l n) (filter-outside s x older outside)
        ∙ path_in-away x (filter (is_outside s) older) n away
        ∙ rest n (subst P (version_in-away x older n away) other) (subst IsSome (version_in-away x older n away) there)
        ∙ sym (path_in-away x older n away)

-- ---- newest versions

-- the space has none, and each other space has the one that it had
pub latest_in-filter : (s : ℕ) (vs : List Version) (m : ℕ) → latest_in (filter (is_outside s) vs) m ≡ cond (eqb s m) 0 (latest_in vs m)
latest_in-filter s [] m = either_way (eqb s m) 0
  where
    either_way : (b : Bool) (z : ℕ) → z ≡ cond b z z
    either_way true z = refl
    either_way false z = refl
latest_in-filter s (x ∷ older) m = by_space (cases_eq x.space s) (cases_eq x.space m) (latest_in-filter s older m)
  where
    by_space : (x.space ≡ s) ⊎ (x.space ≢ s) → (x.space ≡ m) ⊎ (x.space ≢ m) → latest_in (filter (is_outside s) older) m ≡ cond (eqb s m) 0 (latest_in older m)
        → latest_in (filter (is_outside s) (x ∷ older)) m ≡ cond (eqb s m) 0 (latest_in (x ∷ older) m)
    by_space (inl inside) (inl mine) rest =
        let same : eqb s m ≡ true = eq-eqb s m (sym inside ∙ mine) in
        ap (λ l. latest_in l m) (filter-inside s x older inside) ∙ rest
        ∙ ap (λ b. cond b 0 (latest_in older m)) same ∙ sym (ap (λ b. cond b 0 (latest_in (x ∷ older) m)) same)
    by_space (inl inside) (inr away) rest =
        ap (λ l. latest_in l m) (filter-inside s x older inside) ∙ rest ∙ ap (cond (eqb s m) 0) (sym (latest_in-away x older m away))
    by_space (inr outside) (inl mine) rest =
        let other : eqb s m ≡ false = ne_eqb s m (λ e. outside (mine ∙ sym e)) in
        ap (λ l. latest_in l m) (filter-outside s x older outside)
        ∙ latest_in-here x (filter (is_outside s) older) m mine
        ∙ sym (latest_in-here x older m mine)
        ∙ ap (λ b. cond b 0 (latest_in (x ∷ older) m)) (sym other)
    by_space (inr outside) (inr away) rest =
        ap (λ l. latest_in l m) (filter-outside s x older outside)
        ∙ latest_in-away x (filter (is_outside s) older) m away ∙ rest ∙ ap (cond (eqb s m) 0) (sym (latest_in-away x older m away))

-- numbers that tell the newest version of each space tell it again once that of the space is cleared
pub latest_cleared : (space : ℕ) (vs : List Version) (told : ℕ → ℕ) (s : ℕ) → ((m : ℕ) → told m ≡ latest_in vs m)
    → cond (eqb s space) 0 (told s) ≡ latest_in (filter (is_outside space) vs) s
latest_cleared space vs told s tells =
    ap (cond (eqb s space) 0) (tells s) ∙ ap (λ b. cond b 0 (latest_in vs s)) (eqb_comm (cases_eq s space)) ∙ sym (latest_in-filter space vs s)
  where
    eqb_comm : (s ≡ space) ⊎ (s ≢ space) → eqb s space ≡ eqb space s
    eqb_comm (inl same) = eq-eqb s space same ∙ sym (eq-eqb space s (sym same))
    eqb_comm (inr other) = ne_eqb s space other ∙ sym (ne_eqb space s (λ e. other (sym e)))

-- the same, where the version is said to be there and of another space at once
pub path_in-filter_all : (s : ℕ) (vs : List Version) (n : ℕ) → IsTree vs → NoneUnder s vs → IsSomeAnd (version_in vs n) (λ y. y.space ≢ s)
    → path_in (filter (is_outside s) vs) n ≡ path_in vs n
path_in-filter_all s vs n tree apart outside =
    path_in-filter s vs n tree apart (both (version_in vs n) outside).0 (both (version_in vs n) outside).1
  where
    both : (o : Option Version) → IsSomeAnd o (λ y. y.space ≢ s) → IfSome o (λ y. y.space ≢ s) × IsSome o
    both None away = absurd away
    both (Some y) away = (away, refl)
