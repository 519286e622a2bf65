-- Versions, paths and newest versions, where one is added and where those of a space are dropped.
use Rattle.std.proofs.Common.{◌≡◌, ◌≢◌, ◌<◌, ◌≤◌, ℕ, false, cond, ◌||◌, nat_eq, eqb, List, [], ◌∷◌, Option, Some, None, refl, sym, ap, ◌∙◌, subst, arith, ◌⊎◌, inl, inr, length}
use Rattle.std.proofs.lemmas.Bool.{cases_eq, eq-eqb, ne_eqb}
use Rattle.std.proofs.lemmas.Option.{same_Some}
use Rattle.std.specs.List.{list_any}
use Rattle.std.specs.Option.{IsSome, IfSome, IfNone}
use Rattle.wm_tree.specs.Versions.{version_in, path_in, latest_in, AllBelow, IsTree}
use Rattle.wm_tree.specs.declared.version.Version.{Version}

-- ---- one version more

pub version_in-here : (x : Version) (older : List Version) (n : ℕ) → x.number ≡ n → version_in (x ∷ older) n ≡ Some x
version_in-here x older n e = ap (λ b. cond b (Some x) (version_in older n)) (eq-eqb _ _ e)

pub version_in-away : (x : Version) (older : List Version) (n : ℕ) → x.number ≢ n → version_in (x ∷ older) n ≡ version_in older n
version_in-away x older n e = ap (λ b. cond b (Some x) (version_in older n)) (ne_eqb _ _ e)

pub path_in-here : (x : Version) (older : List Version) (n : ℕ) → x.number ≡ n → path_in (x ∷ older) n ≡ n ∷ path_in older x.parent
path_in-here x older n e = ap (λ b. cond b (n ∷ path_in older x.parent) (path_in older n)) (eq-eqb _ _ e)

pub path_in-away : (x : Version) (older : List Version) (n : ℕ) → x.number ≢ n → path_in (x ∷ older) n ≡ path_in older n
path_in-away x older n e = ap (λ b. cond b (n ∷ path_in older x.parent) (path_in older n)) (ne_eqb _ _ e)

pub latest_in-here : (x : Version) (older : List Version) (s : ℕ) → x.space ≡ s → latest_in (x ∷ older) s ≡ x.number
latest_in-here x older s e = ap (λ b. cond b x.number (latest_in older s)) (eq-eqb _ _ e)

pub latest_in-away : (x : Version) (older : List Version) (s : ℕ) → x.space ≢ s → latest_in (x ∷ older) s ≡ latest_in older s
latest_in-away x older s e = ap (λ b. cond b x.number (latest_in older s)) (ne_eqb _ _ e)

-- ---- numbers

pub AllBelow-more : (m n : ℕ) (vs : List Version) → m ≤ n → AllBelow m vs → AllBelow n vs
AllBelow-more m n [] less below = tt
AllBelow-more m n (x ∷ older) less below = (omega (arith, below.0), AllBelow-more m n older less below.1)

-- a version that is there has a number below what all are below
pub version_in-below : (n : ℕ) (vs : List Version) (m : ℕ) → AllBelow n vs → IsSome (version_in vs m) → m < n
version_in-below n [] m below there = cc
version_in-below n (x ∷ older) m below there = by_number (cases_eq x.number m) (λ away. version_in-below n older m below.1 (subst IsSome (version_in-away x older m away) there))
  where
    by_number : (x.number ≡ m) ⊎ (x.number ≢ m) → (x.number ≢ m → m < n) → m < n
    by_number (inl here) rest = omega (arith, below.0)
    by_number (inr away) rest = rest away

-- none has a number that all are below
pub version_in-above : (n : ℕ) (vs : List Version) (m : ℕ) → AllBelow n vs → n ≤ m → version_in vs m ≡ None
version_in-above n [] m below above = refl
version_in-above n (x ∷ older) m below above =
    let less = below.0 in
    version_in-away x older m (λ e. absurd (omega arith)) ∙ version_in-above n older m below.1 above

-- the newest version of a space is below too
pub latest_in-below : (n : ℕ) (vs : List Version) (s : ℕ) → 0 < n → AllBelow n vs → latest_in vs s < n
latest_in-below n [] s some below = some
latest_in-below n (x ∷ older) s some below = by_space (cases_eq x.space s) (latest_in-below n older s some below.1)
  where
    by_space : (x.space ≡ s) ⊎ (x.space ≢ s) → latest_in older s < n → latest_in (x ∷ older) s < n
    by_space (inl here) rest = rw (latest_in-here x older s here) below.0
    by_space (inr away) rest = rw (latest_in-away x older s away) rest

-- ---- paths

-- a parent is older than what stands under it
pub parent_older : (x : Version) (older : List Version) → IsTree (x ∷ older) → x.parent < x.number
parent_older x older tree = by_root (cases_eq x.parent 0)
  where
    by_root : (x.parent ≡ 0) ⊎ (x.parent ≢ 0) → x.parent < x.number
    by_root (inl root) = omega (arith, tree.0)
    by_root (inr under) = version_in-below x.number older x.parent tree.1 (tree.2 under)

-- a version that is there has the number sought, and its parent a smaller one
pub record Found (n : ℕ) (y : Version) : Type 0 where
  pub number : y.number ≡ n
  pub parent : y.parent < n

pub found : (vs : List Version) (n : ℕ) (y : Version) → IsTree vs → version_in vs n ≡ Some y → Found n y
found [] n y tree there = cc
found (x ∷ older) n y tree there = by_number (cases_eq x.number n) (λ below. found older n y tree.3 below)
  where
    by_number : (x.number ≡ n) ⊎ (x.number ≢ n) → (version_in older n ≡ Some y → Found n y) → Found n y
    by_number (inl here) rest =
        let same : x ≡ y = same_Some x y (sym (version_in-here x older n here) ∙ there) in
        subst (Found n) same (record { number = here; parent = omega (arith, parent_older x older tree) })
    by_number (inr away) rest = rest (sym (version_in-away x older n away) ∙ there)

-- the path of a version that is there goes on from its parent
pub path_in-there : (vs : List Version) (n : ℕ) (y : Version) → IsTree vs → version_in vs n ≡ Some y → path_in vs n ≡ n ∷ path_in vs y.parent
path_in-there [] n y tree there = cc
path_in-there (x ∷ older) n y tree there = by_number (cases_eq x.number n) (λ below. path_in-there older n y tree.3 below)
  where
    by_number : (x.number ≡ n) ⊎ (x.number ≢ n) → (version_in older n ≡ Some y → path_in older n ≡ n ∷ path_in older y.parent) → path_in (x ∷ older) n ≡ n ∷ path_in (x ∷ older) y.parent
    by_number (inl here) rest =
        let same : x ≡ y = same_Some x y (sym (version_in-here x older n here) ∙ there) in
        let less = parent_older x older tree in
        path_in-here x older n here
        ∙ ap (λ l. n ∷ l) (sym (path_in-away x older x.parent (λ e. absurd (omega arith))))
        ∙ ap (λ z. n ∷ path_in (x ∷ older) z.parent) same
    by_number (inr away) rest =
        let below : version_in older n ≡ Some y = sym (version_in-away x older n away) ∙ there in
        let less : n < x.number = version_in-below x.number older n tree.1 (rw below refl) in
        let parent = (found older n y tree.3 below).parent in
        path_in-away x older n away ∙ rest below ∙ ap (λ l. n ∷ l) (sym (path_in-away x older y.parent (λ e. absurd (omega arith))))

-- a version that is not there has no path
pub path_in-none : (vs : List Version) (n : ℕ) → version_in vs n ≡ None → path_in vs n ≡ []
path_in-none [] n none = refl
path_in-none (x ∷ older) n none = by_number (cases_eq x.number n) (λ below. path_in-none older n below)
  where
    by_number : (x.number ≡ n) ⊎ (x.number ≢ n) → (version_in older n ≡ None → path_in older n ≡ []) → path_in (x ∷ older) n ≡ []
    by_number (inl here) rest = absurd (let there = version_in-here x older n here in cc)
    by_number (inr away) rest = path_in-away x older n away ∙ rest (sym (version_in-away x older n away) ∙ none)

-- no version has the number 0
pub version_in-zero : (vs : List Version) → IsTree vs → version_in vs 0 ≡ None
version_in-zero [] tree = refl
version_in-zero (x ∷ older) tree = let some = tree.0 in version_in-away x older 0 (λ e. absurd (omega arith)) ∙ version_in-zero older tree.3

-- on a path there are no greater numbers than its first
pub not_on_path : (vs : List Version) (w v : ℕ) → IsTree vs → w < v → list_any (nat_eq v) (path_in vs w) ≡ false
not_on_path [] w v tree less = refl
not_on_path (x ∷ older) w v tree less =
    by_number (cases_eq x.number w) (not_on_path older w v tree.3 less) (λ first. not_on_path older x.parent v tree.3 first)
  where
    by_number : (x.number ≡ w) ⊎ (x.number ≢ w) → list_any (nat_eq v) (path_in older w) ≡ false → (x.parent < v → list_any (nat_eq v) (path_in older x.parent) ≡ false)
        → list_any (nat_eq v) (path_in (x ∷ older) w) ≡ false
    by_number (inl here) rest parent =
        let other : eqb v w ≡ false = ne_eqb v w (λ e. absurd (omega arith)) in
        let smaller = parent_older x older tree in
        ap (list_any (nat_eq v)) (path_in-here x older w here) ∙ ap (λ b. b || list_any (nat_eq v) (path_in older x.parent)) other ∙ parent (omega arith)
    by_number (inr away) rest parent = ap (list_any (nat_eq v)) (path_in-away x older w away) ∙ rest

-- the same of an answer
pub path_told : (vs : List Version) (n : ℕ) (answer : Option Version) → IsTree vs → answer ≡ version_in vs n → IfSome answer (λ x. path_in vs n ≡ x.number ∷ path_in vs x.parent)
path_told vs n None tree is = tt
path_told vs n (Some x) tree is =
    path_in-there vs n x tree (sym is) ∙ ap (λ m. m ∷ path_in vs x.parent) (sym (found vs n x tree (sym is)).number)

pub no_path_told : (vs : List Version) (n : ℕ) (answer : Option Version) → answer ≡ version_in vs n → IfNone answer (path_in vs n ≡ [])
no_path_told vs n None is = path_in-none vs n (sym is)
no_path_told vs n (Some x) is = tt

-- what is left of a path after its first
pub shorter_tail : (x : ℕ) (xs ys : List ℕ) → ys ≡ x ∷ xs → length xs < length ys
shorter_tail x xs ys is = omega (arith, ap length is)
