-- A version more in a tree.
use Rattle.std.proofs.Common.{◌≡◌, ◌≢◌, ◌<◌, ◌≤◌, ℕ, Bool, true, false, cond, eqb, List, [], ◌∷◌, Option, Some, None, refl, sym, ap, ◌∙◌, subst, arith, ◌⊎◌, inl, inr, max}
use Rattle.std.proofs.lemmas.Bool.{cases_lt, cases_eq, lt-ltb, le-ltb, eq-eqb, ne_eqb, eqb-true}
use Rattle.std.specs.Option.{IsSome}
use Rattle.wm_tree.proofs.Paths.{version_in-here, version_in-away, path_in-here, path_in-away, latest_in-here, latest_in-away, latest_in-below, AllBelow-more}
use Rattle.wm_tree.specs.Versions.{version_in, path_in, latest_in, grow, AllBelow, IsTree}
use Rattle.wm_tree.specs.declared.version.Version.{Version}

-- ---- where it goes

pub grow-front : (x y : Version) (older : List Version) → y.number < x.number → grow x (y ∷ older) ≡ x ∷ y ∷ older
grow-front x y older less = ap (λ b. cond b (x ∷ y ∷ older) (y ∷ grow x older)) (lt-ltb _ _ less)

pub grow-later : (x y : Version) (older : List Version) → x.number ≤ y.number → grow x (y ∷ older) ≡ y ∷ grow x older
grow-later x y older more = ap (λ b. cond b (x ∷ y ∷ older) (y ∷ grow x older)) (le-ltb _ _ more)

-- a number that is not there is not that of the newest, nor of an older one
record Absent (y : Version) (older : List Version) (n : ℕ) : Type 0 where
  first : y.number ≢ n
  rest : version_in older n ≡ None

absent : (y : Version) (older : List Version) (n : ℕ) → version_in (y ∷ older) n ≡ None → Absent y older n
absent y older n none =
    let first : y.number ≢ n = λ here. absurd (let there = version_in-here y older n here in cc) in
    record { first = first; rest = sym (version_in-away y older n first) ∙ none }

-- ---- looking up

swap_cond : (b c : Bool) (x y : Option Version) (rest : Option Version) → (b ≡ true → c ≡ false) → cond b y (cond c x rest) ≡ cond c x (cond b y rest)
swap_cond true true x y rest apart = absurd (let e = apart refl in cc)
swap_cond true false x y rest apart = refl
swap_cond false c x y rest apart = refl

-- the new version is there, and each other is as before
pub version_in-grow : (x : Version) (vs : List Version) (n : ℕ) → version_in vs x.number ≡ None
    → version_in (grow x vs) n ≡ cond (eqb x.number n) (Some x) (version_in vs n)
version_in-grow x [] n fresh = refl
version_in-grow x (y ∷ older) n fresh = by_place (cases_lt y.number x.number) (version_in-grow x older n (absent y older x.number fresh).rest)
  where
    by_place : (y.number < x.number) ⊎ (x.number ≤ y.number) → version_in (grow x older) n ≡ cond (eqb x.number n) (Some x) (version_in older n)
        → version_in (grow x (y ∷ older)) n ≡ cond (eqb x.number n) (Some x) (version_in (y ∷ older) n)
    by_place (inl less) rest = ap (λ l. version_in l n) (grow-front x y older less)
    by_place (inr more) rest =
        let apart = (absent y older x.number fresh).first in
        ap (λ l. version_in l n) (grow-later x y older more)
        ∙ ap (λ v. cond (eqb y.number n) (Some y) v) rest
        ∙ swap_cond (eqb y.number n) (eqb x.number n) (Some x) (Some y) (version_in older n)
        (λ here. ne_eqb x.number n (λ same. apart (eqb-true y.number n here ∙ sym same)))

-- ---- the tree

pub AllBelow-grow : (x : Version) (vs : List Version) (n : ℕ) → x.number < n → AllBelow n vs → AllBelow n (grow x vs)
AllBelow-grow x [] n less below = (less, tt)
AllBelow-grow x (y ∷ older) n less below = by_place (cases_lt y.number x.number) (AllBelow-grow x older n less below.1)
  where
    by_place : (y.number < x.number) ⊎ (x.number ≤ y.number) → AllBelow n (grow x older) → AllBelow n (grow x (y ∷ older))
    by_place (inl front) rest = rw (grow-front x y older front) (less, below)
    by_place (inr more) rest = rw (grow-later x y older more) (below.0, rest)

kept_there : (x : Version) (vs : List Version) (n : ℕ) → version_in vs x.number ≡ None → IsSome (version_in vs n) → IsSome (version_in (grow x vs) n)
kept_there x vs n fresh there = rw (version_in-grow x vs n fresh) (either (eqb x.number n) (version_in vs n) there)
  where
    either : (b : Bool) (o : Option Version) → IsSome o → IsSome (cond b (Some x) o)
    either true o some = refl
    either false o some = some

-- what may stand under what is there
pub record MayGrow (x : Version) (vs : List Version) : Type 0 where
  pub named : 0 < x.number
  pub fresh : version_in vs x.number ≡ None
  pub older : x.parent < x.number
  pub under : x.parent ≢ 0 → IsSome (version_in vs x.parent)

-- a version that comes later than the newest may stand under the older ones
later : (x y : Version) (rest : List Version) → MayGrow x (y ∷ rest) → x.number ≤ y.number → MayGrow x rest
later x y rest may more =
    let less = may.older in
    record {
      named = may.named;
      fresh = (absent y rest x.number may.fresh).rest;
      older = may.older;
      under = λ some. subst IsSome (version_in-away y rest x.parent (λ e. absurd (omega arith))) (may.under some);
    }

pub IsTree-grow : (x : Version) (vs : List Version) → IsTree vs → MayGrow x vs → IsTree (grow x vs)
IsTree-grow x [] tree may = (may.named, tt, may.under, tt)
IsTree-grow x (y ∷ older) tree may = by_place (cases_lt y.number x.number) (λ more. IsTree-grow x older tree.3 (later x y older may more))
  where
    by_place : (y.number < x.number) ⊎ (x.number ≤ y.number) → (x.number ≤ y.number → IsTree (grow x older)) → IsTree (grow x (y ∷ older))
    by_place (inl less) rest =
        rw (grow-front x y older less) (may.named, (less, AllBelow-more y.number x.number older (omega arith) tree.1), may.under, tree)
    by_place (inr more) rest =
        let gone = absent y older x.number may.fresh in
        let apart : x.number ≢ y.number = λ e. gone.first (sym e) in
        rw (grow-later x y older more)
        (tree.0, AllBelow-grow x older y.number (omega arith) tree.1, (λ some. kept_there x older y.parent gone.rest (tree.2 some)), rest more)

-- ---- paths

-- the path of the new version goes on from its parent
pub path_in-grow_new : (x : Version) (vs : List Version) → IsTree vs → MayGrow x vs → path_in (grow x vs) x.number ≡ x.number ∷ path_in vs x.parent
path_in-grow_new x [] tree may = path_in-here x [] x.number refl
path_in-grow_new x (y ∷ older) tree may = by_place (cases_lt y.number x.number) (λ more. path_in-grow_new x older tree.3 (later x y older may more))
  where
    by_place : (y.number < x.number) ⊎ (x.number ≤ y.number) → (x.number ≤ y.number → path_in (grow x older) x.number ≡ x.number ∷ path_in older x.parent)
        → path_in (grow x (y ∷ older)) x.number ≡ x.number ∷ path_in (y ∷ older) x.parent
    by_place (inl less) rest = ap (λ l. path_in l x.number) (grow-front x y older less) ∙ path_in-here x (y ∷ older) x.number refl
    by_place (inr more) rest =
        let less = may.older in
        ap (λ l. path_in l x.number) (grow-later x y older more)
        ∙ path_in-away y (grow x older) x.number (absent y older x.number may.fresh).first
        ∙ rest more
        ∙ ap (λ l. x.number ∷ l) (sym (path_in-away y older x.parent (λ e. absurd (omega arith))))

-- each other version has the path that it had
pub path_in-grow : (x : Version) (vs : List Version) (n : ℕ) → IsTree vs → MayGrow x vs → n ≢ x.number → path_in (grow x vs) n ≡ path_in vs n
path_in-grow x [] n tree may other = path_in-away x [] n (λ e. other (sym e))
path_in-grow x (y ∷ older) n tree may other =
    by_place (cases_lt y.number x.number) (λ m more apart. path_in-grow x older m tree.3 (later x y older may more) apart)
  where
    -- the parent of an older version is not the new one
    not_new : (p : ℕ) → (p ≢ 0 → IsSome (version_in older p)) → version_in older x.number ≡ None → p ≢ x.number
    not_new p there fresh same =
        let some = may.named in
        let old : IsSome (version_in older p) = there (λ zero_is. absurd (omega arith)) in
        absurd (let k : IsSome (version_in older x.number) = subst (λ m. IsSome (version_in older m)) same old in cc)

    by_number : (y.number ≡ n) ⊎ (y.number ≢ n) → ((m : ℕ) → m ≢ x.number → path_in (grow x older) m ≡ path_in older m) → path_in (y ∷ grow x older) n ≡ path_in (y ∷ older) n
    by_number (inl here) rest =
        path_in-here y (grow x older) n here
        ∙ ap (λ l. n ∷ l) (rest y.parent (not_new y.parent tree.2 (absent y older x.number may.fresh).rest))
        ∙ sym (path_in-here y older n here)
    by_number (inr away) rest = path_in-away y (grow x older) n away ∙ rest n other ∙ sym (path_in-away y older n away)

    by_place : (y.number < x.number) ⊎ (x.number ≤ y.number) → ((m : ℕ) → x.number ≤ y.number → m ≢ x.number → path_in (grow x older) m ≡ path_in older m)
        → path_in (grow x (y ∷ older)) n ≡ path_in (y ∷ older) n
    by_place (inl less) rest = ap (λ l. path_in l n) (grow-front x y older less) ∙ path_in-away x (y ∷ older) n (λ e. other (sym e))
    by_place (inr more) rest = ap (λ l. path_in l n) (grow-later x y older more) ∙ by_number (cases_eq y.number n) (λ m apart. rest m more apart)

-- ---- newest versions

-- the newest version of the new one's space is the greater of the two, and of each other space the one that it was
pub latest_in-grow : (x : Version) (vs : List Version) (s : ℕ) → IsTree vs → latest_in (grow x vs) s ≡ cond (eqb x.space s) (max x.number (latest_in vs s)) (latest_in vs s)
latest_in-grow x [] s tree = ap (λ n. cond (eqb x.space s) n 0) (omega arith)
latest_in-grow x (y ∷ older) s tree = by_place (cases_lt y.number x.number) (latest_in-grow x older s tree.3)
  where
    by_space : (y.space ≡ s) ⊎ (y.space ≢ s) → x.number ≤ y.number → latest_in (grow x older) s ≡ cond (eqb x.space s) (max x.number (latest_in older s)) (latest_in older s)
        → latest_in (y ∷ grow x older) s ≡ cond (eqb x.space s) (max x.number (latest_in (y ∷ older) s)) (latest_in (y ∷ older) s)
    by_space (inl here) more rest =
        rw (latest_in-here y (grow x older) s here, latest_in-here y older s here) (same_cond (eqb x.space s))
      where
        same_cond : (b : Bool) → y.number ≡ cond b (max x.number y.number) y.number
        same_cond true = omega arith
        same_cond false = refl
    by_space (inr away) more rest = rw (latest_in-away y (grow x older) s away, latest_in-away y older s away) rest

    by_place : (y.number < x.number) ⊎ (x.number ≤ y.number) → latest_in (grow x older) s ≡ cond (eqb x.space s) (max x.number (latest_in older s)) (latest_in older s)
        → latest_in (grow x (y ∷ older)) s ≡ cond (eqb x.space s) (max x.number (latest_in (y ∷ older) s)) (latest_in (y ∷ older) s)
    by_place (inl less) rest =
        let below : AllBelow x.number (y ∷ older) = (less, AllBelow-more y.number x.number older (omega arith) tree.1) in
        let small : latest_in (y ∷ older) s < x.number = latest_in-below x.number (y ∷ older) s (omega arith) below in
        let greater : x.number ≡ max x.number (latest_in (y ∷ older) s) = omega arith in
        ap (λ l. latest_in l s) (grow-front x y older less) ∙ ap (λ n. cond (eqb x.space s) n (latest_in (y ∷ older) s)) greater
    by_place (inr more) rest = ap (λ l. latest_in l s) (grow-later x y older more) ∙ by_space (cases_eq y.space s) more rest

-- numbers that tell the newest version of each space tell it again once that of the new one's space is set
pub latest_told : (x : Version) (vs : List Version) (told : ℕ → ℕ) (n s : ℕ) → IsTree vs → ((m : ℕ) → told m ≡ latest_in vs m) → n ≡ max (told x.space) x.number
    → cond (eqb s x.space) n (told s) ≡ latest_in (grow x vs) s
latest_told x vs told n s tree tells is = by_space (cases_eq s x.space)
  where
    by_space : (s ≡ x.space) ⊎ (s ≢ x.space) → cond (eqb s x.space) n (told s) ≡ latest_in (grow x vs) s
    by_space (inl same) =
        let here : eqb x.space s ≡ true = eq-eqb x.space s (sym same) in
        let kept : told x.space ≡ latest_in vs s = tells x.space ∙ ap (latest_in vs) (sym same) in
        let greatest : n ≡ max x.number (latest_in vs s) = omega arith in
        ap (λ b. cond b n (told s)) (eq-eqb s x.space same)
        ∙ greatest
        ∙ sym (latest_in-grow x vs s tree ∙ ap (λ b. cond b (max x.number (latest_in vs s)) (latest_in vs s)) here)
    by_space (inr other) =
        let away : eqb x.space s ≡ false = ne_eqb x.space s (λ e. other (sym e)) in
        ap (λ b. cond b n (told s)) (ne_eqb s x.space other)
        ∙ tells s
        ∙ sym (latest_in-grow x vs s tree ∙ ap (λ b. cond b (max x.number (latest_in vs s)) (latest_in vs s)) away)
