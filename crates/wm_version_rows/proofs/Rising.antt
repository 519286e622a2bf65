-- Versions that rise, gone through from the last.
use Rattle.std.proofs.Common.{◌≡◌, ℕ, zero, suc, ◌+◌, ◌<◌, ◌≤◌, nat_le, length, take, Bool, true, false, cond, List, [], ◌∷◌, ◌++◌, refl, sym, ap, ◌∙◌, arith}
use Rattle.std.specs.List.{AllByRecursion, filter}
use Rattle.std.specs.List.Sorted.{IsNonDecreasingBy, IsPartitionPoint}
use Rattle.wm_version_rows.specs.Laying.{up_to}
use Rattle.wm_ids.specs.Versioned.{AreSpanned, Encloses, IsSpanned, VersionsFrom, Widens, entry_version}
use Rattle.wm_ids.specs.declared.versioned.Versioned.{Versioned}
use Rattle.wm_chunks.proofs.Rising.{from_at, from_less}
use Rattle.wm_spec.specs.declared.record.stored.Stored.{Stored}

-- ---- the last, and those before

pub all_last : (P : Versioned → Type 0) (xs : List Versioned) (e : Versioned) → AllByRecursion P (xs ++ e ∷ []) → AllByRecursion P xs × P e
all_last P [] e all = (tt, all.0)
all_last P (x ∷ xs) e all = let rest = all_last P xs e all.1 in ((all.0, rest.0), rest.1)

-- the last is newer than all before, which rise
pub last_newest : (b : ℕ) (xs : List Versioned) (e : Versioned) → VersionsFrom b (xs ++ e ∷ []) → (b ≤ e.version) × AllByRecursion (λ (d : Versioned). d.version < e.version) xs × VersionsFrom b xs
last_newest b [] e up = (up.0, tt, tt)
last_newest b (x ∷ xs) e up =
    let rest = last_newest (x.version + 1) xs e up.1 in
    let first = up.0 in
    let more = rest.0 in
    (omega (arith, first, more), (omega (arith, more), rest.1), (first, rest.2))

-- the period of the last holds those of all before
pub last_widest : (xs : List Versioned) (e : Versioned) → Widens (xs ++ e ∷ []) → AllByRecursion (Encloses e) xs × Widens xs
last_widest [] e wide = (tt, tt)
last_widest (x ∷ xs) e wide =
    let rest = last_widest xs e wide.1 in
    let first = all_last (λ (d : Versioned). Encloses d x) xs e wide.0 in
    ((first.1, rest.0), (first.0, rest.1))

-- the cells of its pieces lie in its own, and so it is with those before
pub last_spanned : (ss : List Stored) (xs : List Versioned) (e : Versioned) → AreSpanned ss (xs ++ e ∷ []) → AreSpanned ss xs × AllByRecursion (IsSpanned ss e.from e.till) e.ids
last_spanned ss [] e all = (tt, all.0)
last_spanned ss (x ∷ xs) e all = let rest = last_spanned ss xs e all.1 in ((all.0, rest.0), rest.1)

-- ---- those up to a version

all_kept : (P : Versioned → Type 0) (p : Versioned → Bool) (es : List Versioned) → AllByRecursion P es → AllByRecursion P (filter p es)
all_kept P p [] all = tt
all_kept P p (e ∷ es) all = by_test (p e) (all_kept P p es all.1)
  where
    by_test : (b : Bool) → AllByRecursion P (filter p es) → AllByRecursion P (cond b (e ∷ filter p es) (filter p es))
    by_test true rest = (all.0, rest)
    by_test false rest = rest

pub up_to_rises : (b top : ℕ) (es : List Versioned) → VersionsFrom b es → VersionsFrom b (up_to top es)
up_to_rises b top [] up = tt
up_to_rises b top (e ∷ es) up = by_test (nat_le e.version top) (up_to_rises (e.version + 1) top es up.1)
  where
    by_test : (t : Bool) → VersionsFrom (e.version + 1) (up_to top es) → VersionsFrom b (cond t (e ∷ up_to top es) (up_to top es))
    by_test true rest = (up.0, rest)
    by_test false rest = let first = up.0 in from_less entry_version b (e.version + 1) (up_to top es) (omega (arith, first)) rest

pub up_to_widens : (top : ℕ) (es : List Versioned) → Widens es → Widens (up_to top es)
up_to_widens top [] wide = tt
up_to_widens top (e ∷ es) wide = by_test (nat_le e.version top) (up_to_widens top es wide.1)
  where
    by_test : (b : Bool) → Widens (up_to top es) → Widens (cond b (e ∷ up_to top es) (up_to top es))
    by_test true rest = (all_kept (λ (d : Versioned). Encloses d e) (λ (d : Versioned). nat_le d.version top) es wide.0, rest)
    by_test false rest = rest

pub up_to_spanned : (ss : List Stored) (top : ℕ) (es : List Versioned) → AreSpanned ss es → AreSpanned ss (up_to top es)
up_to_spanned ss top [] all = tt
up_to_spanned ss top (e ∷ es) all = by_test (nat_le e.version top) (up_to_spanned ss top es all.1)
  where
    by_test : (b : Bool) → AreSpanned ss (up_to top es) → AreSpanned ss (cond b (e ∷ up_to top es) (up_to top es))
    by_test true rest = (all.0, rest)
    by_test false rest = rest

-- ---- found by halving

-- a later version is no older
pub in_order : (b : ℕ) (es : List Versioned) → VersionsFrom b es → IsNonDecreasingBy (λ (e : Versioned). e.version) es
in_order b [] up i j d le within = absurd (omega (arith, within))
in_order b (e ∷ es) up zero zero d le within = omega arith
in_order b (e ∷ es) up zero (suc j) d le within = let more = from_at entry_version (e.version + 1) es j d up.1 (omega (arith, within)) in omega (arith, more)
in_order b (e ∷ es) up (suc i) zero d le within = absurd (omega (arith, le))
in_order b (e ∷ es) up (suc i) (suc j) d le within = in_order (e.version + 1) es up.1 i j d (omega (arith, le)) (omega (arith, within))

-- the front before the point from which on a test fails is what passes it
pub front_passes : (p : Versioned → Bool) (es : List Versioned) (i : ℕ) → i ≤ length es → IsPartitionPoint (λ e. p e ≡ true) (λ e. p e ≡ false) es i → take i es ≡ filter p es
front_passes p [] zero within point = refl
front_passes p [] (suc i) within point = absurd (omega (arith, within))
front_passes p (e ∷ es) zero within point =
    front_passes p es zero (omega arith) ((λ k d low high. absurd (omega (arith, high))), (λ k d low high. point.1 (suc k) d (omega arith) (omega (arith, high))))
    ∙ sym (ap (λ b. cond b (e ∷ filter p es) (filter p es)) (point.1 zero e (omega arith) (omega arith)))
front_passes p (e ∷ es) (suc i) within point =
    ap (λ l. e ∷ l)
    (front_passes p es i (omega (arith, within))
    ((λ k d low high. point.0 (suc k) d (omega arith) (omega (arith, high))), (λ k d low high. point.1 (suc k) d (omega (arith, low)) (omega (arith, high)))))
    ∙ sym (ap (λ b. cond b (e ∷ filter p es) (filter p es)) (point.0 zero e (omega arith) (omega arith)))
