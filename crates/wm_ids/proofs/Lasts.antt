-- The last key that has ids.
use Rattle.std.proofs.Common.{◌≡◌, ◌≢◌, ℕ, ◌<◌, ◌≤◌, ◌==◌, nat_le, Bool, true, false, cond, not, List, [], ◌∷◌, ◌++◌, length, Option, Some, None, refl, sym, ap, ◌∙◌, subst, arith}
use Rattle.std.proofs.lemmas.Bool.{eq-eqb, ne_eqb, eqb-true, true≢false}
use Rattle.std.proofs.lemmas.Map.Keys.{sorted_head, sorted_tail}
use Rattle.std.specs.BTreeMap.{BTreeMap, IsOrdered, is_at}
use Rattle.std.specs.Bool.{then_some}
use Rattle.std.specs.List.{AllByRecursion}
use Rattle.std.specs.List.Sorted.{IsStrictlySortedBy}
use Rattle.std.specs.Map.{lookup, keys_of}
use Rattle.std.specs.Option.{option_or}
use Rattle.std.specs.Ordering.{nat_cmp}
use Rattle.std.specs.declared.cmp.Ordering.TheVariants.{Less}
use Rattle.wm_base.proofs.Plain.{option_or_assoc}
use Rattle.wm_ids.proofs.IdLists.{less_than, nil_told}
use Rattle.wm_ids.proofs.TableLists.{is_at-number}
use Rattle.wm_ids.specs.Ids.{ids_found, ids_in, is_nil, last_used}

pub last_used-push : {K : Type 0} (es : List (K × List ℕ)) (e : K × List ℕ) → last_used (es ++ e ∷ []) ≡ option_or (then_some (not (is_nil e.1)) e.0) (last_used es)
last_used-push [] e = or_none (then_some (not (is_nil e.1)) e.0)
  where
    or_none : {A : Type 0} (o : Option A) → o ≡ option_or o None
    or_none None = refl
    or_none (Some x) = refl
last_used-push {K} (d ∷ es) e = ap (λ o. option_or o (then_some (not (is_nil d.1)) d.0)) (last_used-push es e) ∙ option_or_assoc (then_some (not (is_nil e.1)) e.0) (last_used es) (then_some (not (is_nil d.1)) d.0)

-- the last entry has ids
pub last_here : {K : Type 0} (all left rest : List (K × List ℕ)) (key : K) (ids : List ℕ) (b : Bool) → b ≡ (length ids == 0) → b ≡ false → left ≡ rest ++ (key, ids) ∷ [] → last_used left ≡ last_used all
    → Some key ≡ last_used all
last_here all left rest key ids b is some taken so =
    sym (ap (λ c. option_or (then_some (not c) key) (last_used rest)) (sym (is ∙ nil_told ids) ∙ some)) ∙ sym (last_used-push rest (key, ids)) ∙ ap last_used (sym taken) ∙ so

-- the last entry has none
pub last_before : {K : Type 0} (all left rest : List (K × List ℕ)) (key : K) (ids : List ℕ) (b : Bool) → b ≡ (length ids == 0) → b ≡ true → left ≡ rest ++ (key, ids) ∷ [] → last_used left ≡ last_used all
    → last_used rest ≡ last_used all
last_before all left rest key ids b is none taken so =
    sym (ap (λ c. option_or (then_some (not c) key) (last_used rest)) (sym (is ∙ nil_told ids) ∙ none)) ∙ sym (last_used-push rest (key, ids)) ∙ ap last_used (sym taken) ∙ so

-- the last of those that are used
abbrev pub LastOf : (ℕ → Bool) → Option ℕ → Type 0
LastOf used None = (q : ℕ) → used q ≡ false
LastOf used (Some k) = (used k ≡ true) × ((q : ℕ) → used q ≡ true → q ≤ k)

pub last-same : (f g : ℕ → Bool) → ((q : ℕ) → f q ≡ g q) → (o : Option ℕ) → LastOf f o → LastOf g o
last-same f g same None last = λ q. sym (same q) ∙ last q
last-same f g same (Some k) last = (sym (same k) ∙ last.0, λ q e. last.1 q (same q ∙ e))

-- the key has ids
abbrev pub has_ids : List (ℕ × List ℕ) → ℕ → Bool
has_ids es q = not (is_nil (ids_in nat_cmp es q))

-- a key below all others has no ids
none-below : (id : ℕ) (es : List (ℕ × List ℕ)) → AllByRecursion (λ k. nat_cmp id k ≡ Less) (keys_of es) → (q : ℕ) → q ≤ id → has_ids es q ≡ false
none-below id [] above q le = refl
none-below id (e ∷ es) above q le =
    ap (λ b. not (is_nil (ids_found (cond b (Some e.1) (lookup (is_at (nat_cmp q)) es))))) (is_at-number q e.0 ∙ ne_eqb q e.0 (λ same. absurd (let lt = less_than id e.0 above.0 in omega arith)))
    ∙ none-below id es above.1 q le

pub last_is : (es : List (ℕ × List ℕ)) → IsStrictlySortedBy nat_cmp (keys_of es) → LastOf (has_ids es) (last_used es)
last_is [] sorted = λ q. refl
last_is (e ∷ es) sorted = by_rest (last_used es) (last_is es (sorted_tail nat_cmp e.0 (keys_of es) sorted))
  where
    head : AllByRecursion (λ k. nat_cmp e.0 k ≡ Less) (keys_of es)
    head = sorted_head nat_cmp e.0 (keys_of es) sorted

    here : (q : ℕ) → q ≡ e.0 → has_ids (e ∷ es) q ≡ not (is_nil e.1)
    here q same = ap (λ b. not (is_nil (ids_found (cond b (Some e.1) (lookup (is_at (nat_cmp q)) es))))) (is_at-number q e.0 ∙ eq-eqb q e.0 same)

    away : (q : ℕ) → q ≢ e.0 → has_ids (e ∷ es) q ≡ has_ids es q
    away q apart = ap (λ b. not (is_nil (ids_found (cond b (Some e.1) (lookup (is_at (nat_cmp q)) es))))) (is_at-number q e.0 ∙ ne_eqb q e.0 apart)

    by_number : (q : ℕ) (b : Bool) → (q == e.0) ≡ b → has_ids (e ∷ es) q ≡ cond b (not (is_nil e.1)) (has_ids es q)
    by_number q true same = here q (eqb-true q e.0 same)
    by_number q false apart = away q (λ same. true≢false (sym (eq-eqb q e.0 same) ∙ apart))

    by_rest : (o : Option ℕ) → LastOf (has_ids es) o → LastOf (has_ids (e ∷ es)) (option_or o (then_some (not (is_nil e.1)) e.0))
    by_rest None none = by_first (not (is_nil e.1)) refl
      where
        by_first : (b : Bool) → not (is_nil e.1) ≡ b → LastOf (has_ids (e ∷ es)) (then_some b e.0)
        by_first true some = (here e.0 refl ∙ some, λ q used. only q (q == e.0) refl used)
          where
            only : (q : ℕ) (b : Bool) → (q == e.0) ≡ b → has_ids (e ∷ es) q ≡ true → q ≤ e.0
            only q true same used = let is = eqb-true q e.0 same in omega (arith, is)
            only q false apart used = absurd (true≢false (sym used ∙ by_number q false apart ∙ none q))
        by_first false empty = λ q. each q (q == e.0) refl
          where
            each : (q : ℕ) (b : Bool) → (q == e.0) ≡ b → has_ids (e ∷ es) q ≡ false
            each q true same = by_number q true same ∙ empty
            each q false apart = by_number q false apart ∙ none q
    by_rest (Some k) last = (there (k == e.0) refl, λ q used. most q (q == e.0) refl used)
      where
        above : e.0 < k
        above = by_test (nat_le k e.0) refl
          where
            by_test : (b : Bool) → nat_le k e.0 ≡ b → e.0 < k
            by_test true le = absurd (true≢false (sym last.0 ∙ none-below e.0 es head k (grind (arith, le))))
            by_test false more = grind (arith, more)

        there : (b : Bool) → (k == e.0) ≡ b → has_ids (e ∷ es) k ≡ true
        there true same = absurd (let is = eqb-true k e.0 same in let lt = above in omega (arith, is, lt))
        there false apart = by_number k false apart ∙ last.0

        most : (q : ℕ) (b : Bool) → (q == e.0) ≡ b → has_ids (e ∷ es) q ≡ true → q ≤ k
        most q true same used = let is = eqb-true q e.0 same in let lt = above in omega (arith, is, lt)
        most q false apart used = last.1 q (sym (by_number q false apart) ∙ used)

pub last_told : (m : BTreeMap ℕ (List ℕ)) (o : Option ℕ) → IsOrdered nat_cmp m → o ≡ last_used m.entries → LastOf (has_ids m.entries) o
last_told m o sorted is = subst (LastOf (has_ids m.entries)) (sym is) (last_is m.entries sorted)
