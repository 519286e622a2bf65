-- The ids of records that stand by id: of those that pass a test, after a change, and in order.
use Rattle.std.proofs.Common.{◌≡◌, ◌≢◌, ℕ, ◌<◌, ◌≤◌, Bool, true, false, cond, List, [], ◌∷◌, ◌++◌, Option, Some, None, refl, sym, ap, ◌∙◌, subst, ◌⊎◌, inl, inr, arith}
use Rattle.std.proofs.lemmas.Bool.{cases_eq, cases_lt, eq-eqb, ne_eqb, lt-ltb, le-ltb}
use Rattle.std.specs.List.{AllByRecursion}
use Rattle.std.specs.List.Sorted.{IsStrictlySortedBy}
use Rattle.std.specs.Ordering.{nat_cmp}
use Rattle.std.specs.declared.cmp.Ordering.TheVariants.{Less}
use Rattle.wm_spec.specs.Records.{record_at}
use Rattle.wm_spec.specs.declared.record.Record.{Record}
use Rattle.wm_spec.specs.declared.record.stored.Stored.{Stored}
use Rattle.wm_state.specs.ById.{AllAbove, Ascend, perhaps_before, set_at}
use Rattle.wm_state.proofs.ById.{AllAbove-less}
use Rattle.wm_ids.proofs.IdLists.{greater_is, less_is}
use Rattle.wm_ids.specs.Ids.{placed, without}
use Rattle.wm_index.proofs.Lists.{ids_of, record_at-none, record_at-here, record_at-away}
use Rattle.wm_index.specs.Sought.{ids_with, ids_less, ids_more}

pub record_at-above : (id : ℕ) (ss : List Stored) → AllAbove id ss → record_at ss id ≡ None
record_at-above id [] above = record_at-none id
record_at-above id (s ∷ ss) above = record_at-away s ss id (λ e. absurd (let lt = above.0 in omega arith)) ∙ record_at-above id ss above.1

-- ---- ids above one

without-cons : (id x : ℕ) (xs : List ℕ) → x ≢ id → without id (x ∷ xs) ≡ x ∷ without id xs
without-cons id x xs away = rw (ne_eqb x id away) refl

placed-front : (id x : ℕ) (xs : List ℕ) → id < x → placed id (x ∷ xs) ≡ id ∷ x ∷ xs
placed-front id x xs lt = rw (less_is id x lt) refl

placed-later : (id x : ℕ) (xs : List ℕ) → x < id → placed id (x ∷ xs) ≡ x ∷ placed id xs
placed-later id x xs lt = rw (greater_is id x lt) refl

placed-above : (p : Record → Bool) (id : ℕ) (ss : List Stored) → AllAbove id ss → placed id (ids_with p ss) ≡ id ∷ ids_with p ss
placed-above p id [] above = refl
placed-above p id (s ∷ ss) above = by_test (p s.record) (placed-above p id ss above.1)
  where
    by_test : (b : Bool) → placed id (ids_with p ss) ≡ id ∷ ids_with p ss
        → placed id (cond b (s.id ∷ ids_with p ss) (ids_with p ss)) ≡ id ∷ cond b (s.id ∷ ids_with p ss) (ids_with p ss)
    by_test true rest = placed-front id s.id (ids_with p ss) above.0
    by_test false rest = rest

-- ---- the ids after a change

-- a record before others whose ids are above its own
ids_with-perhaps : (p : Record → Bool) (id : ℕ) (becomes : Option Record) (ss : List Stored) → AllAbove id ss → ids_with p (perhaps_before id becomes ss) ≡ ids_more p id becomes (ids_with p ss)
ids_with-perhaps p id None ss above = refl
ids_with-perhaps p id (Some r) ss above = by_test (p r)
  where
    by_test : (b : Bool) → cond b (id ∷ ids_with p ss) (ids_with p ss) ≡ cond b (placed id (ids_with p ss)) (ids_with p ss)
    by_test true = sym (placed-above p id ss above)
    by_test false = refl

-- the first record goes
ids_with-gone : (p : Record → Bool) (s : Stored) (ss : List Stored) → AllAbove s.id ss → ids_less p s.id (Some s.record) (ids_with p (s ∷ ss)) ≡ ids_with p ss
ids_with-gone p s ss above = by_test (p s.record)
  where
    by_test : (b : Bool) → cond b (without s.id (cond b (s.id ∷ ids_with p ss) (ids_with p ss))) (cond b (s.id ∷ ids_with p ss) (ids_with p ss)) ≡ ids_with p ss
    by_test true = rw (eq-eqb s.id s.id refl) refl
    by_test false = refl

ids_less-cons : (p : Record → Bool) (id x : ℕ) (old : Option Record) (xs : List ℕ) → x ≢ id → ids_less p id old (x ∷ xs) ≡ x ∷ ids_less p id old xs
ids_less-cons p id x None xs away = refl
ids_less-cons p id x (Some r) xs away = by_test (p r)
  where
    by_test : (b : Bool) → cond b (without id (x ∷ xs)) (x ∷ xs) ≡ x ∷ cond b (without id xs) xs
    by_test true = without-cons id x xs away
    by_test false = refl

ids_more-cons : (p : Record → Bool) (id x : ℕ) (becomes : Option Record) (xs : List ℕ) → x < id → ids_more p id becomes (x ∷ xs) ≡ x ∷ ids_more p id becomes xs
ids_more-cons p id x None xs lt = refl
ids_more-cons p id x (Some r) xs lt = by_test (p r)
  where
    by_test : (b : Bool) → cond b (placed id (x ∷ xs)) (x ∷ xs) ≡ x ∷ cond b (placed id xs) xs
    by_test true = placed-later id x xs lt
    by_test false = refl

-- what becomes of an id, told by the ids that pass a test
pub ids_with-set : (p : Record → Bool) (id : ℕ) (becomes : Option Record) (ss : List Stored) → Ascend ss
    → ids_with p (set_at id becomes ss) ≡ ids_more p id becomes (ids_less p id (record_at ss id) (ids_with p ss))
ids_with-set p id becomes [] sorted =
    ids_with-perhaps p id becomes [] tt ∙ ap (λ o. ids_more p id becomes (ids_less p id o [])) (sym (record_at-none id))
ids_with-set p id becomes (s ∷ ss) sorted = by_place (cases_eq s.id id) (cases_lt id s.id) (ids_with-set p id becomes ss sorted.1)
  where
    goal : List Stored → Type 0
    goal new = ids_with p new ≡ ids_more p id becomes (ids_less p id (record_at (s ∷ ss) id) (ids_with p (s ∷ ss)))

    here : s.id ≡ id → ids_with p (perhaps_before id becomes ss) ≡ ids_more p id becomes (ids_less p id (record_at (s ∷ ss) id) (ids_with p (s ∷ ss)))
    here same =
        ids_with-perhaps p id becomes ss (subst (λ (k : ℕ). AllAbove k ss) same sorted.0)
        ∙ ap (ids_more p id becomes) (sym (ids_with-gone p s ss sorted.0) ∙ ap (λ (k : ℕ). ids_less p k (Some s.record) (ids_with p (s ∷ ss))) same)
        ∙ ap (λ o. ids_more p id becomes (ids_less p id o (ids_with p (s ∷ ss)))) (sym (record_at-here s ss id same))

    before : id < s.id → ids_with p (perhaps_before id becomes (s ∷ ss)) ≡ ids_more p id becomes (ids_less p id (record_at (s ∷ ss) id) (ids_with p (s ∷ ss)))
    before lt =
        let above : AllAbove id (s ∷ ss) = (lt, AllAbove-less id s.id ss lt sorted.0) in
        ids_with-perhaps p id becomes (s ∷ ss) above
        ∙ ap (λ o. ids_more p id becomes (ids_less p id o (ids_with p (s ∷ ss)))) (sym (record_at-above id (s ∷ ss) above))

    behind : (lt : s.id < id) → s.id ≢ id → ids_with p (set_at id becomes ss) ≡ ids_more p id becomes (ids_less p id (record_at ss id) (ids_with p ss))
        → ids_with p (s ∷ set_at id becomes ss) ≡ ids_more p id becomes (ids_less p id (record_at (s ∷ ss) id) (ids_with p (s ∷ ss)))
    behind lt away rest =
        by_test (p s.record)
        ∙ ap (λ o. ids_more p id becomes (ids_less p id o (ids_with p (s ∷ ss)))) (sym (record_at-away s ss id away))
      where
        by_test : (b : Bool) → cond b (s.id ∷ ids_with p (set_at id becomes ss)) (ids_with p (set_at id becomes ss))
            ≡ ids_more p id becomes (ids_less p id (record_at ss id) (cond b (s.id ∷ ids_with p ss) (ids_with p ss)))
        by_test true =
            ap (λ l. s.id ∷ l) rest
            ∙ sym (ids_more-cons p id s.id becomes (ids_less p id (record_at ss id) (ids_with p ss)) lt)
            ∙ ap (ids_more p id becomes) (sym (ids_less-cons p id s.id (record_at ss id) (ids_with p ss) away))
        by_test false = rest

    by_place : (s.id ≡ id) ⊎ (s.id ≢ id) → (id < s.id) ⊎ (s.id ≤ id) → ids_with p (set_at id becomes ss) ≡ ids_more p id becomes (ids_less p id (record_at ss id) (ids_with p ss))
        → goal (set_at id becomes (s ∷ ss))
    by_place (inl same) order rest = rw (eq-eqb _ _ same) (here same)
    by_place (inr away) (inl lt) rest = rw (ne_eqb _ _ away, lt-ltb _ _ lt) (before lt)
    by_place (inr away) (inr more) rest = rw (ne_eqb _ _ away, le-ltb _ _ more) (behind (omega (arith, more, away)) away rest)

-- ---- a record between others

-- the id of a record behind others is above theirs
pub above_between : (id : ℕ) (xs : List Stored) (s : Stored) (ys : List Stored) → AllAbove id (xs ++ s ∷ ys) → id < s.id
above_between id [] s ys above = above.0
above_between id (x ∷ xs) s ys above = above_between id xs s ys above.1

-- among those before it none has its id
pub record_at-before : (xs : List Stored) (s : Stored) (ys : List Stored) → Ascend (xs ++ s ∷ ys) → record_at xs s.id ≡ None
record_at-before [] s ys sorted = record_at-none s.id
record_at-before (x ∷ xs) s ys sorted =
    record_at-away x xs s.id (λ e. absurd (let lt = above_between x.id xs s ys sorted.0 in omega arith)) ∙ record_at-before xs s ys sorted.1

-- its id is found among them all
pub record_at-between : (xs : List Stored) (s : Stored) (ys : List Stored) → Ascend (xs ++ s ∷ ys) → record_at (xs ++ s ∷ ys) s.id ≡ Some s.record
record_at-between [] s ys sorted = record_at-here s ys s.id refl
record_at-between (x ∷ xs) s ys sorted =
    record_at-away x (xs ++ s ∷ ys) s.id (λ e. absurd (let lt = above_between x.id xs s ys sorted.0 in omega arith)) ∙ record_at-between xs s ys sorted.1

-- the ids that pass a test have its own more, where it passes
pub ids_with-between : (p : Record → Bool) (xs : List Stored) (s : Stored) (ys : List Stored) → Ascend (xs ++ s ∷ ys)
    → ids_with p (xs ++ s ∷ ys) ≡ cond (p s.record) (placed s.id (ids_with p (xs ++ ys))) (ids_with p (xs ++ ys))
ids_with-between p [] s ys sorted = ap (λ ids. cond (p s.record) ids (ids_with p ys)) (sym (placed-above p s.id ys sorted.0))
ids_with-between p (x ∷ xs) s ys sorted = by_tests (p x.record) (p s.record) (ids_with-between p xs s ys sorted.1)
  where
    by_tests : (a b : Bool) → ids_with p (xs ++ s ∷ ys) ≡ cond b (placed s.id (ids_with p (xs ++ ys))) (ids_with p (xs ++ ys))
        → cond a (x.id ∷ ids_with p (xs ++ s ∷ ys)) (ids_with p (xs ++ s ∷ ys))
        ≡ cond b (placed s.id (cond a (x.id ∷ ids_with p (xs ++ ys)) (ids_with p (xs ++ ys)))) (cond a (x.id ∷ ids_with p (xs ++ ys)) (ids_with p (xs ++ ys)))
    by_tests true true rest = ap (λ ids. x.id ∷ ids) rest ∙ sym (placed-later s.id x.id (ids_with p (xs ++ ys)) (above_between x.id xs s ys sorted.0))
    by_tests true false rest = ap (λ ids. x.id ∷ ids) rest
    by_tests false b rest = rest

-- ---- in order

above-ids : (id : ℕ) (ss : List Stored) → AllAbove id ss → AllByRecursion (λ k. nat_cmp id k ≡ Less) (ids_of ss)
above-ids id [] above = tt
above-ids id (s ∷ ss) above = (less_is id s.id above.0, above-ids id ss above.1)

pub ids-sorted : (ss : List Stored) → Ascend ss → IsStrictlySortedBy nat_cmp (ids_of ss)
unfolding IsStrictlySortedBy
ids-sorted [] sorted = tt
ids-sorted (s ∷ ss) sorted = (above-ids s.id ss sorted.0, ids-sorted ss sorted.1)
