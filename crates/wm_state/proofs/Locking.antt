-- Locks by making: what is made comes behind all others, and what stays is in the order of all; and that the rules on locks hold of both.
use Rattle.std.proofs.Common.{◌≡◌, ℕ, ◌+◌, ◌-◌, ◌≤◌, ◌<◌, ◌==◌, nat_lt, nat_le, max, Bool, true, false, ◌&&◌, cond, List, [], ◌∷◌, ◌++◌, length, Some, refl, sym, ap, ◌∙◌, append-nil, append_assoc, arith}
use Rattle.std.proofs.lemmas.Bool.{and_from, and_parts, le-leb, leb-true}
use Rattle.std.specs.List.{filter, list_all, list_any}
use Rattle.std.specs.Option.{option_map_or}
use Rattle.wm_base.proofs.Plain.{nat_le-itself, nat_lt-apart, nat_lt-turned}
use Rattle.wm_graph.specs.Parts.{Parts, space_of, table_of}
use Rattle.wm_graph.specs.Rules.{are_cells, are_counters, are_locks, are_pieces, are_rows, are_savepoints, are_versions, are_hists, differ, is_given, is_lock, is_short, is_space, keep_rules}
use Rattle.wm_spec.specs.declared.record.counters.Counters.{Counters}
use Rattle.wm_spec.specs.declared.record.lock.Lock.{Lock}
use Rattle.wm_spec.specs.declared.record.lock.LockMode.{LockMode}
use Rattle.wm_spec.specs.declared.record.space.Space.{Space}
use Rattle.wm_state.specs.Drafts.{CanLock, cells_locked}
use Rattle.wm_state.specs.Editing.{lock_after, lock_made, locks_made, last_place, locked_in, stays_locked, unlocked}
use Rattle.wm_state.specs.State.{Durable}
use Rattle.wm_state.specs.Standing.{CountersStand, FieldsStand, LocksStand, Stands, TablesStand, locks_by_making, place_lock}
use Rattle.wm_state.specs.declared.edit.NewLock.{NewLock}
use Rattle.wm_state.proofs.Tests.{all_filter, all_if, differ_filter, differ_push, none_if}

-- ---- what is made comes last

place-before : (x y : Lock) (ys : List Lock) → nat_lt y.making x.making ≡ true → place_lock y (ys ++ x ∷ []) ≡ place_lock y ys ++ x ∷ []
place-before x y [] lt = rw (nat_lt-turned y.making x.making lt) refl
place-before x y (z ∷ zs) lt = by_test (nat_lt z.making y.making) (place-before x y zs lt)
  where
    by_test : (b : Bool) → place_lock y (zs ++ x ∷ []) ≡ place_lock y zs ++ x ∷ []
        → cond b (z ∷ place_lock y (zs ++ x ∷ [])) (y ∷ z ∷ (zs ++ x ∷ [])) ≡ cond b (z ∷ place_lock y zs) (y ∷ z ∷ zs) ++ x ∷ []
    by_test true rest = ap (λ xs. z ∷ xs) rest
    by_test false rest = refl

pub locks-push : (x : Lock) (xs : List Lock) → list_all (λ (y : Lock). nat_lt y.making x.making) xs ≡ true → locks_by_making (xs ++ x ∷ []) ≡ locks_by_making xs ++ x ∷ []
locks-push x [] after = refl
locks-push x (y ∷ ys) after =
    let h = and_parts (nat_lt y.making x.making) (list_all (λ (z : Lock). nat_lt z.making x.making) ys) after in
    ap (place_lock y) (locks-push x ys h.1) ∙ place-before x y (locks_by_making ys) h.0

-- all were made before
pub made_before : (xs : List Lock) (making : ℕ) → lock_after xs ≤ making → list_all (λ (y : Lock). nat_lt y.making making) xs ≡ true
made_before [] making le = refl
made_before (x ∷ xs) making le = and_from (nat_lt x.making making) _ (first x.making (lock_after xs) making le) (made_before xs making (others x.making (lock_after xs) making le))
  where
    first : (a b c : ℕ) → max (a + 1) b ≤ c → nat_lt a c ≡ true
    first a b c le = grind (arith, le)

    others : (a b c : ℕ) → max (a + 1) b ≤ c → b ≤ c
    others a b c le = omega (arith, le)

pub after-push : (xs : List Lock) (x : Lock) → lock_after xs ≤ x.making → lock_after (xs ++ x ∷ []) ≤ x.making + 1
after-push [] x le = least x.making le
  where
    least : (a : ℕ) → 1 ≤ a → max (a + 1) 1 ≤ a + 1
    least a le = omega (arith, le)
after-push (y ∷ ys) x le = both y.making (lock_after ys) (lock_after (ys ++ x ∷ [])) x.making le (after-push ys x (rest y.making (lock_after ys) x.making le))
  where
    rest : (a b c : ℕ) → max (a + 1) b ≤ c → b ≤ c
    rest a b c le = omega (arith, le)

    both : (a b d c : ℕ) → max (a + 1) b ≤ c → d ≤ c + 1 → max (a + 1) d ≤ c + 1
    both a b d c le more = omega (arith, le, more)

-- locks whose makings follow the greatest come behind all others
pub locks-made : (n place : ℕ) (mode : LockMode) (user : List ℕ) (ys : List NewLock) (xs : List Lock) (making : ℕ) → lock_after xs ≤ making
    → locks_by_making (xs ++ locks_made n place mode user making ys) ≡ locks_by_making xs ++ locks_made n place mode user making ys
locks-made n place mode user [] xs making le = ap locks_by_making (append-nil xs) ∙ sym (append-nil (locks_by_making xs))
locks-made n place mode user (y ∷ ys) xs making le =
    let x = lock_made n place mode user making y in
    let rest = locks_made n place mode user (making + 1) ys in
    ap locks_by_making (sym (append_assoc xs (x ∷ []) rest))
    ∙ locks-made n place mode user ys (xs ++ x ∷ []) (making + 1) (after-push xs x le)
    ∙ ap (λ zs. zs ++ rest) (locks-push x xs (made_before xs making le))
    ∙ append_assoc (locks_by_making xs) (x ∷ []) rest

-- the making behind the greatest does not turn on the order
after-place : (x : Lock) (ys : List Lock) → lock_after (place_lock x ys) ≡ lock_after (x ∷ ys)
after-place x [] = refl
after-place x (y ∷ ys) = by_test (nat_lt y.making x.making) (after-place x ys)
  where
    turned : (a b c : ℕ) → max a (max b c) ≡ max b (max a c)
    turned a b c = omega arith

    by_test : (b : Bool) → lock_after (place_lock x ys) ≡ lock_after (x ∷ ys) → lock_after (cond b (y ∷ place_lock x ys) (x ∷ y ∷ ys)) ≡ lock_after (x ∷ y ∷ ys)
    by_test true rest = ap (max (y.making + 1)) rest ∙ turned (y.making + 1) (x.making + 1) (lock_after ys)
    by_test false rest = refl

pub after-sorted : (xs : List Lock) → lock_after (locks_by_making xs) ≡ lock_after xs
after-sorted [] = refl
after-sorted (x ∷ xs) = after-place x (locks_by_making xs) ∙ ap (max (x.making + 1)) (after-sorted xs)

-- ---- what stays is in the order of all

abbrev made_from : ℕ → List Lock → Bool
made_from making xs = list_all (λ (y : Lock). nat_le making y.making) xs

abbrev are_sorted : List Lock → Bool
are_sorted [] = true
are_sorted (x ∷ xs) = made_from x.making xs && are_sorted xs

not_less : (m n : ℕ) → nat_le m n ≡ true → nat_lt n m ≡ false
not_less m n le = grind (arith, le)

not_more : (m n : ℕ) → nat_lt n m ≡ false → nat_le m n ≡ true
not_more m n e = grind (arith, e)

le_of_less : (m n : ℕ) → nat_lt m n ≡ true → nat_le m n ≡ true
le_of_less m n lt = grind (arith, lt)

le_over : (m n : ℕ) → nat_le m n ≡ true → (i : ℕ) → nat_le n i ≡ true → nat_le m i ≡ true
le_over m n le i more = grind (arith, le, more)

place_first : (x : Lock) (ys : List Lock) → made_from x.making ys ≡ true → place_lock x ys ≡ x ∷ ys
place_first x [] e = refl
place_first x (y ∷ ys) e = rw (not_less x.making y.making (and_parts (nat_le x.making y.making) (made_from x.making ys) e).0) refl

place_from : (making : ℕ) (x : Lock) (ys : List Lock) → nat_le making x.making ≡ true → made_from making ys ≡ true → made_from making (place_lock x ys) ≡ true
place_from making x [] is all = and_from (nat_le making x.making) true is refl
place_from making x (y ∷ ys) is all = by_test (nat_lt y.making x.making) (and_parts (nat_le making y.making) (made_from making ys) all) (place_from making x ys is)
  where
    by_test : (b : Bool) → (nat_le making y.making ≡ true) × (made_from making ys ≡ true) → (made_from making ys ≡ true → made_from making (place_lock x ys) ≡ true)
        → made_from making (cond b (y ∷ place_lock x ys) (x ∷ y ∷ ys)) ≡ true
    by_test true h rest = and_from (nat_le making y.making) (made_from making (place_lock x ys)) h.0 (rest h.1)
    by_test false h rest = and_from (nat_le making x.making) (made_from making (y ∷ ys)) is all

place_sorted : (x : Lock) (ys : List Lock) → are_sorted ys ≡ true → are_sorted (place_lock x ys) ≡ true
place_sorted x [] e = refl
place_sorted x (y ∷ ys) e = by_test (nat_lt y.making x.making) refl (and_parts (made_from y.making ys) (are_sorted ys) e) (place_sorted x ys)
  where
    by_test : (b : Bool) → nat_lt y.making x.making ≡ b → (made_from y.making ys ≡ true) × (are_sorted ys ≡ true) → (are_sorted ys ≡ true → are_sorted (place_lock x ys) ≡ true)
        → are_sorted (cond b (y ∷ place_lock x ys) (x ∷ y ∷ ys)) ≡ true
    by_test true lt h rest = and_from (made_from y.making (place_lock x ys)) (are_sorted (place_lock x ys)) (place_from y.making x ys (le_of_less y.making x.making lt) h.0) (rest h.1)
    by_test false ge h rest =
        let le = not_more x.making y.making ge in
        and_from (made_from x.making (y ∷ ys)) (are_sorted (y ∷ ys))
        (and_from (nat_le x.making y.making) (made_from x.making ys) le (all_if (λ (z : Lock). nat_le y.making z.making) (λ (z : Lock). nat_le x.making z.making) (λ z more. le_over x.making y.making le z.making more) ys h.0)) e

sorted : (xs : List Lock) → are_sorted (locks_by_making xs) ≡ true
sorted [] = refl
sorted (x ∷ xs) = place_sorted x (locks_by_making xs) (sorted xs)

place_out : (P : Lock → Bool) (x : Lock) (ys : List Lock) → P x ≡ false → filter P (place_lock x ys) ≡ filter P ys
place_out P x [] out = rw out refl
place_out P x (y ∷ ys) out = by_test (nat_lt y.making x.making) (place_out P x ys out)
  where
    by_test : (b : Bool) → filter P (place_lock x ys) ≡ filter P ys → filter P (cond b (y ∷ place_lock x ys) (x ∷ y ∷ ys)) ≡ filter P (y ∷ ys)
    by_test true rest = ap (λ zs. cond (P y) (y ∷ zs) zs) rest
    by_test false rest = rw out refl

place_in : (P : Lock → Bool) (x : Lock) (ys : List Lock) → P x ≡ true → are_sorted ys ≡ true → filter P (place_lock x ys) ≡ place_lock x (filter P ys)
place_in P x [] is e = rw is refl
place_in P x (y ∷ ys) is e = by_test (nat_lt y.making x.making) refl (P y) refl (place_in P x ys is h.1)
  where
    h : (made_from y.making ys ≡ true) × (are_sorted ys ≡ true)
    h = and_parts (made_from y.making ys) (are_sorted ys) e

    behind : nat_lt y.making x.making ≡ false → made_from x.making (filter P ys) ≡ true
    behind ge = all_filter (λ (z : Lock). nat_le x.making z.making) P ys
        (all_if (λ (z : Lock). nat_le y.making z.making) (λ (z : Lock). nat_le x.making z.making) (λ z more. le_over x.making y.making (not_more x.making y.making ge) z.making more) ys h.0)

    by_test : (b : Bool) → nat_lt y.making x.making ≡ b → (c : Bool) → P y ≡ c → filter P (place_lock x ys) ≡ place_lock x (filter P ys)
        → filter P (cond b (y ∷ place_lock x ys) (x ∷ y ∷ ys)) ≡ place_lock x (cond c (y ∷ filter P ys) (filter P ys))
    by_test true lt true f rest = rw (f, lt) (ap (λ zs. y ∷ zs) rest)
    by_test true lt false f rest = rw f rest
    by_test false ge true f rest = rw (is, f, ge) refl
    by_test false ge false f rest = rw (is, f) (sym (place_first x (filter P ys) (behind ge)))

pub locks-filter : (P : Lock → Bool) (xs : List Lock) → locks_by_making (filter P xs) ≡ filter P (locks_by_making xs)
locks-filter P [] = refl
locks-filter P (x ∷ xs) = by_test (P x) refl (locks-filter P xs)
  where
    by_test : (b : Bool) → P x ≡ b → locks_by_making (filter P xs) ≡ filter P (locks_by_making xs) → locks_by_making (cond b (x ∷ filter P xs) (filter P xs)) ≡ filter P (place_lock x (locks_by_making xs))
    by_test true e rest = ap (place_lock x) rest ∙ sym (place_in P x (locks_by_making xs) e (sorted xs))
    by_test false e rest = rest ∙ sym (place_out P x (locks_by_making xs) e)
