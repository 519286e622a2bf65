-- The records of entries behind others: each position of a longer log whose entry is of a table with history has its record.
use Rattle.std.proofs.Common.{◌≡◌, ◌≢◌, ℕ, zero, suc, ◌+◌, ◌<◌, ◌==◌, Bool, true, false, ◌&&◌, cond, List, [], ◌∷◌, ◌++◌, length, Option, Some, None, refl, sym, ap, subst, ◌∙◌, ◌⊎◌, inl, inr, arith}
use Rattle.std.proofs.lemmas.Bool.{cases_eq, eq-eqb, ne_eqb}
use Rattle.std.proofs.lemmas.List.Folds.{find-append}
use Rattle.std.proofs.lemmas.Option.{slice_get_within}
use Rattle.std.specs.Bool.{then_some}
use Rattle.std.specs.List.{slice_get}
use Rattle.std.specs.Option.{option_or, option_map, option_and_then}
use Rattle.wm_base.proofs.Plain.{option_or-none}
use Rattle.wm_spec.specs.Lists.{Entry}
use Rattle.wm_spec.specs.declared.record.hist.Hist.{Hist}
use Rattle.wm_spec.specs.declared.record.table.Table.{Table}
use Rattle.wm_state.specs.Entries.{hist_of, hists_kept}
use Rattle.wm_state.specs.Standing.{Logged, has_history, logged, logged_as, hist_at}

-- ---- entries behind others

-- what stands at a position of a list whose first position is this one
at_from : {A : Type 0} → ℕ → List A → ℕ → Option A
at_from k [] i = None
at_from k (x ∷ xs) i = cond (k == i) (Some x) (at_from (k + 1) xs i)

get-from : {A : Type 0} (k : ℕ) (xs : List A) (i : ℕ) → at_from k xs (k + i) ≡ slice_get xs i
unfolding at_from
get-from k [] i = refl
get-from k (x ∷ xs) zero = rw (eq-eqb k (k + 0) (omega arith)) refl
get-from k (x ∷ xs) (suc i) = rw (ne_eqb k (k + suc i) (λ same. omega (arith, same))) (ap (at_from (k + 1) xs) (one_more k i) ∙ get-from (k + 1) xs i)
  where
    one_more : (m n : ℕ) → m + suc n ≡ m + 1 + n
    one_more m n = omega arith

from-append : {A : Type 0} (k : ℕ) (xs ys : List A) (i : ℕ) → at_from k (xs ++ ys) i ≡ option_or (at_from k xs i) (at_from (k + length xs) ys i)
unfolding at_from
from-append k [] ys i = ap (λ n. at_from n ys i) (no_more k)
  where
    no_more : (n : ℕ) → n ≡ n + 0
    no_more n = omega arith
from-append {A = A} k (x ∷ xs) ys i = by_test (k == i) (from-append (k + 1) xs ys i ∙ ap (λ n. option_or (at_from (k + 1) xs i) (at_from n ys i)) (one_more k (length xs)))
  where
    one_more : (m n : ℕ) → m + 1 + n ≡ m + suc n
    one_more m n = omega arith

    by_test : (b : Bool) → at_from (k + 1) (xs ++ ys) i ≡ option_or (at_from (k + 1) xs i) (at_from (k + suc (length xs)) ys i)
        → cond b (Some x) (at_from (k + 1) (xs ++ ys) i) ≡ option_or (cond b (Some x) (at_from (k + 1) xs i)) (at_from (k + suc (length xs)) ys i)
    by_test true rest = refl
    by_test false rest = rest

get-append : {A : Type 0} (xs ys : List A) (i : ℕ) → slice_get (xs ++ ys) i ≡ option_or (slice_get xs i) (at_from (length xs) ys i)
get-append {A = A} xs ys i = sym (at_start (xs ++ ys)) ∙ from-append 0 xs ys i ∙ ap (λ o. option_or o (at_from (0 + length xs) ys i)) (at_start xs) ∙ ap (λ n. option_or (slice_get xs i) (at_from n ys i)) (none_more (length xs))
  where
    none_more : (n : ℕ) → 0 + n ≡ n
    none_more n = omega arith

    at_start : (zs : List A) → at_from 0 zs i ≡ slice_get zs i
    at_start zs = ap (at_from 0 zs) (sym (none_more i)) ∙ get-from 0 zs i

-- nothing stands before the first position
from-below : {A : Type 0} (k : ℕ) (xs : List A) (i : ℕ) → i < k → at_from k xs i ≡ None
unfolding at_from
from-below k [] i lt = refl
from-below k (x ∷ xs) i lt = rw (ne_eqb k i (λ same. omega (arith, lt, same))) (from-below (k + 1) xs i (omega (arith, lt)))

-- what is made of the entry at a position of the one list or of the other
made-append : {A B : Type 0} (f : A → Option B) (xs ys : List A) (i : ℕ) → option_or (option_and_then f (slice_get xs i)) (option_and_then f (at_from (length xs) ys i)) ≡ option_and_then f (slice_get (xs ++ ys) i)
made-append {A = A} f xs ys i = by_first (slice_get xs i) refl ∙ ap (option_and_then f) (sym (get-append xs ys i))
  where
    by_first : (o : Option A) → slice_get xs i ≡ o
        → option_or (option_and_then f (slice_get xs i)) (option_and_then f (at_from (length xs) ys i)) ≡ option_and_then f (option_or (slice_get xs i) (at_from (length xs) ys i))
    by_first None is = rw is refl
    by_first (Some x) is = rw (is, from-below (length xs) ys i (slice_get_within xs i x is)) (option_or-none (f x))

-- ---- their records

-- what the record of an entry has of it, where its table keeps its history
abbrev pub logged_in : List Table → Entry → Option Logged
logged_in tables e = then_some (has_history tables e.table) (logged_as e)

-- at each position
logged-from : (tables : List Table) (n k : ℕ) (es : List Entry) (i : ℕ) → option_map logged (hist_at (hists_kept tables n k es) n i) ≡ option_and_then (logged_in tables) (at_from k es i)
unfolding at_from
logged-from tables n k [] i = refl
logged-from tables n k (e ∷ es) i = by_test (has_history tables e.table) refl (cases_eq k i) (logged-from tables n (k + 1) es i)
  where
    next : (m : ℕ) → m < m + 1
    next m = omega arith

    by_test : (b : Bool) → has_history tables e.table ≡ b → (k ≡ i) ⊎ (k ≢ i) → option_map logged (hist_at (hists_kept tables n (k + 1) es) n i) ≡ option_and_then (logged_in tables) (at_from (k + 1) es i)
        → option_map logged (hist_at (cond b (hist_of n k e ∷ hists_kept tables n (k + 1) es) (hists_kept tables n (k + 1) es)) n i)
        ≡ option_and_then (logged_in tables) (cond (k == i) (Some e) (at_from (k + 1) es i))
    by_test true on (inl here) rest = rw (eq-eqb n n refl, eq-eqb k i here, on) refl
    by_test true on (inr away) rest = rw (eq-eqb n n refl, ne_eqb k i away) rest
    by_test false on (inl here) rest =
        rest ∙ ap (option_and_then (logged_in tables)) (from-below (k + 1) es i (subst (λ j. j < k + 1) here (next k))) ∙ sym (rw (eq-eqb k i here, on) refl)
    by_test false on (inr away) rest = rw (ne_eqb k i away) rest

-- and none is of another workspace
logged-elsewhere : (tables : List Table) (n m k : ℕ) (es : List Entry) (i : ℕ) → (n == m) ≡ false → hist_at (hists_kept tables n k es) m i ≡ None
logged-elsewhere tables n m k [] i other = refl
logged-elsewhere tables n m k (e ∷ es) i other = by_test (has_history tables e.table) (logged-elsewhere tables n m (k + 1) es i other)
  where
    by_test : (b : Bool) → hist_at (hists_kept tables n (k + 1) es) m i ≡ None → hist_at (cond b (hist_of n k e ∷ hists_kept tables n (k + 1) es) (hists_kept tables n (k + 1) es)) m i ≡ None
    by_test true rest = rw other rest
    by_test false rest = rest

map-or : {A B : Type 0} (f : A → B) (o r : Option A) → option_map f (option_or o r) ≡ option_or (option_map f o) (option_map f r)
map-or f None r = refl
map-or f (Some x) r = refl

-- tables that keep the same histories
pub hists_kept-alike : (was now : List Table) → ((table : ℕ) → has_history was table ≡ has_history now table) → (n k : ℕ) (es : List Entry) → hists_kept was n k es ≡ hists_kept now n k es
hists_kept-alike was now same n k [] = refl
hists_kept-alike was now same n k (e ∷ es) = rw (same e.table, hists_kept-alike was now same n (k + 1) es) refl

-- records of entries behind others are those of the longer log
pub logged-here : (tables : List Table) (n : ℕ) (hists : List Hist) (log es : List Entry) (i : ℕ) → option_map logged (hist_at hists n i) ≡ option_and_then (logged_in tables) (slice_get log i)
    → option_map logged (hist_at (hists ++ hists_kept tables n (length log) es) n i) ≡ option_and_then (logged_in tables) (slice_get (log ++ es) i)
logged-here tables n hists log es i before =
    ap (option_map logged) (find-append (λ (x : Hist). (x.space == n) && (x.position == i)) hists (hists_kept tables n (length log) es))
    ∙ map-or logged (hist_at hists n i) (hist_at (hists_kept tables n (length log) es) n i)
    ∙ ap (λ o. option_or o (option_map logged (hist_at (hists_kept tables n (length log) es) n i))) before
    ∙ ap (option_or (option_and_then (logged_in tables) (slice_get log i))) (logged-from tables n (length log) es i)
    ∙ made-append (logged_in tables) log es i

-- and another workspace has those that it had
pub logged-away : (tables : List Table) (n m k : ℕ) (hists : List Hist) (es : List Entry) (i : ℕ) → (n == m) ≡ false → option_map logged (hist_at (hists ++ hists_kept tables n k es) m i) ≡ option_map logged (hist_at hists m i)
logged-away tables n m k hists es i other =
    ap (option_map logged) (find-append (λ (x : Hist). (x.space == m) && (x.position == i)) hists (hists_kept tables n k es))
    ∙ ap (λ o. option_map logged (option_or (hist_at hists m i) o)) (logged-elsewhere tables n m k es i other)
    ∙ ap (option_map logged) (option_or-none (hist_at hists m i))
