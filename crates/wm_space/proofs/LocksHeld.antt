-- Locks of a workspace, found by its ids.
use Rattle.std.proofs.Common.{◌≡◌, ℕ, ◌==◌, ◌&&◌, ◌||◌, not, nat_lt, Bool, true, false, cond, List, [], ◌∷◌, Option, Some, None, refl, sym, ap, ◌∙◌}
use Rattle.std.specs.List.{filter, filter_map, list_all}
use Rattle.std.specs.Option.{option_and_then, option_map_or}
use Rattle.wm_base.proofs.Plain.{and_swap}
use Rattle.wm_graph.specs.Parts.{as_lock, parts_of}
use Rattle.wm_image.proofs.Lists.{taken-with}
use Rattle.wm_index.proofs.Finding.{Tests, all_of, filter-kind}
use Rattle.wm_index.specs.Kinds.{kind_at}
use Rattle.wm_index.specs.Sought.{LocksOf, ids_with, is_sought}
use Rattle.wm_spec.specs.Records.{record_at}
use Rattle.wm_spec.specs.declared.record.Record.{Record}
use Rattle.wm_spec.specs.declared.record.Record.TheVariants as records
use Rattle.wm_spec.specs.declared.record.lock.Lock.{Lock}
use Rattle.wm_spec.specs.declared.record.stored.Stored.{Stored}
use Rattle.wm_state.specs.ById.{Ascend}
use Rattle.wm_state.specs.Editing.{stays_held}
use Rattle.wm_state.specs.Standing.{locks_by_making, place_lock}

-- a lock was made before a place
abbrev pub is_before : ℕ → Lock → Bool
is_before place x = nat_lt x.place place

lock_test : (n : ℕ) → Tests as_lock (λ (x : Lock). x.space == n) (is_sought (LocksOf n))
lock_test n (records.Lock x) = refl
lock_test n _ = refl

all-filter : (p q : Lock → Bool) (xs : List Lock) → list_all p (filter q xs) ≡ list_all (λ x. not (q x) || p x) xs
all-filter p q [] = refl
all-filter p q (x ∷ xs) = by_test (q x) (all-filter p q xs)
  where
    by_test : (b : Bool) → list_all p (filter q xs) ≡ list_all (λ y. not (q y) || p y) xs → list_all p (cond b (x ∷ filter q xs) (filter q xs)) ≡ ((not b || p x) && list_all (λ y. not (q y) || p y) xs)
    by_test true rest = ap (λ b. p x && b) rest
    by_test false rest = rest

-- the first of the ids, by whether its lock passes a test
pub locks-first : (p : Lock → Bool) (ss : List Stored) (id : ℕ) (ids : List ℕ) (b : Bool) → option_map_or p (option_and_then as_lock (record_at ss id)) true ≡ b
    → list_all p (kind_at as_lock ss (id ∷ ids)) ≡ (b && list_all p (kind_at as_lock ss ids))
locks-first p ss id ids b test = by_record (record_at ss id) refl test
  where
    by_record : (o : Option Record) → record_at ss id ≡ o → option_map_or p (option_and_then as_lock o) true ≡ b → list_all p (kind_at as_lock ss (id ∷ ids)) ≡ (b && list_all p (kind_at as_lock ss ids))
    by_record None is test = rw is (ap (λ t. t && list_all p (kind_at as_lock ss ids)) test)
    by_record (Some r) is test = rw is (by_kind (as_lock r) refl test)
      where
        by_kind : (o : Option Lock) → as_lock r ≡ o → option_map_or p o true ≡ b → list_all p (filter_map as_lock (r ∷ filter_map (record_at ss) ids)) ≡ (b && list_all p (kind_at as_lock ss ids))
        by_kind None kind test = rw kind (ap (λ t. t && list_all p (kind_at as_lock ss ids)) test)
        by_kind (Some x) kind test = rw kind (ap (λ t. t && list_all p (kind_at as_lock ss ids)) test)

-- a test holds of all locks by making where it holds of all locks
all_placed : (P : Lock → Bool) (x : Lock) (ys : List Lock) → list_all P (place_lock x ys) ≡ (P x && list_all P ys)
all_placed P x [] = refl
all_placed P x (y ∷ ys) = by_test (nat_lt y.making x.making) (all_placed P x ys)
  where
    by_test : (b : Bool) → list_all P (place_lock x ys) ≡ (P x && list_all P ys) → list_all P (cond b (y ∷ place_lock x ys) (x ∷ y ∷ ys)) ≡ (P x && (P y && list_all P ys))
    by_test true rest = ap (λ c. P y && c) rest ∙ and_swap (P y) (P x) (list_all P ys)
    by_test false rest = refl

all_by_making : (P : Lock → Bool) (xs : List Lock) → list_all P (locks_by_making xs) ≡ list_all P xs
all_by_making P [] = refl
all_by_making P (x ∷ xs) = all_placed P x (locks_by_making xs) ∙ ap (λ c. P x && c) (all_by_making P xs)

-- all locks stay that are of another workspace or were made before a place
pub all_held : (n place : ℕ) (ss : List Stored) → Ascend ss → list_all (is_before place) (kind_at as_lock ss (ids_with (is_sought (LocksOf n)) ss)) ≡ list_all (stays_held n place) (locks_by_making (parts_of ss).locks)
unfolding parts_of
all_held n place ss sorted =
    ap (λ rs. list_all (is_before place) (filter_map as_lock rs)) (taken-with (is_sought (LocksOf n)) ss sorted)
    ∙ ap (list_all (is_before place)) (filter-kind as_lock (λ (x : Lock). x.space == n) (is_sought (LocksOf n)) (lock_test n) (all_of ss))
    ∙ all-filter (is_before place) (λ (x : Lock). x.space == n) (filter_map as_lock (all_of ss))
    ∙ sym (all_by_making (stays_held n place) (filter_map as_lock (all_of ss)))

-- ---- the steps of a walk over the ids

-- the first of those that are left passes, and the others say the same
pub held_on : (ss : List Stored) (place id : ℕ) (left rest : List ℕ) (found : Option Record) (all : Bool) → left ≡ id ∷ rest → found ≡ record_at ss id
    → true ≡ option_map_or (is_before place) (option_and_then as_lock found) true → list_all (is_before place) (kind_at as_lock ss left) ≡ all → list_all (is_before place) (kind_at as_lock ss rest) ≡ all
held_on ss place id left rest found all steps is test more =
    sym (locks-first (is_before place) ss id rest true (ap (λ o. option_map_or (is_before place) (option_and_then as_lock o) true) (sym is) ∙ sym test))
    ∙ ap (λ ids. list_all (is_before place) (kind_at as_lock ss ids)) (sym steps)
    ∙ more

-- or fails
pub held_off : (ss : List Stored) (place id : ℕ) (left rest : List ℕ) (found : Option Record) (all : Bool) → left ≡ id ∷ rest → found ≡ record_at ss id
    → false ≡ option_map_or (is_before place) (option_and_then as_lock found) true → list_all (is_before place) (kind_at as_lock ss left) ≡ all → false ≡ all
held_off ss place id left rest found all steps is test more =
    sym (locks-first (is_before place) ss id rest false (ap (λ o. option_map_or (is_before place) (option_and_then as_lock o) true) (sym is) ∙ sym test))
    ∙ ap (λ ids. list_all (is_before place) (kind_at as_lock ss ids)) (sym steps)
    ∙ more
