-- Records in the order of their ids, and those of the ids that pass a test.
use Rattle.std.proofs.Common.{◌≡◌, ◌≢◌, ℕ, Bool, true, false, cond, List, [], ◌∷◌, map, Some, None, refl, ◌∙◌, arith}
use Rattle.std.proofs.lemmas.Bool.{eq-eqb, ne_eqb}
use Rattle.std.proofs.lemmas.Map.Keys.{sorted_head, sorted_tail}
use Rattle.std.specs.List.{AllByRecursion, filter, filter_map, find}
use Rattle.std.specs.List.Sorted.{IsStrictlySortedBy}
use Rattle.std.specs.Ordering.{nat_cmp}
use Rattle.std.specs.declared.cmp.Ordering.TheVariants.{Less}
use Rattle.wm_spec.specs.Records.{record_at}
use Rattle.wm_spec.specs.declared.record.Record.{Record}
use Rattle.wm_spec.specs.declared.record.stored.Stored.{Stored}
use Rattle.wm_ids.proofs.IdLists.{less_than}
use Rattle.wm_index.specs.Sought.{ids_with, first_of}

-- ---- what is found

pub record_at-none : (id : ℕ) → record_at [] id ≡ None
unfolding record_at
record_at-none id = refl

pub record_at-here : (s : Stored) (ss : List Stored) (id : ℕ) → s.id ≡ id → record_at (s ∷ ss) id ≡ Some s.record
unfolding record_at
record_at-here s ss id e = rw (eq-eqb _ _ e) refl

pub record_at-away : (s : Stored) (ss : List Stored) (id : ℕ) → s.id ≢ id → record_at (s ∷ ss) id ≡ record_at ss id
unfolding record_at
record_at-away s ss id e = rw (ne_eqb _ _ e) refl

-- ---- the records of ids

-- the ids of records
abbrev pub ids_of : List Stored → List ℕ
ids_of ss = map (λ (s : Stored). s.id) ss

-- the ids of later records are not that of the first
taken-away : (s : Stored) (ss : List Stored) (p : Record → Bool) (ts : List Stored) → AllByRecursion (λ k. nat_cmp s.id k ≡ Less) (ids_of ts) → filter_map (record_at (s ∷ ss)) (ids_with p ts) ≡ filter_map (record_at ss) (ids_with p ts)
taken-away s ss p [] above = refl
taken-away s ss p (t ∷ ts) above = by_test (p t.record) (taken-away s ss p ts above.1)
  where
    by_test : (b : Bool) → filter_map (record_at (s ∷ ss)) (ids_with p ts) ≡ filter_map (record_at ss) (ids_with p ts)
        → filter_map (record_at (s ∷ ss)) (cond b (t.id ∷ ids_with p ts) (ids_with p ts)) ≡ filter_map (record_at ss) (cond b (t.id ∷ ids_with p ts) (ids_with p ts))
    by_test true rest = rw (record_at-away s ss t.id (λ e. let lt = less_than s.id t.id above.0 in omega (arith, lt, e)), rest) refl
    by_test false rest = rest

-- the records of the ids that pass a test are those that pass it
pub taken-with : (p : Record → Bool) (ss : List Stored) → IsStrictlySortedBy nat_cmp (ids_of ss) → filter_map (record_at ss) (ids_with p ss) ≡ filter p (map (λ (s : Stored). s.record) ss)
taken-with p [] sorted = refl
taken-with p (s ∷ ss) sorted = by_test (p s.record) (taken-away s ss p ss (sorted_head nat_cmp s.id (ids_of ss) sorted) ∙ taken-with p ss (sorted_tail nat_cmp s.id (ids_of ss) sorted))
  where
    by_test : (b : Bool) → filter_map (record_at (s ∷ ss)) (ids_with p ss) ≡ filter p (map (λ (k : Stored). k.record) ss)
        → filter_map (record_at (s ∷ ss)) (cond b (s.id ∷ ids_with p ss) (ids_with p ss)) ≡ cond b (s.record ∷ filter p (map (λ (k : Stored). k.record) ss)) (filter p (map (λ (k : Stored). k.record) ss))
    by_test true rest = rw (record_at-here s ss s.id refl, rest) refl
    by_test false rest = rest

first-away : (s : Stored) (ss : List Stored) (p : Record → Bool) (ts : List Stored) → AllByRecursion (λ k. nat_cmp s.id k ≡ Less) (ids_of ts) → first_of (s ∷ ss) (ids_with p ts) ≡ first_of ss (ids_with p ts)
first-away s ss p [] above = refl
first-away s ss p (t ∷ ts) above = by_test (p t.record) (first-away s ss p ts above.1)
  where
    by_test : (b : Bool) → first_of (s ∷ ss) (ids_with p ts) ≡ first_of ss (ids_with p ts)
        → first_of (s ∷ ss) (cond b (t.id ∷ ids_with p ts) (ids_with p ts)) ≡ first_of ss (cond b (t.id ∷ ids_with p ts) (ids_with p ts))
    by_test true rest = record_at-away s ss t.id (λ e. let lt = less_than s.id t.id above.0 in omega (arith, lt, e))
    by_test false rest = rest

-- the record of the first id that passes a test is the first that passes it
pub first-with : (p : Record → Bool) (ss : List Stored) → IsStrictlySortedBy nat_cmp (ids_of ss) → first_of ss (ids_with p ss) ≡ find p (map (λ (s : Stored). s.record) ss)
first-with p [] sorted = refl
first-with p (s ∷ ss) sorted = by_test (p s.record) (first-away s ss p ss (sorted_head nat_cmp s.id (ids_of ss) sorted) ∙ first-with p ss (sorted_tail nat_cmp s.id (ids_of ss) sorted))
  where
    by_test : (b : Bool) → first_of (s ∷ ss) (ids_with p ss) ≡ find p (map (λ (k : Stored). k.record) ss)
        → first_of (s ∷ ss) (cond b (s.id ∷ ids_with p ss) (ids_with p ss)) ≡ cond b (Some s.record) (find p (map (λ (k : Stored). k.record) ss))
    by_test true rest = record_at-here s ss s.id refl
    by_test false rest = rest
