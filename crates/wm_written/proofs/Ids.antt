-- The ids of a batch, and those that are free.
use Rattle.std.proofs.Common.{◌≡◌, ◌≢◌, ℕ, ◌+◌, ◌<◌, ◌≤◌, ◌==◌, nat_lt, Bool, true, false, List, [], ◌∷◌, ◌++◌, map, None, refl, sym, ap, ◌∙◌, ◌⊎◌, inl, inr, arith}
use Rattle.std.proofs.lemmas.Bool.{cases_eq, and_from, and_parts, ltb-false, ltb-true}
use Rattle.std.specs.List.{list_all, list_any}
use Rattle.wm_base.proofs.Plain.{nat_lt-next, nat_lt-other, none_some, unless_parts}
use Rattle.wm_spec.specs.Records.{record_at, ids_differ}
use Rattle.wm_spec.specs.declared.record.stored.Stored.{Stored}
use Rattle.wm_spec.specs.declared.record.batch.Change.{Change}
use Rattle.wm_state.specs.Batches.{AllUnder, drop_one}
use Rattle.wm_state.proofs.ById.{record_at-here, record_at-away}
use Rattle.wm_state.proofs.Tests.{any_push}

-- ---- free ids

-- where no id from one on has a record, all ids are below it
pub under_next : (next : ℕ) (ss : List Stored) → ((id : ℕ) → next ≤ id → record_at ss id ≡ None) → AllUnder next ss
under_next next [] free = tt
under_next next (s ∷ ss) free = (by_test (nat_lt s.id next) refl, under_next next ss (λ id from. by_id id from (cases_eq s.id id)))
  where
    by_test : (b : Bool) → nat_lt s.id next ≡ b → s.id < next
    by_test true e = ltb-true s.id next e
    by_test false e = absurd (none_some (record_at (s ∷ ss) s.id) s.record (free s.id (ltb-false s.id next e)) (record_at-here s ss s.id refl))

    by_id : (id : ℕ) → next ≤ id → (s.id ≡ id) ⊎ (s.id ≢ id) → record_at ss id ≡ None
    by_id id high (inl here) = absurd (none_some (record_at (s ∷ ss) id) s.record (free id high) (record_at-here s ss id here))
    by_id id high (inr away) = sym (record_at-away s ss id away) ∙ free id high

-- ---- ids that differ

-- each is below
abbrev pub are_under : ℕ → List ℕ → Bool
are_under n ids = list_all (λ id. nat_lt id n) ids

pub ids_differ-push : (n : ℕ) (ids : List ℕ) → ids_differ ids ≡ true → are_under n ids ≡ true → ids_differ (ids ++ n ∷ []) ≡ true
unfolding ids_differ
ids_differ-push n [] differ under = refl
ids_differ-push n (id ∷ ids) differ under =
    let h = unless_parts (list_any (λ other. other == id) ids) (ids_differ ids) differ in
    let g = and_parts (nat_lt id n) (are_under n ids) under in
    rw (any_push (λ other. other == id) ids n h.0 (nat_lt-other id n g.0)) (ids_differ-push n ids h.1 g.1)

pub are_under-push : (n : ℕ) (ids : List ℕ) → are_under n ids ≡ true → are_under (n + 1) (ids ++ n ∷ []) ≡ true
are_under-push n [] under = rw (nat_lt-next n) refl
are_under-push n (id ∷ ids) under =
    let g = and_parts (nat_lt id n) (are_under n ids) under in
    and_from (nat_lt id (n + 1)) (are_under (n + 1) (ids ++ n ∷ [])) (lt_next id n g.0) (are_under-push n ids g.1)
  where
    lt_next : (m k : ℕ) → nat_lt m k ≡ true → nat_lt m (k + 1) ≡ true
    lt_next m k e = grind (arith, e)

pub ids_of-dropped : (ids : List ℕ) (cs : List Change) → map (λ (c : Change). c.id) (map drop_one ids ++ cs) ≡ ids ++ map (λ (c : Change). c.id) cs
ids_of-dropped [] cs = refl
ids_of-dropped (id ∷ ids) cs = ap (λ xs. id ∷ xs) (ids_of-dropped ids cs)
