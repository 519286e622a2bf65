-- The ids of records that pass a test, and of those that go.
use Rattle.std.proofs.Common.{◌≡◌, ◌≢◌, ℕ, Bool, true, false, cond, ◌&&◌, ◌||◌, List, [], ◌∷◌, Option, Some, refl, sym, ap, ◌∙◌, subst, ◌⊎◌, inl, inr, arith}
use Rattle.std.proofs.lemmas.Bool.{cases_eq, eq-eqb, ne_eqb}
use Rattle.std.specs.List.{filter}
use Rattle.wm_base.proofs.Plain.{none_some}
use Rattle.wm_spec.specs.Records.{record_at, ids_differ}
use Rattle.wm_spec.specs.declared.record.Record.{Record}
use Rattle.wm_spec.specs.declared.record.stored.Stored.{Stored}
use Rattle.wm_state.specs.Batches.{is_dropped}
use Rattle.wm_state.specs.ById.{AllAbove, Ascend}
use Rattle.wm_index.proofs.Lists.{record_at-none, record_at-here, record_at-away}
use Rattle.wm_index.specs.Sought.{ids_with}

one_record : (o : Option Record) (q r : Record) → o ≡ Some q → o ≡ Some r → q ≡ r
one_record o q r e f = cc

-- ---- which ids they are

-- no id of later records is that of the first
away-with : (p : Record → Bool) (id : ℕ) (ss : List Stored) → AllAbove id ss → is_dropped (ids_with p ss) id ≡ false
away-with p id [] above = refl
away-with p id (s ∷ ss) above = by_test (p s.record) (away-with p id ss above.1)
  where
    by_test : (b : Bool) → is_dropped (ids_with p ss) id ≡ false → is_dropped (cond b (s.id ∷ ids_with p ss) (ids_with p ss)) id ≡ false
    by_test true rest = ap (λ b. b || is_dropped (ids_with p ss) id) (ne_eqb s.id id (λ e. absurd (let lt = above.0 in omega arith))) ∙ rest
    by_test false rest = rest

-- an id is among those of a test where its record passes it
pub told-with : (p : Record → Bool) (ss : List Stored) → Ascend ss → (id : ℕ) (r : Record) → record_at ss id ≡ Some r → is_dropped (ids_with p ss) id ≡ p r
told-with p [] sorted id r is = absurd (none_some (record_at [] id) r (record_at-none id) is)
told-with p (s ∷ ss) sorted id r is = by_id (cases_eq s.id id) (told-with p ss sorted.1 id r)
  where
    here : s.id ≡ id → (b : Bool) → is_dropped (cond b (s.id ∷ ids_with p ss) (ids_with p ss)) id ≡ b
    here same true = ap (λ b. b || is_dropped (ids_with p ss) id) (eq-eqb s.id id same)
    here same false = away-with p id ss (subst (λ (k : ℕ). AllAbove k ss) same sorted.0)

    there : s.id ≢ id → (b : Bool) → is_dropped (cond b (s.id ∷ ids_with p ss) (ids_with p ss)) id ≡ is_dropped (ids_with p ss) id
    there away true = ap (λ b. b || is_dropped (ids_with p ss) id) (ne_eqb s.id id away)
    there away false = refl

    by_id : (s.id ≡ id) ⊎ (s.id ≢ id) → (record_at ss id ≡ Some r → is_dropped (ids_with p ss) id ≡ p r) → is_dropped (ids_with p (s ∷ ss)) id ≡ p r
    by_id (inl same) rest = here same (p s.record) ∙ ap p (one_record (record_at (s ∷ ss) id) s.record r (record_at-here s ss id same) is)
    by_id (inr away) rest = there away (p s.record) ∙ rest (sym (record_at-away s ss id away) ∙ is)

-- ---- a batch that drops them

pub differ-with : (p : Record → Bool) (ss : List Stored) → Ascend ss → ids_differ (ids_with p ss) ≡ true
unfolding ids_differ
differ-with p [] sorted = refl
differ-with p (s ∷ ss) sorted = by_test (p s.record) (differ-with p ss sorted.1)
  where
    by_test : (b : Bool) → ids_differ (ids_with p ss) ≡ true → ids_differ (cond b (s.id ∷ ids_with p ss) (ids_with p ss)) ≡ true
    by_test true rest = rw (away-with p s.id ss sorted.0) rest
    by_test false rest = rest

-- ---- those of them whose record passes another test

-- the ids of later records are not that of the first
filter-away : (g : Option Record → Bool) (s : Stored) (ss : List Stored) (q : Record → Bool) (ts : List Stored) → AllAbove s.id ts
    → filter (λ id. g (record_at (s ∷ ss) id)) (ids_with q ts) ≡ filter (λ id. g (record_at ss id)) (ids_with q ts)
filter-away g s ss q [] above = refl
filter-away g s ss q (t ∷ ts) above = by_test (q t.record) (filter-away g s ss q ts above.1)
  where
    by_test : (b : Bool) → filter (λ id. g (record_at (s ∷ ss) id)) (ids_with q ts) ≡ filter (λ id. g (record_at ss id)) (ids_with q ts)
        → filter (λ id. g (record_at (s ∷ ss) id)) (cond b (t.id ∷ ids_with q ts) (ids_with q ts)) ≡ filter (λ id. g (record_at ss id)) (cond b (t.id ∷ ids_with q ts) (ids_with q ts))
    by_test true rest = rw (record_at-away s ss t.id (λ e. absurd (let lt = above.0 in omega arith)), rest) refl
    by_test false rest = rest

-- the ids of records that pass one test, of those whose record passes another
pub filter-with : (g : Option Record → Bool) (q both : Record → Bool) → ((r : Record) → both r ≡ (q r && g (Some r))) → (ss : List Stored) → Ascend ss
    → filter (λ id. g (record_at ss id)) (ids_with q ss) ≡ ids_with both ss
filter-with g q both are [] sorted = refl
filter-with g q both are (s ∷ ss) sorted = by_tests (q s.record) (g (Some s.record)) refl (are s.record) (filter-away g s ss q ss sorted.0 ∙ filter-with g q both are ss sorted.1)
  where
    by_tests : (b c : Bool) → g (Some s.record) ≡ c → both s.record ≡ (b && g (Some s.record)) → filter (λ id. g (record_at (s ∷ ss) id)) (ids_with q ss) ≡ ids_with both ss
        → filter (λ id. g (record_at (s ∷ ss) id)) (cond b (s.id ∷ ids_with q ss) (ids_with q ss)) ≡ ids_with both (s ∷ ss)
    by_tests true true passes is rest = rw (record_at-here s ss s.id refl, is, passes, rest) refl
    by_tests true false fails is rest = rw (record_at-here s ss s.id refl, is, fails, rest) refl
    by_tests false c told is rest = rw is rest
