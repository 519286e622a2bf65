-- Lists of ids, one for each id of others.
use Rattle.std.proofs.Common.{◌≡◌, ◌≢◌, ℕ, ◌==◌, Bool, true, false, not, cond, ◌&&◌, ◌||◌, List, [], ◌∷◌, Option, Some, refl, sym, ap, ◌∙◌}
use Rattle.std.proofs.lemmas.Bool.{eq-eqb, or_from, or_right, true≢false}
use Rattle.std.specs.List.{filter, flat_map, list_all, list_any}
use Rattle.wm_base.proofs.Plain.{unless_parts}
use Rattle.wm_spec.specs.Records.{record_at, ids_differ}
use Rattle.wm_spec.specs.declared.record.Record.{Record}
use Rattle.wm_spec.specs.declared.record.stored.Stored.{Stored}
use Rattle.wm_state.specs.Batches.{is_dropped}
use Rattle.wm_state.specs.ById.{Ascend}
use Rattle.wm_state.proofs.Appending.{all_append}
use Rattle.wm_changes.proofs.Dropping.{filter-with}
use Rattle.wm_changes.proofs.DroppingAll.{differ-append, dropped-append}
use Rattle.wm_ids.specs.Ids.{is_nil}
use Rattle.wm_index.proofs.Finding.{all_of}
use Rattle.wm_index.proofs.Using.{some_ids}
use Rattle.wm_index.specs.Sought.{ids_with}

first : (o : ℕ) (os : List ℕ) → is_dropped (o ∷ os) o ≡ true
first o os = ap (λ b. b || is_dropped os o) (eq-eqb o o refl)

later : (o : ℕ) (os : List ℕ) (k : ℕ) → is_dropped os k ≡ true → is_dropped (o ∷ os) k ≡ true
later o os k is = or_right (o == k) (is_dropped os k) is

-- some list has the id
pub any_flat : (f : ℕ → List ℕ) (os : List ℕ) (id : ℕ) → is_dropped (flat_map f os) id ≡ list_any (λ o. is_dropped (f o) id) os
any_flat f [] id = refl
any_flat f (o ∷ os) id = dropped-append (f o) (flat_map f os) id ∙ ap (λ b. is_dropped (f o) id || b) (any_flat f os id)

-- none has it
none_flat : (f : ℕ → List ℕ) (os : List ℕ) (id : ℕ) → ((k : ℕ) → is_dropped os k ≡ true → is_dropped (f k) id ≡ false) → is_dropped (flat_map f os) id ≡ false
none_flat f [] id none = refl
none_flat f (o ∷ os) id none = dropped-append (f o) (flat_map f os) id ∙ or_from (is_dropped (f o) id) (is_dropped (flat_map f os) id) (none o (first o os)) (none_flat f os id (λ k is. none k (later o os k is)))

-- no id stands twice, where none does in a list and no two lists share one
pub differ_flat : (f : ℕ → List ℕ) (os : List ℕ) → ids_differ os ≡ true → ((o : ℕ) → is_dropped os o ≡ true → ids_differ (f o) ≡ true)
    → ((o k id : ℕ) → is_dropped os o ≡ true → is_dropped os k ≡ true → o ≢ k → is_dropped (f o) id ≡ true → is_dropped (f k) id ≡ false) → ids_differ (flat_map f os) ≡ true
unfolding ids_differ
differ_flat f [] differ each apart = refl
differ_flat f (o ∷ os) differ each apart =
    let h = unless_parts (is_dropped os o) (ids_differ os) differ in
    differ-append (f o) (flat_map f os) (each o (first o os)) (differ_flat f os h.1 (λ k is. each k (later o os k is)) (λ j k id one other. apart j k id (later o os j one) (later o os k other)))
    (λ id is. none_flat f os id (λ k there. apart o k id (first o os) (later o os k there) (λ same. true≢false (sym there ∙ ap (λ i. is_dropped os i) (sym same) ∙ h.0)) is))

-- all pass a test, where those of each list do
pub all_flat : (p : ℕ → Bool) (f : ℕ → List ℕ) (os : List ℕ) → ((o : ℕ) → is_dropped os o ≡ true → list_all p (f o) ≡ true) → list_all p (flat_map f os) ≡ true
all_flat p f [] each = refl
all_flat p f (o ∷ os) each = all_append p (f o) (flat_map f os) (each o (first o os)) (all_flat p f os (λ k is. each k (later o os k is)))

-- some passes one of two tests
pub any_either : (p q g : ℕ → Bool) → ((o : ℕ) → g o ≡ (p o || q o)) → (os : List ℕ) → list_any g os ≡ (list_any p os || list_any q os)
any_either p q g are [] = refl
any_either p q g are (o ∷ os) = rw (are o, any_either p q g are os) (by_tests (p o) (q o) (list_any p os) (list_any q os))
  where
    by_tests : (a b c d : Bool) → ((a || b) || (c || d)) ≡ ((a || c) || (b || d))
    by_tests true b c d = refl
    by_tests false true true d = refl
    by_tests false true false d = refl
    by_tests false false c d = refl

any_left : (p : ℕ → Bool) (ids : List ℕ) → list_any p ids ≡ not (is_nil (filter p ids))
any_left p [] = refl
any_left p (id ∷ ids) = by_test (p id) (any_left p ids)
  where
    by_test : (b : Bool) → list_any p ids ≡ not (is_nil (filter p ids)) → (b || list_any p ids) ≡ not (is_nil (cond b (id ∷ filter p ids) (filter p ids)))
    by_test true rest = refl
    by_test false rest = rest

-- the record of one of the ids of a test passes another, where some record passes both
pub any_with : (g : Option Record → Bool) (q both : Record → Bool) → ((r : Record) → both r ≡ (q r && g (Some r))) → (ss : List Stored) → Ascend ss → list_any (λ id. g (record_at ss id)) (ids_with q ss) ≡ list_any both (all_of ss)
any_with g q both are ss sorted =
    any_left (λ id. g (record_at ss id)) (ids_with q ss) ∙ ap (λ ids. not (is_nil ids)) (filter-with g q both are ss sorted) ∙ some_ids both ss
