-- Ids that go, one list behind another.
use Rattle.std.proofs.Common.{◌≡◌, ℕ, ◌==◌, Bool, true, false, ◌||◌, cond, List, [], ◌∷◌, ◌++◌, None, is_some, refl, sym, ap, ◌∙◌, ◌⊎◌, inl, inr, ◌≢◌}
use Rattle.std.proofs.lemmas.Bool.{cases_eq, ne_eqb, and_from, or_from, or_right, eq-eqb}
use Rattle.std.proofs.Math.Bool.{or_assoc}
use Rattle.std.specs.List.{list_all}
use Rattle.wm_base.proofs.Plain.{none_some, unless_parts}
use Rattle.wm_spec.specs.Records.{record_at, ids_differ}
use Rattle.wm_spec.specs.declared.record.Record.{Record}
use Rattle.wm_spec.specs.declared.record.stored.Stored.{Stored}
use Rattle.wm_state.specs.Batches.{is_dropped}
use Rattle.wm_state.proofs.Tests.{all_if}
use Rattle.wm_index.proofs.Lists.{record_at-here, record_at-away}
use Rattle.wm_index.specs.Sought.{ids_with}

-- ---- which ids they are

pub dropped-append : (xs ys : List ℕ) (id : ℕ) → is_dropped (xs ++ ys) id ≡ (is_dropped xs id || is_dropped ys id)
dropped-append [] ys id = refl
dropped-append (x ∷ xs) ys id = ap (λ b. (x == id) || b) (dropped-append xs ys id) ∙ sym (or_assoc (x == id) (is_dropped xs id) (is_dropped ys id))

-- ---- no id is there twice

-- an id is among those of a test only where it has a record
pub there-with : (p : Record → Bool) (ss : List Stored) (id : ℕ) → record_at ss id ≡ None → is_dropped (ids_with p ss) id ≡ false
there-with p [] id none = refl
there-with p (s ∷ ss) id none = by_id (cases_eq s.id id) (there-with p ss id)
  where
    away : (s.id == id) ≡ false → (b : Bool) → is_dropped (ids_with p ss) id ≡ false → is_dropped (cond b (s.id ∷ ids_with p ss) (ids_with p ss)) id ≡ false
    away apart true rest = ap (λ b. b || is_dropped (ids_with p ss) id) apart ∙ rest
    away apart false rest = rest

    by_id : (s.id ≡ id) ⊎ (s.id ≢ id) → (record_at ss id ≡ None → is_dropped (ids_with p ss) id ≡ false) → is_dropped (ids_with p (s ∷ ss)) id ≡ false
    by_id (inl same) rest = absurd (none_some (record_at (s ∷ ss) id) s.record none (record_at-here s ss id same))
    by_id (inr other) rest = away (ne_eqb s.id id other) (p s.record) (rest (sym (record_at-away s ss id other) ∙ none))

-- ids of records are there
pub there_all : (p : Record → Bool) (ss : List Stored) → list_all (λ id. is_some (record_at ss id)) (ids_with p ss) ≡ true
there_all p [] = refl
there_all p (s ∷ ss) = by_test (p s.record) (all_if (λ id. is_some (record_at ss id)) (λ id. is_some (record_at (s ∷ ss) id)) (λ id is. by_id id (cases_eq s.id id) is) (ids_with p ss) (there_all p ss))
  where
    by_id : (id : ℕ) → (s.id ≡ id) ⊎ (s.id ≢ id) → is_some (record_at ss id) ≡ true → is_some (record_at (s ∷ ss) id) ≡ true
    by_id id (inl same) is = ap is_some (record_at-here s ss id same)
    by_id id (inr away) is = ap is_some (record_at-away s ss id away) ∙ is

    by_test : (b : Bool) → list_all (λ id. is_some (record_at (s ∷ ss) id)) (ids_with p ss) ≡ true → list_all (λ id. is_some (record_at (s ∷ ss) id)) (cond b (s.id ∷ ids_with p ss) (ids_with p ss)) ≡ true
    by_test true rest = and_from (is_some (record_at (s ∷ ss) s.id)) (list_all (λ id. is_some (record_at (s ∷ ss) id)) (ids_with p ss)) (ap is_some (record_at-here s ss s.id refl)) rest
    by_test false rest = rest

pub differ-append : (xs ys : List ℕ) → ids_differ xs ≡ true → ids_differ ys ≡ true → ((id : ℕ) → is_dropped xs id ≡ true → is_dropped ys id ≡ false) → ids_differ (xs ++ ys) ≡ true
unfolding ids_differ
differ-append [] ys differ_xs differ_ys apart = differ_ys
differ-append (x ∷ xs) ys differ_xs differ_ys apart =
    let h = unless_parts (is_dropped xs x) (ids_differ xs) differ_xs in
    rw (dropped-append xs ys x ∙ or_from (is_dropped xs x) (is_dropped ys x) h.0 (apart x (ap (λ b. b || is_dropped xs x) (eq-eqb x x refl))))
    (differ-append xs ys h.1 differ_ys (λ id is. apart id (or_right (x == id) (is_dropped xs id) is)))
