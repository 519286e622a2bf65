-- What changes with others behind them make of records, and what is kept of both.
use Rattle.std.proofs.Common.{◌≡◌, ◌≢◌, ◌⊎◌, inl, inr, ℕ, ◌+◌, ◌≤◌, ◌==◌, if◌then◌else◌, Bool, true, false, not, cond, List, [], ◌∷◌, ◌++◌, map, length, Option, refl, sym, ap, ◌∙◌, arith}
use Rattle.std.proofs.lemmas.Bool.{cases_eq, eq-eqb, ne_eqb, and_from, and_parts, or_parts, true≢false}
use Rattle.std.specs.List.{filter, list_all, list_any}
use Rattle.wm_base.proofs.Plain.{unless_parts}
use Rattle.wm_spec.specs.Records.{AreChanges, ids_differ, record_at}
use Rattle.wm_spec.specs.declared.record.Record.{Record}
use Rattle.wm_spec.specs.declared.record.batch.Change.{Change}
use Rattle.wm_spec.specs.declared.record.stored.Stored.{Stored}
use Rattle.wm_state.specs.ById.{Ascend, applied, set_at}
use Rattle.wm_state.specs.Drafts.{followed_by, is_change_of}
use Rattle.wm_state.proofs.Batches.{Ascend-applied}
use Rattle.wm_state.proofs.ById.{Ascend-set, one_order, record_at-set}
use Rattle.wm_state.proofs.Putting.{set_other}
use Rattle.wm_state.proofs.Tests.{all_filter}
use Rattle.wm_state.proofs.Planned.{applied-append}

-- ---- one id behind changes

-- a change makes the same of what was the same
set_same : (c : Change) (id : ℕ) (xs ys : List Stored) → Ascend xs → Ascend ys → record_at xs id ≡ record_at ys id → record_at (set_at c.id c.becomes xs) id ≡ record_at (set_at c.id c.becomes ys) id
set_same c id xs ys one two same = record_at-set c.id c.becomes xs one id ∙ ap (λ (o : Option Record). if id == c.id then c.becomes else o) same ∙ sym (record_at-set c.id c.becomes ys two id)

-- whatever was at the id of a change
set_over : (c : Change) (id : ℕ) (xs ys : List Stored) → Ascend xs → Ascend ys → c.id ≡ id → record_at (set_at c.id c.becomes xs) id ≡ record_at (set_at c.id c.becomes ys) id
set_over c id xs ys one two here = record_at-set c.id c.becomes xs one id ∙ rw (eq-eqb id c.id (sym here)) refl ∙ sym (record_at-set c.id c.becomes ys two id)

-- changes make the same of an id, where one is of it or what was there is the same
pub applied_same : (ds : List Change) (id : ℕ) (xs ys : List Stored) → Ascend xs → Ascend ys → (list_any (is_change_of id) ds ≡ false → record_at xs id ≡ record_at ys id) → record_at (applied ds xs) id ≡ record_at (applied ds ys) id
applied_same [] id xs ys one two same = same refl
applied_same (d ∷ ds) id xs ys one two same =
    applied_same ds id (set_at d.id d.becomes xs) (set_at d.id d.becomes ys) (Ascend-set d.id d.becomes xs one) (Ascend-set d.id d.becomes ys two) (by_id (cases_eq d.id id))
  where
    by_id : (d.id ≡ id) ⊎ (d.id ≢ id) → list_any (is_change_of id) ds ≡ false → record_at (set_at d.id d.becomes xs) id ≡ record_at (set_at d.id d.becomes ys) id
    by_id (inl here) none = set_over d id xs ys one two here
    by_id (inr away) none = set_same d id xs ys one two (same (rw (ne_eqb d.id id away) none))

-- the test of the changes that stay
abbrev stays_before : List Change → Change → Bool
stays_before later c = not (list_any (is_change_of c.id) later)

-- those that stay make what all make of an id that is none of the later ones
stay_same : (later cs : List Change) (id : ℕ) (xs ys : List Stored) → Ascend xs → Ascend ys → list_any (is_change_of id) later ≡ false → record_at xs id ≡ record_at ys id
    → record_at (applied (filter (stays_before later) cs) xs) id ≡ record_at (applied cs ys) id
stay_same later [] id xs ys one two away same = same
stay_same later (c ∷ cs) id xs ys one two away same = by_test (list_any (is_change_of c.id) later) refl (λ zs. stay_same later cs id zs (set_at c.id c.becomes ys))
  where
    out : list_any (is_change_of c.id) later ≡ true → c.id ≢ id
    out goes here = true≢false (sym goes ∙ ap (λ k. list_any (is_change_of k) later) here ∙ away)

    sorted : Ascend (set_at c.id c.becomes ys)
    sorted = Ascend-set c.id c.becomes ys two

    by_test : (b : Bool) → list_any (is_change_of c.id) later ≡ b
        → ((zs : List Stored) → Ascend zs → Ascend (set_at c.id c.becomes ys) → list_any (is_change_of id) later ≡ false → record_at zs id ≡ record_at (set_at c.id c.becomes ys) id
        → record_at (applied (filter (stays_before later) cs) zs) id ≡ record_at (applied cs (set_at c.id c.becomes ys)) id)
        → record_at (applied (cond (not b) (c ∷ filter (stays_before later) cs) (filter (stays_before later) cs)) xs) id ≡ record_at (applied cs (set_at c.id c.becomes ys)) id
    by_test true goes rest = rest xs one sorted away (same ∙ sym (set_other c.id c.becomes ys id (out goes)))
    by_test false goes rest = rest (set_at c.id c.becomes xs) (Ascend-set c.id c.becomes xs one) sorted away (set_same c id xs ys one two same)

-- ---- what they make of records

-- the later changes make of the records what they make of what the first ones make of them
pub applied_followed : (rs : List Stored) (cs ds : List Change) → Ascend rs → applied (followed_by cs ds) rs ≡ applied ds (applied cs rs)
applied_followed rs cs ds sorted =
    applied-append front ds rs
    ∙ one_order (applied ds (applied front rs)) (applied ds (applied cs rs)) (Ascend-applied ds (applied front rs) first) (Ascend-applied ds (applied cs rs) all)
    (λ id. applied_same ds id (applied front rs) (applied cs rs) first all (λ away. stay_same ds cs id rs rs sorted sorted away refl))
  where
    front : List Change
    front = filter (stays_before ds) cs

    first : Ascend (applied front rs)
    first = Ascend-applied front rs sorted

    all : Ascend (applied cs rs)
    all = Ascend-applied cs rs sorted

-- ---- what is kept of both

-- no later change is of the id
none_later : (id : ℕ) (ds : List Change) → list_any (is_change_of id) ds ≡ false → list_any (λ other. other == id) (map (λ (c : Change). c.id) ds) ≡ false
none_later id [] away = refl
none_later id (d ∷ ds) away = let h = or_parts (d.id == id) (list_any (is_change_of id) ds) away in rw (h.0, none_later id ds h.1) refl

-- nor one that stays
none_there : (id : ℕ) (keep : Change → Bool) (cs ds : List Change) → list_any (λ other. other == id) (map (λ (c : Change). c.id) cs) ≡ false → list_any (is_change_of id) ds ≡ false
    → list_any (λ other. other == id) (map (λ (c : Change). c.id) (filter keep cs ++ ds)) ≡ false
none_there id keep [] ds none away = none_later id ds away
none_there id keep (c ∷ cs) ds none away =
    let h = or_parts (c.id == id) (list_any (λ other. other == id) (map (λ (c : Change). c.id) cs)) none in by_test (keep c) h.0 (none_there id keep cs ds h.1 away)
  where
    by_test : (b : Bool) → (c.id == id) ≡ false → list_any (λ other. other == id) (map (λ (c : Change). c.id) (filter keep cs ++ ds)) ≡ false
        → list_any (λ other. other == id) (map (λ (c : Change). c.id) (cond b (c ∷ filter keep cs) (filter keep cs) ++ ds)) ≡ false
    by_test true other rest = rw (other, rest) refl
    by_test false other rest = rest

-- a change of another id before others
once_more : (c : Change) (rest : List Change) → list_any (λ other. other == c.id) (map (λ (x : Change). x.id) rest) ≡ false → AreChanges rest → AreChanges (c ∷ rest)
unfolding ids_differ
once_more c rest none differ = rw none differ

-- so is the first of changes
once_parted : (c : Change) (rest : List Change) → AreChanges (c ∷ rest) → (list_any (λ other. other == c.id) (map (λ (x : Change). x.id) rest) ≡ false) × AreChanges rest
unfolding ids_differ
once_parted c rest differ = unless_parts (list_any (λ other. other == c.id) (map (λ (x : Change). x.id) rest)) (ids_differ (map (λ (x : Change). x.id) rest)) differ

-- no id changes twice
pub AreChanges-followed : (cs ds : List Change) → AreChanges cs → AreChanges ds → AreChanges (followed_by cs ds)
AreChanges-followed cs ds one two = behind cs one
  where
    behind : (xs : List Change) → AreChanges xs → AreChanges (filter (stays_before ds) xs ++ ds)
    behind [] differ = two
    behind (x ∷ xs) differ = let h = once_parted x xs differ in by_test (list_any (is_change_of x.id) ds) refl h.0 (behind xs h.1)
      where
        by_test : (b : Bool) → list_any (is_change_of x.id) ds ≡ b → list_any (λ other. other == x.id) (map (λ (c : Change). c.id) xs) ≡ false → AreChanges (filter (stays_before ds) xs ++ ds)
            → AreChanges (cond (not b) (x ∷ filter (stays_before ds) xs) (filter (stays_before ds) xs) ++ ds)
        by_test true goes none rest = rest
        by_test false goes none rest = once_more x (filter (stays_before ds) xs ++ ds) (none_there x.id (stays_before ds) xs ds none goes) rest

-- what all changes pass
pub all_followed : (test : Change → Bool) (cs ds : List Change) → list_all test cs ≡ true → list_all test ds ≡ true → list_all test (followed_by cs ds) ≡ true
all_followed test cs ds one two = behind (filter (stays_before ds) cs) (all_filter test (stays_before ds) cs one)
  where
    behind : (xs : List Change) → list_all test xs ≡ true → list_all test (xs ++ ds) ≡ true
    behind [] all = two
    behind (x ∷ xs) all = let h = and_parts (test x) (list_all test xs) all in and_from (test x) (list_all test (xs ++ ds)) h.0 (behind xs h.1)

-- they are no more than both
pub length-followed : (cs ds : List Change) → length (followed_by cs ds) ≤ length cs + length ds
length-followed cs ds = counted cs
  where
    counted : (xs : List Change) → length (filter (stays_before ds) xs ++ ds) ≤ length xs + length ds
    counted [] = omega arith
    counted (x ∷ xs) = by_test (list_any (is_change_of x.id) ds) (counted xs)
      where
        by_test : (b : Bool) → length (filter (stays_before ds) xs ++ ds) ≤ length xs + length ds → length (cond (not b) (x ∷ filter (stays_before ds) xs) (filter (stays_before ds) xs) ++ ds) ≤ length (x ∷ xs) + length ds
        by_test true rest = omega (arith, rest)
        by_test false rest = omega (arith, rest)
