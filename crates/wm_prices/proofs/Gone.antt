-- How many records go: no more than there are that a test does not keep.
use Rattle.std.proofs.Common.{◌≡◌, ℕ, ◌+◌, ◌≤◌, ◌==◌, Bool, true, false, not, cond, List, [], ◌∷◌, length, Option, Some, None, is_some, refl, sym, ap, ◌∙◌, arith}
use Rattle.std.proofs.lemmas.Bool.{eq-eqb, eqb-true, and_parts, or_left, or_parts, or_right, true≢false}
use Rattle.std.proofs.lemmas.List.Elements.{All-cons, All-nil}
use Rattle.std.proofs.lemmas.Option.{same_Some}
use Rattle.std.specs.List.{All, count_by, filter, list_all, list_any}
use Rattle.wm_net.proofs.Counting.{count-cons, weight}
use Rattle.wm_net.proofs.Sharing.{partners}
use Rattle.wm_spec.specs.Records.{ids_differ, record_at}
use Rattle.wm_spec.specs.declared.record.Record.{Record}
use Rattle.wm_spec.specs.declared.record.stored.Stored.{Stored}
use Rattle.wm_state.specs.Batches.{AreDropped, is_dropped}

-- ---- ids

-- one that is none of them counts for nothing
count_out : (k : ℕ) (ids : List ℕ) → list_any (λ d. d == k) ids ≡ false → count_by (λ d. d == k) ids ≡ 0
count_out k [] none = refl
count_out k (d ∷ ds) none =
    let h = or_parts (d == k) (list_any (λ e. e == k) ds) none in
    let first = count-cons (λ e. e == k) d ds in
    let zero : cond (d == k) 1 0 ≡ 0 = ap weight h.0 in
    let rest = count_out k ds h.1 in
    omega (arith, first, zero, rest)

-- where they differ, each counts once at most
count_in : (k : ℕ) (ids : List ℕ) → ids_differ ids ≡ true → count_by (λ d. d == k) ids ≤ 1
unfolding ids_differ
count_in k [] once = omega arith
count_in k (d ∷ ds) once = by_test (d == k) refl (list_any (λ e. e == d) ds) refl once (count-cons (λ e. e == k) d ds) (count_in k ds)
  where
    by_test : (b : Bool) → (d == k) ≡ b → (t : Bool) → list_any (λ e. e == d) ds ≡ t → (cond t false (ids_differ ds)) ≡ true → count_by (λ e. e == k) (d ∷ ds) ≡ cond b 1 0 + count_by (λ e. e == k) ds
        → (ids_differ ds ≡ true → count_by (λ e. e == k) ds ≤ 1) → count_by (λ e. e == k) (d ∷ ds) ≤ 1
    by_test b is true inside differ first rest = absurd (true≢false (sym differ))
    by_test true is false out differ first rest = let none = count_out k ds (ap (λ j. list_any (λ e. e == j) ds) (sym (eqb-true d k is)) ∙ out) in omega (arith, first, none)
    by_test false is false out differ first rest = let few = rest differ in omega (arith, first, few)

-- each is one of them
all_in : (ids ds : List ℕ) → ((d : ℕ) → is_dropped ds d ≡ true → is_dropped ids d ≡ true) → list_all (is_dropped ids) ds ≡ true
all_in ids [] more = refl
all_in ids (d ∷ ds) more = rw (more d (or_left (d == d) (is_dropped ds d) (eq-eqb d d refl))) (all_in ids ds (λ k one. more k (or_right (d == k) (is_dropped ds k) one)))

-- ---- records

-- those that a test does not keep
abbrev pub going : (Record → Bool) → List Stored → List Stored
going keep ss = filter (λ (s : Stored). not (keep s.record)) ss

-- a record that is not kept is among them
going_there : (keep : Record → Bool) (ss : List Stored) (id : ℕ) (r : Record) → record_at ss id ≡ Some r → not (keep r) ≡ true → list_any (λ (s : Stored). id == s.id) (going keep ss) ≡ true
unfolding record_at
going_there keep [] id r found goes = cc
going_there keep (s ∷ ss) id r found goes = by_tests (s.id == id) (not (keep s.record)) refl refl found (going_there keep ss id r)
  where
    behind : (b : Bool) → list_any (λ (t : Stored). id == t.id) (going keep ss) ≡ true → list_any (λ (t : Stored). id == t.id) (cond b (s ∷ going keep ss) (going keep ss)) ≡ true
    behind true rest = or_right (id == s.id) _ rest
    behind false rest = rest

    by_tests : (a b : Bool) → (s.id == id) ≡ a → not (keep s.record) ≡ b → cond a (Some s.record) (record_at ss id) ≡ Some r → (record_at ss id ≡ Some r → not (keep r) ≡ true → list_any (λ (t : Stored). id == t.id) (going keep ss) ≡ true)
        → list_any (λ (t : Stored). id == t.id) (cond b (s ∷ going keep ss) (going keep ss)) ≡ true
    by_tests false b same is here rest = behind b (rest here goes)
    by_tests true true same is here rest = rw (eq-eqb id s.id (sym (eqb-true s.id id same))) refl
    by_tests true false same is here rest = absurd (true≢false (sym goes ∙ ap (λ (q : Record). not (keep q)) (sym (same_Some s.record r here)) ∙ is))

-- ids of records that a test does not keep, each once, are no more than these
pub few_gone : (ss : List Stored) (keep : Record → Bool) (ids : List ℕ) → AreDropped keep ids ss → ids_differ ids ≡ true → list_all (λ id. is_some (record_at ss id)) ids ≡ true → length ids ≤ length (going keep ss)
few_gone ss keep ids gone once there =
    partners (λ id (s : Stored). id == s.id) ids (going keep ss) (each ids (all_in ids ids (λ d one. one)) there) (λ s. count_in s.id ids once)
  where
    found : (id : ℕ) (o : Option Record) → record_at ss id ≡ o → is_some o ≡ true → is_dropped ids id ≡ true → list_any (λ (s : Stored). id == s.id) (going keep ss) ≡ true
    found id None is some one = absurd (true≢false (sym some))
    found id (Some r) is some one = going_there keep ss id r is (sym (gone id r is) ∙ one)

    each : (ds : List ℕ) → list_all (is_dropped ids) ds ≡ true → list_all (λ id. is_some (record_at ss id)) ds ≡ true → All (λ id. list_any (λ (s : Stored). id == s.id) (going keep ss) ≡ true) ds
    each [] one some = All-nil (λ id. list_any (λ (s : Stored). id == s.id) (going keep ss) ≡ true)
    each (d ∷ ds) one some =
        let h = and_parts (is_dropped ids d) (list_all (is_dropped ids) ds) one in
        let g = and_parts (is_some (record_at ss d)) (list_all (λ id. is_some (record_at ss id)) ds) some in
        All-cons (λ id. list_any (λ (s : Stored). id == s.id) (going keep ss) ≡ true) d ds (found d (record_at ss d) refl g.0 h.0) (each ds h.1 g.1)
