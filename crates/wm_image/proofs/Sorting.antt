-- Records sorted by their ids: where each id is below the next they are the records by id, and no id stands twice.
use Rattle.std.proofs.Common.{◌≡◌, ◌≢◌, ℕ, zero, suc, ◌+◌, ◌<◌, ◌≤◌, ◌==◌, ◌&&◌, ◌||◌, nat_lt, IsTrue, Bool, true, false, cond, not, List, [], ◌∷◌, length, get_or, Option, Some, None, refl, sym, ap, ◌∙◌, arith}
use Rattle.std.proofs.lemmas.Bool.{eqb-true, ne_eqb, or_parts}
use Rattle.std.proofs.lemmas.List.Elements.{All-from_recursion, recursion_from_All}
use Rattle.std.proofs.lemmas.List.Sorted.{All-permutation, IsPermutation-map, IsPermutation-sym}
use Rattle.std.specs.List.{AllByRecursion, IsAllAdjacentAnswer, list_any}
use Rattle.std.specs.List.Sorted.{IsNonDecreasingBy, IsPermutation}
use Rattle.wm_base.proofs.Plain.{unless_parts}
use Rattle.wm_cells.proofs.Permuted.{differ_permuted}
use Rattle.wm_graph.specs.Rules.{differ}
use Rattle.wm_index.proofs.Listed.{same_test}
use Rattle.wm_index.proofs.Lists.{ids_of, record_at-away, record_at-here}
use Rattle.wm_spec.specs.Records.{AreRecords, ids_differ, record_at}
use Rattle.wm_spec.specs.declared.record.Record.{Record}
use Rattle.wm_spec.specs.declared.record.stored.Stored.{Stored}
use Rattle.wm_state.specs.ById.{AllAbove, Ascend, by_id}
use Rattle.wm_state.proofs.ById.{one_order, Ascend-by_id, record_at-by_id}

-- ---- each id below the next

above_by : (low : ℕ) (ss : List Stored) → ((k : ℕ) (d : Stored) → k < length ss → low < (get_or ss k d).id) → AllAbove low ss
above_by low [] less = tt
above_by low (s ∷ ss) less = (less zero s (omega arith), above_by low ss (λ k d within. less (suc k) d (omega (arith, within))))

ascend_by : (ss : List Stored) → ((i j : ℕ) (d : Stored) → i < j → j < length ss → (get_or ss i d).id < (get_or ss j d).id) → Ascend ss
ascend_by [] less = tt
ascend_by (s ∷ ss) less = (
  above_by s.id ss (λ k d within. less zero (suc k) d (omega arith) (omega (arith, within))),
  ascend_by ss (λ i j d before within. less (suc i) (suc j) d (omega (arith, before)) (omega (arith, within))),
)

-- ids in order ascend where each is below the next
pub neighbours_ascend : (ss : List Stored) → IsNonDecreasingBy (λ (s : Stored). s.id) ss → ((k : ℕ) (d : Stored) → k + 1 < length ss → (get_or ss k d).id < (get_or ss (k + 1) d).id) → Ascend ss
neighbours_ascend ss ordered less =
    ascend_by ss (λ i j d before within.
    let next : (get_or ss i d).id < (get_or ss (i + 1) d).id = less i d (omega (arith, before, within)) in
    let rest : (get_or ss (i + 1) d).id ≤ (get_or ss j d).id = ordered (i + 1) j d (omega (arith, before)) within in
    omega (arith, next, rest))

none_above : (low : ℕ) (ss : List Stored) → AllAbove low ss → list_any (λ other. other == low) (ids_of ss) ≡ false
none_above low [] above = refl
none_above low (s ∷ ss) above = rw (ne_eqb s.id low (λ e. omega (arith, above.0, e))) (none_above low ss above.1)

ascend_differ : (ss : List Stored) → Ascend ss → AreRecords ss
unfolding ids_differ
ascend_differ [] up = refl
ascend_differ (s ∷ ss) up = rw (none_above s.id ss up.0) (ascend_differ ss up.1)

-- an id stands beside itself
pub neighbours_same : (ss : List Stored) (k : ℕ) → k + 1 < length ss → ((d : Stored) → (get_or ss k d).id ≡ (get_or ss (k + 1) d).id) → AreRecords ss → ⊥
unfolding ids_differ
neighbours_same [] k within same are = absurd (omega (arith, within))
neighbours_same (s ∷ []) k within same are = absurd (omega (arith, within))
neighbours_same (s ∷ (t ∷ ts)) zero within same are =
    let apart = unless_parts ((t.id == s.id) || list_any (λ other. other == s.id) (ids_of ts)) (ids_differ (ids_of (t ∷ ts))) are in
    let one : (t.id == s.id) ≡ false = (or_parts (t.id == s.id) (list_any (λ other. other == s.id) (ids_of ts)) apart.0).0 in
    let e : s.id ≡ t.id = same s in
    grind (arith, one, e)
neighbours_same (s ∷ (t ∷ ts)) (suc k) within same are =
    let apart = unless_parts (list_any (λ other. other == s.id) (ids_of (t ∷ ts))) (ids_differ (ids_of (t ∷ ts))) are in
    let next : suc k + 1 ≡ suc (k + 1) = omega arith in
    neighbours_same (t ∷ ts) k (omega (arith, within)) (λ d. same d ∙ ap (λ n. (get_or (s ∷ (t ∷ ts)) n d).id) next) apart.1

-- ---- whatever their order

as_differ : (ids : List ℕ) → ids_differ ids ≡ differ (λ x y. y == x) ids
unfolding ids_differ
as_differ [] = refl
as_differ (id ∷ ids) = rw (as_differ ids) (by_test (list_any (λ other. other == id) ids) (differ (λ x y. y == x) ids))
  where
    by_test : (a b : Bool) → cond a false b ≡ (not a && b)
    by_test true b = refl
    by_test false b = refl

-- whether ids differ does not depend on their order
ids_permuted : (ss ts : List Stored) → IsPermutation ss ts → ids_differ (ids_of ss) ≡ ids_differ (ids_of ts)
ids_permuted ss ts moved =
    as_differ (ids_of ss)
    ∙ differ_permuted (λ x y. y == x) (λ x y. same_test y x) (ids_of ss) (ids_of ts) (IsPermutation-map (λ (s : Stored). s.id) ss ts moved)
    ∙ sym (as_differ (ids_of ts))

-- an id stands twice in other orders too
pub twice_permuted : (ss ts : List Stored) → IsPermutation ss ts → (AreRecords ts → ⊥) → ids_differ (ids_of ss) ≡ false
twice_permuted ss ts moved twice = ids_permuted ss ts moved ∙ by_test (ids_differ (ids_of ts)) refl
  where
    by_test : (b : Bool) → ids_differ (ids_of ts) ≡ b → b ≡ false
    by_test true e = absurd (twice e)
    by_test false e = refl

-- each of the records is found under its id
abbrev AreFound : (ℕ → Option Record) → List Stored → Type 0
AreFound found = AllByRecursion (λ (s : Stored). found s.id ≡ Some s.record)

found_behind : (s : Stored) (all ss : List Stored) → list_any (λ other. other == s.id) (ids_of ss) ≡ false → AreFound (record_at all) ss → AreFound (record_at (s ∷ all)) ss
found_behind s all [] none found = tt
found_behind s all (t ∷ ts) none found =
    let parts = or_parts (t.id == s.id) (list_any (λ other. other == s.id) (ids_of ts)) none in
    let other : s.id ≢ t.id = (λ e. let one = parts.0 in grind (arith, one, e)) in
    (record_at-away s all t.id other ∙ found.0, found_behind s all ts parts.1 found.1)

all_found : (ss : List Stored) → AreRecords ss → AreFound (record_at ss) ss
unfolding ids_differ
all_found [] are = tt
all_found (s ∷ ss) are =
    let parts = unless_parts (list_any (λ other. other == s.id) (ids_of ss)) (ids_differ (ids_of ss)) are in
    (record_at-here s ss s.id refl, found_behind s ss ss parts.0 (all_found ss parts.1))

-- what is found in the records is found where each of them is
found_too : (ss : List Stored) (found : ℕ → Option Record) (id : ℕ) (r : Record) → AreFound found ss → record_at ss id ≡ Some r → found id ≡ Some r
unfolding record_at
found_too [] found id r are e = cc
found_too (s ∷ ss) found id r are e = by_test (s.id == id) refl e (found_too ss found id r are.1)
  where
    by_test : (b : Bool) → (s.id == id) ≡ b → cond b (Some s.record) (record_at ss id) ≡ Some r → (record_at ss id ≡ Some r → found id ≡ Some r) → found id ≡ Some r
    by_test true here e rest = ap found (sym (eqb-true s.id id here)) ∙ are.0 ∙ e
    by_test false here e rest = rest e

-- the same records are found
found_permuted : (ss ts : List Stored) → IsPermutation ss ts → AreRecords ss → AreRecords ts → (id : ℕ) → record_at ss id ≡ record_at ts id
found_permuted ss ts moved are others id = by_found (record_at ss id) refl (record_at ts id) refl
  where
    carried : (xs ys : List Stored) → IsPermutation xs ys → AreRecords xs → AreFound (record_at xs) ys
    carried xs ys moved are =
        let Found : Stored → Type 0 = λ s. record_at xs s.id ≡ Some s.record in
        recursion_from_All Found ys (All-permutation Found xs ys moved (All-from_recursion Found xs (all_found xs are)))

    by_found : (a : Option Record) → record_at ss id ≡ a → (b : Option Record) → record_at ts id ≡ b → a ≡ b
    by_found None p None q = refl
    by_found None p (Some r) q = sym p ∙ found_too ts (record_at ss) id r (carried ss ts moved are) q
    by_found (Some r) p b q = sym (found_too ss (record_at ts) id r (carried ts ss (IsPermutation-sym ss ts moved) others) p) ∙ q

-- records whose ids ascend are the records by id, however these stand
pub ascending_by_id : (ss ts : List Stored) → IsPermutation ss ts → Ascend ts → (ts ≡ by_id ss) × AreRecords ss
ascending_by_id ss ts moved up =
    let others : AreRecords ts = ascend_differ ts up in
    let are : AreRecords ss = ids_permuted ss ts moved ∙ others in (
      one_order ts (by_id ss) up (Ascend-by_id ss are) (λ id. sym (found_permuted ss ts moved are others id) ∙ sym (record_at-by_id ss are id)),
      are,
    )

-- ---- as the test of neighbours tells it

abbrev Tells : List Stored → Bool → Type 0
Tells ss told = IsAllAdjacentAnswer (λ (x y : Stored) (b : Bool). b ≡ nat_lt x.id y.id) ss told

pub told_up : (ss : List Stored) (told : Bool) → IsNonDecreasingBy (λ (s : Stored). s.id) ss → Tells ss told → IsTrue told → Ascend ss
told_up ss true ordered tells e =
    neighbours_ascend ss ordered (λ k d within. let less = tells k d within in grind (arith, less))
told_up ss false ordered tells e = absurd cc

pub told_twice : (ss : List Stored) (told : Bool) → IsNonDecreasingBy (λ (s : Stored). s.id) ss → Tells ss told → told ≡ false → AreRecords ss → ⊥
told_twice ss true ordered tells e are = cc
told_twice ss false ordered tells e are =
    neighbours_same ss tells.0 tells.1 (λ d.
    let not_less = tells.2 d in
    let no_more : (get_or ss tells.0 d).id ≤ (get_or ss (tells.0 + 1) d).id = ordered tells.0 (tells.0 + 1) d (omega arith) tells.1 in
    grind (arith, not_less, no_more))
    are
