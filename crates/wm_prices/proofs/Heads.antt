-- The records that several edits change: by the rules there are three at most, that of the counters and those of two workspaces.
use Rattle.std.proofs.Common.{◌≡◌, ℕ, ◌+◌, ◌≤◌, ◌==◌, Bool, true, false, not, ◌||◌, cond, List, [], ◌∷◌, ◌++◌, map, length, Some, refl, sym, ap, ◌∙◌, arith}
use Rattle.std.proofs.lemmas.Bool.{eqb-true, eq-eqb, and_parts, not-true, or_parts, true≢false}
use Rattle.std.proofs.lemmas.List.{length-append}
use Rattle.std.proofs.lemmas.List.Folds.{list_any-append}
use Rattle.std.specs.List.{cons_option, count_by, filter_map, list_any}
use Rattle.std.specs.Option.{option_map_or}
use Rattle.wm_graph.specs.Parts.{as_counters, as_space, parts_of}
use Rattle.wm_graph.specs.Rules.{differ, keep_rules}
use Rattle.wm_net.proofs.Counting.{count-cons}
use Rattle.wm_spec.specs.Records.{record_at}
use Rattle.wm_spec.specs.declared.record.Record.{Record}
use Rattle.wm_spec.specs.declared.record.Record.TheVariants as records
use Rattle.wm_spec.specs.declared.record.counters.Counters.{Counters}
use Rattle.wm_spec.specs.declared.record.space.Space.{Space}
use Rattle.wm_spec.specs.declared.record.stored.Stored.{Stored}
use Rattle.wm_state.proofs.Apart.{ruled}
use Rattle.wm_state.proofs.Spaces.{ruled_spaces}
use Rattle.wm_prices.specs.Prices.{ChangesAtMost, ChangesBeside, is_head}

-- the record is that of the counters, or of one of two workspaces
abbrev pub is_either : ℕ → ℕ → Record → Bool
is_either n m r = is_head n r || is_head m r

-- ---- ids

-- the ids of records that pass a test
abbrev ids_that : (Record → Bool) → List Stored → List ℕ
ids_that test [] = []
ids_that test (s ∷ ss) = cond (test s.record) (s.id ∷ ids_that test ss) (ids_that test ss)

-- the record of another id does not pass it
fails_else : (test : Record → Bool) (ss : List Stored) (id : ℕ) → list_any (λ k. k == id) (ids_that test ss) ≡ false → option_map_or test (record_at ss id) false ≡ false
unfolding record_at
fails_else test [] id none = refl
fails_else test (s ∷ ss) id none = by_case (test s.record) (s.id == id) refl refl none (fails_else test ss id)
  where
    by_case : (b a : Bool) → test s.record ≡ b → (s.id == id) ≡ a → list_any (λ k. k == id) (cond b (s.id ∷ ids_that test ss) (ids_that test ss)) ≡ false
        → (list_any (λ k. k == id) (ids_that test ss) ≡ false → option_map_or test (record_at ss id) false ≡ false)
        → option_map_or test (cond a (Some s.record) (record_at ss id)) false ≡ false
    by_case true true is same e rest = absurd (true≢false (sym same ∙ (or_parts (s.id == id) (list_any (λ k. k == id) (ids_that test ss)) e).0))
    by_case true false is same e rest = rest (or_parts (s.id == id) (list_any (λ k. k == id) (ids_that test ss)) e).1
    by_case false true is same e rest = is
    by_case false false is same e rest = rest e

-- ---- how many there are

-- the workspace is of this number
abbrev has_number : ℕ → Space → Bool
has_number n r = r.number == n

-- so many records are counted, and no more
counted_one : (n m id : ℕ) (r : Record) (rest : List ℕ) (cs : List Counters) (ss : List Space) → length rest ≤ length cs + (count_by (has_number n) ss + count_by (has_number m) ss)
    → length (cond (is_either n m r) (id ∷ rest) rest) ≤ length (cons_option (as_counters r) cs) + (count_by (has_number n) (cons_option (as_space r) ss) + count_by (has_number m) (cons_option (as_space r) ss))
counted_one n m id (records.Counters c) rest cs ss le = omega (arith, le)
counted_one n m id (records.Space s) rest cs ss le = by_two (s.number == n) (s.number == m) (count-cons (has_number n) s ss) (count-cons (has_number m) s ss)
  where
    by_two : (a b : Bool) → count_by (has_number n) (s ∷ ss) ≡ cond a 1 0 + count_by (has_number n) ss → count_by (has_number m) (s ∷ ss) ≡ cond b 1 0 + count_by (has_number m) ss
        → length (cond (a || b) (id ∷ rest) rest) ≤ length cs + (count_by (has_number n) (s ∷ ss) + count_by (has_number m) (s ∷ ss))
    by_two true b one two = omega (arith, le, one, two)
    by_two false true one two = omega (arith, le, one, two)
    by_two false false one two = omega (arith, le, one, two)
counted_one n m id _ rest cs ss le = le

counted_all : (n m : ℕ) (ss : List Stored) → let rs = map (λ (s : Stored). s.record) ss in
    length (ids_that (is_either n m) ss) ≤ length (filter_map as_counters rs) + (count_by (has_number n) (filter_map as_space rs) + count_by (has_number m) (filter_map as_space rs))
counted_all n m [] = omega arith
counted_all n m (s ∷ ss) =
    let rs = map (λ (s : Stored). s.record) ss in
    counted_one n m s.id s.record (ids_that (is_either n m) ss) (filter_map as_counters rs) (filter_map as_space rs) (counted_all n m ss)

-- a number that none has is counted nowhere
counted_none : (k n : ℕ) (ss : List Space) → k ≡ n → list_any (λ (q : Space). k == q.number) ss ≡ false → count_by (has_number n) ss ≡ 0
counted_none k n [] same none = refl
counted_none k n (s ∷ ss) same none =
    let h = or_parts (k == s.number) (list_any (λ (q : Space). k == q.number) ss) none in
    let rest = counted_none k n ss same h.1 in
    let first = count-cons (has_number n) s ss in
    by_test (s.number == n) refl first rest h.0
  where
    by_test : (b : Bool) → (s.number == n) ≡ b → count_by (has_number n) (s ∷ ss) ≡ cond b 1 0 + count_by (has_number n) ss → count_by (has_number n) ss ≡ 0 → (k == s.number) ≡ false → count_by (has_number n) (s ∷ ss) ≡ 0
    by_test true is first rest other = absurd (true≢false (sym (eq-eqb k s.number (same ∙ sym (eqb-true s.number n is))) ∙ other))
    by_test false is first rest other = omega (arith, first, rest)

-- and one that no two have at most once
counted_once : (n : ℕ) (ss : List Space) → differ (λ (r q : Space). r.number == q.number) ss ≡ true → count_by (has_number n) ss ≤ 1
counted_once n [] apart = omega arith
counted_once n (s ∷ ss) apart =
    let h = and_parts (not (list_any (λ (q : Space). s.number == q.number) ss)) (differ (λ (r q : Space). r.number == q.number) ss) apart in
    by_test (s.number == n) refl (count-cons (has_number n) s ss) (not-true (list_any (λ (q : Space). s.number == q.number) ss) h.0) (counted_once n ss h.1)
  where
    by_test : (b : Bool) → (s.number == n) ≡ b → count_by (has_number n) (s ∷ ss) ≡ cond b 1 0 + count_by (has_number n) ss → list_any (λ (q : Space). s.number == q.number) ss ≡ false → count_by (has_number n) ss ≤ 1
        → count_by (has_number n) (s ∷ ss) ≤ 1
    by_test true is first none rest = let others = counted_none s.number n ss (eqb-true s.number n is) none in omega (arith, first, others)
    by_test false is first none rest = omega (arith, first, rest)

few_heads : (n m : ℕ) (ss : List Stored) → keep_rules (parts_of ss) ≡ true → length (ids_that (is_either n m) ss) ≤ 3
unfolding parts_of
few_heads n m ss rules =
    let numbers = (ruled_spaces (parts_of ss) rules).numbers in
    let one = ap length (ruled (parts_of ss) rules).one in
    let a = counted_once n (parts_of ss).spaces numbers in
    let b = counted_once m (parts_of ss).spaces numbers in
    let all = counted_all n m ss in
    omega (arith, one, a, b, all)

-- ---- so records that differ beside these differ at three ids more

pub changes_in_all : (n m most : ℕ) (old new : List Stored) → keep_rules (parts_of old) ≡ true → ChangesBeside (is_either n m) most old new → ChangesAtMost (3 + most) old new
changes_in_all n m most old new rules c = record {
  ids = ids_that (is_either n m) old ++ c.ids;
  few = let both = length-append (ids_that (is_either n m) old) c.ids in let f = c.few in let h = few_heads n m old rules in omega (arith, both, f, h);
  others = λ id none.
      let h = or_parts (list_any (λ k. k == id) (ids_that (is_either n m) old)) (list_any (λ k. k == id) c.ids) (sym (list_any-append (λ k. k == id) (ids_that (is_either n m) old) c.ids) ∙ none) in
      c.others id h.1 (fails_else (is_either n m) old id h.0);
}
