-- How many records change where locks go: no more than there are makings, beside the counters.
use Rattle.std.proofs.Common.{◌≡◌, ◌≢◌, ℕ, ◌+◌, ◌≤◌, ◌==◌, Bool, true, false, not, cond, List, [], ◌∷◌, map, length, Option, Some, is_some, refl, sym, ap, ◌∙◌, arith}
use Rattle.std.proofs.lemmas.Bool.{and_parts, eq-eqb, eqb-true, not-true, or_parts, true≢false}
use Rattle.std.proofs.lemmas.List.Elements.{All-cons, All-nil}
use Rattle.std.specs.List.{All, cons_option, count_by, filter_map, list_all, list_any}
use Rattle.std.specs.Option.{option_map_or}
use Rattle.wm_graph.specs.Parts.{as_lock, parts_of}
use Rattle.wm_graph.specs.Rules.{differ, keep_rules}
use Rattle.wm_net.proofs.Counting.{count-cons}
use Rattle.wm_net.proofs.Sharing.{partners}
use Rattle.wm_spec.specs.Records.{ids_differ, record_at}
use Rattle.wm_spec.specs.declared.record.Record.{Record}
use Rattle.wm_spec.specs.declared.record.Record.TheVariants as records
use Rattle.wm_spec.specs.declared.record.counters.Counters.{Counters}
use Rattle.wm_spec.specs.declared.record.lock.Lock.{Lock}
use Rattle.wm_spec.specs.declared.record.stored.Stored.{Stored}
use Rattle.wm_state.proofs.Apart.{ruled}
use Rattle.wm_state.proofs.RowsStay.{away_dropped, stays}
use Rattle.wm_state.specs.Batches.{AreDropped, drop_one, put}
use Rattle.wm_state.specs.ById.{applied}
use Rattle.wm_prices.proofs.Gone.{few_gone, going}
use Rattle.wm_prices.specs.Prices.{ChangesBeside, holds_counters}

-- the record is a lock of this making
abbrev pub is_made_as : ℕ → Record → Bool
is_made_as making (records.Lock x) = making == x.making
is_made_as making r = false

-- ---- how many there are

-- a making that none has is counted nowhere
counted_none : (k making : ℕ) (xs : List Lock) → k ≡ making → list_any (λ (y : Lock). k == y.making) xs ≡ false → count_by (λ (x : Lock). making == x.making) xs ≡ 0
counted_none k making [] same none = refl
counted_none k making (x ∷ xs) same none =
    let h = or_parts (k == x.making) (list_any (λ (y : Lock). k == y.making) xs) none in
    by_test (making == x.making) refl (count-cons (λ (y : Lock). making == y.making) x xs) (counted_none k making xs same h.1) h.0
  where
    by_test : (b : Bool) → (making == x.making) ≡ b → count_by (λ (y : Lock). making == y.making) (x ∷ xs) ≡ cond b 1 0 + count_by (λ (y : Lock). making == y.making) xs → count_by (λ (y : Lock). making == y.making) xs ≡ 0
        → (k == x.making) ≡ false → count_by (λ (y : Lock). making == y.making) (x ∷ xs) ≡ 0
    by_test true is first rest other = absurd (true≢false (sym (eq-eqb k x.making (same ∙ eqb-true making x.making is)) ∙ other))
    by_test false is first rest other = omega (arith, first, rest)

-- and one that no two have at most once
counted_once : (making : ℕ) (xs : List Lock) → differ (λ (x y : Lock). x.making == y.making) xs ≡ true → count_by (λ (x : Lock). making == x.making) xs ≤ 1
counted_once making [] apart = omega arith
counted_once making (x ∷ xs) apart =
    let h = and_parts (not (list_any (λ (y : Lock). x.making == y.making) xs)) (differ (λ (x y : Lock). x.making == y.making) xs) apart in
    by_test (making == x.making) refl (count-cons (λ (y : Lock). making == y.making) x xs) (not-true (list_any (λ (y : Lock). x.making == y.making) xs) h.0) (counted_once making xs h.1)
  where
    by_test : (b : Bool) → (making == x.making) ≡ b → count_by (λ (y : Lock). making == y.making) (x ∷ xs) ≡ cond b 1 0 + count_by (λ (y : Lock). making == y.making) xs
        → list_any (λ (y : Lock). x.making == y.making) xs ≡ false → count_by (λ (y : Lock). making == y.making) xs ≤ 1 → count_by (λ (y : Lock). making == y.making) (x ∷ xs) ≤ 1
    by_test true is first none rest = let others = counted_none x.making making xs (sym (eqb-true making x.making is)) none in omega (arith, first, others)
    by_test false is first none rest = omega (arith, first, rest)

-- the records of a making are no more than its locks
counted_one : (making : ℕ) (r : Record) (n : ℕ) (xs : List Lock) → n ≤ count_by (λ (x : Lock). making == x.making) xs
    → cond (is_made_as making r) 1 0 + n ≤ count_by (λ (x : Lock). making == x.making) (cons_option (as_lock r) xs)
counted_one making (records.Lock x) n xs le = let first = count-cons (λ (y : Lock). making == y.making) x xs in omega (arith, le, first)
counted_one making _ n xs le = omega (arith, le)

-- also of those alone that pass a test
counted_in : (making : ℕ) (keep : Record → Bool) (ss : List Stored)
    → count_by (λ (s : Stored). is_made_as making s.record) (going keep ss) ≤ count_by (λ (x : Lock). making == x.making) (filter_map as_lock (map (λ (s : Stored). s.record) ss))
counted_in making keep [] = omega arith
counted_in making keep (s ∷ ss) =
    let rest = counted_in making keep ss in
    let locks = filter_map as_lock (map (λ (t : Stored). t.record) ss) in
    let one = counted_one making s.record (count_by (λ (t : Stored). is_made_as making t.record) (going keep ss)) locks rest in
    by_test (not (keep s.record)) (count-cons (λ (t : Stored). is_made_as making t.record) s (going keep ss)) one
  where
    by_test : (b : Bool) → count_by (λ (t : Stored). is_made_as making t.record) (s ∷ going keep ss) ≡ cond (is_made_as making s.record) 1 0 + count_by (λ (t : Stored). is_made_as making t.record) (going keep ss)
        → cond (is_made_as making s.record) 1 0 + count_by (λ (t : Stored). is_made_as making t.record) (going keep ss) ≤ count_by (λ (x : Lock). making == x.making) (cons_option (as_lock s.record) (filter_map as_lock (map (λ (t : Stored). t.record) ss)))
        → count_by (λ (t : Stored). is_made_as making t.record) (cond b (s ∷ going keep ss) (going keep ss)) ≤ count_by (λ (x : Lock). making == x.making) (cons_option (as_lock s.record) (filter_map as_lock (map (λ (t : Stored). t.record) ss)))
    by_test true first one = omega (arith, first, one)
    by_test false first one = omega (arith, one)

at_most_one : (making : ℕ) (keep : Record → Bool) (ss : List Stored) → keep_rules (parts_of ss) ≡ true → count_by (λ (s : Stored). is_made_as making s.record) (going keep ss) ≤ 1
unfolding parts_of
at_most_one making keep ss rules =
    let apart = (and_parts (differ (λ (x y : Lock). x.making == y.making) (parts_of ss).locks) _ (ruled (parts_of ss) rules).locks).0 in
    let few = counted_once making (parts_of ss).locks apart in
    let all = counted_in making keep ss in
    omega (arith, few, all)

-- ---- so locks that go are no more than makings

-- only locks of some makings go
abbrev pub AreMadeAs : List ℕ → (Record → Bool) → Type 0
AreMadeAs makings keep = (r : Record) → not (keep r) ≡ true → list_any (λ making. is_made_as making r) makings ≡ true

each_made : (makings : List ℕ) (keep : Record → Bool) → AreMadeAs makings keep → (ss : List Stored) → All (λ (s : Stored). list_any (λ making. is_made_as making s.record) makings ≡ true) (going keep ss)
each_made makings keep only [] = All-nil (λ (s : Stored). list_any (λ making. is_made_as making s.record) makings ≡ true)
each_made makings keep only (s ∷ ss) = by_test (not (keep s.record)) refl (each_made makings keep only ss)
  where
    by_test : (b : Bool) → not (keep s.record) ≡ b → All (λ (s : Stored). list_any (λ making. is_made_as making s.record) makings ≡ true) (going keep ss)
        → All (λ (s : Stored). list_any (λ making. is_made_as making s.record) makings ≡ true) (cond b (s ∷ going keep ss) (going keep ss))
    by_test true is rest = All-cons (λ (s : Stored). list_any (λ making. is_made_as making s.record) makings ≡ true) s (going keep ss) (only s.record is) rest
    by_test false is rest = rest

few_unlocked : (ss : List Stored) (makings ids : List ℕ) (keep : Record → Bool) → keep_rules (parts_of ss) ≡ true → AreMadeAs makings keep → AreDropped keep ids ss → ids_differ ids ≡ true
    → list_all (λ id. is_some (record_at ss id)) ids ≡ true → length ids ≤ length makings
few_unlocked ss makings ids keep rules only gone once there =
    let first = few_gone ss keep ids gone once there in
    let second = partners (λ (s : Stored) making. is_made_as making s.record) (going keep ss) makings (each_made makings keep only ss) (λ making. at_most_one making keep ss rules) in
    omega (arith, first, second)

-- ---- and the batch changes no more beside the counters

pub unlock_beside : (ss : List Stored) (counters_id : ℕ) (c counters : Counters) (makings ids : List ℕ) (keep : Record → Bool) → record_at ss counters_id ≡ Some (records.Counters c) → keep_rules (parts_of ss) ≡ true → AreMadeAs makings keep
    → AreDropped keep ids ss → ids_differ ids ≡ true → list_all (λ id. is_some (record_at ss id)) ids ≡ true
    → ChangesBeside holds_counters (length makings) ss (applied (put counters_id (records.Counters counters) ∷ map drop_one ids) ss)
unlock_beside ss counters_id c counters makings ids keep found rules only gone once there = record {
  ids = ids;
  few = few_unlocked ss makings ids keep rules only gone once there;
  others = λ id none outside. stays (put counters_id (records.Counters counters) ∷ map drop_one ids) ss id (apart id outside, away_dropped id ids none);
}
  where
    apart : (id : ℕ) → option_map_or holds_counters (record_at ss id) false ≡ false → counters_id ≢ id
    apart id outside same = true≢false (sym (ap (λ (o : Option Record). option_map_or holds_counters o false) (ap (record_at ss) (sym same) ∙ found)) ∙ outside)
