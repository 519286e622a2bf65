-- What is looked up in records, told by the ids of what is sought.
use Rattle.std.proofs.Common.{◌≡◌, ℕ, ◌==◌, Bool, true, false, cond, List, [], ◌∷◌, map, Option, Some, None, is_some, refl, sym, ap, ◌∙◌}
use Rattle.std.specs.List.{find, filter, filter_map}
use Rattle.std.specs.Option.{option_and_then, option_map_or, option_to_list}
use Rattle.wm_chunks.specs.Numbers.{Numbers}
use Rattle.wm_graph.specs.Parts.{Parts, parts_of, as_counters, as_space, as_version, as_row, space_of, version_of, row_of}
use Rattle.wm_graph.specs.Rules.{keep_rules}
use Rattle.wm_spec.specs.Records.{record_at}
use Rattle.wm_spec.specs.declared.record.Record.{Record}
use Rattle.wm_spec.specs.declared.record.Record.TheVariants as records
use Rattle.wm_spec.specs.declared.record.counters.Counters.{Counters}
use Rattle.wm_spec.specs.declared.record.space.Space.{Space}
use Rattle.wm_spec.specs.declared.record.version.Version.{Version}
use Rattle.wm_spec.specs.declared.record.row.RowRecord.{RowRecord}
use Rattle.wm_spec.specs.declared.record.stored.Stored.{Stored}
use Rattle.wm_ids.specs.Ids.{head_of}
use Rattle.wm_index.proofs.Listed.{sorted-listed}
use Rattle.wm_index.proofs.Lists.{first-with, taken-with}
use Rattle.wm_index.specs.Indexed.{IsIndexed, ids_at, listed}
use Rattle.wm_index.specs.Sought.{Sought, TheCounters, SpaceAt, VersionAt, RowAt, is_sought, ids_with, first_of}
use Rattle.wm_index.specs.declared.index.Index.{Index}

-- the records of a list
abbrev pub all_of : List Stored → List Record
all_of ss = map (λ (s : Stored). s.record) ss

-- a test of records is a test of those of a kind
abbrev pub Tests : {A : Type 0} → (Record → Option A) → (A → Bool) → (Record → Bool) → Type 0
Tests kind p q = (r : Record) → q r ≡ option_map_or p (kind r) false

-- the first of a kind that passes a test
pub find-kind : {A : Type 0} (kind : Record → Option A) (p : A → Bool) (q : Record → Bool) → Tests kind p q → (rs : List Record) → find p (filter_map kind rs) ≡ option_and_then kind (find q rs)
find-kind kind p q tests [] = refl
find-kind {A} kind p q tests (r ∷ rs) = by_kind (kind r) refl (tests r) (find-kind kind p q tests rs)
  where
    by_kind : (o : Option A) → kind r ≡ o → q r ≡ option_map_or p o false → find p (filter_map kind rs) ≡ option_and_then kind (find q rs)
        → find p (filter_map kind (r ∷ rs)) ≡ option_and_then kind (find q (r ∷ rs))
    by_kind None none test rest = rw (none, test) rest
    by_kind (Some x) some test rest = rw (some, test) (by_test (p x) rest)
      where
        by_test : (b : Bool) → find p (filter_map kind rs) ≡ option_and_then kind (find q rs)
            → cond b (Some x) (find p (filter_map kind rs)) ≡ option_and_then kind (cond b (Some r) (find q rs))
        by_test true rest = sym some
        by_test false rest = rest

-- those of a kind that pass a test
pub filter-kind : {A : Type 0} (kind : Record → Option A) (p : A → Bool) (q : Record → Bool) → Tests kind p q → (rs : List Record) → filter_map kind (filter q rs) ≡ filter p (filter_map kind rs)
filter-kind kind p q tests [] = refl
filter-kind {A} kind p q tests (r ∷ rs) = by_kind (kind r) refl (tests r) (filter-kind kind p q tests rs)
  where
    by_kind : (o : Option A) → kind r ≡ o → q r ≡ option_map_or p o false → filter_map kind (filter q rs) ≡ filter p (filter_map kind rs)
        → filter_map kind (filter q (r ∷ rs)) ≡ filter p (filter_map kind (r ∷ rs))
    by_kind None none test rest = rw (none, test) rest
    by_kind (Some x) some test rest = rw (some, test) (by_test (p x) rest)
      where
        by_test : (b : Bool) → filter_map kind (filter q rs) ≡ filter p (filter_map kind rs)
            → filter_map kind (cond b (r ∷ filter q rs) (filter q rs)) ≡ cond b (x ∷ filter p (filter_map kind rs)) (filter p (filter_map kind rs))
        by_test true rest = rw (some, rest) refl
        by_test false rest = rest

-- ---- the tests

pub space_test : (n : ℕ) → Tests as_space (λ (s : Space). s.number == n) (is_sought (SpaceAt n))
space_test n (records.Space s) = refl
space_test n _ = refl

pub version_test : (n : ℕ) → Tests as_version (λ (v : Version). v.number == n) (is_sought (VersionAt n))
version_test n (records.Version v) = refl
version_test n _ = refl

pub row_test : (n : ℕ) → Tests as_row (λ (r : RowRecord). r.stamp == n) (is_sought (RowAt n))
row_test n (records.Row r) = refl
row_test n _ = refl

pub counters_test : Tests as_counters (λ c. true) (is_sought TheCounters)
counters_test (records.Counters c) = refl
counters_test _ = refl

-- ---- what an index tells

-- the record of the first id of what is sought is the first that is sought
pub first_sought : (kept : Numbers Record) (x : Index) → IsIndexed kept x → (q : Sought) → first_of (listed kept.entries) (ids_at x q) ≡ find (is_sought q) (all_of (listed kept.entries))
first_sought kept x is q = ap (first_of (listed kept.entries)) (is.told q) ∙ first-with (is_sought q) (listed kept.entries) (sorted-listed kept.entries is.ordered)

-- the records of the ids of what is sought are those that are sought
pub all_sought : (kept : Numbers Record) (x : Index) → IsIndexed kept x → (q : Sought)
    → filter_map (record_at (listed kept.entries)) (ids_at x q) ≡ filter (is_sought q) (all_of (listed kept.entries))
all_sought kept x is q = ap (filter_map (record_at (listed kept.entries))) (is.told q) ∙ taken-with (is_sought q) (listed kept.entries) (sorted-listed kept.entries is.ordered)

-- the first of a kind that passes a test, told by the index
pub found_kind : {A : Type 0} (kind : Record → Option A) (p : A → Bool) (q : Sought) → Tests kind p (is_sought q) → (kept : Numbers Record) (x : Index) → IsIndexed kept x
    → option_and_then kind (first_of (listed kept.entries) (ids_at x q)) ≡ find p (filter_map kind (all_of (listed kept.entries)))
found_kind kind p q tests kept x is =
    ap (option_and_then kind) (first_sought kept x is q) ∙ sym (find-kind kind p (is_sought q) tests (all_of (listed kept.entries)))

pub space_found : (kept : Numbers Record) (x : Index) → IsIndexed kept x → (n : ℕ) → option_and_then as_space (first_of (listed kept.entries) (ids_at x (SpaceAt n))) ≡ space_of (parts_of (listed kept.entries)).spaces n
unfolding parts_of
space_found kept x is n = found_kind as_space (λ (s : Space). s.number == n) (SpaceAt n) (space_test n) kept x is

pub version_found : (kept : Numbers Record) (x : Index) → IsIndexed kept x → (n : ℕ)
    → option_and_then as_version (first_of (listed kept.entries) (ids_at x (VersionAt n))) ≡ version_of (parts_of (listed kept.entries)).versions n
unfolding parts_of
version_found kept x is n = found_kind as_version (λ (v : Version). v.number == n) (VersionAt n) (version_test n) kept x is

pub row_found : (kept : Numbers Record) (x : Index) → IsIndexed kept x → (n : ℕ) → option_and_then as_row (first_of (listed kept.entries) (ids_at x (RowAt n))) ≡ row_of (parts_of (listed kept.entries)).rows n
unfolding parts_of
row_found kept x is n = found_kind as_row (λ (r : RowRecord). r.stamp == n) (RowAt n) (row_test n) kept x is

pub counters_found : (kept : Numbers Record) (x : Index) → IsIndexed kept x
    → option_and_then as_counters (first_of (listed kept.entries) (ids_at x TheCounters)) ≡ find (λ (c : Counters). true) (parts_of (listed kept.entries)).counters
unfolding parts_of
counters_found kept x is = found_kind as_counters (λ c. true) TheCounters counters_test kept x is

-- by the rules there is one record of counters
pub one_counters : (p : Parts) (found : Option Counters) → keep_rules p ≡ true → found ≡ find (λ (c : Counters). true) p.counters → (is_some found ≡ true) × ((c : Counters) → found ≡ Some c → p.counters ≡ c ∷ [])
unfolding keep_rules
one_counters p found kept is = by_list p.counters refl
  where
    some_same : (c d : Counters) → Some c ≡ Some d → c ≡ d
    some_same c d e = cc

    by_list : (cs : List Counters) → p.counters ≡ cs → (is_some found ≡ true) × ((c : Counters) → found ≡ Some c → p.counters ≡ c ∷ [])
    by_list [] e = absurd (no (rw e at kept))
      where
        no : false ≡ true → ⊥
        no h = cc
    by_list (c ∷ []) e =
        let there : found ≡ Some c = is ∙ ap (find (λ d. true)) e in
        (ap is_some there, λ d some. e ∙ ap (λ k. k ∷ []) (some_same c d (sym there ∙ some)))
    by_list (c ∷ d ∷ cs) e = absurd (no (rw e at kept))
      where
        no : false ≡ true → ⊥
        no h = cc

pub counters_told : (kept : Numbers Record) (x : Index) → IsIndexed kept x → (ss : List Stored) → listed kept.entries ≡ ss → (first : Option Record) (found : Option Counters)
    → first ≡ first_of (listed kept.entries) (ids_at x TheCounters) → found ≡ option_and_then as_counters first → found ≡ find (λ (c : Counters). true) (parts_of ss).counters
counters_told kept x is ss view first found here as_one =
    as_one ∙ ap (option_and_then as_counters) here ∙ counters_found kept x is ∙ ap (λ (l : List Stored). find (λ (c : Counters). true) (parts_of l).counters) view

-- ---- the first ids

first_of-head : (ss : List Stored) (ids : List ℕ) → option_and_then (record_at ss) (head_of ids) ≡ first_of ss ids
first_of-head ss [] = refl
first_of-head ss (id ∷ ids) = refl

head-some : {A : Type 0} (kind : Record → Option A) (p : A → Bool) (q : Record → Bool) → Tests kind p q → (ss : List Stored)
    → is_some (head_of (ids_with q ss)) ≡ is_some (find p (filter_map kind (all_of ss)))
head-some kind p q tests [] = refl
head-some {A} kind p q tests (s ∷ ss) = by_kind (kind s.record) refl (tests s.record) (head-some kind p q tests ss)
  where
    by_kind : (o : Option A) → kind s.record ≡ o → q s.record ≡ option_map_or p o false → is_some (head_of (ids_with q ss)) ≡ is_some (find p (filter_map kind (all_of ss)))
        → is_some (head_of (ids_with q (s ∷ ss))) ≡ is_some (find p (filter_map kind (all_of (s ∷ ss))))
    by_kind None none test rest = rw (none, test) rest
    by_kind (Some x) some test rest = rw (some, test) (by_test (p x) rest)
      where
        by_test : (b : Bool) → is_some (head_of (ids_with q ss)) ≡ is_some (find p (filter_map kind (all_of ss)))
            → is_some (head_of (cond b (s.id ∷ ids_with q ss) (ids_with q ss))) ≡ is_some (cond b (Some x) (find p (filter_map kind (all_of ss))))
        by_test true rest = refl
        by_test false rest = rest

-- the first id of what is sought, and its record
pub id_told : {A : Type 0} (kind : Record → Option A) (p : A → Bool) (q : Sought) → Tests kind p (is_sought q) → (kept : Numbers Record) (x : Index) → IsIndexed kept x
    → (option_and_then kind (option_and_then (record_at (listed kept.entries)) (head_of (ids_at x q))) ≡ find p (filter_map kind (all_of (listed kept.entries))))
    × (is_some (head_of (ids_at x q)) ≡ is_some (find p (filter_map kind (all_of (listed kept.entries)))))
id_told kind p q tests kept x is = (
  ap (option_and_then kind) (first_of-head (listed kept.entries) (ids_at x q)) ∙ found_kind kind p q tests kept x is,
  ap (λ ids. is_some (head_of ids)) (is.told q) ∙ head-some kind p (is_sought q) tests (listed kept.entries),
)

pub space_id : (kept : Numbers Record) (x : Index) → IsIndexed kept x → (n : ℕ)
    → (option_and_then as_space (option_and_then (record_at (listed kept.entries)) (head_of (ids_at x (SpaceAt n)))) ≡ space_of (parts_of (listed kept.entries)).spaces n)
    × (is_some (head_of (ids_at x (SpaceAt n))) ≡ is_some (space_of (parts_of (listed kept.entries)).spaces n))
unfolding parts_of
space_id kept x is n = id_told as_space (λ (s : Space). s.number == n) (SpaceAt n) (space_test n) kept x is

pub counters_id : (kept : Numbers Record) (x : Index) → IsIndexed kept x
    → (option_and_then as_counters (option_and_then (record_at (listed kept.entries)) (head_of (ids_at x TheCounters))) ≡ find (λ (c : Counters). true) (parts_of (listed kept.entries)).counters)
    × (is_some (head_of (ids_at x TheCounters)) ≡ is_some (find (λ (c : Counters). true) (parts_of (listed kept.entries)).counters))
unfolding parts_of
counters_id kept x is = id_told as_counters (λ (c : Counters). true) TheCounters counters_test kept x is

-- the one record of counters is the first
pub listed_one : (p : Parts) → keep_rules p ≡ true → (is_some (find (λ (c : Counters). true) p.counters) ≡ true) × (p.counters ≡ option_to_list (find (λ (c : Counters). true) p.counters))
listed_one p kept =
    let one = one_counters p (find (λ (c : Counters). true) p.counters) kept refl in
    (one.0, by_found (find (λ (c : Counters). true) p.counters) one.0 one.1)
  where
    by_found : (o : Option Counters) → is_some o ≡ true → ((c : Counters) → o ≡ Some c → p.counters ≡ c ∷ []) → p.counters ≡ option_to_list o
    by_found None some h = cc
    by_found (Some c) some h = h c refl

-- its id, where it was found
pub one_id : (kept : Numbers Record) (x : Index) → IsIndexed kept x → (ss : List Stored) → listed kept.entries ≡ ss → keep_rules (parts_of ss) ≡ true → (head : Option ℕ)
    → head ≡ head_of (ids_at x TheCounters) → (is_some head ≡ true) × ((id : ℕ) → head ≡ Some id → (parts_of ss).counters ≡ option_to_list (option_and_then as_counters (record_at ss id)))
one_id kept x is ss view kept_rules head is_head =
    let told = counters_id kept x is in
    let one = listed_one (parts_of ss) kept_rules in (
      ap is_some is_head ∙ told.1 ∙ ap (λ (l : List Stored). is_some (find (λ (c : Counters). true) (parts_of l).counters)) view ∙ one.0,
      λ id some.
          one.1
          ∙ ap option_to_list
          (ap (λ (l : List Stored). find (λ (c : Counters). true) (parts_of l).counters) (sym view)
          ∙ sym told.0
          ∙ ap (λ o. option_and_then as_counters (option_and_then (record_at (listed kept.entries)) o)) (sym is_head ∙ some)
          ∙ ap (λ (l : List Stored). option_and_then as_counters (record_at l id)) view),
    )
