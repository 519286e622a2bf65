-- Locks found by their ids.
use Rattle.std.proofs.Common.{◌≡◌, ℕ, ◌==◌, Bool, true, false, cond, not, ◌&&◌, ◌||◌, All, List, [], ◌∷◌, ◌++◌, map, Option, Some, None, is_some, refl, sym, ap, subst, ◌∙◌, append_assoc}
use Rattle.std.proofs.lemmas.Bool.{and_from, true≢false}
use Rattle.std.proofs.lemmas.List.{map-append}
use Rattle.std.proofs.lemmas.List.Elements.{All-head, All-tail}
use Rattle.std.proofs.lemmas.Map.Made.{is_some-lookup}
use Rattle.std.specs.BTreeMap.{is_at}
use Rattle.std.specs.List.{filter, filter_map, flat_map, list_all, list_any}
use Rattle.std.specs.List.Sorted.{IsStrictlySortedBy}
use Rattle.std.specs.Map.{keys_of, lookup}
use Rattle.std.specs.Option.{option_and_then, option_to_list}
use Rattle.std.specs.Ordering.{is_eq, ordering_reverse}
use Rattle.std.specs.declared.cmp.Ordering.{Ordering}
use Rattle.std.specs.declared.cmp.Ordering.TheVariants.{Less, Equal, Greater}
use Rattle.wm_base.specs.Key.{key_order}
use Rattle.wm_base.specs.Orders.{key_order-itself, key_order_total}
use Rattle.wm_base.specs.declared.value.Value.{Value}
use Rattle.wm_graph.specs.Parts.{Parts, as_lock, parts_of}
use Rattle.wm_graph.specs.Rules.{differ, keep_rules}
use Rattle.wm_guard.proofs.Alike.{locks_at-listed, locks_in-listed, makings_differ}
use Rattle.wm_guard.proofs.Blocks.{is_keyed, locks_in-blocks}
use Rattle.wm_guard.specs.Barring.{comes_before, is_of, is_on, locks_at, locks_in, makings_of}
use Rattle.wm_ids.specs.Ids.{ids_found, ids_in}
use Rattle.wm_image.proofs.Lists.{taken-with}
use Rattle.wm_image.specs.Locked.{AreLockedKeys}
use Rattle.wm_index.proofs.Finding.{Tests, all_of, filter-kind}
use Rattle.wm_index.specs.Kinds.{kind_at}
use Rattle.wm_index.specs.Sought.{LocksOf, LocksOn, Sought, ids_with, is_sought}
use Rattle.wm_ordering.specs.Sorting.{sorted}
use Rattle.wm_spec.specs.Records.{record_at}
use Rattle.wm_spec.specs.declared.record.Record.{Record}
use Rattle.wm_spec.specs.declared.record.Record.TheVariants as records
use Rattle.wm_spec.specs.declared.record.lock.Lock.{Lock}
use Rattle.wm_spec.specs.declared.record.stored.Stored.{Stored}
use Rattle.wm_state.proofs.Apart.{ruled}
use Rattle.wm_state.specs.ById.{Ascend}
use Rattle.wm_state.specs.Standing.{locks_by_making}

-- ---- those of the ids of what is sought

same_turned : (o : Ordering) → is_eq (ordering_reverse o) ≡ is_eq o
same_turned Less = refl
same_turned Equal = refl
same_turned Greater = refl

on_test : (table : ℕ) (key : List Value) → Tests as_lock (is_on table key) (is_sought (LocksOn table key))
on_test table key (records.Lock x) = ap (λ b. (x.cells.table == table) && b) (ap is_eq (key_order_total.antisymm x.cells.key key) ∙ same_turned (key_order key x.cells.key))
on_test table key _ = refl

of_test : (n : ℕ) → Tests as_lock (λ (x : Lock). x.space == n) (is_sought (LocksOf n))
of_test n (records.Lock x) = refl
of_test n _ = refl

locks_sought : (q : Sought) (p : Lock → Bool) → Tests as_lock p (is_sought q) → (ss : List Stored) → Ascend ss → kind_at as_lock ss (ids_with (is_sought q) ss) ≡ filter p (parts_of ss).locks
unfolding parts_of
locks_sought q p tests ss ascend = ap (filter_map as_lock) (taken-with (is_sought q) ss ascend) ∙ filter-kind as_lock p (is_sought q) tests (all_of ss)

locks_on : (ss : List Stored) → Ascend ss → (table : ℕ) (key : List Value) → kind_at as_lock ss (ids_with (is_sought (LocksOn table key)) ss) ≡ filter (is_on table key) (parts_of ss).locks
locks_on ss ascend table key = locks_sought (LocksOn table key) (is_on table key) (on_test table key) ss ascend

-- ---- the makings of those of a workspace

pub makings_told : (ss : List Stored) → Ascend ss → (n : ℕ) (ids : List ℕ) → ids ≡ ids_with (is_sought (LocksOf n)) ss
    → map (λ (x : Lock). x.making) (kind_at as_lock ss ids) ≡ makings_of n (parts_of ss).locks
makings_told ss ascend n ids are =
    ap (λ is. map (λ (x : Lock). x.making) (kind_at as_lock ss is)) are
    ∙ ap (map (λ (x : Lock). x.making)) (locks_sought (LocksOf n) (λ (x : Lock). x.space == n) (of_test n) ss ascend)

-- ---- those on a key

apart : (ss : List Stored) → keep_rules (parts_of ss) ≡ true → differ (λ (x y : Lock). x.making == y.making) (parts_of ss).locks ≡ true
apart ss rules = let r = ruled (parts_of ss) rules in makings_differ (parts_of ss) r.counters.work r.locks

pub at_told : (ss : List Stored) → Ascend ss → keep_rules (parts_of ss) ≡ true → (table : ℕ) (key : List Value) (ids : List ℕ) → ids ≡ ids_with (is_sought (LocksOn table key)) ss
    → sorted comes_before (kind_at as_lock ss ids) ≡ locks_at table key (locks_by_making (parts_of ss).locks)
at_told ss ascend rules table key ids are =
    ap (λ is. sorted comes_before (kind_at as_lock ss is)) are
    ∙ ap (sorted comes_before) (locks_on ss ascend table key)
    ∙ sym (locks_at-listed table key (parts_of ss).locks (apart ss rules))

-- ---- those on a table, key by key

abbrev pub Entries : Type 0
Entries = List (List Value × List ℕ)

-- the locks of the ids of a key
abbrev pub block : List Stored → List Value × List ℕ → List Lock
block ss e = sorted comes_before (kind_at as_lock ss e.1)

-- a key that has a lock is among the keys
none_kept : (P : Lock → Bool) (xs : List Lock) → filter P xs ≡ [] → list_any P xs ≡ false
none_kept P [] none = refl
none_kept P (x ∷ xs) none = by_test (P x) refl (none_kept P xs) none
  where
    by_test : (b : Bool) → P x ≡ b → (filter P xs ≡ [] → list_any P xs ≡ false) → cond b (x ∷ filter P xs) (filter P xs) ≡ [] → (P x || list_any P xs) ≡ false
    by_test true is rest none = cc
    by_test false is rest none = rw is (rest none)

key_among : (ss : List Stored) → Ascend ss → (table : ℕ) (es : Entries) → AreLockedKeys ss table es → (key : List Value) → list_any (is_on table key) (parts_of ss).locks ≡ true
    → list_any (λ k. is_eq (key_order key k)) (keys_of es) ≡ true
key_among ss ascend table es keys key some = by_found (lookup (is_at (key_order key)) es) refl
  where
    by_found : (o : Option (List ℕ)) → lookup (is_at (key_order key)) es ≡ o → list_any (λ k. is_eq (key_order key k)) (keys_of es) ≡ true
    by_found None none =
        let nothing : filter (is_on table key) (parts_of ss).locks ≡ [] = sym (locks_on ss ascend table key) ∙ ap (kind_at as_lock ss) (sym (keys key) ∙ ap ids_found none) in
        absurd (true≢false (sym some ∙ none_kept (is_on table key) (parts_of ss).locks nothing))
    by_found (Some ids) found = sym (is_some-lookup (is_at (key_order key)) es) ∙ ap is_some found

-- so each lock of the table is on one of the keys
all_keyed : (ss : List Stored) → Ascend ss → (table : ℕ) (es : Entries) → AreLockedKeys ss table es → (xs : List Lock)
    → ((p : Lock → Bool) → list_any p xs ≡ true → list_any p (parts_of ss).locks ≡ true) → list_all (λ (x : Lock). not (is_of table x) || is_keyed (keys_of es) x) xs ≡ true
all_keyed ss ascend table es keys [] among = refl
all_keyed ss ascend table es keys (x ∷ xs) among =
    and_from (not (is_of table x) || is_keyed (keys_of es) x) (list_all (λ (y : Lock). not (is_of table y) || is_keyed (keys_of es) y) xs)
    (by_table (is_of table x) refl) (all_keyed ss ascend table es keys xs (λ p some. among p (behind (p x) (list_any p xs) some)))
  where
    behind : (a b : Bool) → b ≡ true → (a || b) ≡ true
    behind true b some = refl
    behind false b some = some

    its_own : is_of table x ≡ true → (is_on table x.cells.key x || list_any (is_on table x.cells.key) xs) ≡ true
    its_own is = rw (is, key_order-itself x.cells.key) refl

    by_table : (b : Bool) → is_of table x ≡ b → (not b || is_keyed (keys_of es) x) ≡ true
    by_table true is = key_among ss ascend table es keys x.cells.key (among (is_on table x.cells.key) (its_own is))
    by_table false is = refl

each_block : (ss : List Stored) → Ascend ss → (table : ℕ) (es : Entries) → AreLockedKeys ss table es → (fs : Entries) → All (λ e. lookup (is_at (key_order e.0)) es ≡ Some e.1) fs
    → flat_map (block ss) fs ≡ flat_map (λ k. locks_at table k (parts_of ss).locks) (keys_of fs)
each_block ss ascend table es keys [] found = refl
each_block ss ascend table es keys (f ∷ fs) found =
    let here : lookup (is_at (key_order f.0)) es ≡ Some f.1 = All-head (λ e. lookup (is_at (key_order e.0)) es ≡ Some e.1) f fs found in
    let ids : f.1 ≡ ids_with (is_sought (LocksOn table f.0)) ss = sym (ap ids_found here) ∙ keys f.0 in
    let own : block ss f ≡ locks_at table f.0 (parts_of ss).locks = ap (λ is. sorted comes_before (kind_at as_lock ss is)) ids ∙ ap (sorted comes_before) (locks_on ss ascend table f.0) in
    ap (λ xs. xs ++ flat_map (block ss) fs) own
    ∙ ap (λ xs. locks_at table f.0 (parts_of ss).locks ++ xs) (each_block ss ascend table es keys fs (All-tail (λ e. lookup (is_at (key_order e.0)) es ≡ Some e.1) f fs found))

pub in_told : (ss : List Stored) → Ascend ss → keep_rules (parts_of ss) ≡ true → (table : ℕ) (es : Entries) → AreLockedKeys ss table es → IsStrictlySortedBy key_order (keys_of es)
    → All (λ e. lookup (is_at (key_order e.0)) es ≡ Some e.1) es → flat_map (block ss) es ≡ locks_in table (locks_by_making (parts_of ss).locks)
in_told ss ascend rules table es keys up found =
    each_block ss ascend table es keys es found
    ∙ sym (locks_in-blocks table (keys_of es) (parts_of ss).locks up (all_keyed ss ascend table es keys (parts_of ss).locks (λ p some. some)))
    ∙ sym (locks_in-listed table (parts_of ss).locks (apart ss rules))

-- the locks of one key more
pub block_more : (ss : List Stored) (left rest : Entries) (e : List Value × List ℕ) (old new whole : List Lock) → left ≡ e ∷ rest → new ≡ old ++ block ss e → old ++ flat_map (block ss) left ≡ whole
    → new ++ flat_map (block ss) rest ≡ whole
block_more ss left rest e old new whole is pushed so =
    ap (λ xs. xs ++ flat_map (block ss) rest) pushed
    ∙ append_assoc old (block ss e) (flat_map (block ss) rest)
    ∙ ap (λ es. old ++ flat_map (block ss) es) (sym is)
    ∙ so

-- ---- one id more

kind_one : (ss : List Stored) (id : ℕ) (ids : List ℕ) → kind_at as_lock ss (id ∷ ids) ≡ option_to_list (option_and_then as_lock (record_at ss id)) ++ kind_at as_lock ss ids
kind_one ss id ids = by_record (record_at ss id) refl
  where
    by_record : (o : Option Record) → record_at ss id ≡ o → kind_at as_lock ss (id ∷ ids) ≡ option_to_list (option_and_then as_lock o) ++ kind_at as_lock ss ids
    by_record None none = rw none refl
    by_record (Some r) found = rw found (by_kind (as_lock r) refl)
      where
        by_kind : (o : Option Lock) → as_lock r ≡ o → filter_map as_lock (r ∷ filter_map (record_at ss) ids) ≡ option_to_list o ++ kind_at as_lock ss ids
        by_kind None none = rw none refl
        by_kind (Some x) found = rw found refl

-- what is told of those before an id, and of its own
pub kind_more : {A : Type 0} (told : Lock → A) (ss : List Stored) (left rest : List ℕ) (id : ℕ) (found : Option Record) (old new whole : List A) → left ≡ id ∷ rest → found ≡ record_at ss id
    → new ≡ old ++ map told (option_to_list (option_and_then as_lock found)) → old ++ map told (kind_at as_lock ss left) ≡ whole → new ++ map told (kind_at as_lock ss rest) ≡ whole
kind_more told ss left rest id found old new whole is at pushed so =
    ap (λ xs. xs ++ map told (kind_at as_lock ss rest)) pushed
    ∙ append_assoc old (map told (option_to_list (option_and_then as_lock found))) (map told (kind_at as_lock ss rest))
    ∙ ap (λ xs. old ++ xs) (sym (map-append told (option_to_list (option_and_then as_lock found)) (kind_at as_lock ss rest)))
    ∙ ap (λ o. old ++ map told (option_to_list (option_and_then as_lock o) ++ kind_at as_lock ss rest)) at
    ∙ ap (λ xs. old ++ map told xs) (sym (kind_one ss id rest))
    ∙ ap (λ ids. old ++ map told (kind_at as_lock ss ids)) (sym is)
    ∙ so
