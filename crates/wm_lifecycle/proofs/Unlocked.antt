-- The records of locks that go.
use Rattle.std.proofs.Common.{◌≡◌, ℕ, ◌+◌, ◌≤◌, ◌<◌, ◌==◌, max, Bool, true, false, not, ◌||◌, List, [], ◌∷◌, ◌++◌, map, Some, refl, sym, ap, subst, ◌∙◌, arith}
use Rattle.std.proofs.lemmas.Bool.{ne_eqb, or_from}
use Rattle.std.proofs.lemmas.Map.Keys.{sorted_head, sorted_tail}
use Rattle.std.proofs.lemmas.Map.Lookups.{exact_unsigned}
use Rattle.std.specs.BTreeSet.{insert_key}
use Rattle.std.specs.List.{AllByRecursion, list_any}
use Rattle.std.specs.List.Sorted.{IsStrictlySortedBy}
use Rattle.std.specs.Ordering.{match_ordering, nat_cmp}
use Rattle.std.specs.declared.cmp.Ordering.{Ordering}
use Rattle.std.specs.declared.cmp.Ordering.TheVariants.{Less, Equal, Greater}
use Rattle.wm_changes.proofs.Dropping.{told-with}
use Rattle.wm_graph.specs.Parts.{parts_of}
use Rattle.wm_graph.specs.Rules.{keep_rules}
use Rattle.wm_ids.proofs.IdLists.{less_than}
use Rattle.wm_index.specs.Sought.{LockAt, ids_with, is_sought}
use Rattle.wm_locked.proofs.DraftedLocked.{drafts_unlock}
use Rattle.wm_locked.specs.Locking.{keeps_locks, unlock_batch}
use Rattle.wm_spec.specs.Records.{ids_differ, record_at}
use Rattle.wm_spec.specs.declared.record.Record.{Record}
use Rattle.wm_spec.specs.declared.record.Record.TheVariants as records
use Rattle.wm_spec.specs.declared.record.batch.Change.{Change}
use Rattle.wm_spec.specs.declared.record.counters.Counters.{Counters}
use Rattle.wm_spec.specs.declared.record.stored.Stored.{Stored}
use Rattle.wm_state.specs.Batches.{AllUnder, AreDropped, drop_one, is_dropped, put}
use Rattle.wm_state.specs.ById.{Ascend}
use Rattle.wm_state.specs.Drafts.{CanWork, DraftsBy}
use Rattle.wm_state.specs.Editing.{stays_locked}
use Rattle.wm_state.specs.Points.{moved}
use Rattle.wm_state.specs.declared.edit.Edit.TheVariants as edits

-- ---- ids in a set

-- an id more is there, where it was not before
pub more-told : (k : ℕ) (xs : List ℕ) (id : ℕ) → is_dropped (insert_key nat_cmp xs k) id ≡ (is_dropped xs id || (k == id))
more-told k [] id = turned (k == id)
  where
    turned : (a : Bool) → (a || false) ≡ (false || a)
    turned true = refl
    turned false = refl
more-told k (x ∷ xs) id = by_order (nat_cmp k x) refl (more-told k xs id)
  where
    front : (a b : Bool) → (a || b) ≡ (b || a)
    front true true = refl
    front true false = refl
    front false true = refl
    front false false = refl

    twice : (a b : Bool) → (a || b) ≡ ((a || b) || a)
    twice true b = refl
    twice false true = refl
    twice false false = refl

    behind : (a b c d : Bool) → d ≡ (b || c) → (a || d) ≡ ((a || b) || c)
    behind true b c d is = refl
    behind false b c d is = is

    by_order : (o : Ordering) → nat_cmp k x ≡ o → is_dropped (insert_key nat_cmp xs k) id ≡ (is_dropped xs id || (k == id))
        → is_dropped (match_ordering o (k ∷ x ∷ xs) (x ∷ xs) (x ∷ insert_key nat_cmp xs k)) id ≡ (((x == id) || is_dropped xs id) || (k == id))
    by_order Less is rest = front (k == id) ((x == id) || is_dropped xs id)
    by_order Equal is rest = twice (x == id) (is_dropped xs id) ∙ ap (λ j. ((x == id) || is_dropped xs id) || (j == id)) (sym (exact_unsigned k x is))
    by_order Greater is rest = behind (x == id) (is_dropped xs id) (k == id) (is_dropped (insert_key nat_cmp xs k) id) rest

-- no id stands twice among those that ascend
pub ascending_differ : (ids : List ℕ) → IsStrictlySortedBy nat_cmp ids → ids_differ ids ≡ true
unfolding ids_differ
ascending_differ [] sorted = refl
ascending_differ (id ∷ ids) sorted = rw (none ids (sorted_head nat_cmp id ids sorted)) (ascending_differ ids (sorted_tail nat_cmp id ids sorted))
  where
    none : (xs : List ℕ) → AllByRecursion (λ k. nat_cmp id k ≡ Less) xs → is_dropped xs id ≡ false
    none [] above = refl
    none (x ∷ xs) above = or_from (x == id) (is_dropped xs id) (ne_eqb x id (λ e. absurd (let lt = less_than id x above.0 in omega (arith, lt, e)))) (none xs above.1)

-- ---- which records go

turned : (a b : ℕ) → (a == b) ≡ (b == a)
turned a b = grind arith

none_goes : (ks : List ℕ) → list_any (λ making. false) ks ≡ false
none_goes [] = refl
none_goes (k ∷ ks) = none_goes ks

-- a record goes where it is a lock of one of the makings
pub goes_locked : (makings : List ℕ) (r : Record) → list_any (λ making. is_sought (LockAt making) r) makings ≡ not (keeps_locks (stays_locked makings) r)
goes_locked makings (records.Lock x) = each makings ∙ not_not (list_any (λ making. making == x.making) makings)
  where
    each : (ks : List ℕ) → list_any (λ making. x.making == making) ks ≡ list_any (λ making. making == x.making) ks
    each [] = refl
    each (k ∷ ks) = rw (each ks, turned x.making k) refl

    not_not : (b : Bool) → b ≡ not (not b)
    not_not true = refl
    not_not false = refl
goes_locked makings (records.Counters x) = none_goes makings
goes_locked makings (records.Table x) = none_goes makings
goes_locked makings (records.Space x) = none_goes makings
goes_locked makings (records.Version x) = none_goes makings
goes_locked makings (records.Savepoint x) = none_goes makings
goes_locked makings (records.Row x) = none_goes makings
goes_locked makings (records.Piece x) = none_goes makings
goes_locked makings (records.Touch x) = none_goes makings
goes_locked makings (records.Hist x) = none_goes makings
goes_locked makings (records.Mark x) = none_goes makings
goes_locked makings (records.Turn x) = none_goes makings

pub any_told : (rs : List Stored) → Ascend rs → (id : ℕ) (r : Record) → record_at rs id ≡ Some r → (makings : List ℕ)
    → list_any (λ making. is_dropped (ids_with (is_sought (LockAt making)) rs) id) makings ≡ list_any (λ making. is_sought (LockAt making) r) makings
any_told rs sorted id r found [] = refl
any_told rs sorted id r found (k ∷ ks) = rw (told-with (is_sought (LockAt k)) rs sorted id r found, any_told rs sorted id r found ks) refl

-- ---- an id above all

abbrev over : List Stored → ℕ
over [] = 0
over (s ∷ ss) = max (s.id + 1) (over ss)

raised : (m n : ℕ) → m ≤ n → (ss : List Stored) → AllUnder m ss → AllUnder n ss
raised m n le [] all = tt
raised m n le (s ∷ ss) all = (more s.id m n all.0 le, raised m n le ss all.1)
  where
    more : (a b c : ℕ) → a < b → b ≤ c → a < c
    more a b c lt le = omega (arith, lt, le)

under_over : (ss : List Stored) → AllUnder (over ss) ss
under_over [] = tt
under_over (s ∷ ss) = (first s.id (over ss), raised (over ss) (max (s.id + 1) (over ss)) (right (s.id + 1) (over ss)) ss (under_over ss))
  where
    first : (a b : ℕ) → a < max (a + 1) b
    first a b = grind arith

    right : (a b : ℕ) → b ≤ max a b
    right a b = grind arith

-- ---- the draft

pub drafts_unlocks : (rs : List Stored) (m work : ℕ) (makings : List ℕ) (c counted : Counters) (counters_id : ℕ) (dropped slice : List ℕ) (none one changes : List Change) (first : Change) → keep_rules (parts_of rs) ≡ true → CanWork (parts_of rs) m work → Ascend rs
    → (parts_of rs).counters ≡ c ∷ [] → record_at rs counters_id ≡ Some (records.Counters c) → ((id : ℕ) → is_dropped dropped id ≡ list_any (λ making. is_dropped (ids_with (is_sought (LockAt making)) rs) id) makings) → ids_differ dropped ≡ true → slice ≡ dropped
    → counted ≡ moved c m work → none ≡ [] → first ≡ put counters_id (records.Counters counted) → one ≡ none ++ first ∷ [] → changes ≡ one ++ map drop_one slice → DraftsBy work rs m (edits.Unlock makings ∷ []) changes
drafts_unlocks rs m work makings c counted counters_id dropped slice none one changes first rules can_work sorted has_one counters told differ same count empty put_first pushed is =
    subst (λ (cs : List Change). DraftsBy work rs m (edits.Unlock makings ∷ []) cs) (sym batch)
    (drafts_unlock rs m work makings dropped c counters_id (over rs) rules can_work go differ (record { sorted = sorted; counters = counters; one = has_one; under = under_over rs }))
  where
    go : AreDropped (keeps_locks (stays_locked makings)) dropped rs
    go id r found = told id ∙ any_told rs sorted id r found makings ∙ goes_locked makings r

    batch : changes ≡ unlock_batch counters_id (moved c m work) dropped
    batch = rw (is, pushed, empty, put_first, count, same) refl
