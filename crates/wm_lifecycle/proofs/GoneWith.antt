-- The records that go with a workspace: its own, and the pieces of its versions.
use Rattle.std.proofs.Common.{◌≡◌, ◌≢◌, ℕ, ◌==◌, Bool, true, false, not, ◌&&◌, ◌||◌, List, [], ◌∷◌, ◌++◌, map, Option, Some, None, is_some, refl, sym, ap, subst, ◌∙◌, ◌⊎◌, inl, inr}
use Rattle.std.proofs.lemmas.Bool.{cases_eq, eq-eqb, eqb-true, ne_eqb, and_from, or_from, true≢false}
use Rattle.std.proofs.Math.Bool.{and-false, not-not}
use Rattle.std.specs.List.{filter_map, flat_map, list_all, list_any}
use Rattle.wm_base.proofs.Plain.{none_some}
use Rattle.wm_graph.specs.Parts.{parts_of, as_version}
use Rattle.wm_graph.specs.Rules.{keep_rules}
use Rattle.wm_spec.specs.Records.{record_at, ids_differ}
use Rattle.wm_spec.specs.declared.record.Record.{Record}
use Rattle.wm_spec.specs.declared.record.Record.TheVariants as records
use Rattle.wm_spec.specs.declared.record.batch.Change.{Change}
use Rattle.wm_spec.specs.declared.record.counters.Counters.{Counters}
use Rattle.wm_spec.specs.declared.record.stored.Stored.{Stored}
use Rattle.wm_spec.specs.declared.record.version.Version.{Version}
use Rattle.wm_state.specs.Batches.{AreDropped, drop_one, is_dropped, put}
use Rattle.wm_state.specs.ById.{Ascend}
use Rattle.wm_state.specs.Drafts.{CanRemove, CanWork, DraftsBy}
use Rattle.wm_state.specs.Points.{moved}
use Rattle.wm_state.specs.declared.edit.Edit.TheVariants as edits
use Rattle.wm_state.proofs.Apart.{ruled, ruled_versions}
use Rattle.wm_state.proofs.Newest.{numbers_differ}
use Rattle.wm_changes.proofs.Dropping.{differ-with, told-with}
use Rattle.wm_changes.proofs.DroppingAll.{there-with, there_all}
use Rattle.wm_index.proofs.Finding.{Tests, all_of}
use Rattle.wm_index.proofs.Leaves.{any-kind}
use Rattle.wm_index.specs.Sought.{OwnedBy, PiecesIn, ids_with, is_sought}
use Rattle.wm_undone.proofs.DraftedRemoved.{drafts_removed}
use Rattle.wm_undone.specs.Removing.{keeps_without, remove_batch}
use Rattle.wm_lifecycle.proofs.GoneLists.{all_flat, any_either, any_flat, any_with, differ_flat}
use Rattle.wm_lifecycle.proofs.GoneVersions.{apart_versions, version_told}
use Rattle.wm_lifecycle.specs.Gone.{pieces_under, with_pieces}

-- ---- one id

-- what an id among those of a test has for a record
record HasOne (q : Record → Bool) (ss : List Stored) (o : ℕ) : Type 0 where
  one : Record
  found : record_at ss o ≡ Some one
  passes : q one ≡ true

has_one : (q : Record → Bool) (ss : List Stored) → Ascend ss → (o : ℕ) → is_dropped (ids_with q ss) o ≡ true → HasOne q ss o
has_one q ss sorted o is = by_record (record_at ss o) refl
  where
    by_record : (found : Option Record) → record_at ss o ≡ found → HasOne q ss o
    by_record None none = absurd (true≢false (sym is ∙ there-with q ss o none))
    by_record (Some r) some = record { one = r; found = some; passes = sym (told-with q ss sorted o r some) ∙ is }

-- a record is a piece that stands in another, which is a version
abbrev takes : Option Record → Record → Bool
takes (Some (records.Version v)) r = is_sought (PiecesIn v.number) r
takes _ r = false

under_told : (ss : List Stored) → Ascend ss → (found : Option Record) (id : ℕ) (r : Record) → record_at ss id ≡ Some r → is_dropped (pieces_under ss found) id ≡ takes found r
under_told ss sorted (Some (records.Version v)) id r is = told-with (is_sought (PiecesIn v.number)) ss sorted id r is
under_told ss sorted _ id r is = refl

under_none : (ss : List Stored) (found : Option Record) (id : ℕ) → record_at ss id ≡ None → is_dropped (pieces_under ss found) id ≡ false
under_none ss (Some (records.Version v)) id none = there-with (is_sought (PiecesIn v.number)) ss id none
under_none ss _ id none = refl

under_differ : (ss : List Stored) → Ascend ss → (found : Option Record) → ids_differ (pieces_under ss found) ≡ true
unfolding ids_differ
under_differ ss sorted (Some (records.Version v)) = differ-with (is_sought (PiecesIn v.number)) ss sorted
under_differ ss sorted _ = refl

under_there : (ss : List Stored) (found : Option Record) → list_all (λ id. is_some (record_at ss id)) (pieces_under ss found) ≡ true
under_there ss (Some (records.Version v)) = there_all (is_sought (PiecesIn v.number)) ss
under_there ss _ = refl

-- what is a workspace's own is no piece
not_piece : (n number : ℕ) (r : Record) → is_sought (OwnedBy n) r ≡ true → is_sought (PiecesIn number) r ≡ false
not_piece n number (records.Piece x) owned = absurd (true≢false (sym owned))
not_piece n number _ owned = refl

not_taken : (n : ℕ) (found : Option Record) (r : Record) → is_sought (OwnedBy n) r ≡ true → takes found r ≡ false
not_taken n (Some (records.Version v)) r owned = not_piece n v.number r owned
not_taken n _ r owned = refl

-- ---- all of them

-- no piece stands in two versions
taken_once : (ss : List Stored) → numbers_differ (filter_map as_version (all_of ss)) → (o k : ℕ) (r : Record) → o ≢ k → takes (record_at ss o) r ≡ true → takes (record_at ss k) r ≡ false
taken_once ss numbers o k r away is = by_one (record_at ss o) refl is
  where
    by_piece : (v w : Version) → (v.number == w.number) ≡ false → (r : Record) → is_sought (PiecesIn v.number) r ≡ true → is_sought (PiecesIn w.number) r ≡ false
    by_piece v w apart (records.Piece x) h = ne_eqb x.version w.number (λ same. true≢false (sym (eq-eqb v.number w.number (sym (eqb-true x.version v.number h) ∙ same)) ∙ apart))
    by_piece v w apart _ h = refl

    by_other : (v : Version) → record_at ss o ≡ Some (records.Version v) → is_sought (PiecesIn v.number) r ≡ true → (b : Option Record) → record_at ss k ≡ b → takes b r ≡ false
    by_other v one h (Some (records.Version w)) other = by_piece v w (apart_versions ss numbers o k v w one other away) r h
    by_other v one h _ other = refl

    by_one : (a : Option Record) → record_at ss o ≡ a → takes a r ≡ true → takes (record_at ss k) r ≡ false
    by_one (Some (records.Version v)) one h = by_other v one h (record_at ss k) refl
    by_one _ one h = absurd (true≢false (sym h))

one_differs : (ss : List Stored) → Ascend ss → (n o : ℕ) → is_dropped (ids_with (is_sought (OwnedBy n)) ss) o ≡ true → ids_differ (with_pieces ss o) ≡ true
unfolding ids_differ
one_differs ss sorted n o is =
    let h = has_one (is_sought (OwnedBy n)) ss sorted o is in
    rw (under_told ss sorted (record_at ss o) o h.one h.found ∙ not_taken n (record_at ss o) h.one h.passes) (under_differ ss sorted (record_at ss o))

one_there : (ss : List Stored) → Ascend ss → (n o : ℕ) → is_dropped (ids_with (is_sought (OwnedBy n)) ss) o ≡ true → list_all (λ id. is_some (record_at ss id)) (with_pieces ss o) ≡ true
one_there ss sorted n o is =
    let h = has_one (is_sought (OwnedBy n)) ss sorted o is in
    and_from (is_some (record_at ss o)) (list_all (λ id. is_some (record_at ss id)) (pieces_under ss (record_at ss o))) (ap is_some h.found) (under_there ss (record_at ss o))

-- two of them share no id
none_shared : (ss : List Stored) → Ascend ss → numbers_differ (filter_map as_version (all_of ss)) → (n o k id : ℕ) → is_dropped (ids_with (is_sought (OwnedBy n)) ss) o ≡ true → is_dropped (ids_with (is_sought (OwnedBy n)) ss) k ≡ true → o ≢ k
    → is_dropped (with_pieces ss o) id ≡ true → is_dropped (with_pieces ss k) id ≡ false
none_shared ss sorted numbers n o k id one_is other_is away shared = by_record (record_at ss id) refl
  where
    one : HasOne (is_sought (OwnedBy n)) ss o
    one = has_one (is_sought (OwnedBy n)) ss sorted o one_is

    other : HasOne (is_sought (OwnedBy n)) ss k
    other = has_one (is_sought (OwnedBy n)) ss sorted k other_is

    same_record : (j : ℕ) (r q : Record) → j ≡ id → record_at ss id ≡ Some r → record_at ss j ≡ Some q → q ≡ r
    same_record j r q is found own = some_same (sym own ∙ ap (record_at ss) is ∙ found)
      where
        some_same : Some q ≡ Some r → q ≡ r
        some_same e = cc

    by_record : (found : Option Record) → record_at ss id ≡ found → is_dropped (with_pieces ss k) id ≡ false
    by_record None none = or_from (k == id) (is_dropped (pieces_under ss (record_at ss k)) id) (ne_eqb k id (λ e. none_some (record_at ss k) other.one (ap (record_at ss) e ∙ none) other.found)) (under_none ss (record_at ss k) id none)
    by_record (Some r) some = by_id (cases_eq o id)
      where
        taken : o ≢ id → takes (record_at ss o) r ≡ true
        taken apart = sym (under_told ss sorted (record_at ss o) id r some) ∙ sym (ap (λ b. b || is_dropped (pieces_under ss (record_at ss o)) id) (ne_eqb o id apart)) ∙ shared

        by_id : (o ≡ id) ⊎ (o ≢ id) → is_dropped (with_pieces ss k) id ≡ false
        by_id (inl same) =
            or_from (k == id) (is_dropped (pieces_under ss (record_at ss k)) id) (ne_eqb k id (λ e. away (same ∙ sym e)))
            (under_told ss sorted (record_at ss k) id r some ∙ not_taken n (record_at ss k) r (sym (ap (is_sought (OwnedBy n)) (same_record o r one.one same some one.found)) ∙ one.passes))
        by_id (inr apart) =
            or_from (k == id) (is_dropped (pieces_under ss (record_at ss k)) id)
            (ne_eqb k id (λ e. true≢false (sym (taken apart) ∙ not_taken n (record_at ss o) r (sym (ap (is_sought (OwnedBy n)) (same_record k r other.one e some other.found)) ∙ other.passes))))
            (under_told ss sorted (record_at ss k) id r some ∙ taken_once ss numbers o k r away (taken apart))

-- ---- what goes

numbers_of : (ss : List Stored) → keep_rules (parts_of ss) ≡ true → numbers_differ (filter_map as_version (all_of ss))
unfolding parts_of
numbers_of ss rules = let r = ruled (parts_of ss) rules in (ruled_versions (parts_of ss) r.counters.next_version r.versions).numbers

-- a record goes where it is the workspace's own, or a piece of one of its versions
told_gone : (n : ℕ) (vs : List Version) → numbers_differ vs → (r : Record) → (is_sought (OwnedBy n) r || list_any (λ (v : Version). (v.space == n) && is_sought (PiecesIn v.number) r) vs) ≡ not (keeps_without vs n r)
told_gone n vs numbers r = by_kind r
  where
    no_version : (xs : List Version) → list_any (λ (v : Version). (v.space == n) && false) xs ≡ false
    no_version [] = refl
    no_version (x ∷ xs) = rw (no_version xs) (none (x.space == n))
      where
        none : (a : Bool) → ((a && false) || false) ≡ false
        none true = refl
        none false = refl

    own : (b c : Bool) → c ≡ false → (b || c) ≡ not (not b)
    own true c e = refl
    own false c e = e

    by_kind : (q : Record) → (is_sought (OwnedBy n) q || list_any (λ (v : Version). (v.space == n) && is_sought (PiecesIn v.number) q) vs) ≡ not (keeps_without vs n q)
    by_kind (records.Piece x) = version_told n x.version vs numbers ∙ sym (not-not _)
    by_kind (records.Space x) = own (x.number == n) _ (no_version vs)
    by_kind (records.Version x) = own (x.space == n) _ (no_version vs)
    by_kind (records.Savepoint x) = own (x.space == n) _ (no_version vs)
    by_kind (records.Touch x) = own (x.space == n) _ (no_version vs)
    by_kind (records.Lock x) = own (x.space == n) _ (no_version vs)
    by_kind (records.Hist x) = own (x.space == n) _ (no_version vs)
    by_kind (records.Mark x) = own (x.space == n) _ (no_version vs)
    by_kind (records.Turn x) = own (x.space == n) _ (no_version vs)
    by_kind _ = no_version vs

pub gone_dropped : (ss : List Stored) (n : ℕ) → Ascend ss → keep_rules (parts_of ss) ≡ true → AreDropped (keeps_without (parts_of ss).versions n) (flat_map (with_pieces ss) (ids_with (is_sought (OwnedBy n)) ss)) ss
unfolding parts_of
gone_dropped ss n sorted rules id r is =
    any_flat (with_pieces ss) (ids_with (is_sought (OwnedBy n)) ss) id
    ∙ any_either (λ o. o == id) (λ o. takes (record_at ss o) r) (λ o. is_dropped (with_pieces ss o) id) (λ o. ap (λ b. (o == id) || b) (under_told ss sorted (record_at ss o) id r is)) (ids_with (is_sought (OwnedBy n)) ss)
    ∙ ap (λ b. b || list_any (λ o. takes (record_at ss o) r) (ids_with (is_sought (OwnedBy n)) ss)) (told-with (is_sought (OwnedBy n)) ss sorted id r is)
    ∙ ap (λ b. is_sought (OwnedBy n) r || b)
    (any_with (λ found. takes found r) (is_sought (OwnedBy n)) (λ q. is_sought (OwnedBy n) q && takes (Some q) r) (λ q. refl) ss sorted
    ∙ any-kind as_version (λ (v : Version). (v.space == n) && is_sought (PiecesIn v.number) r) (λ q. is_sought (OwnedBy n) q && takes (Some q) r) tests (all_of ss))
    ∙ told_gone n (filter_map as_version (all_of ss)) (numbers_of ss rules) r
  where
    tests : Tests as_version (λ (v : Version). (v.space == n) && is_sought (PiecesIn v.number) r) (λ q. is_sought (OwnedBy n) q && takes (Some q) r)
    tests (records.Version v) = refl
    tests (records.Space x) = and-false (x.number == n)
    tests (records.Savepoint x) = and-false (x.space == n)
    tests (records.Touch x) = and-false (x.space == n)
    tests (records.Lock x) = and-false (x.space == n)
    tests (records.Hist x) = and-false (x.space == n)
    tests (records.Mark x) = and-false (x.space == n)
    tests (records.Turn x) = and-false (x.space == n)
    tests _ = refl

pub gone_differ : (ss : List Stored) (n : ℕ) → Ascend ss → keep_rules (parts_of ss) ≡ true → ids_differ (flat_map (with_pieces ss) (ids_with (is_sought (OwnedBy n)) ss)) ≡ true
gone_differ ss n sorted rules =
    differ_flat (with_pieces ss) (ids_with (is_sought (OwnedBy n)) ss) (differ-with (is_sought (OwnedBy n)) ss sorted) (one_differs ss sorted n) (none_shared ss sorted (numbers_of ss rules) n)

pub gone_there : (ss : List Stored) (n : ℕ) → Ascend ss → list_all (λ id. is_some (record_at ss id)) (flat_map (with_pieces ss) (ids_with (is_sought (OwnedBy n)) ss)) ≡ true
gone_there ss n sorted = all_flat (λ id. is_some (record_at ss id)) (with_pieces ss) (ids_with (is_sought (OwnedBy n)) ss) (one_there ss sorted n)

-- what is put is the batch of the removal
pub removing_is : (counters_id : ℕ) (counted counters : Counters) (dropped ids : List ℕ) (none one two : List Change) (p : Change) → counted ≡ counters → ids ≡ dropped → none ≡ [] → p ≡ put counters_id (records.Counters counted) → one ≡ none ++ p ∷ []
    → two ≡ one ++ map drop_one ids → two ≡ remove_batch counters_id counters dropped
removing_is counters_id counted counters dropped ids none one two p count are empty first pushed dropping = rw (dropping, pushed, first, empty, count, are) refl

-- so it is what the removal makes of each state
pub drafts_gone : (rs : List Stored) (m work n : ℕ) (c : Counters) (counters_id : ℕ) (ids : List ℕ) (changes : List Change) → keep_rules (parts_of rs) ≡ true → CanWork (parts_of rs) m work → (parts_of rs).counters ≡ c ∷ [] → CanRemove (parts_of rs) n
    → record_at rs counters_id ≡ Some (records.Counters c) → Ascend rs → ids ≡ flat_map (with_pieces rs) (ids_with (is_sought (OwnedBy n)) rs) → changes ≡ remove_batch counters_id (moved c m work) ids → DraftsBy work rs m (edits.Remove n ∷ []) changes
drafts_gone rs m work n c counters_id ids changes rules can_work one can there sorted are is =
    subst (DraftsBy work rs m (edits.Remove n ∷ [])) (sym is)
    (drafts_removed rs m work n c counters_id ids rules can_work one can there sorted (subst (λ ds. AreDropped (keeps_without (parts_of rs).versions n) ds rs) (sym are) (gone_dropped rs n sorted rules)) (ap ids_differ are ∙ gone_differ rs n sorted rules)
    (ap (list_all (λ d. is_some (record_at rs d))) are ∙ gone_there rs n sorted))
