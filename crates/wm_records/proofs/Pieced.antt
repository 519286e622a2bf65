-- The pieces in an index, when what stands under an id is changed.
use Rattle.std.proofs.Common.{◌≡◌, ℕ, ◌+◌, ◌==◌, ◌&&◌, ◌||◌, Bool, true, false, cond, List, [], ◌∷◌, Option, Some, None, refl, sym, ap, subst, ◌∙◌, arith}
use Rattle.std.proofs.lemmas.Bool.{eq-eqb, eqb-true, true≢false}
use Rattle.std.specs.List.{AllByRecursion}
use Rattle.std.specs.Option.{option_and_then, option_map_or}
use Rattle.std.specs.Ordering.{is_eq}
use Rattle.wm_base.specs.Key.{key_order}
use Rattle.wm_chunks.specs.Numbers.{AreOrdered, Numbers}
use Rattle.wm_graph.specs.Parts.{as_piece}
use Rattle.wm_records.proofs.Listed.{Ascend-listed}
use Rattle.wm_records.proofs.Lists.{ids_with-set, ids-sorted}
use Rattle.wm_ids.proofs.Placing.{none_from}
use Rattle.wm_ids.specs.Versioned.{AllNested, AllSpanned, AreNested, AreSpanned, ChangedWhere, GainsAny, HasLess, HasMore, IsPieceAt, IsSpanned, LosesAny, Versions, VersionsFrom, ids_under, versions_on}
use Rattle.wm_ids.specs.declared.versioned.Versioned.{Versioned}
use Rattle.wm_index.proofs.Touched.{among_with, has_id}
use Rattle.wm_index.specs.Indexed.{IsIndexed, ids_at, listed}
use Rattle.wm_index.specs.Sought.{Sought, PieceAt, is_sought, ids_less, ids_with}
use Rattle.wm_index.specs.declared.index.Index.{Index}
use Rattle.wm_spec.specs.Records.{record_at}
use Rattle.wm_spec.specs.declared.record.Record.{Record}
use Rattle.wm_spec.specs.declared.record.Record.TheVariants as records
use Rattle.wm_spec.specs.declared.record.piece.PieceRecord.{PieceRecord}
use Rattle.wm_spec.specs.declared.record.stored.Stored.{Stored}
use Rattle.wm_state.specs.ById.{Ascend, set_at}
use Rattle.wm_state.proofs.ById.{Ascend-set, record_at-set}

-- ---- the versions are nested as before

pub loses_nested : (old next : List (ℕ × Versions)) (id : ℕ) (o : Option Record) → LosesAny old next id o → AllNested old → AllNested next
loses_nested old next id None same nested = subst AllNested (sym same) nested
loses_nested old next id (Some (records.Piece x)) less nested = λ t k. by_test ((x.cells.table == t) && is_eq (key_order x.cells.key k)) (versions_on old t k) (versions_on next t k) (nested t k) (less t k)
  where
    by_test : (b : Bool) (es fs : List Versioned) → AreNested es → ChangedWhere (HasLess id x.version) b es fs → AreNested fs
    by_test true es fs before change = change.nested
    by_test false es fs before same = subst AreNested (sym same) before
loses_nested old next id (Some _) same nested = subst AllNested (sym same) nested

pub gains_nested : (old next : List (ℕ × Versions)) (id : ℕ) (o : Option Record) → GainsAny old next id o → AllNested old → AllNested next
gains_nested old next id None same nested = subst AllNested (sym same) nested
gains_nested old next id (Some (records.Piece x)) more nested = λ t k. by_test ((x.cells.table == t) && is_eq (key_order x.cells.key k)) (versions_on old t k) (versions_on next t k) (nested t k) (more t k)
  where
    by_test : (b : Bool) (es fs : List Versioned) → AreNested es → ChangedWhere (HasMore id x) b es fs → AreNested fs
    by_test true es fs before change = change.nested
    by_test false es fs before same = subst AreNested (sym same) before
gains_nested old next id (Some _) same nested = subst AllNested (sym same) nested

-- ---- their periods hold the cells as before

loses_spanned : (ss : List Stored) (old next : List (ℕ × Versions)) (id : ℕ) (o : Option Record) → LosesAny old next id o → AllSpanned ss old → AllSpanned ss next
loses_spanned ss old next id None same all = subst (AllSpanned ss) (sym same) all
loses_spanned ss old next id (Some (records.Piece x)) less all = λ t k. by_test ((x.cells.table == t) && is_eq (key_order x.cells.key k)) (versions_on old t k) (versions_on next t k) (all t k) (less t k)
  where
    by_test : (b : Bool) (es fs : List Versioned) → AreSpanned ss es → ChangedWhere (HasLess id x.version) b es fs → AreSpanned ss fs
    by_test true es fs spans change = change.spanned ss spans
    by_test false es fs spans same = subst (AreSpanned ss) (sym same) spans
loses_spanned ss old next id (Some _) same all = subst (AllSpanned ss) (sym same) all

pub gains_spanned : (ss : List Stored) (old next : List (ℕ × Versions)) (id : ℕ) (o : Option Record) → record_at ss id ≡ o → GainsAny old next id o → AllSpanned ss old → AllSpanned ss next
gains_spanned ss old next id None at same all = subst (AllSpanned ss) (sym same) all
gains_spanned ss old next id (Some (records.Piece x)) at more all = λ t k. by_test ((x.cells.table == t) && is_eq (key_order x.cells.key k)) (versions_on old t k) (versions_on next t k) (all t k) (more t k)
  where
    some_same : (r : PieceRecord) → Some x ≡ Some r → r ≡ x
    some_same r e = cc

    piece : IsPieceAt ss id x
    piece r is = some_same r (sym (ap (option_and_then as_piece) at) ∙ is)

    by_test : (b : Bool) (es fs : List Versioned) → AreSpanned ss es → ChangedWhere (HasMore id x) b es fs → AreSpanned ss fs
    by_test true es fs spans change = change.spanned ss piece spans
    by_test false es fs spans same = subst (AreSpanned ss) (sym same) spans
gains_spanned ss old next id (Some _) at same all = subst (AllSpanned ss) (sym same) all

-- records that differ at an id that no version has

-- records are the same but for an id
abbrev Same : ℕ → List Stored → List Stored → Type 0
Same id ss rs = (j : ℕ) → (j == id) ≡ false → record_at rs j ≡ record_at ss j

neither : (a b : Bool) → (a || b) ≡ false → (a ≡ false) × (b ≡ false)
neither true b h = absurd (true≢false h)
neither false b h = (refl, h)

apart_ids : (id : ℕ) (ss rs : List Stored) (from till : ℕ) (ids : List ℕ) → Same id ss rs → has_id id ids ≡ false → AllByRecursion (IsSpanned ss from till) ids → AllByRecursion (IsSpanned rs from till) ids
apart_ids id ss rs from till [] same none all = tt
apart_ids id ss rs from till (j ∷ js) same none all =
    let parts = neither (j == id) (has_id id js) none in
    (λ r at. all.0 r (ap (option_and_then as_piece) (sym (same j parts.0)) ∙ at), apart_ids id ss rs from till js same parts.1 all.1)

apart_key : (id b : ℕ) (ss rs : List Stored) (es : List Versioned) → Same id ss rs → VersionsFrom b es → ((v : ℕ) → has_id id (ids_under es v) ≡ false) → AreSpanned ss es → AreSpanned rs es
apart_key id b ss rs [] same up none all = tt
apart_key id b ss rs (e ∷ es) same up none all =
    (apart_ids id ss rs e.from e.till e.ids same here all.0, apart_key id (e.version + 1) ss rs es same up.1 (λ v. by_test v (e.version == v) refl (none v)) all.1)
  where
    here : has_id id e.ids ≡ false
    here = ap (λ b. has_id id (cond b e.ids (ids_under es e.version))) (sym (eq-eqb e.version e.version refl)) ∙ none e.version

    by_test : (v : ℕ) (b : Bool) → (e.version == v) ≡ b → has_id id (cond b e.ids (ids_under es v)) ≡ false → has_id id (ids_under es v) ≡ false
    by_test v true is h = ap (has_id id) (ap (ids_under es) (sym (eqb-true e.version v is)) ∙ none_from (e.version + 1) e.version es up.1 (omega arith))
    by_test v false is h = h

-- ---- what stands under an id is changed

-- once its record went no version has the id
gone_id : (kept : Numbers Record) (x new : Index) (id : ℕ) → IsIndexed kept x → ((q : Sought) → ids_at new q ≡ ids_less (is_sought q) id (record_at (listed kept.entries) id) (ids_at x q))
    → (q : Sought) → has_id id (ids_at new q) ≡ false
gone_id kept x new id is less q =
    ap (has_id id)
    (less q ∙ ap (ids_less (is_sought q) id (record_at (listed kept.entries) id)) (is.told q) ∙ sym (ids_with-set (is_sought q) id None (listed kept.entries) sorted))
    ∙ among_with (is_sought q) id (set_at id None (listed kept.entries)) (ids-sorted (set_at id None (listed kept.entries)) (Ascend-set id None (listed kept.entries) sorted))
    ∙ ap (λ o. option_map_or (is_sought q) o false) (record_at-set id None (listed kept.entries) sorted id ∙ ap (λ b. cond b nothing (record_at (listed kept.entries) id)) (eq-eqb id id refl))
  where
    sorted : Ascend (listed kept.entries)
    sorted = Ascend-listed kept.entries is.ordered

    nothing : Option Record
    nothing = None

-- the periods hold the cells of the records as they are then
pub pieces_spanned : (kept : Numbers Record) (x mid next : Index) (id : ℕ) (becomes : Option Record) (rs : List Stored) → IsIndexed kept x
    → ((q : Sought) → ids_at mid q ≡ ids_less (is_sought q) id (record_at (listed kept.entries) id) (ids_at x q))
    → LosesAny x.pieces.entries mid.pieces.entries id (record_at (listed kept.entries) id) → GainsAny mid.pieces.entries next.pieces.entries id becomes → rs ≡ set_at id becomes (listed kept.entries)
    → AllSpanned rs next.pieces.entries
pieces_spanned kept x mid next id becomes rs is told less more set =
    gains_spanned rs mid.pieces.entries next.pieces.entries id becomes
    (at id ∙ ap (λ b. cond b becomes (record_at (listed kept.entries) id)) (eq-eqb id id refl)) more
    (λ t k. apart_key id 0 (listed kept.entries) rs (versions_on mid.pieces.entries t k) same
    (loses_nested x.pieces.entries mid.pieces.entries id (record_at (listed kept.entries) id) less is.nested t k).rises
    (λ v. gone_id kept x mid id is told (PieceAt t k v))
    (loses_spanned (listed kept.entries) x.pieces.entries mid.pieces.entries id (record_at (listed kept.entries) id) less is.spanned t k))
  where
    at : (q : ℕ) → record_at rs q ≡ cond (q == id) becomes (record_at (listed kept.entries) q)
    at q = ap (λ l. record_at l q) set ∙ record_at-set id becomes (listed kept.entries) (Ascend-listed kept.entries is.ordered) q

    same : Same id (listed kept.entries) rs
    same j apart = at j ∙ ap (λ b. cond b becomes (record_at (listed kept.entries) j)) apart

-- ---- no records

pub none_indexed : (kept : Numbers Record) (x : Index) → AreOrdered kept.entries → kept.entries ≡ [] → ((q : Sought) → ids_at x q ≡ []) → x.pieces.entries ≡ [] → IsIndexed kept x
none_indexed kept x ordered empty none pieces = record {
  ordered = ordered;
  told = λ q. none q ∙ ap (λ es. ids_with (is_sought q) (listed es)) (sym empty);
  nested = subst AllNested (sym pieces) (λ t k. record { rises = tt; widens = tt });
  spanned = subst (AllSpanned (listed kept.entries)) (sym pieces) (λ t k. tt);
}
