-- The ids of what is sought, when those under the keys of a record are changed.
use Rattle.std.proofs.Common.{◌≡◌, ℕ, ◌==◌, ◌&&◌, cond, List, refl, ◌∙◌}
use Rattle.std.specs.BTreeMap.{BTreeMap}
use Rattle.std.specs.BTreeSet.{BTreeSet}
use Rattle.std.specs.Ordering.{nat_cmp, is_eq}
use Rattle.wm_base.specs.Key.{key_order}
use Rattle.wm_base.specs.declared.value.Value.{Value}
use Rattle.wm_ids.proofs.Pairs.{changed_number, changed_pair}
use Rattle.wm_ids.specs.Ids.{Keyed, ids_among, ids_at_position, ids_in, pair_order, piece_ids}
use Rattle.wm_ids.specs.Versioned.{Versions, ids_under, versions_on}
use Rattle.wm_index.specs.Indexed.{ids_at}
use Rattle.wm_index.specs.Sought.{Sought, OwnedBy, TouchAt, TouchesAt, TurnAt, HistsOn, LocksOn, LocksOf, LockAt, is_sought, PieceAt, PiecesIn}
use Rattle.wm_index.specs.declared.index.Index.{Index}
use Rattle.wm_spec.specs.declared.record.Record.TheVariants as records
use Rattle.wm_spec.specs.declared.record.hist.Hist.{Hist}
use Rattle.wm_spec.specs.declared.record.lock.Lock.{Lock}
use Rattle.wm_spec.specs.declared.record.piece.PieceRecord.{PieceRecord}
use Rattle.wm_spec.specs.declared.record.trace.Trace.{Trace}
use Rattle.wm_spec.specs.declared.record.turn.Turn.{Turn}

-- the ids under the keys of a turn are changed
pub turn_changed : (change : List ℕ → List ℕ) (old : Index) (owned : BTreeMap ℕ (BTreeSet ℕ)) (turns : BTreeMap (ℕ × ℕ) (List ℕ)) (r : Turn)
    → ((q : ℕ) → ids_among nat_cmp owned.entries q ≡ cond (is_eq (nat_cmp r.space q)) (change (ids_among nat_cmp old.owned.entries r.space)) (ids_among nat_cmp old.owned.entries q))
    → ((q : ℕ × ℕ) → ids_in pair_order turns.entries q ≡ cond (is_eq (pair_order (r.space, r.rebase) q)) (change (ids_in pair_order old.turns_at.entries (r.space, r.rebase))) (ids_in pair_order old.turns_at.entries q))
    → (q : Sought) → ids_at (record old { owned = owned; turns_at = turns }) q ≡ cond (is_sought q (records.Turn r)) (change (ids_at old q)) (ids_at old q)
turn_changed change old owned turns r by_space by_number (OwnedBy space) = by_space space ∙ changed_number change (ids_among nat_cmp old.owned.entries) r.space space
turn_changed change old owned turns r by_space by_number (TurnAt space number) = by_number (space, number) ∙ changed_pair change (ids_in pair_order old.turns_at.entries) (r.space, r.rebase) (space, number)
turn_changed change old owned turns r by_space by_number _ = refl

-- the ids under the keys of an entry of a log are changed
pub hist_changed : (change : List ℕ → List ℕ) (old : Index) (owned : BTreeMap ℕ (BTreeSet ℕ)) (hists : BTreeMap (ℕ × ℕ) (BTreeSet ℕ)) (r : Hist)
    → ((q : ℕ) → ids_among nat_cmp owned.entries q ≡ cond (is_eq (nat_cmp r.space q)) (change (ids_among nat_cmp old.owned.entries r.space)) (ids_among nat_cmp old.owned.entries q))
    → ((q : ℕ × ℕ) → ids_among pair_order hists.entries q ≡ cond (is_eq (pair_order (r.space, r.cells.table) q)) (change (ids_among pair_order old.hists_on.entries (r.space, r.cells.table))) (ids_among pair_order old.hists_on.entries q))
    → (q : Sought) → ids_at (record old { owned = owned; hists_on = hists }) q ≡ cond (is_sought q (records.Hist r)) (change (ids_at old q)) (ids_at old q)
hist_changed change old owned hists r by_space by_log (OwnedBy space) = by_space space ∙ changed_number change (ids_among nat_cmp old.owned.entries) r.space space
hist_changed change old owned hists r by_space by_log (HistsOn space table) = by_log (space, table) ∙ changed_pair change (ids_among pair_order old.hists_on.entries) (r.space, r.cells.table) (space, table)
hist_changed change old owned hists r by_space by_log _ = refl

-- the ids under the keys of a touch are changed
pub touch_changed : (change : List ℕ → List ℕ) (old : Index) (owned : BTreeMap ℕ (BTreeSet ℕ)) (touched : BTreeSet (ℕ × ℕ × ℕ)) (touches : BTreeMap ℕ Keyed) (r : Trace)
    → ((q : ℕ) → ids_among nat_cmp owned.entries q ≡ cond (is_eq (nat_cmp r.space q)) (change (ids_among nat_cmp old.owned.entries r.space)) (ids_among nat_cmp old.owned.entries q))
    → ((q : ℕ × ℕ) → ids_at_position touched.keys q ≡ cond ((r.space == q.0) && (r.position == q.1)) (change (ids_at_position old.touched_at.keys q)) (ids_at_position old.touched_at.keys q))
    → ((t : ℕ) (k : List Value) → piece_ids touches.entries t k ≡ cond ((r.cells.table == t) && is_eq (key_order r.cells.key k)) (change (piece_ids old.touches.entries t k)) (piece_ids old.touches.entries t k))
    → (q : Sought) → ids_at (record old { owned = owned; touched_at = touched; touches = touches }) q ≡ cond (is_sought q (records.Touch r)) (change (ids_at old q)) (ids_at old q)
touch_changed change old owned touched touches r by_space by_position by_key (OwnedBy space) = by_space space ∙ changed_number change (ids_among nat_cmp old.owned.entries) r.space space
touch_changed change old owned touched touches r by_space by_position by_key (TouchAt space position) = by_position (space, position)
touch_changed change old owned touched touches r by_space by_position by_key (TouchesAt table key) = by_key table key
touch_changed change old owned touched touches r by_space by_position by_key _ = refl

-- the ids under the keys of a piece are changed
pub piece_changed : (change : List ℕ → List ℕ) (old : Index) (owned : BTreeMap ℕ (BTreeSet ℕ)) (pieces : BTreeMap ℕ Versions) (r : PieceRecord)
    → ((q : ℕ) → ids_among nat_cmp owned.entries q ≡ cond (is_eq (nat_cmp r.version q)) (change (ids_among nat_cmp old.pieces_in.entries r.version)) (ids_among nat_cmp old.pieces_in.entries q))
    → ((t : ℕ) (k : List Value) (v : ℕ) → ids_under (versions_on pieces.entries t k) v ≡ cond ((r.cells.table == t) && (is_eq (key_order r.cells.key k) && (r.version == v))) (change (ids_under (versions_on old.pieces.entries t k) v)) (ids_under (versions_on old.pieces.entries t k) v))
    → (q : Sought) → ids_at (record old { pieces = pieces; pieces_in = owned }) q ≡ cond (is_sought q (records.Piece r)) (change (ids_at old q)) (ids_at old q)
piece_changed change old owned pieces r by_version by_key (PieceAt table key version) = by_key table key version
piece_changed change old owned pieces r by_version by_key (PiecesIn version) = by_version version ∙ changed_number change (ids_among nat_cmp old.pieces_in.entries) r.version version
piece_changed change old owned pieces r by_version by_key _ = refl

-- the ids under the keys of a lock are changed
pub lock_changed : (change : List ℕ → List ℕ) (old : Index) (owned held : BTreeMap ℕ (BTreeSet ℕ)) (makings : BTreeMap ℕ (List ℕ)) (locks : BTreeMap ℕ Keyed) (r : Lock)
    → ((q : ℕ) → ids_among nat_cmp owned.entries q ≡ cond (is_eq (nat_cmp r.space q)) (change (ids_among nat_cmp old.owned.entries r.space)) (ids_among nat_cmp old.owned.entries q))
    → ((q : ℕ) → ids_among nat_cmp held.entries q ≡ cond (is_eq (nat_cmp r.space q)) (change (ids_among nat_cmp old.locks_of.entries r.space)) (ids_among nat_cmp old.locks_of.entries q))
    → ((q : ℕ) → ids_in nat_cmp makings.entries q ≡ cond (is_eq (nat_cmp r.making q)) (change (ids_in nat_cmp old.lock_makings.entries r.making)) (ids_in nat_cmp old.lock_makings.entries q))
    → ((t : ℕ) (k : List Value) → piece_ids locks.entries t k ≡ cond ((r.cells.table == t) && is_eq (key_order r.cells.key k)) (change (piece_ids old.locks.entries t k)) (piece_ids old.locks.entries t k))
    → (q : Sought) → ids_at (record old { owned = owned; locks = locks; locks_of = held; lock_makings = makings }) q ≡ cond (is_sought q (records.Lock r)) (change (ids_at old q)) (ids_at old q)
lock_changed change old owned held makings locks r by_space by_holder by_making by_key (OwnedBy space) = by_space space ∙ changed_number change (ids_among nat_cmp old.owned.entries) r.space space
lock_changed change old owned held makings locks r by_space by_holder by_making by_key (LocksOf space) = by_holder space ∙ changed_number change (ids_among nat_cmp old.locks_of.entries) r.space space
lock_changed change old owned held makings locks r by_space by_holder by_making by_key (LockAt making) = by_making making ∙ changed_number change (ids_in nat_cmp old.lock_makings.entries) r.making making
lock_changed change old owned held makings locks r by_space by_holder by_making by_key (LocksOn table key) = by_key table key
lock_changed change old owned held makings locks r by_space by_holder by_making by_key _ = refl
