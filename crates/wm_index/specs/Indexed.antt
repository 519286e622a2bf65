-- An index of records: the ids of whatever may be sought.
use Rattle.std.specs.Prelude.{ℕ, ◌≡◌, if◌then◌else◌, List, map}
use Rattle.std.specs.List.Sorted.{IsStrictlySortedBy}
use Rattle.std.specs.Ordering.{nat_cmp}
use Rattle.wm_chunks.specs.Numbers.{AreOrdered, Numbers}
use Rattle.wm_spec.specs.declared.record.Record.{Record}
use Rattle.wm_spec.specs.declared.record.stored.Stored.{Stored}
use Rattle.wm_ids.specs.Ids.{placed, without, ids_among, ids_at_position, ids_in, number_ids, pair_order, piece_ids}
use Rattle.wm_ids.specs.Rows.{row_ids}
use Rattle.wm_ids.specs.Versioned.{AllNested, AllSpanned, ids_under, versions_on}
use Rattle.wm_index.specs.Sought.{Sought, TheCounters, Tables, Spaces, SpaceAt, VersionAt, VersionIn, VersionsUnder, SavepointsOf, SavepointAt, KeptAs, KeptUnder, BornAs, SeenUnder, RowAt, PieceAt, TouchesAt, MarksAt, PiecesIn, OwnedBy, MarksIn, TouchAt, TurnAt, HistsOn, LocksOn, LocksOf, LockAt, is_sought, ids_with}
use Rattle.wm_index.specs.declared.index.Index.{Index}

-- the ids that an index has of what is sought
abbrev pub ids_at : Index → Sought → List ℕ
ids_at x TheCounters = x.counters.items
ids_at x Tables = x.tables.items
ids_at x Spaces = x.all_spaces.items
ids_at x (SpaceAt number) = ids_in nat_cmp x.spaces.entries number
ids_at x (VersionAt number) = ids_in nat_cmp x.versions.entries number
ids_at x (VersionIn space number) = number_ids x.versions_in.entries space number
ids_at x (VersionsUnder parent) = ids_in nat_cmp x.versions_under.entries parent
ids_at x (SavepointsOf space) = ids_in nat_cmp x.savepoints_of.entries space
ids_at x (SavepointAt making) = ids_in nat_cmp x.savepoints.entries making
ids_at x (KeptAs version) = ids_in nat_cmp x.kept_as.entries version
ids_at x (KeptUnder version) = ids_in nat_cmp x.kept_under.entries version
ids_at x (BornAs version) = ids_in nat_cmp x.born_as.entries version
ids_at x (SeenUnder version) = ids_in nat_cmp x.seen_under.entries version
ids_at x (RowAt stamp) = row_ids x.rows stamp
ids_at x (PieceAt table key version) = ids_under (versions_on x.pieces.entries table key) version
ids_at x (TouchesAt table key) = piece_ids x.touches.entries table key
ids_at x (MarksAt table key) = piece_ids x.marks.entries table key
ids_at x (PiecesIn version) = ids_among nat_cmp x.pieces_in.entries version
ids_at x (OwnedBy space) = ids_among nat_cmp x.owned.entries space
ids_at x (MarksIn space) = ids_in nat_cmp x.marks_in.entries space
ids_at x (TouchAt space position) = ids_at_position x.touched_at.keys (space, position)
ids_at x (TurnAt space number) = ids_in pair_order x.turns_at.entries (space, number)
ids_at x (HistsOn space table) = ids_among pair_order x.hists_on.entries (space, table)
ids_at x (LocksOn table key) = piece_ids x.locks.entries table key
ids_at x (LocksOf space) = ids_among nat_cmp x.locks_of.entries space
ids_at x (LockAt making) = ids_in nat_cmp x.lock_makings.entries making

-- the ids of whatever is sought ascend
abbrev pub IdsAscend : Index → Type 0
IdsAscend x = (q : Sought) → IsStrictlySortedBy nat_cmp (ids_at x q)

-- the index has an id more, of a record
abbrev pub Adds : Index → Index → ℕ → Record → Type 0
Adds old new id r = (q : Sought) → ids_at new q ≡ (if is_sought q r then placed id (ids_at old q) else ids_at old q)

-- the index has the id of a record no more
abbrev pub Drops : Index → Index → ℕ → Record → Type 0
Drops old new id r = (q : Sought) → ids_at new q ≡ (if is_sought q r then without id (ids_at old q) else ids_at old q)

-- the records of a map, by their ids
abbrev pub listed : List (ℕ × Record) → List Stored
listed entries = map (λ (e : ℕ × Record). let s : Stored = record { id = e.0; «record» = e.1 } in s) entries

-- the records stand by their ids, and the index has the ids of whatever is sought among them; of each key the versions
-- rise that have pieces of it, and so do the periods that are kept beside them, in which the cells of these pieces lie
pub record IsIndexed (kept : Numbers Record) (x : Index) : Type 0 where
  pub ordered : AreOrdered kept.entries
  pub told : (q : Sought) → ids_at x q ≡ ids_with (is_sought q) (listed kept.entries)
  pub nested : AllNested x.pieces.entries
  pub spanned : AllSpanned (listed kept.entries) x.pieces.entries
