-- A workspace goes back to one of its savepoints: what becomes of the state, and of the records, told by what is looked up in them.
use Rattle.std.specs.Prelude.{ℕ, ◌≡◌, ◌<◌, Bool, true, false, not, ◌&&◌, ◌||◌, ◌==◌, nat_le, nat_lt, List, [], ◌∷◌, ◌++◌, map, length, Some, None}
use Rattle.std.specs.List.{filter}
use Rattle.wm_graph.specs.Parts.{Parts, space_of}
use Rattle.wm_spec.specs.Lists.{Cell}
use Rattle.wm_spec.specs.declared.record.Record.{Record as OneRecord}
use Rattle.wm_spec.specs.declared.record.Record.TheVariants as records
use Rattle.wm_spec.specs.declared.record.batch.Change.{Change}
use Rattle.wm_spec.specs.declared.record.counters.Counters.{Counters}
use Rattle.wm_spec.specs.declared.record.hist.Hist.{Hist}
use Rattle.wm_spec.specs.declared.record.savepoint.Savepoint.{Savepoint as Record}
use Rattle.wm_spec.specs.declared.record.space.Space.{Space}
use Rattle.wm_spec.specs.declared.record.trace.Trace.{Trace}
use Rattle.wm_spec.specs.declared.record.version.Version.{Version}
use Rattle.wm_tree.specs.Versions.{AllBelow}
use Rattle.wm_state.specs.Batches.{drop_one, put}
use Rattle.wm_state.specs.Standing.{newest_first, saved_as, stored_at}
use Rattle.wm_state.specs.State.{Durable, Savepoint, Workspace, savepoint_made, workspace_of}
pub use Rattle.wm_state.specs.Editing.{restored, stays_at, stays_held}

-- ---- the state

-- what is asked of going back: the savepoint of this making is there, and the workspace was not rebased since
pub record GoesBack (p : Parts) (d : Durable) (n making : ℕ) (w : Workspace) (k : Savepoint) (x : Record) : Type 0 where
  pub found : workspace_of d.spaces n ≡ Some w
  pub made : savepoint_made making w.savepoints ≡ Some k
  pub recorded : saved_as p n making ≡ Some x
  pub based : k.rebases ≡ w.rebases

-- ---- the records

-- the record of a savepoint that stays where the workspace goes back to another; so does each of another workspace
abbrev pub stays_saved : Record → Record → Bool
stays_saved x y = not (y.space == x.space) || (nat_le y.place x.place && nat_le y.log_length x.log_length)

-- a touch that stays where a workspace goes back to a place at which its log was so long; so does each of another workspace
abbrev pub stays_touched : ℕ → ℕ → ℕ → Trace → Bool
stays_touched n place count x = not (x.space == n) || (nat_lt x.place place && nat_lt x.position count)

-- a mark that stays where a workspace goes back to a place; so does each of another workspace
abbrev pub stays_marked : ℕ → ℕ → Trace → Bool
stays_marked n place x = not (x.space == n) || nat_lt x.place place

-- an entry that stays where the log of a workspace is cut to this length; so does each of another workspace
abbrev pub stays_logged : ℕ → ℕ → Hist → Bool
stays_logged n count x = not (x.space == n) || nat_lt x.position count

-- the record of a workspace as it was at a savepoint
abbrev pub restored_to : Record → Space → Space
restored_to x a = record a { base_version = x.base_version; from = x.from; log_length = x.log_length }

-- a workspace is as it was at a savepoint: it has a version more under the savepoint's, with nothing in it; later savepoints, touched
-- cells, marks and entries of its log are gone; but for counters all else is as it was
pub record RestoredTo (p q : Parts) (n number : ℕ) (a : Space) (x : Record) : Type 0 where
  pub old : space_of p.spaces n ≡ Some a
  pub some : 0 < number
  pub below : AllBelow number (newest_first p.versions)
  pub versions : newest_first q.versions ≡ record { number = number; space = n; parent = x.version } ∷ newest_first p.versions
  pub empty : (c : Cell) → stored_at p.pieces number c ≡ None
  pub count : length q.spaces ≡ length p.spaces
  pub here : space_of q.spaces n ≡ Some (restored_to x a)
  pub elsewhere : (m : ℕ) → (m == n) ≡ false → space_of q.spaces m ≡ space_of p.spaces m
  pub savepoints : q.savepoints ≡ filter (stays_saved x) p.savepoints
  pub touches : q.touches ≡ filter (stays_touched n x.place x.log_length) p.touches
  pub marks : q.marks ≡ filter (stays_marked n x.place) p.marks
  pub locks : q.locks ≡ filter (stays_held n x.place) p.locks
  pub hists : q.hists ≡ filter (stays_logged n x.log_length) p.hists
  pub rest : record q { counters = p.counters; spaces = p.spaces; versions = p.versions; savepoints = p.savepoints; touches = p.touches; marks = p.marks; locks = p.locks; hists = p.hists } ≡ p

-- ---- the batch

-- a record that stays where the workspace goes back to a savepoint
abbrev pub keeps_back : Record → OneRecord → Bool
keeps_back x (records.Savepoint y) = stays_saved x y
keeps_back x (records.Touch y) = stays_touched x.space x.place x.log_length y
keeps_back x (records.Mark y) = stays_marked x.space x.place y
keeps_back x (records.Lock y) = stays_held x.space x.place y
keeps_back x (records.Hist y) = stays_logged x.space x.log_length y
keeps_back x r = true

-- the workspace's record is as it was at the savepoint, the records of these ids go, and a version comes
abbrev pub restore_batch : ℕ → Counters → ℕ → Space → List ℕ → ℕ → Version → List Change
restore_batch counters_id counters space_id space dropped id version =
    put counters_id (records.Counters counters) ∷ put space_id (records.Space space) ∷ (map drop_one dropped ++ put id (records.Version version) ∷ [])
