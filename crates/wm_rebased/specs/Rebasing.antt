-- A workspace is rebased on its parent as that is now: what becomes of the state, and of the records, told by what is looked up in them.
use Rattle.std.specs.Prelude.{ℕ, zero, suc, ◌≡◌, ◌≢◌, ◌+◌, ◌<◌, Bool, true, false, ◌&&◌, ◌||◌, ◌==◌, nat_lt, if◌then◌else◌, List, [], ◌∷◌, ◌++◌, map, length, Option, Some, None, is_some}
use Rattle.std.specs.List.{All, filter, list_all}
use Rattle.std.specs.Option.{option_map_or}
use Rattle.wm_graph.specs.Parts.{Parts, row_of, space_of, table_of}
use Rattle.wm_graph.specs.Rules.{are_cells, is_row_at}
use Rattle.wm_period.specs.Pieces.{Held}
use Rattle.wm_spec.specs.Lists.{Cell}
use Rattle.wm_spec.specs.Records.{ids_differ, record_at}
use Rattle.wm_spec.specs.declared.record.Record.{Record}
use Rattle.wm_spec.specs.declared.record.Record.TheVariants as records
use Rattle.wm_spec.specs.declared.record.batch.Change.{Change}
use Rattle.wm_spec.specs.declared.record.cell_range.CellRange.{CellRange}
use Rattle.wm_spec.specs.declared.record.counters.Counters.{Counters}
use Rattle.wm_spec.specs.declared.record.piece.PieceRecord.{PieceRecord}
use Rattle.wm_spec.specs.declared.record.space.Space.{Space}
use Rattle.wm_spec.specs.declared.record.stored.Stored.{Stored}
use Rattle.wm_spec.specs.declared.record.trace.Trace.{Trace}
use Rattle.wm_spec.specs.declared.record.turn.Turn.{Turn as TurnRecord}
use Rattle.wm_spec.specs.declared.record.version.Version.{Version}
use Rattle.wm_tree.specs.Versions.{AllBelow}
use Rattle.wm_tree.specs.declared.version.Version.{Version as Node}
use Rattle.wm_state.specs.Batches.{AreDropped, drop_one, put}
use Rattle.wm_state.specs.Editing.{is_other}
use Rattle.wm_state.specs.Effects.{IsLeaf}
use Rattle.wm_state.specs.Standing.{latest, newest_first, owned, stored_at}
use Rattle.wm_state.specs.State.{Durable, Workspace, workspace_of}
use Rattle.wm_state.specs.Writes.{put_all}

-- ---- the state

-- a workspace and its parent, as a rebase finds them
pub record IsRebase (d : Durable) (n : ℕ) (w p : Workspace) : Type 0 where
  pub found : workspace_of d.spaces n ≡ Some w
  pub parent : workspace_of d.spaces w.parent ≡ Some p

-- ---- the records

-- the record of a workspace on a version of its parent, whose log is so long
abbrev pub rebased_on : ℕ → ℕ → Space → Space
rebased_on version from r = record r { base_version = version; from = from; rebases = r.rebases + 1 }

-- the record of the turn that a workspace takes of its parent, where their records are these
abbrev pub turn_record : ℕ → Space → Space → TurnRecord
turn_record n r p = record { space = n; rebase = r.rebases + 1; log_length = p.log_length; rebases = p.rebases }

-- what is held changes at a moment
abbrev pub Changes : (ℕ → Option Held) → ℕ → Type 0
Changes held zero = held 0 ≢ None
Changes held (suc t) = held t ≢ held (suc t)

-- the table and the key of some cells at a moment
abbrev pub cell_at : CellRange → ℕ → Cell
cell_at cells t = record { table = cells.table; key = cells.key; time = t }

-- at both ends of a piece of a version what the version itself has changes
pub record Ends (version : ℕ) (xs : List PieceRecord) (x : PieceRecord) : Type 0 where
  pub from : Changes (λ t. stored_at xs version (cell_at x.cells t)) x.cells.from
  pub till : Changes (λ t. stored_at xs version (cell_at x.cells t)) x.cells.till

-- a version more, above all others, with these pieces and no others
pub record Grafted (p q : Parts) (x : Node) (news : List PieceRecord) : Type 0 where
  pub some : 0 < x.number
  pub under : x.parent < x.number
  pub below : AllBelow x.number (newest_first p.versions)
  pub leaf : IsLeaf x.number (newest_first p.versions)
  pub versions : newest_first q.versions ≡ x ∷ newest_first p.versions
  pub empty : (c : Cell) → stored_at p.pieces x.number c ≡ None
  pub pieces : q.pieces ≡ p.pieces ++ news
  pub its : list_all (λ (y : PieceRecord). y.version == x.number) news ≡ true

-- the version that a workspace gets under the newest one of its parent
abbrev pub node_on : Parts → ℕ → ℕ → Space → Node
node_on p n number a = record { number = number; space = n; parent = latest p a.parent }

-- a mark is none of a workspace
abbrev pub is_elsewhere : ℕ → Trace → Bool
is_elsewhere n x = is_other n x.space

-- a workspace was rebased: it has a version more under its parent's newest one, with what it has of its own, or with nothing, a turn
-- more, and no mark; but for counters all else is as it was
pub record RebasedTo (p q : Parts) (n number : ℕ) (emptied : Bool) (a b : Space) (news : List PieceRecord) : Type 0 where
  pub child : 0 < n
  pub old : space_of p.spaces n ≡ Some a
  pub parent : space_of p.spaces a.parent ≡ Some b
  pub grafted : Grafted p q (node_on p n number a) news
  pub held : (c : Cell) → stored_at news number c ≡ (if emptied then None else owned p a.base_version n c)
  pub ends : All (Ends number news) news
  pub count : length q.spaces ≡ length p.spaces
  pub here : space_of q.spaces n ≡ Some (rebased_on (latest p a.parent) b.log_length a)
  pub elsewhere : (m : ℕ) → (m == n) ≡ false → space_of q.spaces m ≡ space_of p.spaces m
  pub turns : q.turns ≡ p.turns ++ turn_record n a b ∷ []
  pub marks : q.marks ≡ filter (is_elsewhere n) p.marks
  pub rest : record q { counters = p.counters; spaces = p.spaces; versions = p.versions; pieces = p.pieces; turns = p.turns; marks = p.marks } ≡ p

-- a piece of the version that comes, on cells of a table, with a stamp that was given; where it is not gone its row is there
abbrev pub is_copied : Parts → ℕ → ℕ → PieceRecord → Bool
is_copied p version next x =
    (x.version == version)
    && (are_cells (table_of p.tables) x.cells
    && (nat_lt x.stamp next && (x.gone || option_map_or (is_row_at (table_of p.tables) x.cells) (row_of p.rows x.stamp) false)))

-- ---- the batch

-- a record is kept but for the marks of a workspace
abbrev pub keeps_unmarked : ℕ → Record → Bool
keeps_unmarked n (records.Mark x) = is_elsewhere n x
keeps_unmarked n r = true

-- the ids are those of the marks of a workspace, each once
pub record AreMarksOf (ss : List Stored) (n : ℕ) (ids : List ℕ) : Type 0 where
  pub gone : AreDropped (keeps_unmarked n) ids ss
  pub once : ids_differ ids ≡ true
  pub there : list_all (λ id. is_some (record_at ss id)) ids ≡ true

-- the workspace's record is on its parent as that is now, its marks go, and a version, a turn and the pieces of the version come
abbrev pub rebase_batch : ℕ → Counters → ℕ → Space → List ℕ → ℕ → Version → TurnRecord → List PieceRecord → List Change
rebase_batch counters_id counters space_id space dropped id version turn pieces =
    put counters_id (records.Counters counters)
    ∷ put space_id (records.Space space)
    ∷ (map drop_one dropped ++ put_all id (records.Version version ∷ records.Turn turn ∷ map records.Piece pieces))
