-- What is read of the records of some ids.
use Rattle.std.specs.Prelude.{ℕ, ◌≡◌, Bool, false, not, ◌&&◌, ◌||◌, ◌==◌, nat_le, nat_lt, if◌then◌else◌, List, [], ◌∷◌, map, Option, Some, None}
use Rattle.std.specs.Bool.{then_some}
use Rattle.std.specs.List.{list_any}
use Rattle.std.specs.Option.{option_or}
use Rattle.std.specs.declared.alloc.Global.{Global}
use Rattle.std.specs.declared.vec.Vec.{Vec}
use Rattle.wm_base.specs.declared.value.Value.{Value}
use Rattle.wm_graph.specs.Parts.{as_piece, parts_of}
use Rattle.wm_ids.specs.declared.versioned.Versioned.{Versioned}
use Rattle.wm_ids.specs.Versioned.{AreNested, AreSpanned, ids_under, versions_in}
use Rattle.wm_index.specs.Kinds.{kind_at}
use Rattle.wm_index.specs.Sought.{is_piece_of}
use Rattle.wm_period.specs.Pieces.{Held}
use Rattle.wm_spec.specs.declared.record.piece.PieceRecord.{PieceRecord}
use Rattle.wm_spec.specs.declared.record.savepoint.Savepoint.{Savepoint}
use Rattle.wm_spec.specs.declared.record.space.Space.{Space}
use Rattle.wm_spec.specs.declared.record.stored.Stored.{Stored}
use Rattle.wm_state.specs.Standing.{held_by, stored_at}
pub use Rattle.wm_state.specs.Firsts.{is_child_from, is_saved_behind}

-- the piece is the version's own and covers the moment
abbrev pub has_at : PieceRecord → ℕ → ℕ → Bool
has_at x version time = (x.version == version) && (nat_le x.cells.from time && nat_lt time x.cells.till)

-- what a version has at a moment among pieces of one table and key
abbrev pub first_held : List PieceRecord → ℕ → ℕ → Option Held
first_held [] version time = None
first_held (x ∷ xs) version time = option_or (then_some (has_at x version time) (held_by x)) (first_held xs version time)

-- versions have for a key of a table what is stored for it
abbrev pub HoldKey : List Stored → ℕ → List Value → List Versioned → Type 0
HoldKey ss table key es = (v t : ℕ) → first_held (kind_at as_piece ss (ids_under es v)) v t ≡ stored_at (parts_of ss).pieces v (record { table = table; key = key; time = t })

-- what versions have of the pieces of a table, by key: a key without versions has no piece
pub record AreKeysOf (ss : List Stored) (table : ℕ) (keys : List (List Value × Vec Versioned Global)) : Type 0 where
  pub nested : (k : List Value) → AreNested (versions_in keys k)
  pub spanned : (k : List Value) → AreSpanned ss (versions_in keys k)
  pub held : (k : List Value) → HoldKey ss table k (versions_in keys k)
  pub whole : (k : List Value) → versions_in keys k ≡ [] → list_any (is_piece_of table k) (map (λ (s : Stored). s.record) ss) ≡ false

-- a savepoint of a workspace with a parent sees the version under its workspace's own
abbrev pub rests_on : ℕ → Savepoint → Bool
rests_on version x = not (x.space == 0) && (x.base_version == version)

-- a workspace with a parent was born from the version or sees it under its own
abbrev pub names : ℕ → Space → Bool
names version r = not (r.number == 0) && ((r.birth_version == version) || (r.base_version == version))

-- that of two workspaces with the lesser number, where there are both
abbrev pub lesser : Option Space → Option Space → Option Space
lesser None other = other
lesser (Some r) None = Some r
lesser (Some r) (Some q) = if nat_le r.number q.number then Some r else Some q

-- the workspace of the least number that passes a test
abbrev pub least : (Space → Bool) → List Space → Option Space
least p [] = None
least p (r ∷ rs) = lesser (then_some (p r) r) (least p rs)
