-- What becomes of pieces where new ones come over them, one table and key after another.
use Rattle.std.specs.Prelude.{ℕ, ◌+◌, ◌*◌, ◌≤◌, ◌≡◌, ◌==◌, Bool, true, false, not, ◌&&◌, List, [], ◌∷◌, ◌++◌, length, map, Option, is_some}
use Rattle.std.specs.List.{filter, list_all}
use Rattle.std.specs.Option.{option_and_then, option_map_or}
use Rattle.std.specs.Ordering.{is_eq, is_gt, is_lt, nat_cmp, ordering_then}
use Rattle.std.specs.declared.cmp.Ordering.{Ordering}
use Rattle.wm_base.specs.Key.{key_order}
use Rattle.wm_base.specs.declared.value.Value.{Value}
use Rattle.wm_graph.specs.Rules.{collide}
use Rattle.wm_spec.specs.Records.{record_at, ids_differ}
use Rattle.wm_spec.specs.declared.record.Record.{Record}
use Rattle.wm_spec.specs.declared.record.cell_range.CellRange.{CellRange}
use Rattle.wm_spec.specs.declared.record.piece.PieceRecord.{PieceRecord}
use Rattle.wm_spec.specs.declared.record.stored.Stored.{Stored}
use Rattle.wm_state.specs.Batches.{AreDropped, is_in}
use Rattle.wm_state.specs.Drawing.{AreDrawn, has_moments, is_clear, touched}
use Rattle.wm_index.specs.Sought.{ids_with}
use Rattle.wm_append.specs.Views.{View, drawn_in, keeps_in}

-- ---- what is asked of new pieces

-- cells by table, and in one table by key
abbrev pub spot_order : CellRange → CellRange → Ordering
spot_order a b = ordering_then (nat_cmp a.table b.table) (key_order a.key b.key)

-- a table and a key, as cells with no moments
abbrev pub spot : ℕ → List Value → CellRange
spot table key = record { table = table; key = key; from = 0; till = 0 }

-- none are of a table and key above those of the next
abbrev pub are_ascending : List CellRange → Bool
are_ascending [] = true
are_ascending (c ∷ []) = true
are_ascending (c ∷ d ∷ ds) = not (is_gt (spot_order c d)) && are_ascending (d ∷ ds)

abbrev pub piece_cells : List PieceRecord → List CellRange
piece_cells xs = map (λ (x : PieceRecord). x.cells) xs

abbrev pub is_of_version : ℕ → PieceRecord → Bool
is_of_version version x = x.version == version

-- pieces that a version is to have: each has a moment, and those of one table and key stand together, in order
pub record AreNewsOf (version : ℕ) (news : List PieceRecord) : Type 0 where
  pub here : list_all (is_of_version version) news ≡ true
  pub last : list_all has_moments news ≡ true
  pub sorted : are_ascending (piece_cells news) ≡ true

-- ---- what is drawn

-- new pieces come over others: the ids that go are those of the pieces that share a cell with one of them, each once, and what is drawn
-- stands for these pieces with the new ones over them
pub record IsRedrawn (view : View) (ss : List Stored) (news : List PieceRecord) (dropped : List ℕ) (drawn : List PieceRecord) : Type 0 where
  pub are : AreDrawn news (touched news (drawn_in view ss)) drawn
  pub gone : AreDropped (keeps_in view (is_clear news)) dropped ss
  pub once : ids_differ dropped ≡ true
  pub there : list_all (λ id. is_some (record_at ss id)) dropped ≡ true

-- no more pieces are drawn than two for each new one and one for each that goes
abbrev pub AreFew : List PieceRecord → List ℕ → List PieceRecord → Type 0
AreFew news dropped drawn = length drawn ≤ 2 * length news + length dropped

-- ---- on the way

-- the cells of the piece that stands first at hand, where there is one
abbrev pub hand_cells : List PieceRecord → List CellRange
hand_cells [] = []
hand_cells (x ∷ xs) = x.cells ∷ []

-- the pieces at hand are of the table and the key of these cells
abbrev pub is_at_hand : List PieceRecord → CellRange → Bool
is_at_hand [] cells = false
is_at_hand (x ∷ xs) cells = is_eq (spot_order x.cells cells)

-- the record is drawn as a piece that shares a cell with a new one
abbrev pub is_touched : View → PieceRecord → Option Record → Bool
is_touched view new found = option_map_or (collide new) (option_and_then view found) false

-- of some ids those of such records
abbrev pub met : View → List Stored → PieceRecord → List ℕ → List ℕ
met view ss new ids = filter (λ id. is_touched view new (record_at ss id)) ids

-- and the others
abbrev pub unmet : View → List Stored → PieceRecord → List ℕ → List ℕ
unmet view ss new ids = filter (λ id. not (is_touched view new (record_at ss id))) ids

-- the record is drawn as a piece that a version has of a key of a table, and no new piece shares a cell with it
abbrev pub is_left : View → ℕ → ℕ → List Value → List PieceRecord → Record → Bool
is_left view version table key news r = option_map_or (λ x. is_in version table key x && is_clear news x) (view r) false

-- some new pieces are drawn: those of the keys before one are finished, those of this one are at hand, and of the pieces that the
-- version has of it the ids of those that they left alone are told
pub record IsAtKey (view : View) (ss : List Stored) (version table : ℕ) (key : List Value) (news : List PieceRecord) (dropped left : List ℕ) (finished hand : List PieceRecord) : Type 0 where
  pub before : List PieceRecord
  pub own : List PieceRecord
  pub gone : List ℕ
  pub going : List ℕ
  pub news_are : news ≡ before ++ own
  pub dropped_are : dropped ≡ gone ++ going
  pub settled : IsRedrawn view ss before gone finished
  pub drawn : IsRedrawn view ss own going hand
  pub left_are : left ≡ ids_with (is_left view version table key own) ss
  pub here : list_all (is_in version table key) own ≡ true
  pub below : list_all (λ (x : PieceRecord). is_lt (spot_order x.cells (spot table key))) before ≡ true

-- some new pieces are drawn; the last of them, if there is one, stands first at hand
abbrev pub IsDraft : View → List Stored → ℕ → List PieceRecord → List ℕ → List ℕ → List PieceRecord → List PieceRecord → Type 0
IsDraft view ss version news dropped left finished [] = (news ≡ []) × (dropped ≡ []) × (finished ≡ [])
IsDraft view ss version news dropped left finished (x ∷ xs) = IsAtKey view ss version x.cells.table x.cells.key news dropped left finished (x ∷ xs)

-- new pieces may come behind those that are drawn: each has a moment, and none is of a table and key above those of the next
pub record CanFollow (version : ℕ) (hand news : List PieceRecord) : Type 0 where
  pub here : list_all (is_of_version version) news ≡ true
  pub last : list_all has_moments news ≡ true
  pub sorted : are_ascending (hand_cells hand ++ piece_cells news) ≡ true
