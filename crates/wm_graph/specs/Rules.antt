-- The rules over all records. A store whose records break one is damaged, though each record is in order by itself.
use Rattle.std.specs.Prelude.{ℕ, ◌+◌, ◌^◌, Bool, true, false, not, ◌&&◌, ◌||◌, ◌==◌, nat_lt, nat_le, if◌then◌else◌, List, [], ◌∷◌, length, slice_get, Option, Some, None, is_some, codes}
use Rattle.std.specs.List.{filter, list_any, list_all, sum_by, count_by}
use Rattle.std.specs.Option.{option_and_then, option_map, option_map_or}
use Rattle.std.specs.Ordering.{is_eq}
use Rattle.std.specs.Str.{bytes_eq}
use Rattle.wm_base.specs.Key.{key_order}
use Rattle.wm_base.specs.Value.{type_place, weight_of}
use Rattle.wm_base.specs.declared.instant.TheConstants.{END}
use Rattle.wm_base.specs.declared.kind.Kind.TheVariants.{Insert}
use Rattle.wm_base.specs.declared.value.Value.{Value}
use Rattle.wm_base.specs.declared.value.Value.TheVariants as values
use Rattle.wm_spec.specs.declared.record.counters.Counters.{Counters}
use Rattle.wm_spec.specs.declared.record.table.Table.{Table}
use Rattle.wm_spec.specs.declared.record.column.TableColumn.{TableColumn}
use Rattle.wm_spec.specs.declared.record.column.ColumnKind.{ColumnKind}
use Rattle.wm_spec.specs.declared.record.column.ColumnKind.TheVariants as kinds
use Rattle.wm_spec.specs.declared.record.space.Space.{Space}
use Rattle.wm_spec.specs.declared.record.version.Version.{Version}
use Rattle.wm_spec.specs.declared.record.savepoint.Savepoint.{Savepoint}
use Rattle.wm_spec.specs.declared.record.row.RowRecord.{RowRecord}
use Rattle.wm_spec.specs.declared.record.cell_range.CellRange.{CellRange}
use Rattle.wm_spec.specs.declared.record.piece.PieceRecord.{PieceRecord}
use Rattle.wm_spec.specs.declared.record.hist.Hist.{Hist}
use Rattle.wm_spec.specs.declared.record.lock.Lock.{Lock}
use Rattle.wm_spec.specs.declared.record.trace.Trace.{Trace}
use Rattle.wm_spec.specs.declared.record.turn.Turn.{Turn}
use Rattle.wm_graph.specs.Parts.{Parts, table_of, space_of, version_of, row_of, has_version}

-- no two of the list are the same
abbrev pub differ : {A : Type 0} → (A → A → Bool) → List A → Bool
differ same [] = true
differ same (x ∷ xs) = not (list_any (same x) xs) && differ same xs

-- a name, a user or a writer
abbrev pub is_short : List ℕ → Bool
is_short name = nat_le (length name) 30

-- ---- counters

-- a store takes 1 to 1,048,576 changes and has given no more stamps than that; each line that adds a version has added
-- to the work
abbrev pub are_counters : Counters → Bool
are_counters c =
    (nat_le 1 c.limit && nat_le c.limit 1048576)
    && (nat_le 1 c.next_stamp && nat_le c.next_stamp (c.limit + 1))
    && (nat_lt c.last_moment END && (nat_le c.work (2 ^ 62) && nat_le c.next_version (c.work + 2)))

-- ---- tables

-- two columns of one name
abbrev pub same_column : TableColumn → TableColumn → Bool
same_column c d = bytes_eq c.name d.name

-- the table has a key
abbrev pub has_key : Table → Bool
has_key t = nat_lt 0 (length t.key_columns)

-- the key is of one column at most, which is there
abbrev pub are_key_columns : Table → Bool
are_key_columns t = nat_le (length t.key_columns) 1 && list_all (λ place. nat_lt place (length t.columns)) t.key_columns

-- 1 to 32 columns of different names; the key is among them, and a table in workspaces has one
abbrev pub is_table : Table → Bool
is_table t =
    (nat_le 1 (length t.columns) && nat_le (length t.columns) 32)
    && (differ same_column t.columns && (is_short t.name && list_all (λ (c : TableColumn). is_short c.name) t.columns))
    && (are_key_columns t && (if t.versioned then has_key t else true))

-- at most 256, whose numbers and names differ
abbrev pub are_tables : List Table → Bool
are_tables tables =
    nat_le (length tables) 256
    && (differ (λ (t u : Table). t.number == u.number) tables && (differ (λ (t u : Table). bytes_eq t.name u.name) tables && list_all is_table tables))

-- ---- workspaces

-- the name of the workspace in which all others stand
abbrev pub live : List ℕ
live = codes "LIVE"

-- LIVE has the number 0; every other workspace has a parent of a smaller number
abbrev pub is_placed : (ℕ → Option Space) → Space → Bool
is_placed spaces s = if s.number == 0 then bytes_eq s.name live else nat_lt s.parent s.number && is_some (spaces s.parent)

-- a workspace among the others: its names are short, and it has counted no more than it may
abbrev pub is_space : (ℕ → Option Space) → Space → Bool
is_space spaces s =
    is_placed spaces s
    && (is_short s.name && is_short s.writer)
    && (nat_le 1 s.next_place && (nat_le 1 s.next_implicit && nat_le s.log_length (2 ^ 62)))

-- at most 1,024, whose numbers and names differ, LIVE among them
abbrev pub are_spaces : List Space → Bool
are_spaces spaces =
    (nat_le (length spaces) 1024 && is_some (space_of spaces 0))
    && (differ (λ (s t : Space). s.number == t.number) spaces && (differ (λ (s t : Space). bytes_eq s.name t.name) spaces && list_all (is_space (space_of spaces)) spaces))

-- ---- versions

-- the version is there, and is one of the workspace
abbrev pub is_version_of : (ℕ → Option Version) → ℕ → ℕ → Bool
is_version_of versions number space = option_map_or (λ (v : Version). v.space == space) (versions number) false

-- the parent of a version is there, is older, and is a version of its workspace or of that one's parent
abbrev pub stands_under : (ℕ → Option Version) → Version → Space → Bool
stands_under versions v s =
    nat_lt v.parent v.number
    && (is_version_of versions v.parent v.space || is_version_of versions v.parent s.parent)

-- a version of a workspace that is there: version 1, which stands alone under none, or one under its parent
abbrev pub is_version : (ℕ → Option Space) → (ℕ → Option Version) → ℕ → Version → Bool
is_version spaces versions next v =
    nat_lt v.number next
    && option_map_or (λ (s : Space). if v.parent == 0 then v.number == 1 else stands_under versions v s) (spaces v.space) false

-- each workspace has a version; what it was born from and what it sees under its own are versions of its parent, but for
-- LIVE, which was born from version 1 and sees nothing under its own
abbrev pub has_versions : (ℕ → Bool) → (ℕ → Option Version) → Space → Bool
has_versions has versions s =
    has s.number
    && (if s.number == 0 then (s.birth_version == 1) && (s.base_version == 0)
    else is_version_of versions s.birth_version s.parent && is_version_of versions s.base_version s.parent)

-- versions of different numbers, each in order, and each workspace has its own
abbrev pub are_versions : Parts → ℕ → Bool
are_versions p next =
    differ (λ (v w : Version). v.number == w.number) p.versions
    && (list_all (is_version (space_of p.spaces) (version_of p.versions) next) p.versions
    && list_all (has_versions (has_version p.versions) (version_of p.versions)) p.spaces)

-- ---- savepoints

-- what a workspace sees under its own: a version of its parent, and nothing in LIVE
abbrev pub is_base_of : (ℕ → Option Version) → ℕ → Space → Bool
is_base_of versions base s = if s.number == 0 then base == 0 else is_version_of versions base s.parent

-- a savepoint in its workspace: it keeps a version of it, at a place that was given, with no more of the log than there is
abbrev pub is_saved_in : (ℕ → Option Version) → Savepoint → Space → Bool
is_saved_in versions x s =
    (is_version_of versions x.version s.number && is_base_of versions x.base_version s)
    && (nat_lt x.place s.next_place && nat_le x.log_length s.log_length)

-- a savepoint of a workspace that is there, with a short name; each line that makes one has added to the work
abbrev pub is_savepoint : (ℕ → Option Space) → (ℕ → Option Version) → ℕ → Savepoint → Bool
is_savepoint spaces versions work x =
    (is_short x.name && nat_le x.making (work + 2))
    && option_map_or (is_saved_in versions x) (spaces x.space) false

-- two savepoints of one name in one workspace
abbrev pub same_savepoint : Savepoint → Savepoint → Bool
same_savepoint x y = (x.space == y.space) && bytes_eq x.name y.name

-- a workspace has at most 4,096 savepoints
abbrev pub has_few : List Savepoint → Space → Bool
has_few savepoints s = nat_le (count_by (λ (x : Savepoint). x.space == s.number) savepoints) 4096

-- savepoints of different makings, and of different names in one workspace, each in order
abbrev pub are_savepoints : Parts → ℕ → Bool
are_savepoints p work =
    differ (λ (x y : Savepoint). x.making == y.making) p.savepoints
    && (differ same_savepoint p.savepoints
    && (list_all (has_few p.savepoints) p.spaces && list_all (is_savepoint (space_of p.spaces) (version_of p.versions) work) p.savepoints))

-- ---- rows

-- the type of a column's values, as values have it
abbrev pub type_of : ColumnKind → ℕ
type_of kinds.Number = 1
type_of kinds.Text = 2
type_of kinds.Time = 3

-- NULL, or a value of the column's type; a text has at most as many bytes as the column says
abbrev pub fits_column : TableColumn → Value → Bool
fits_column c values.Null = true
fits_column c (values.Text t) = (type_of c.kind == 2) && nat_le (length t) c.size
fits_column c v = type_place v == type_of c.kind

-- a value for each column
abbrev pub fit_columns : List TableColumn → List Value → Bool
fit_columns [] [] = true
fit_columns (c ∷ cs) (v ∷ vs) = fits_column c v && fit_columns cs vs
fit_columns _ _ = false

-- what values weigh together
abbrev pub weight : List Value → ℕ
weight = sum_by weight_of

-- the values of a row at these places, where it has them all
abbrev pub values_at : List ℕ → List Value → Option (List Value)
values_at [] row = Some []
values_at (place ∷ places) row = option_and_then (λ v. option_map (λ vs. v ∷ vs) (values_at places row)) (slice_get row place)

-- the key of a row: its values in the key columns, where the table has a key
abbrev pub key_of : Table → List Value → Option (List Value)
key_of t row = if has_key t then values_at t.key_columns row else None

-- a key weighs at most 200, where there is one
abbrev pub is_light_key : Option (List Value) → Bool
is_light_key None = true
is_light_key (Some key) = nat_le (weight key) 200

-- the values of a row of the table: one for each column, no more than 2,000 together, and a key of at most 200
abbrev pub is_row_of : List Value → Table → Bool
is_row_of row t = fit_columns t.columns row && (nat_le (weight row) 2000 && is_light_key (key_of t row))

-- a row of a table that is there, with a stamp that was given
abbrev pub is_row : (ℕ → Option Table) → ℕ → RowRecord → Bool
is_row tables next r = nat_lt r.stamp next && option_map_or (is_row_of r.values) (tables r.table) false

-- rows of different stamps, each in order
abbrev pub are_rows : Parts → ℕ → Bool
are_rows p next = differ (λ (r q : RowRecord). r.stamp == q.stamp) p.rows && list_all (is_row (table_of p.tables) next) p.rows

-- ---- cells and pieces

-- a value, which is not NULL, of the type of the column at this place
abbrev pub is_typed : List TableColumn → ℕ → Value → Bool
is_typed columns place v = option_map_or (λ (c : TableColumn). type_place v == type_of c.kind) (slice_get columns place) false

-- such a value for each of these places
abbrev pub are_typed : List TableColumn → List ℕ → List Value → Bool
are_typed columns [] [] = true
are_typed columns (place ∷ places) (v ∷ vs) = is_typed columns place v && are_typed columns places vs
are_typed columns _ _ = false

-- a key of the table, which has one: a value for each key column, and of a weight of at most 200
abbrev pub is_key_of : List Value → Table → Bool
is_key_of key t = nat_le (weight key) 200 && (has_key t && are_typed t.columns t.key_columns key)

-- cells of a table that is there, over a period
abbrev pub are_cells : (ℕ → Option Table) → CellRange → Bool
are_cells tables c = (nat_lt c.from c.till && nat_le c.till END) && option_map_or (is_key_of c.key) (tables c.table) false

-- the key of a row is this one
abbrev pub is_key : List Value → Option (List Value) → Bool
is_key key None = false
is_key key (Some k) = is_eq (key_order k key)

-- a row of the table of these cells that has their key
abbrev pub is_row_at : (ℕ → Option Table) → CellRange → RowRecord → Bool
is_row_at tables c r = (r.table == c.table) && is_key c.key (option_and_then (λ t. key_of t r.values) (tables c.table))

-- a piece of a version that is there, on cells of a table, with a stamp that was given; where it is not gone its row is there
abbrev pub is_piece : (ℕ → Option Table) → (ℕ → Option Version) → (ℕ → Option RowRecord) → ℕ → PieceRecord → Bool
is_piece tables versions rows next x =
    is_some (versions x.version)
    && (are_cells tables x.cells
    && (nat_lt x.stamp next && (x.gone || option_map_or (is_row_at tables x.cells) (rows x.stamp) false)))

-- two pieces of one version, table and key whose periods overlap
abbrev pub collide : PieceRecord → PieceRecord → Bool
collide x y =
    ((x.version == y.version) && ((x.cells.table == y.cells.table) && is_eq (key_order x.cells.key y.cells.key)))
    && (nat_lt x.cells.from y.cells.till && nat_lt y.cells.from x.cells.till)

-- pieces of which no two collide, each in order
abbrev pub are_pieces : Parts → ℕ → Bool
are_pieces p next = differ collide p.pieces && list_all (is_piece (table_of p.tables) (version_of p.versions) (row_of p.rows) next) p.pieces

-- ---- logs

-- an entry of the log of a workspace that is there, at a position that the log has; a short user, cells of a table and a stamp
-- that was given; where it is not gone its row is there
abbrev pub is_hist : (ℕ → Option Table) → (ℕ → Option Space) → (ℕ → Option RowRecord) → ℕ → Hist → Bool
is_hist tables spaces rows next x =
    (is_short x.user && option_map_or (λ (s : Space). nat_lt x.position s.log_length) (spaces x.space) false)
    && (are_cells tables x.cells
    && (nat_lt x.stamp next && (x.gone || option_map_or (is_row_at tables x.cells) (rows x.stamp) false)))

-- two entries of one log at one position
abbrev pub same_position : Hist → Hist → Bool
same_position x y = (x.space == y.space) && (x.position == y.position)

-- entries of different positions, each in order
abbrev pub are_hists : Parts → ℕ → Bool
are_hists p next = differ same_position p.hists && list_all (is_hist (table_of p.tables) (space_of p.spaces) (row_of p.rows) next) p.hists

-- ---- touched and settled cells

-- a touch as a piece: its place is the version, its position the stamp
abbrev pub as_drawn : Trace → PieceRecord
as_drawn x = record { version = x.place; cells = x.cells; stamp = x.position; kind = Insert; gone = false }

-- two of one workspace, place, table and key whose periods overlap
abbrev pub meet : Trace → Trace → Bool
meet x y = (x.space == y.space) && collide (as_drawn x) (as_drawn y)

-- a place was given in a workspace that is there, or is that before the first
abbrev pub is_given : (ℕ → Option Space) → ℕ → ℕ → Bool
is_given spaces space place = option_map_or (λ (s : Space). nat_lt place s.next_place) (spaces space) false

-- cells of a table that is there, at a place that was given
abbrev pub is_trace : (ℕ → Option Table) → (ℕ → Option Space) → Trace → Bool
is_trace tables spaces x = are_cells tables x.cells && is_given spaces x.space x.place

-- and at a position that the log of the workspace has
abbrev pub is_touch : (ℕ → Option Table) → (ℕ → Option Space) → Trace → Bool
is_touch tables spaces x = is_trace tables spaces x && option_map_or (λ (s : Space). nat_lt x.position s.log_length) (spaces x.space) false

-- touches of which no two meet, each in order
abbrev pub are_touches : Parts → Bool
are_touches p = differ meet p.touches && list_all (is_touch (table_of p.tables) (space_of p.spaces)) p.touches

-- marks of which no two meet, each in order
abbrev pub are_marks : Parts → Bool
are_marks p = differ meet p.marks && list_all (is_trace (table_of p.tables) (space_of p.spaces)) p.marks

-- ---- locks

-- a short user, cells of a table that is there, and a place that was given; each line that makes one has added to the work
abbrev pub is_lock : (ℕ → Option Table) → (ℕ → Option Space) → ℕ → Lock → Bool
is_lock tables spaces work x =
    (is_short x.user && nat_le x.making (work + 2))
    && (are_cells tables x.cells && is_given spaces x.space x.place)

-- locks of different makings, each in order
abbrev pub are_locks : Parts → ℕ → Bool
are_locks p work = differ (λ (x y : Lock). x.making == y.making) p.locks && list_all (is_lock (table_of p.tables) (space_of p.spaces) work) p.locks

-- ---- turns

-- a turn of a workspace other than LIVE, of a number up to that of its rebases
abbrev pub is_asked : (ℕ → Option Space) → Turn → Bool
is_asked spaces x = not (x.space == 0) && option_map_or (λ (s : Space). nat_le x.rebase s.rebases) (spaces x.space) false

abbrev pub asked_turns : Parts → List Turn
asked_turns p = filter (is_asked (space_of p.spaces)) p.turns

-- two turns of one workspace and one number
abbrev pub same_turn : Turn → Turn → Bool
same_turn x y = (x.space == y.space) && (x.rebase == y.rebase)

-- a workspace other than LIVE has as many as rebases, and one more
abbrev pub has_turns : List Turn → Space → Bool
has_turns turns s = (s.number == 0) || (count_by (λ (x : Turn). x.space == s.number) turns == s.rebases + 1)

-- turns of workspaces that are there; those that are asked for differ, and there are as many of them as numbers: one for each
abbrev pub are_turns : Parts → Bool
are_turns p =
    list_all (λ (x : Turn). is_some (space_of p.spaces x.space)) p.turns
    && (differ same_turn (asked_turns p) && list_all (has_turns (asked_turns p)) p.spaces)

-- ---- all of them

-- what the rules ask of all records but the counters, of which there is one
abbrev pub keep_rules_with : Parts → List Counters → Bool
keep_rules_with p (c ∷ []) =
    are_counters c
    && (are_tables p.tables
    && (are_spaces p.spaces
    && (are_versions p c.next_version
    && (are_savepoints p c.work
    && (are_rows p c.next_stamp
    && (are_pieces p c.next_stamp
    && (are_hists p c.next_stamp && (are_touches p && (are_locks p c.work && (are_marks p && are_turns p))))))))))
keep_rules_with p _ = false

-- the records keep every rule
unfoldable pub keep_rules : Parts → Bool
keep_rules p = keep_rules_with p p.counters
