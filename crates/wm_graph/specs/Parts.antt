-- The records of a store, a list for each kind, in the order in which they stand; and what is looked up in them.
use Rattle.std.specs.Prelude.{ℕ, Bool, ◌==◌, List, map, Option, Some, None}
use Rattle.std.specs.List.{filter_map, find, list_any}
use Rattle.wm_spec.specs.declared.record.Record.{Record}
use Rattle.wm_spec.specs.declared.record.Record.TheVariants as records
use Rattle.wm_spec.specs.declared.record.counters.Counters.{Counters}
use Rattle.wm_spec.specs.declared.record.table.Table.{Table}
use Rattle.wm_spec.specs.declared.record.space.Space.{Space}
use Rattle.wm_spec.specs.declared.record.version.Version.{Version}
use Rattle.wm_spec.specs.declared.record.row.RowRecord.{RowRecord}
use Rattle.wm_spec.specs.declared.record.piece.PieceRecord.{PieceRecord}
use Rattle.wm_spec.specs.declared.record.savepoint.Savepoint.{Savepoint}
use Rattle.wm_spec.specs.declared.record.hist.Hist.{Hist}
use Rattle.wm_spec.specs.declared.record.lock.Lock.{Lock}
use Rattle.wm_spec.specs.declared.record.trace.Trace.{Trace}
use Rattle.wm_spec.specs.declared.record.turn.Turn.{Turn}
use Rattle.wm_spec.specs.declared.record.stored.Stored.{Stored}

pub record Parts : Type 0 where
  pub counters : List Counters
  pub tables : List Table
  pub spaces : List Space
  pub versions : List Version
  pub savepoints : List Savepoint
  pub rows : List RowRecord
  pub pieces : List PieceRecord
  pub touches : List Trace
  pub locks : List Lock
  pub hists : List Hist
  pub marks : List Trace
  pub turns : List Turn

abbrev pub as_counters : Record → Option Counters
as_counters (records.Counters r) = Some r
as_counters _ = None

abbrev pub as_table : Record → Option Table
as_table (records.Table r) = Some r
as_table _ = None

abbrev pub as_space : Record → Option Space
as_space (records.Space r) = Some r
as_space _ = None

abbrev pub as_version : Record → Option Version
as_version (records.Version r) = Some r
as_version _ = None

abbrev pub as_savepoint : Record → Option Savepoint
as_savepoint (records.Savepoint r) = Some r
as_savepoint _ = None

abbrev pub as_row : Record → Option RowRecord
as_row (records.Row r) = Some r
as_row _ = None

abbrev pub as_piece : Record → Option PieceRecord
as_piece (records.Piece r) = Some r
as_piece _ = None

abbrev pub as_touch : Record → Option Trace
as_touch (records.Touch r) = Some r
as_touch _ = None

abbrev pub as_lock : Record → Option Lock
as_lock (records.Lock r) = Some r
as_lock _ = None

abbrev pub as_hist : Record → Option Hist
as_hist (records.Hist r) = Some r
as_hist _ = None

abbrev pub as_mark : Record → Option Trace
as_mark (records.Mark r) = Some r
as_mark _ = None

abbrev pub as_turn : Record → Option Turn
as_turn (records.Turn r) = Some r
as_turn _ = None

-- each kind of record, in the order in which the records stand
abbrev pub parts_in : List Record → Parts
parts_in all = record {
  counters = filter_map as_counters all;
  tables = filter_map as_table all;
  spaces = filter_map as_space all;
  versions = filter_map as_version all;
  savepoints = filter_map as_savepoint all;
  rows = filter_map as_row all;
  pieces = filter_map as_piece all;
  touches = filter_map as_touch all;
  locks = filter_map as_lock all;
  hists = filter_map as_hist all;
  marks = filter_map as_mark all;
  turns = filter_map as_turn all;
}

unfoldable pub parts_of : List Stored → Parts
parts_of stored = parts_in (map (λ (s : Stored). s.record) stored)

-- ---- what is looked up: the first of a number, where there is one

-- the table of a number
abbrev pub table_of : List Table → ℕ → Option Table
table_of tables number = find (λ (t : Table). t.number == number) tables

-- the workspace of a number
abbrev pub space_of : List Space → ℕ → Option Space
space_of spaces number = find (λ (s : Space). s.number == number) spaces

-- the version of a number
abbrev pub version_of : List Version → ℕ → Option Version
version_of versions number = find (λ (v : Version). v.number == number) versions

-- the row of a stamp
abbrev pub row_of : List RowRecord → ℕ → Option RowRecord
row_of rows stamp = find (λ (r : RowRecord). r.stamp == stamp) rows

-- whether a workspace has a version
abbrev pub has_version : List Version → ℕ → Bool
has_version versions space = list_any (λ (v : Version). v.space == space) versions
