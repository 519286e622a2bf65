-- Records as the pieces that they are drawn as, and the ids of those of a key.
use Rattle.std.specs.Prelude.{ℕ, ◌≡◌, Bool, true, false, not, ◌&&◌, ◌==◌, List, map, Option, Some}
use Rattle.std.specs.List.{filter_map}
use Rattle.std.specs.Option.{option_and_then, option_map_or}
use Rattle.std.specs.Ordering.{is_eq}
use Rattle.wm_base.specs.Key.{key_order}
use Rattle.wm_base.specs.declared.value.Value.{Value}
use Rattle.wm_spec.specs.declared.record.Record.{Record}
use Rattle.wm_spec.specs.declared.record.piece.PieceRecord.{PieceRecord}
use Rattle.wm_spec.specs.declared.record.stored.Stored.{Stored}
use Rattle.wm_state.specs.Batches.{is_out}
use Rattle.wm_index.specs.Sought.{Sought, ids_with, is_sought}

-- records as pieces, those of a kind
abbrev pub View : Type 0
View = Record → Option PieceRecord

-- the pieces that records are drawn as
abbrev pub drawn_in : View → List Stored → List PieceRecord
drawn_in view ss = filter_map view (map (λ (s : Stored). s.record) ss)

-- the record is drawn as a piece of a version
abbrev pub has_version : View → ℕ → Option Record → Bool
has_version view version found = option_map_or (λ (x : PieceRecord). x.version == version) (option_and_then view found) false

-- a record is kept but for those that are drawn as pieces that a test lets go
abbrev pub keeps_in : View → (PieceRecord → Bool) → Record → Bool
keeps_in view test r = option_map_or test (view r) true

-- the ids of those that are drawn as pieces of a version, a table and a key
abbrev pub ids_of_key : View → List Stored → ℕ → ℕ → List Value → List ℕ
ids_of_key view ss version table key = ids_with (λ r. not (keeps_in view (is_out version table key) r)) ss

-- records that are drawn as pieces of a version are found by their table and key
abbrev pub IsPlaced : View → Sought → ℕ → ℕ → List Value → Type 0
IsPlaced view q version table key =
    (r : Record) (x : PieceRecord) → view r ≡ Some x → (is_sought q r && (x.version == version)) ≡ ((x.version == version) && ((x.cells.table == table) && is_eq (key_order x.cells.key key)))
