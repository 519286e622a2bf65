-- The records that go with an edit.
use Rattle.std.specs.Prelude.{ℕ, Bool, false, not, List, [], ◌∷◌, Option, Some}
use Rattle.std.specs.Option.{option_map_or}
use Rattle.wm_spec.specs.Records.{record_at}
use Rattle.wm_spec.specs.declared.record.Record.{Record}
use Rattle.wm_spec.specs.declared.record.Record.TheVariants as records
use Rattle.wm_spec.specs.declared.record.savepoint.Savepoint.{Savepoint}
use Rattle.wm_spec.specs.declared.record.stored.Stored.{Stored}
use Rattle.wm_index.specs.Sought.{PiecesIn, ids_with, is_sought}
use Rattle.wm_undone.specs.Restoring.{keeps_back}

-- the record goes where its workspace goes back to a savepoint
abbrev pub goes_back : Savepoint → Option Record → Bool
goes_back x found = option_map_or (λ r. not (keeps_back x r)) found false

-- the ids of the pieces that stand in a record, where it is a version
abbrev pub pieces_under : List Stored → Option Record → List ℕ
pieces_under ss (Some (records.Version v)) = ids_with (is_sought (PiecesIn v.number)) ss
pieces_under ss _ = []

-- an id, and those of the pieces that stand in its record
abbrev pub with_pieces : List Stored → ℕ → List ℕ
with_pieces ss id = id ∷ pieces_under ss (record_at ss id)
