-- What a function that reads returned, against what is to be read.
use Rattle.std.specs.Prelude.{◌≡◌, ℕ, ◌==◌, if◌then◌else◌, List, length, Option, Some, None, Result, Ok, Err}
use Rattle.std.specs.Option.{option_and_then}
use Rattle.wm_spec.specs.declared.record.Record.{Record}
use Rattle.wm_spec.specs.declared.record.Record.TheVariants as records
use Rattle.wm_codec.specs.Format.{Format, byte_at}
use Rattle.wm_codec.specs.Spelling.{counters, table, space, version, savepoint, row, piece, trace, lock, hist, turn}
use Rattle.wm_codec.specs.declared.fault.ReadFault.{ReadFault}
use Rattle.wm_codec.specs.declared.fault.ReadFault.TheVariants as faults

-- a fault comes where nothing is read, or where memory ran out
abbrev pub Fails : {Y : Type 0} → ReadFault → Option Y → Type 0
Fails faults.Memory read = Unit {0}
Fails faults.NoRecord read = read ≡ None

-- what was returned, seen by view, is what is read, unless memory ran out
abbrev pub Gives : {X Y : Type 0} → (X → Y) → Result X ReadFault → Option Y → Type 0
Gives view (Ok x) read = read ≡ Some (view x)
Gives view (Err e) read = Fails e read

-- all of the bytes
abbrev pub whole : {A : Type 0} → Format A → (A → Record) → List ℕ → Option Record
whole format make bytes = option_and_then (λ x. if length x.1 == 0 then Some (make x.0) else None) (format.read bytes)

-- the record of the kind that the bytes spell
unfoldable pub record_of_kind : ℕ → List ℕ → Option Record
record_of_kind tag bytes =
    if tag == 1 then whole counters records.Counters bytes
    else (if tag == 2 then whole table records.Table bytes
    else (if tag == 3 then whole space records.Space bytes
    else (if tag == 4 then whole version records.Version bytes
    else (if tag == 5 then whole savepoint records.Savepoint bytes
    else (if tag == 6 then whole row records.Row bytes
    else (if tag == 7 then whole piece records.Piece bytes
    else (if tag == 8 then whole trace records.Touch bytes
    else (if tag == 9 then whole lock records.Lock bytes
    else (if tag == 10 then whole hist records.Hist bytes
    else (if tag == 11 then whole trace records.Mark bytes
    else (if tag == 12 then whole turn records.Turn bytes
    else None)))))))))))

-- the record that the bytes spell
unfoldable pub record_of : List ℕ → Option Record
record_of bytes = option_and_then (λ tag. record_of_kind tag.0 tag.1) (byte_at bytes)
