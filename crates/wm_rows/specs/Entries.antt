-- The pieces of a list of entries.
use Rattle.std.specs.Prelude.{ℕ, ◌<◌, ◌≤◌, if◌then◌else◌, List, [], ◌∷◌, is_none}
use Rattle.wm_base.specs.declared.instant.TheConstants.{END}
use Rattle.wm_base.specs.declared.value.Value.{Value}
use Rattle.wm_period.specs.Pieces.{Held, put_in}
use Rattle.wm_period.specs.declared.piece.Piece.{Piece}
use Rattle.wm_spec.specs.Lists.{Entry, Told, is_of}

-- the piece of an entry, which is gone where the entry has no row
abbrev pub piece_of : Entry → Piece
piece_of e = record { period = record { from = e.from; till = e.till }; stamp = record { number = e.stamp }; kind = e.kind; gone = is_none e.row }

-- pieces of a key, with a piece for each entry of it put over them, one after another
abbrev pub with_entries : ℕ → List Value → List Piece → List Entry → List Piece
with_entries table key pieces [] = pieces
with_entries table key pieces (e ∷ es) = with_entries table key (if is_of table key e then put_in (piece_of e) pieces else pieces) es

-- the pieces of a key that a list gives
abbrev pub pieces_of : ℕ → List Value → List Entry → List Piece
pieces_of table key es = with_entries table key [] es

-- what is held where a list tells something
abbrev pub held_of : Told → Held
held_of x = record { stamp = record { number = x.stamp }; kind = x.kind; gone = is_none x.row }

-- each entry has a period of time
abbrev pub HavePeriods : List Entry → Type 0
HavePeriods [] = Unit {0}
HavePeriods (e ∷ es) = (e.from < e.till) × (e.till ≤ END) × HavePeriods es
