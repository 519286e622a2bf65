-- What a version is given of what is held at cells: key by key, in joined pieces.
use Rattle.std.specs.Prelude.{ℕ, ◌≡◌, Bool, true, false, ◌&&◌, ◌==◌, List, [], ◌∷◌, ◌++◌, map, Option, None}
use Rattle.std.specs.List.{All, list_any}
use Rattle.std.specs.Ordering.{is_eq}
use Rattle.wm_base.specs.Key.{key_order}
use Rattle.wm_base.specs.declared.instant.TheConstants.{END}
use Rattle.wm_base.specs.declared.value.Value.{Value}
use Rattle.wm_graph.specs.Rules.{differ}
use Rattle.wm_period.specs.Pieces.{Between, Held, IsJoined, held_at}
use Rattle.wm_period.specs.declared.piece.Piece.{Piece}
use Rattle.wm_spec.specs.Lists.{Cell}
use Rattle.wm_spec.specs.declared.record.piece.PieceRecord.{PieceRecord}

-- the pieces of a key of a table
pub record KeyPieces : Type 0 where
  pub table : ℕ
  pub key : List Value
  pub pieces : List Piece

-- two of one table and key
abbrev pub same_key : KeyPieces → KeyPieces → Bool
same_key k l = (k.table == l.table) && is_eq (key_order k.key l.key)

-- the cell is of the table and the key
abbrev pub is_at : Cell → KeyPieces → Bool
is_at c k = (k.table == c.table) && is_eq (key_order k.key c.key)

-- their cell at a moment
abbrev pub key_cell : KeyPieces → ℕ → Cell
key_cell k t = record { table = k.table; key = k.key; time = t }

-- the record of a piece in a version
abbrev pub piece_for : ℕ → ℕ → List Value → Piece → PieceRecord
piece_for version table key x = record {
  version = version;
  cells = record { table = table; key = key; from = x.period.from; till = x.period.till };
  stamp = x.stamp.number;
  kind = x.kind;
  gone = x.gone;
}

-- those of all keys
abbrev pub pieces_for : ℕ → List KeyPieces → List PieceRecord
pieces_for version [] = []
pieces_for version (k ∷ ks) = map (piece_for version k.table k.key) k.pieces ++ pieces_for version ks

-- the pieces of a key lie one after another, are joined, and hold what is held at its cells
pub record HoldsKey (held : Cell → Option Held) (k : KeyPieces) : Type 0 where
  pub lie : Between 0 k.pieces END
  pub joined : IsJoined k.pieces
  pub holds : (t : ℕ) → held_at k.pieces t ≡ held (key_cell k t)

-- so it is of each key, no two are the same, and nothing is held at cells of others
pub record AreCopied (held : Cell → Option Held) (ks : List KeyPieces) : Type 0 where
  pub apart : differ same_key ks ≡ true
  pub each : All (HoldsKey held) ks
  pub elsewhere : (c : Cell) → list_any (is_at c) ks ≡ false → held c ≡ None
