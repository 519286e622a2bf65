-- What a version holds above its base, as a list.
use Rattle.std.specs.Prelude.{ℕ, Bool, ◌&&◌, ◌||◌, nat_le, List, [], ◌∷◌, ◌++◌, map, Option, None, IsTrue}
use Rattle.std.specs.Bool.{then_some}
use Rattle.std.specs.Option.{option_or}
use Rattle.std.specs.Ordering.{is_lt}
use Rattle.wm_base.specs.Period.{covers}
use Rattle.wm_base.specs.declared.instant.TheConstants.{END}
use Rattle.wm_period.specs.Pieces.{Held, held, Between}
use Rattle.wm_period.specs.declared.piece.Piece.{Piece}
use Rattle.wm_rows.specs.Rows.{Groups, row_order, is_same}
use Rattle.wm_rows.specs.declared.own.OwnPiece.{OwnPiece}
use Rattle.wm_rows.specs.declared.row_key.RowKey.{RowKey}

-- a piece with its row
abbrev pub own_piece : RowKey → Piece → OwnPiece
own_piece row piece = record { table = row.table; key = row.key; piece = piece }

-- the row of a piece
abbrev pub row_of : OwnPiece → RowKey
row_of p = record { table = p.table; key = p.key }

-- the pieces of all rows, one row after another
abbrev pub own_list : Groups → List OwnPiece
own_list [] = []
own_list (group ∷ groups) = map (own_piece group.0) group.1 ++ own_list groups

-- what a list holds of a row at a moment: what the first piece that covers it says
abbrev pub own_at : List OwnPiece → RowKey → ℕ → Option Held
own_at [] row t = None
own_at (p ∷ ps) row t = option_or (then_some (is_same (row_of p) row && covers p.piece.period t) (held p.piece)) (own_at ps row t)

-- the first is of an earlier row, or of the same one and has ended when the second begins
abbrev pub precedes : OwnPiece → OwnPiece → Bool
precedes p q = is_lt (row_order (row_of p) (row_of q)) || (is_same (row_of p) (row_of q) && nat_le p.piece.period.till q.piece.period.from)

-- a piece precedes the first of a list
abbrev pub GoesBefore : OwnPiece → List OwnPiece → Type 0
GoesBefore p [] = Unit {0}
GoesBefore p (q ∷ qs) = IsTrue (precedes p q)

-- the pieces stand by table, key and beginning, and those of one row do not overlap
abbrev pub IsInOrder : List OwnPiece → Type 0
IsInOrder [] = Unit {0}
IsInOrder (p ∷ ps) = GoesBefore p ps × IsInOrder ps

-- the pieces of each row lie one after another
abbrev pub AllInOrder : Groups → Type 0
AllInOrder [] = Unit {0}
AllInOrder (group ∷ groups) = Between 0 group.1 END × AllInOrder groups
