-- Keys of tables, as a set has them.
use Rattle.std.specs.Prelude.{ℕ, Bool, List}
use Rattle.std.specs.List.{list_any}
use Rattle.std.specs.Ordering.{is_eq, nat_cmp, ordering_then}
use Rattle.std.specs.declared.cmp.Ordering.{Ordering}
use Rattle.wm_base.specs.Key.{key_order}
use Rattle.wm_base.specs.declared.value.Value.{Value}
use Rattle.wm_spec.specs.declared.record.piece.PieceRecord.{PieceRecord}

-- a table and a key
abbrev pub Place : Type 0
Place = ℕ × List Value

-- by table and key
abbrev pub place_order : Place → Place → Ordering
place_order a b = ordering_then (nat_cmp a.0 b.0) (key_order a.1 b.1)

-- the piece is of the table and the key
abbrev pub is_piece_of : Place → PieceRecord → Bool
is_piece_of q x = is_eq (place_order (x.cells.table, x.cells.key) q)

-- so is one of them
abbrev pub has_piece_of : Place → List PieceRecord → Bool
has_piece_of q xs = list_any (is_piece_of q) xs
