-- What a version itself has, told by the records of ids.
use Rattle.std.proofs.Common.{◌≡◌, ℕ, Bool, true, false, cond, ◌&&◌, ◌==◌, nat_lt, nat_le, List, [], ◌∷◌, None, refl, sym, ap, ◌∙◌, arith}
use Rattle.std.proofs.lemmas.Bool.Decides.{nat_tests}
use Rattle.std.proofs.lemmas.Bool.{and_left, or_parts}
use Rattle.std.specs.Bool.{then_some}
use Rattle.std.specs.List.{filter, filter_map}
use Rattle.std.specs.Option.{option_or}
use Rattle.std.specs.Ordering.{is_eq, nat_cmp, ordering_then}
use Rattle.std.specs.declared.cmp.Ordering.{Ordering}
use Rattle.wm_base.specs.Key.{key_order}
use Rattle.wm_graph.specs.Parts.{parts_of, as_piece}
use Rattle.wm_index.proofs.Finding.{Tests, all_of, filter-kind}
use Rattle.wm_image.proofs.Lists.{taken-with}
use Rattle.wm_image.proofs.Keyed.{stored_at-sought}
use Rattle.wm_image.specs.Shown.{first_held}
use Rattle.wm_index.specs.Kinds.{kind_at}
use Rattle.wm_index.specs.Sought.{PieceAt, PiecesIn, ids_with, is_sought}
use Rattle.wm_spec.specs.Lists.{Cell}
use Rattle.wm_spec.specs.declared.record.Record.TheVariants as records
use Rattle.wm_spec.specs.declared.record.piece.PieceRecord.{PieceRecord}
use Rattle.wm_spec.specs.declared.record.stored.Stored.{Stored}
use Rattle.wm_state.specs.ById.{Ascend}
use Rattle.wm_state.specs.Standing.{held_by, stored_at}
use Rattle.wm_pending.specs.Keys.{has_piece_of, is_piece_of}

-- ---- the pieces of a key

-- what a version has at a cell, told by the pieces of its table and key
pub stored_by_key : (ss : List Stored) (ids : List ℕ) (v : ℕ) (c : Cell) → Ascend ss → ids ≡ ids_with (is_sought (PieceAt c.table c.key v)) ss
    → first_held (kind_at as_piece ss ids) v c.time ≡ stored_at (parts_of ss).pieces v c
unfolding parts_of
stored_by_key ss ids v c up is =
    ap (λ l. first_held (kind_at as_piece ss l) v c.time) is
    ∙ ap (λ rs. first_held (filter_map as_piece rs) v c.time) (taken-with (is_sought (PieceAt c.table c.key v)) ss up)
    ∙ sym (stored_at-sought c v (all_of ss))

-- ---- the pieces of a version

pieces_test : (v : ℕ) → Tests as_piece (λ (x : PieceRecord). x.version == v) (is_sought (PiecesIn v))
pieces_test v (records.Piece x) = refl
pieces_test v _ = refl

-- two orders tie where both do
pub tied : (m n : ℕ) (o : Ordering) → is_eq (ordering_then (nat_cmp m n) o) ≡ ((m == n) && is_eq o)
tied m n o = grind (arith, nat_tests)

keyless : (xs : List PieceRecord) (v : ℕ) (c : Cell) → has_piece_of (c.table, c.key) (filter (λ (x : PieceRecord). x.version == v) xs) ≡ false → stored_at xs v c ≡ None
keyless [] v c none = refl
keyless (x ∷ xs) v c none = by_version (x.version == v) none (keyless xs v c)
  where
    by_version : (b : Bool) → has_piece_of (c.table, c.key) (cond b (x ∷ filter (λ (x : PieceRecord). x.version == v) xs) (filter (λ (x : PieceRecord). x.version == v) xs)) ≡ false
        → (has_piece_of (c.table, c.key) (filter (λ (x : PieceRecord). x.version == v) xs) ≡ false → stored_at xs v c ≡ None)
        → option_or (then_some (b && (((x.cells.table == c.table) && is_eq (key_order x.cells.key c.key)) && (nat_le x.cells.from c.time && nat_lt c.time x.cells.till))) (held_by x)) (stored_at xs v c) ≡ None
    by_version false e rest = rest e
    by_version true e rest =
        let two = or_parts (is_piece_of (c.table, c.key) x) (has_piece_of (c.table, c.key) (filter (λ (x : PieceRecord). x.version == v) xs)) e in
        ap (λ b. option_or (then_some b (held_by x)) (stored_at xs v c))
        (and_left ((x.cells.table == c.table) && is_eq (key_order x.cells.key c.key)) (nat_le x.cells.from c.time && nat_lt c.time x.cells.till)
        (sym (tied x.cells.table c.table (key_order x.cells.key c.key)) ∙ two.0))
        ∙ rest two.1

-- a version has nothing at the cells of a key of which it has no piece
pub stored_nowhere : (ss : List Stored) (ids : List ℕ) (v : ℕ) (c : Cell) → Ascend ss → ids ≡ ids_with (is_sought (PiecesIn v)) ss → has_piece_of (c.table, c.key) (kind_at as_piece ss ids) ≡ false
    → stored_at (parts_of ss).pieces v c ≡ None
unfolding parts_of
stored_nowhere ss ids v c up is none =
    keyless (filter_map as_piece (all_of ss)) v c
    (sym (ap (has_piece_of (c.table, c.key)) (
    ap (kind_at as_piece ss) is
    ∙ ap (filter_map as_piece) (taken-with (is_sought (PiecesIn v)) ss up)
    ∙ filter-kind as_piece (λ (x : PieceRecord). x.version == v) (is_sought (PiecesIn v)) (pieces_test v) (all_of ss)))
    ∙ none)
