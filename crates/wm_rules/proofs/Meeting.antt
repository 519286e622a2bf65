-- Pieces collide, and touches meet, where they overlap though their order says that they may not.
use Rattle.std.proofs.Common.{◌≡◌, ℕ, ◌==◌, Bool, true, false, ◌&&◌, nat_lt, List, refl, ap, ◌∙◌, arith, sym}
use Rattle.std.proofs.lemmas.Bool.Decides.{nat_tests}
use Rattle.std.specs.Cmp.{tied_then}
use Rattle.std.specs.Ordering.{nat_cmp, on, then_cmp, is_eq, ordering_then}
use Rattle.std.specs.declared.cmp.Ordering.{Ordering}
use Rattle.wm_base.specs.Key.{key_order}
use Rattle.wm_cells.specs.Order.{cells_order, overlap}
use Rattle.wm_graph.specs.Rules.{differ, collide, meet}
use Rattle.wm_spec.specs.declared.record.cell_range.CellRange.{CellRange}
use Rattle.wm_spec.specs.declared.record.piece.PieceRecord.{PieceRecord}
use Rattle.wm_spec.specs.declared.record.trace.Trace.{Trace}

-- by version, table and key
abbrev pub piece_order : PieceRecord → PieceRecord → Ordering
piece_order = then_cmp (on (λ (x : PieceRecord). x.version) nat_cmp) (on (λ (x : PieceRecord). x.cells) cells_order)

-- by workspace, place, table and key
abbrev pub trace_order : Trace → Trace → Ordering
trace_order = then_cmp (on (λ (x : Trace). x.space) nat_cmp) (then_cmp (on (λ (x : Trace). x.place) nat_cmp) (on (λ (x : Trace). x.cells) cells_order))

same_nat : (m n : ℕ) → is_eq (nat_cmp m n) ≡ (m == n)
same_nat m n = grind (arith, nat_tests)

-- a number and what follows it
number_first : (m n : ℕ) (o : Ordering) (b : Bool) → is_eq o ≡ b → is_eq (ordering_then (nat_cmp m n) o) ≡ ((m == n) && b)
number_first m n o b e = sym (tied_then (nat_cmp m n) o) ∙ rw (same_nat m n, e) refl

same_cells : (c d : CellRange) → is_eq (cells_order c d) ≡ ((c.table == d.table) && is_eq (key_order c.key d.key))
same_cells c d = number_first c.table d.table (key_order c.key d.key) (is_eq (key_order c.key d.key)) refl

pieces_collide : (x y : PieceRecord) → overlap piece_order (λ (z : PieceRecord). z.cells) x y ≡ collide x y
pieces_collide x y =
    ap (λ b. b && (nat_lt x.cells.from y.cells.till && nat_lt y.cells.from x.cells.till)) (number_first x.version y.version (cells_order x.cells y.cells) _ (same_cells x.cells y.cells))

traces_meet : (x y : Trace) → overlap trace_order (λ (z : Trace). z.cells) x y ≡ meet x y
traces_meet x y =
    ap (λ b. b && (nat_lt x.cells.from y.cells.till && nat_lt y.cells.from x.cells.till))
    (number_first x.space y.space _ _ (number_first x.place y.place (cells_order x.cells y.cells) _ (same_cells x.cells y.cells)))
    ∙ regroup (x.space == y.space) _ _
  where
    regroup : (a b d : Bool) → ((a && b) && d) ≡ (a && (b && d))
    regroup true b d = refl
    regroup false b d = refl

pub collisions_told : (xs : List PieceRecord) → differ (overlap piece_order (λ (z : PieceRecord). z.cells)) xs ≡ differ collide xs
collisions_told xs = ap (λ (same : PieceRecord → PieceRecord → Bool). differ same xs) (λ i x y. pieces_collide x y i)

pub meetings_told : (xs : List Trace) → differ (overlap trace_order (λ (z : Trace). z.cells)) xs ≡ differ meet xs
meetings_told xs = ap (λ (same : Trace → Trace → Bool). differ same xs) (λ i x y. traces_meet x y i)
