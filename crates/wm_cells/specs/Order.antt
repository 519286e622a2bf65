-- Orders in which those stand side by side that may clash; those that overlap; and neighbours.
use Rattle.std.specs.Prelude.{Bool, true, not, ◌&&◌, nat_lt, List, [], ◌∷◌}
use Rattle.std.specs.Ordering.{nat_cmp, on, then_cmp, is_eq}
use Rattle.std.specs.declared.cmp.Ordering.{Ordering}
use Rattle.wm_base.specs.Key.{key_order}
use Rattle.wm_spec.specs.declared.record.cell_range.CellRange.{CellRange}

-- by table and key
abbrev pub cells_order : CellRange → CellRange → Ordering
cells_order = then_cmp (on (λ (c : CellRange). c.table) nat_cmp) (on (λ (c : CellRange). c.key) key_order)

-- by an order, and then by the beginning of the cells
abbrev pub beginning_order : {A : Type 0} → (A → A → Ordering) → (A → CellRange) → A → A → Ordering
beginning_order order cells = then_cmp order (on (λ x. (cells x).from) nat_cmp)

-- two that an order finds equal, and whose cells overlap
abbrev pub overlap : {A : Type 0} → (A → A → Ordering) → (A → CellRange) → A → A → Bool
overlap order cells x y = is_eq (order x y) && (nat_lt (cells x).from (cells y).till && nat_lt (cells y).from (cells x).till)

-- an order finds the two equal
abbrev pub alike : {A : Type 0} → (A → A → Ordering) → A → A → Bool
alike order x y = is_eq (order x y)

-- no two neighbours are the same
abbrev pub neighbours_differ : {A : Type 0} → (A → A → Bool) → List A → Bool
neighbours_differ same [] = true
neighbours_differ same (x ∷ []) = true
neighbours_differ same (x ∷ (y ∷ ys)) = not (same x y) && neighbours_differ same (y ∷ ys)
