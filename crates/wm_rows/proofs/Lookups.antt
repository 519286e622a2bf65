-- Rows looked up.
use Rattle.std.proofs.Common.{◌≡◌, true, false, cond, ◌&&◌, eqb, List, ◌∷◌, Some, None, ap, ◌∙◌, ◌⊎◌, inl, inr, sym}
use Rattle.std.proofs.lemmas.Bool.{cases_Bool}
use Rattle.std.proofs.lemmas.Cmp.{eq_by_cmp_equiv, tied_itself}
use Rattle.std.proofs.lemmas.Map.{lookup-none}
use Rattle.std.proofs.lemmas.Map.Entries.{none_past_head}
use Rattle.std.proofs.lemmas.Map.Keys.{IsDistinct-from_sorted}
use Rattle.std.proofs.lemmas.Map.Lookups.{exact_unsigned, CmpEqualImpliesEq}
use Rattle.std.specs.BTreeMap.{is_at}
use Rattle.std.specs.Cmp.{Equal-is, tied_then}
use Rattle.std.specs.List.Sorted.{IsStrictlySortedBy}
use Rattle.std.specs.Map.{keys_of}
use Rattle.std.specs.Ordering.{nat_cmp, is_eq}
use Rattle.wm_base.specs.Key.{key_order}
use Rattle.wm_base.specs.Orders.{both_equal, key_order-equal}
use Rattle.wm_period.specs.declared.piece.Piece.{Piece}
use Rattle.wm_rows.proofs.Maps.{is_at-number}
use Rattle.wm_rows.specs.RowOrder.{row_order_total}
use Rattle.wm_rows.specs.Rows.{Groups, row_order, is_same, group_in}
use Rattle.wm_rows.specs.declared.row_key.RowKey.{RowKey}

-- ---- rows

-- rows that the order finds equal are one
pub row_order-equal : CmpEqualImpliesEq row_order
row_order-equal p q e =
    let parts = both_equal (nat_cmp p.table q.table) (key_order p.key q.key) e in
    let table = exact_unsigned p.table q.table parts.0 in
    let key = key_order-equal p.key q.key parts.1 in
    λ i. record { table = table i; key = key i }

pub is_same-itself : (row : RowKey) → is_same row row ≡ true
is_same-itself row = ap is_eq (tied_itself row_order_total row)

pub is_same-symm : (p q : RowKey) → is_same p q ≡ is_same q p
is_same-symm p q = (eq_by_cmp_equiv row_order_total).symm p q

-- two rows are one, or they are not the same
pub cases_row : (p q : RowKey) → (p ≡ q) ⊎ (is_same p q ≡ false)
cases_row p q = by_test (cases_Bool (is_same p q))
  where
    by_test : (is_same p q ≡ true) ⊎ (is_same p q ≡ false) → (p ≡ q) ⊎ (is_same p q ≡ false)
    by_test (inl same) = inl (row_order-equal p q ((Equal-is (row_order p q)).0 same))
    by_test (inr apart) = inr apart

-- ---- groups

pub group_in-first : (row : RowKey) (pieces : List Piece) (rest : Groups) → group_in ((row, pieces) ∷ rest) row ≡ Some pieces
group_in-first row pieces rest = ap (λ b. cond b (Some pieces) (group_in rest row)) (is_same-itself row)

pub group_in-other : (row other : RowKey) (pieces : List Piece) (rest : Groups) → is_same row other ≡ false → group_in ((other, pieces) ∷ rest) row ≡ group_in rest row
group_in-other row other pieces rest apart = ap (λ b. cond b (Some pieces) (group_in rest row)) apart

-- groups in order have the row of the first one once
pub group_in-past : (row : RowKey) (pieces : List Piece) (rest : Groups) → IsStrictlySortedBy row_order (keys_of ((row, pieces) ∷ rest)) → group_in rest row ≡ None
group_in-past row pieces rest order =
    lookup-none (is_at (row_order row)) rest
    (none_past_head (eq_by_cmp_equiv row_order_total) row (row, pieces) rest (IsDistinct-from_sorted row_order (keys_of ((row, pieces) ∷ rest)) order) (is_same-itself row))

-- two rows are one where their tables and their keys are
pub is_same-parts : (p q : RowKey) → is_same p q ≡ (eqb p.table q.table && is_eq (key_order p.key q.key))
is_same-parts p q = sym (tied_then (nat_cmp p.table q.table) (key_order p.key q.key)) ∙ ap (λ b. b && is_eq (key_order p.key q.key)) (is_at-number p.table q.table)
