-- The order of rows is total, and rows that it finds equal are one.
use Rattle.std.proofs.lemmas.Cmp.{nat_cmp_total, on_total, then_total}
use Rattle.std.specs.Cmp.{IsTotalOrder}
use Rattle.wm_base.specs.Orders.{key_order_total}
use Rattle.wm_rows.specs.Rows.{row_order}
use Rattle.wm_rows.specs.declared.row_key.RowKey.{RowKey}

pub row_order_total : IsTotalOrder row_order
row_order_total = then_total (on_total (λ (p : RowKey). p.table) nat_cmp_total) (on_total (λ (p : RowKey). p.key) key_order_total)
